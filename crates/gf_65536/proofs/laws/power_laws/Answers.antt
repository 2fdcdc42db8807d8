use Rattle.std.proofs.Common.{sym}
use Rattle.gf_65536.proofs.Powers.{pow_below, pow_zero, pow_single, pow_add, pow_mul}
use Rattle.gf_65536.proofs.laws.power_laws.Goals as goal

pub returns : goal.returns
returns c = record { closed = pow_below; none = pow_zero; single = pow_single; adds = pow_add; multiplies = λ a m n. sym (pow_mul a m n) }
