use Rattle.std.proofs.lemmas.Nat.{xor_comm, xor_lt}
use Rattle.std.specs.Int.Bits.{xor_assoc, xor_zero_l, xor_self}
use Rattle.gf_65536.proofs.laws.sum_laws.Goals as goal

pub returns : goal.returns
returns c = record { closed = xor_lt 16; commutative = xor_comm; associative = xor_assoc; zero = xor_zero_l; opposite = xor_self }
