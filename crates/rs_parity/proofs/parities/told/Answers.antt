use Rattle.std.proofs.Common.{arith}
use Rattle.rs_parity.proofs.parities.told.Goals as goal

pub returns : goal.returns
returns c = record { size = c.requires; elements = λ k. omega (arith, c.type_inv.symbols k) }
