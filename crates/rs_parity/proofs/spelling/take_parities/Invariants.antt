use Rattle.std.proofs.Common.{◌-◌}
use Rattle.byte_fields.proofs.Loop.{SoFar}
use Rattle.rs_parity.specs.Spelling.{parity_at, parities_at}
use Rattle.rs_parity.proofs.spelling.take_parities.Given as goal

abbrev pub invariant-loop : goal.invariant-loop
invariant-loop l = SoFar (λ (state : Unit {0}). parity_at) (λ state parity. state) l.bytes (parities_at l.count l.bytes l.start) l.parities (l.count - l.counter) tt l.at
