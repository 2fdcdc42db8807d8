use Rattle.std.proofs.Common.{◌-◌}
use Rattle.byte_fields.specs.Field.{span_at}
use Rattle.byte_fields.proofs.Loop.{SoFar}
use Rattle.tree_proof.specs.Certificate.{digests_at}
use Rattle.tree_proof.proofs.taking.digests_at.Given as goal

abbrev pub invariant-loop : goal.invariant-loop
invariant-loop l = SoFar (λ (state : Unit {0}). span_at 32) (λ state digest. state) l.bytes (digests_at l.count l.bytes l.start) l.digests (l.count - l.counter) tt l.at
