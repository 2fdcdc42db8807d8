use Rattle.std.specs.Prelude.{⊤, ◌-◌, length}
use Rattle.paced_talks.proofs.parting.Partings.step.Given as goal

abbrev pub invariant-loop-place : goal.invariant-loop-place
invariant-loop-place g l = ⊤

abbrev pub decreases-loop-place : goal.decreases-loop-place
decreases-loop-place g l = length l.self.talks.items - l.place
