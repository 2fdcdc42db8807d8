use Rattle.std.specs.Prelude.{◌≡◌, length}
use Rattle.paced_talks.proofs.answers.Answers.delay.Given as goal

abbrev pub invariant-loop-place : goal.invariant-loop-place
invariant-loop-place g l = length l.self.talks.items ≡ length l.fn.self.talks.items
