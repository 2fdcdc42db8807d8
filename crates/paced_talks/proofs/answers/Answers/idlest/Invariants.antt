use Rattle.std.specs.List.{IsFirstBest}
use Rattle.paced_talks.specs.Going.{is_idler}
use Rattle.paced_talks.proofs.answers.Answers.idlest.Given as goal

abbrev pub invariant-loop-place : goal.invariant-loop-place
invariant-loop-place g l = IsFirstBest is_idler l.self.talks.items l.place l.idlest
