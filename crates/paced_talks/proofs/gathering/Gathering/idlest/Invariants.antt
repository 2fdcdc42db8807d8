use Rattle.std.specs.List.{IsFirstBest}
use Rattle.paced_talks.specs.Coming.{goes_before}
use Rattle.paced_talks.proofs.gathering.Gathering.idlest.Given as goal

abbrev pub invariant-loop-place : goal.invariant-loop-place
invariant-loop-place g l = IsFirstBest goes_before l.self.talks.items l.place l.idlest
