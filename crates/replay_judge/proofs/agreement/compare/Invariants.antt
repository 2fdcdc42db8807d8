use Rattle.std.proofs.Common.{length}
use Rattle.replay_judge.specs.Inside.{Decides}
use Rattle.replay_judge.proofs.agreement.compare.Given as goal

abbrev pub invariant-loop-want : goal.invariant-loop-want
invariant-loop-want l = Decides l.wanted l.found l.left l.left_found l.effects

abbrev pub decreases-loop-want : goal.decreases-loop-want
decreases-loop-want l = length l.left
