use Rattle.std.proofs.Common.{length}
use Rattle.mem_wires.specs.Underway.{IsUndecided}
use Rattle.mem_wires.proofs.wires.Wires.decide.Given as goal

abbrev pub invariant-loop-fate : goal.invariant-loop-fate
invariant-loop-fate l = IsUndecided l.initial.self l.self

abbrev pub decreases-loop-fate : goal.decreases-loop-fate
decreases-loop-fate l = length l.self.fates
