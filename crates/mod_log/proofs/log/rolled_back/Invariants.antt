use Rattle.std.proofs.Common.{◌≡◌, ◌-◌, drop}
use Rattle.mod_log.specs.Inside.{rolled_back}
use Rattle.mod_log.proofs.log.rolled_back.Given as goal

abbrev pub invariant-loop-i : goal.invariant-loop-i
invariant-loop-i l = l.base ≡ rolled_back (drop (l.count - l.i) l.pending) l.tree
