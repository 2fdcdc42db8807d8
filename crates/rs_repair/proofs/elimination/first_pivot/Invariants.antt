use Rattle.rs_repair.specs.Inside.{AreCleared}
use Rattle.rs_repair.proofs.elimination.first_pivot.Given as goal

abbrev pub invariant-loop-i : goal.invariant-loop-i
invariant-loop-i l = AreCleared l.i 17 l.place l.sums l.basis l.marks
