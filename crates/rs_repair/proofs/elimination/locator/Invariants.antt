use Rattle.rs_repair.specs.Inside.{IsBasis}
use Rattle.rs_repair.proofs.elimination.locator.Given as goal

abbrev pub invariant-loop-place : goal.invariant-loop-place
invariant-loop-place l = IsBasis l.place l.sums l.basis l.marks
