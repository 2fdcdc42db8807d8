use Rattle.std.proofs.Common.{◌≡◌, drop}
use Rattle.rs_repair.specs.Inside.{value}
use Rattle.rs_repair.proofs.errors.value_at.Given as goal

abbrev pub invariant-loop-i : goal.invariant-loop-i
invariant-loop-i l = l.total ≡ value (drop l.i l.row) l.x
