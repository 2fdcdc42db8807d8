use Rattle.std.proofs.Common.{◌≡◌, take}
use Rattle.tree_slots.proofs.counted.Counted.from_rows.Given as goal

abbrev pub invariant-loop-row : goal.invariant-loop-row
invariant-loop-row l = l.counted ≡ take l.row-index l.rows
