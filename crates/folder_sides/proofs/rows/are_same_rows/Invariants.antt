use Rattle.std.specs.Prelude.{◌≡◌, length}
use Rattle.folder_sides.specs.Taking.{are_same_rows}
use Rattle.folder_sides.proofs.rows.are_same_rows.Given as goal

-- the rows that are left decide
abbrev pub invariant-loop-row : goal.invariant-loop-row
invariant-loop-row l = are_same_rows l.left l.rest ≡ are_same_rows l.rows l.others

abbrev pub decreases-loop-row : goal.decreases-loop-row
decreases-loop-row l = length l.left
