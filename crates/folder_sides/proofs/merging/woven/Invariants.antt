use Rattle.std.specs.Prelude.{◌≡◌, ◌++◌, length}
use Rattle.cmd_capture.specs.Rows.{JobRowsAreInOrder}
use Rattle.folder_sides.specs.Merging.{woven}
use Rattle.folder_sides.proofs.merging.woven.Given as goal

-- what is made, and what is left
abbrev pub invariant-loop-row : goal.invariant-loop-row
invariant-loop-row l = (l.made ++ woven l.left l.rest ≡ woven l.rows l.others) × JobRowsAreInOrder l.rest

abbrev pub decreases-loop-row : goal.decreases-loop-row
decreases-loop-row l = length l.left
