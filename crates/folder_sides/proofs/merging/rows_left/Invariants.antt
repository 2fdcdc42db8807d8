use Rattle.std.specs.Prelude.{◌≡◌, filter, take}
use Rattle.folder_sides.specs.Merging.{is_left}
use Rattle.folder_sides.proofs.merging.rows_left.Given as goal

abbrev pub invariant-loop-row : goal.invariant-loop-row
invariant-loop-row l = l.rows ≡ filter (λ row. is_left l.sides row.path) (take l.row-index l.sides.here)
