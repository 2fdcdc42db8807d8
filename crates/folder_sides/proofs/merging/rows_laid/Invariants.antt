use Rattle.std.specs.Prelude.{◌≡◌, not, filter, take}
use Rattle.folder_sides.specs.Merging.{is_left}
use Rattle.folder_sides.proofs.merging.rows_laid.Given as goal

abbrev pub invariant-loop-row : goal.invariant-loop-row
invariant-loop-row l = l.rows ≡ filter (λ row. not (is_left l.sides row.path)) (take l.row-index l.sides.logged)
