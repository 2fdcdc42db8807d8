use Rattle.std.specs.Prelude.{◌≡◌, filter, take}
use Rattle.folder_sides.specs.Taking.{is_left_out}
use Rattle.folder_sides.proofs.taking.rows_left_out.Given as goal

abbrev pub invariant-loop-row : goal.invariant-loop-row
invariant-loop-row l = l.rows ≡ filter (λ row. is_left_out l.sides row.path) (take l.row-index l.sides.logged)
