use Rattle.std.specs.Prelude.{◌≡◌, ◌++◌, take}
use Rattle.std.specs.List.{filter_map}
use Rattle.folder_sides.specs.Sides.{conflict_at}
use Rattle.folder_sides.proofs.sides.conflicts.Given as goal

abbrev pub invariant-loop-row : goal.invariant-loop-row
invariant-loop-row l = l.paths ≡ filter_map (λ row. conflict_at l.sides row.path) (take l.row-index l.sides.here)

abbrev pub invariant-loop-path : goal.invariant-loop-path
invariant-loop-path l =
    l.paths ≡ filter_map (λ row. conflict_at l.sides row.path) l.sides.here ++ filter_map (conflict_at l.sides) (take l.path-index l.sides.beside)
