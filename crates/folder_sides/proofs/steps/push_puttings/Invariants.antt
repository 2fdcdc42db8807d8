use Rattle.std.specs.Prelude.{◌≡◌, ◌++◌, take}
use Rattle.std.specs.List.{filter_map}
use Rattle.folder_sides.specs.Steps.{putting}
use Rattle.folder_sides.proofs.steps.push_puttings.Given as goal

abbrev pub invariant-loop-row : goal.invariant-loop-row
invariant-loop-row l = l.steps ≡ l.fn.steps ++ filter_map (putting l.before) (take l.row-index l.after)
