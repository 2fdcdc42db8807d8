use Rattle.std.specs.Prelude.{◌≡◌, ◌++◌, reverse, length}
use Rattle.std.specs.List.{filter_map}
use Rattle.folder_sides.specs.Steps.{removal}
use Rattle.folder_sides.proofs.steps.push_removals.Given as goal

-- what is added and what is left
abbrev pub invariant-loop-row : goal.invariant-loop-row
invariant-loop-row l =
    l.steps ++ filter_map (removal l.after) (reverse l.rest) ≡ l.fn.steps ++ filter_map (removal l.after) (reverse l.before)

abbrev pub decreases-loop-row : goal.decreases-loop-row
decreases-loop-row l = length l.rest
