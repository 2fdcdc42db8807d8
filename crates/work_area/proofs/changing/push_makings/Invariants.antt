use Rattle.std.specs.Prelude.{◌≡◌, ◌++◌, take}
use Rattle.std.specs.List.{flat_map}
use Rattle.work_area.specs.Changes.{makings_of}
use Rattle.work_area.proofs.changing.push_makings.Given as goal

abbrev pub invariant-loop-row : goal.invariant-loop-row
invariant-loop-row l = l.effects ≡ l.fn.effects ++ flat_map (makings_of l.before) (take l.row-index l.after)
