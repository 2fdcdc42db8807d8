use Rattle.std.specs.Prelude.{◌≡◌, ◌++◌, take}
use Rattle.folder_sides.proofs.merging.push_all.Given as goal

abbrev pub invariant-loop-other : goal.invariant-loop-other
invariant-loop-other l = l.rows ≡ l.fn.rows ++ take l.other-index l.others
