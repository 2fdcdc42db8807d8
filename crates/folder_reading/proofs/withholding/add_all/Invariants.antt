use Rattle.std.specs.Prelude.{◌≡◌, ◌++◌, take}
use Rattle.folder_reading.proofs.withholding.add_all.Given as goal

abbrev pub invariant-loop-row : goal.invariant-loop-row
invariant-loop-row l = l.found ≡ l.fn.found ++ take l.row-index l.rows
