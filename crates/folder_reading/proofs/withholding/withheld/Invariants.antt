use Rattle.std.specs.Prelude.{◌≡◌, take}
use Rattle.folder_reading.specs.Withheld.{withheld_of}
use Rattle.folder_reading.proofs.withholding.withheld.Given as goal

abbrev pub invariant-loop-row : goal.invariant-loop-row
invariant-loop-row l = l.withheld ≡ withheld_of (take l.row-index l.rows)
