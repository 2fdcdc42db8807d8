use Rattle.std.specs.Prelude.{◌≡◌, ◌++◌, drop}
use Rattle.folder_reading.specs.Withheld.{told_back}
use Rattle.folder_reading.proofs.withholding.told_back.Given as goal

abbrev pub invariant-loop-row : goal.invariant-loop-row
invariant-loop-row l = l.found ++ told_back (drop l.row-index l.read) l.others ≡ told_back l.read l.withheld
