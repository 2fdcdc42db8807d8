use Rattle.std.specs.Prelude.{◌≡◌, ◌-◌, length}
use Rattle.tree_values.specs.Limits.{max_rows}
use Rattle.folder_reading.specs.Withheld.{withheld_in}
use Rattle.folder_reading.proofs.reading.Reading.read_all.Given as goal

abbrev pub invariant-loop-path : goal.invariant-loop-path
invariant-loop-path g l = withheld_in l.found ≡ withheld_in l.fn.found

abbrev pub decreases-loop-path : goal.decreases-loop-path
decreases-loop-path g l = max_rows - length l.found
