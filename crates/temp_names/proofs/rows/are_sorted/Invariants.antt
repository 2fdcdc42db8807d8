use Rattle.std.proofs.Common.{◌-◌, ◌<◌, length}
use Rattle.std.specs.List.Sorted.{IsSortedWithin}
use Rattle.temp_names.specs.Inside.{is_before, path_of_row}
use Rattle.temp_names.proofs.rows.are_sorted.Given as goal

abbrev pub invariant-loop-i : goal.invariant-loop-i
invariant-loop-i l = record {
  begun : 0 < l.i;
  sorted : IsSortedWithin (is_before path_of_row) l.rows 0 l.i;
}

abbrev pub decreases-loop-i : goal.decreases-loop-i
decreases-loop-i l = length l.rows - l.i
