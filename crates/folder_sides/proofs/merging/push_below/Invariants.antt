use Rattle.std.specs.Prelude.{◌≡◌, ◌++◌, filter, length}
use Rattle.std.specs.Ordering.{is_lt, is_gt}
use Rattle.file_paths.specs.Path.{path_cmp}
use Rattle.cmd_capture.specs.Rows.{JobRowsAreInOrder}
use Rattle.folder_sides.proofs.merging.push_below.Given as goal

-- what is added and what is left
abbrev pub invariant-loop-other : goal.invariant-loop-other
invariant-loop-other l =
    (l.rows ++ filter (λ other. is_lt (path_cmp other.path l.path)) l.rest
    ≡ l.fn.rows ++ filter (λ other. is_lt (path_cmp other.path l.path)) l.others)
    × (filter (λ other. is_gt (path_cmp other.path l.path)) l.rest ≡ filter (λ other. is_gt (path_cmp other.path l.path)) l.others)
    × JobRowsAreInOrder l.rest

abbrev pub decreases-loop-other : goal.decreases-loop-other
decreases-loop-other l = length l.rest
