-- What the folder's changes are for the log.
use Rattle.std.specs.Prelude.{◌≡◌, Bool, true, false, not, ◌&&◌, List, [], ◌∷◌, filter, Result}
use Rattle.std.specs.List.{list_any}
use Rattle.file_paths.specs.Refusals.{when, unless_refused}
use Rattle.file_paths.specs.Path.{FilePath, is_same_path}
use Rattle.tree_values.specs.declared.node.Effect.{Effect}
use Rattle.cmd_capture.specs.declared.job.JobRow.{JobRow}
use Rattle.work_area.specs.Jobs.{is_within}
use Rattle.work_area.specs.Changes.{changes}
use Rattle.folder_sides.specs.declared.sides.Sides.{Sides}
use Rattle.folder_sides.specs.declared.taking.TakeError.{TakeError}
use Rattle.folder_sides.specs.declared.taking.TakeError.TheVariants.{NotLaid}
use Rattle.folder_sides.specs.Sides.{is_same_node}
use Rattle.folder_sides.specs.Merging.{woven}

-- at the path or above it stands what has no row
abbrev pub is_left_out : Sides → FilePath → Bool
is_left_out sides path = list_any (is_within path) sides.beside

-- the rows here, and those of the log wherever something is left out
abbrev pub standing : Sides → List JobRow
standing sides =
    woven (filter (λ row. not (is_left_out sides row.path)) sides.here) (filter (λ row. is_left_out sides row.path) sides.logged)

-- the same nodes at the same paths
abbrev pub are_same_rows : List JobRow → List JobRow → Bool
are_same_rows [] [] = true
are_same_rows [] (other ∷ others) = false
are_same_rows (row ∷ rows) [] = false
are_same_rows (row ∷ rows) (other ∷ others) =
    (is_same_path row.path other.path && is_same_node row.node other.node) && are_same_rows rows others

-- the effects that log what stands here; refused where the log has what was not laid, so that nothing of others is taken back
abbrev pub taken : Sides → Result (List Effect) TakeError
taken sides =
    unless_refused (when (not (are_same_rows sides.laid sides.logged)) NotLaid ∷ []) (changes sides.logged (standing sides))
