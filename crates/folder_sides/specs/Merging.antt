-- What the folder is once what others changed is laid.
use Rattle.std.specs.Prelude.{Bool, true, false, not, List, [], ◌∷◌, ◌++◌, filter, Option, if◌then◌else◌}
use Rattle.std.specs.Ordering.{is_lt, is_gt}
use Rattle.file_paths.specs.Path.{FilePath, path_cmp}
use Rattle.tree_values.specs.declared.node.Node.{Node}
use Rattle.cmd_capture.specs.declared.job.JobRow.{JobRow}
use Rattle.cmd_capture.specs.Rows.{node_in}
use Rattle.folder_sides.specs.declared.sides.Sides.{Sides}
use Rattle.folder_sides.specs.declared.ends.End.{End}
use Rattle.folder_sides.specs.declared.ends.End.TheVariants.{Same, Lay, Own, Both}
use Rattle.folder_sides.specs.Sides.{end_of}

-- what stands here is left
abbrev pub stays : End → Bool
stays Same = false
stays Lay = false
stays Own = true
stays Both = true

-- the path has what stands here, and else what the log has
abbrev pub is_left : Sides → FilePath → Bool
is_left sides path = stays (end_of sides path)

abbrev pub picked : Sides → FilePath → Option Node
picked sides path = if is_left sides path then node_in sides.here path else node_in sides.logged path

-- the rows of the one, and those of the other at other paths, in the order of the paths
abbrev pub woven : List JobRow → List JobRow → List JobRow
woven [] others = others
woven (row ∷ rows) others =
    filter (λ other. is_lt (path_cmp other.path row.path)) others
    ++ row ∷ woven rows (filter (λ other. is_gt (path_cmp other.path row.path)) others)

-- the rows here that are left, and those of the log at all other paths
abbrev pub merged : Sides → List JobRow
merged sides =
    woven (filter (λ row. is_left sides row.path) sides.here) (filter (λ row. not (is_left sides row.path)) sides.logged)
