-- The steps by which a folder gets other rows. A content and whether it may be run are one step: a laying that stopped between the two would
-- leave a file that is neither what was laid nor what is to be.
use Rattle.std.specs.Prelude.{List, [], ◌∷◌, ◌++◌, reverse, Option, Some, None, if◌then◌else◌}
use Rattle.std.specs.List.{filter_map}
use Rattle.file_paths.specs.Path.{FilePath, is_same_path}
use Rattle.tree_values.specs.declared.node.Node.{Node}
use Rattle.cmd_capture.specs.declared.job.JobRow.{JobRow}
use Rattle.cmd_capture.specs.Rows.{node_in}
use Rattle.work_area.specs.Changes.{has_kind, is_gone}
use Rattle.folder_sides.specs.declared.sides.Sides.{Sides}
use Rattle.folder_sides.specs.declared.steps.Step.{Step}
use Rattle.folder_sides.specs.Sides.{is_same}
use Rattle.folder_sides.specs.Merging.{merged}

-- what is gone, or gives way to another kind, is taken away
abbrev pub removal : List JobRow → JobRow → Option Step
removal after row =
    if is_gone after row then Some (record { path = row.path; before = Some row.node; after = None }) else None

-- what is left of a node where one of another kind was taken away
abbrev pub kept_for : Node → Option Node → Option Node
kept_for node old = if has_kind node old then old else None

-- what is new there is put
abbrev pub putting : List JobRow → JobRow → Option Step
putting before row =
    if is_same (Some row.node) (node_in before row.path) then None
    else Some (record { path = row.path; before = kept_for row.node (node_in before row.path); after = Some row.node })

-- what is gone, the last path first, and then what is new
abbrev pub steps : List JobRow → List JobRow → List Step
steps before after = filter_map (removal after) (reverse before) ++ filter_map (putting before) after

-- the steps that lay what others changed
abbrev pub laying : Sides → List Step
laying sides = steps sides.here (merged sides)

-- what stands at the path behind a step
abbrev pub behind_step : FilePath → Option Node → Step → Option Node
behind_step path node step = if is_same_path step.path path then step.after else node

-- what stands at the path behind the steps
abbrev pub node_behind : FilePath → Option Node → List Step → Option Node
node_behind path node [] = node
node_behind path node (step ∷ more) = node_behind path (behind_step path node step) more
