-- What holds of jobs and of change lists, in their own words.
use Rattle.std.specs.Prelude.{◌≡◌, ◌⊎◌, true, false, List, [], ◌∷◌, ◌++◌, map, Some, None, is_some, Ok}
use Rattle.std.specs.List.{flat_map, AllByRecursion}
use Rattle.std.specs.declared.cmp.Ordering.TheVariants.{Less}
use Rattle.file_paths.specs.Path.{FilePath, path_cmp}
use Rattle.tree_values.specs.Tree.{Volume, IsTree, version_at, node_at}
use Rattle.tree_values.specs.Effects.{apply_all}
use Rattle.tree_values.specs.declared.node.Node.{Node}
use Rattle.tree_values.specs.declared.node.Effect.{Effect}
use Rattle.tree_values.specs.declared.node.Effect.TheVariants.{Remove}
use Rattle.cmd_capture.specs.declared.command.Command.{Command}
use Rattle.cmd_capture.specs.declared.job.Job.{Job}
use Rattle.cmd_capture.specs.declared.job.JobRow.{JobRow}
use Rattle.cmd_capture.specs.Rows.{JobRowsAreInOrder, AreJobRows, node_in}
use Rattle.work_area.specs.Jobs.{is_of_job, job_of}
use Rattle.work_area.specs.Changes.{has_kind, has_content, has_other_mode, changes, makings_of, has_row, clash}

-- ---- jobs

-- the rows of a job are in order, each in a folder of theirs or in the root
abbrev pub JobsHaveJobRows : Type 0
JobsHaveJobRows = (tree : Volume) (command : Command) (job : Job) → IsTree tree → job_of tree command ≡ Ok job → AreJobRows job.rows

-- at each path of the job its rows have the tree's node, and at no other path one
abbrev pub JobsHoldTheTree : Type 0
JobsHoldTheTree = (tree : Volume) (command : Command) (job : Job) → IsTree tree → job_of tree command ≡ Ok job → (path : FilePath)
    → (is_of_job command path ≡ true → node_in job.rows path ≡ node_at tree path)
    × ((is_of_job command path ≡ true → ⊥) → node_in job.rows path ≡ None)

-- ---- change lists

-- A volume in which each path of the job has the node of `before` has that of `after` there, once the change list is
-- applied.
abbrev pub ChangesLead : Type 0
ChangesLead = (before after : List JobRow) (old new : Volume) → AreJobRows before → AreJobRows after
    → apply_all 0 (changes before after) old ≡ Ok new
    → (path : FilePath) → node_at old path ≡ node_in before path → node_at new path ≡ node_in after path

-- a path at which both have one node, or none, keeps its version and its node in every volume
abbrev pub ChangesLeaveTheRest : Type 0
ChangesLeaveTheRest = (before after : List JobRow) (old new : Volume) → AreJobRows before → AreJobRows after
    → apply_all 0 (changes before after) old ≡ Ok new
    → (path : FilePath) → node_in before path ≡ node_in after path
    → (version_at new path ≡ version_at old path) × (node_at new path ≡ node_at old path)

-- no effect where nothing changed
abbrev pub NothingChanges : Type 0
NothingChanges = (rows : List JobRow) → AreJobRows rows → changes rows rows ≡ []

-- ---- the order of a change list

-- each path is below those before it
abbrev pub AreFalling : List FilePath → Type 0
AreFalling [] = Unit {0}
AreFalling (path ∷ paths) = AllByRecursion (λ next. path_cmp next path ≡ Less) paths × AreFalling paths

-- something stood at the path, and nothing of its kind is left there
pub record IsGone (before after : List JobRow) (path : FilePath) : Type 0 where
  pub node : Node
  pub stood : node_in before path ≡ Some node
  pub left : has_kind node (node_in after path) ≡ false

-- the row is left, and before it its path had no such node
pub record IsNewRow (before after : List JobRow) (row : JobRow) : Type 0 where
  pub left : node_in after row.path ≡ Some row.node
  pub stood : (has_content row.node (node_in before row.path) ≡ false) ⊎ (has_other_mode row.node (node_in before row.path) ≡ true)

-- first what is gone is removed, in falling order of the paths, and then what is new is made, in rising order: its content,
-- where it is another, and directly behind whether it may be run, where it may otherwise
pub record RemovesAndMakes (before after : List JobRow) (effects : List Effect) : Type 0 where
  pub removed : List FilePath
  pub made : List JobRow
  pub parts : effects ≡ map Remove removed ++ flat_map (makings_of before) made
  pub falls : AreFalling removed
  pub rises : JobRowsAreInOrder made
  pub gone : AllByRecursion (IsGone before after) removed
  pub new : AllByRecursion (IsNewRow before after) made

abbrev pub ChangesAreInOrder : Type 0
ChangesAreInOrder = (before after : List JobRow) → AreJobRows before → AreJobRows after
    → RemovesAndMakes before after (changes before after)

-- ---- change lists that do not clash

-- what stands beside the job keeps its version and its node
abbrev pub NoClashSparesTheRest : Type 0
NoClashSparesTheRest = (job after : List JobRow) (old new : Volume) → AreJobRows job → AreJobRows after
    → clash old job (changes job after) ≡ None → apply_all 0 (changes job after) old ≡ Ok new
    → (path : FilePath) → has_row job path ≡ false → is_some (node_at old path) ≡ true
    → (version_at new path ≡ version_at old path) × (node_at new path ≡ node_at old path)
