-- How rows before a run become those after it, as effects, and which of these meet what the job did not have.
use Rattle.std.specs.Prelude.{ℕ, Bool, true, false, not, ◌&&◌, List, [], ◌∷◌, ◌++◌, reverse, Option, Some, None, is_some, option_map}
use Rattle.std.specs.Prelude.{position, if◌then◌else◌}
use Rattle.std.specs.List.{list_any, filter_map, flat_map}
use Rattle.std.specs.Option.{option_to_list}
use Rattle.std.specs.Str.{bytes_eq}
use Rattle.byte_fields.specs.Numbers.{as_u32}
use Rattle.file_paths.specs.Path.{FilePath}
use Rattle.tree_values.specs.Tree.{Volume, is_exec, node_at, children}
use Rattle.tree_values.specs.declared.node.Node.{Node}
use Rattle.tree_values.specs.declared.node.Node.TheVariants.{Folder, File}
use Rattle.tree_values.specs.declared.node.Effect.{Effect}
use Rattle.tree_values.specs.declared.node.Effect.TheVariants.{Make, Put, Remove, Move, Mode}
use Rattle.cmd_capture.specs.declared.job.JobRow.{JobRow}
use Rattle.cmd_capture.specs.Rows.{is_job_row_at, node_in}

-- ---- the change list

-- both are folders, or both are files
abbrev pub has_kind : Node → Option Node → Bool
has_kind node None = false
has_kind Folder (Some Folder) = true
has_kind Folder (Some (File content exec)) = false
has_kind (File content exec) (Some Folder) = false
has_kind (File content exec) (Some (File other old)) = true

-- both are folders, or files with one content
abbrev pub has_content : Node → Option Node → Bool
has_content node None = false
has_content Folder (Some Folder) = true
has_content Folder (Some (File content exec)) = false
has_content (File content exec) (Some Folder) = false
has_content (File content exec) (Some (File other old)) = bytes_eq content other

-- a file that may be run where none could be, or may not where one could
abbrev pub has_other_mode : Node → Option Node → Bool
has_other_mode Folder old = false
has_other_mode (File content true) old = not (is_exec old)
has_other_mode (File content false) old = is_exec old

-- whether the path of the row has no node there, or one of the other kind
abbrev pub is_gone : List JobRow → JobRow → Bool
is_gone after row = not (has_kind row.node (node_in after row.path))

-- whether the path of the row has no node there, one of the other kind, or a file with another content
abbrev pub is_new : List JobRow → JobRow → Bool
is_new before row = not (has_content row.node (node_in before row.path))

-- whether the row has a file that may be run or not, other than what stands there once it has its content
abbrev pub is_moded : List JobRow → JobRow → Bool
is_moded before row = has_other_mode row.node (node_in before row.path)

-- the removal of a row that is gone
abbrev pub removal_of : List JobRow → JobRow → Option Effect
removal_of after row = if is_gone after row then Some (Remove row.path) else None

-- the effect that makes what stands at a path
abbrev pub made : FilePath → Node → Effect
made path Folder = Make path
made path (File content exec) = Put path content

abbrev pub making : JobRow → Effect
making row = made row.path row.node

-- what makes a row that is new
abbrev pub making_of : List JobRow → JobRow → Option Effect
making_of before row = if is_new before row then Some (making row) else None

-- the effect after which the file may be run as the row says
abbrev pub moding : JobRow → Effect
moding row = Mode row.path (is_exec (Some row.node))

-- that effect, where the file may be run otherwise: what is written keeps the mode of the file before, and a new file has none
abbrev pub mode_of : List JobRow → JobRow → Option Effect
mode_of before row = if is_moded before row then Some (moding row) else None

-- the effects after which the path of the row has its node
abbrev pub makings_of : List JobRow → JobRow → List Effect
makings_of before row = option_to_list (making_of before row) ++ option_to_list (mode_of before row)

-- what is gone, the last path first, and then what is new
abbrev pub changes : List JobRow → List JobRow → List Effect
changes before after =
    filter_map (removal_of after) (reverse before) ++ flat_map (makings_of before) after

-- the path that an effect touches first
abbrev pub first_path : Effect → FilePath
first_path (Make path) = path
first_path (Put path content) = path
first_path (Remove path) = path
first_path (Move from to) = from
first_path (Mode path exec) = path

-- ---- clashes

-- whether the job has a row at the path
abbrev pub has_row : List JobRow → FilePath → Bool
has_row job path = list_any (is_job_row_at path) job

-- whether something stands at the path that the job has not
abbrev pub is_taken : Volume → List JobRow → FilePath → Bool
is_taken rows job path = is_some (node_at rows path) && not (has_row job path)

-- whether the effect makes what stands there beside the job, or removes a folder of what does
abbrev pub clashes : Volume → List JobRow → Effect → Bool
clashes rows job (Make path) = is_taken rows job path
clashes rows job (Put path content) = is_taken rows job path
clashes rows job (Remove path) = list_any (λ name. not (has_row job (path ++ name ∷ []))) (children rows path)
clashes rows job (Move from to) = false
clashes rows job (Mode path exec) = false

-- the first effect that clashes
abbrev pub clash : Volume → List JobRow → List Effect → Option ℕ
clash rows job effects = option_map as_u32 (position (clashes rows job) effects)
