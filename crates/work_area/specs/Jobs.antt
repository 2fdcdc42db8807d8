-- The job of a command: the rows of its folder, of its inputs, of what lies below, and of the folders above.
use Rattle.std.specs.Prelude.{Bool, not, ◌&&◌, ◌||◌, List, [], ◌∷◌, Option, None, is_some, option_map, position, Result, if◌then◌else◌}
use Rattle.std.specs.List.{list_any, filter_map, starts_with}
use Rattle.std.specs.Str.{bytes_eq}
use Rattle.byte_fields.specs.Numbers.{as_u32}
use Rattle.file_paths.specs.Refusals.{when, unless_refused}
use Rattle.file_paths.specs.Path.{FilePath}
use Rattle.tree_values.specs.Tree.{Volume, is_root, is_folder, node_at}
use Rattle.tree_values.specs.declared.node.Row.{Row}
use Rattle.cmd_capture.specs.declared.command.Command.{Command}
use Rattle.cmd_capture.specs.declared.job.Job.{Job}
use Rattle.cmd_capture.specs.declared.job.JobRow.{JobRow}
use Rattle.work_area.specs.declared.jobs.JobError.{JobError}
use Rattle.work_area.specs.declared.jobs.JobError.TheVariants.{NoFolder, NoInput}

-- the first path is the second or lies below it
abbrev pub is_within : FilePath → FilePath → Bool
is_within path folder = starts_with bytes_eq path folder

-- the inputs, or the folder where there are none
abbrev pub unless_empty : List FilePath → FilePath → List FilePath
unless_empty [] cwd = cwd ∷ []
unless_empty (input ∷ inputs) cwd = input ∷ inputs

-- the command's inputs, or its folder where it has none
abbrev pub roots : Command → List FilePath
roots command = unless_empty command.inputs command.cwd

-- whether one of the two lies within the other
abbrev pub is_related : FilePath → FilePath → Bool
is_related path root = is_within path root || is_within root path

-- a root, what lies below one or above it, the folder, and what lies above the folder
abbrev pub is_of_job : Command → FilePath → Bool
is_of_job command path = list_any (is_related path) (roots command) || is_within command.cwd path

-- the row of the job that a row of the tree makes
abbrev pub job_row_of : Command → Row → Option JobRow
job_row_of command row =
    if is_of_job command row.path
    then option_map (λ node. record { path = row.path; node = node }) row.node
    else None

-- neither the root nor a path with a node
abbrev pub is_missing : Volume → FilePath → Bool
is_missing rows path = not (is_root path) && not (is_some (node_at rows path))

abbrev pub job_refusals : Volume → Command → List (Option JobError)
job_refusals rows command =
    when (not (is_folder rows command.cwd)) (NoFolder command.cwd)
    ∷ option_map (λ i. NoInput (as_u32 i)) (position (is_missing rows) command.inputs)
    ∷ []

-- the job of the command, or the first refusal
abbrev pub job_of : Volume → Command → Result Job JobError
job_of rows command =
    unless_refused (job_refusals rows command) (record { command = command; rows = filter_map (job_row_of command) rows })
