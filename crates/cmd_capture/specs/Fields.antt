-- The fields of each spelling in their order, given by their numbers of bytes.
use Rattle.std.specs.Prelude.{ℕ, List, [], ◌∷◌, ◌++◌, length, Some}
use Rattle.std.specs.List.{flat_map}
use Rattle.file_paths.specs.Fields.{path_fields, content_fields}
use Rattle.tree_values.specs.Fields.{node_fields}
use Rattle.cmd_capture.specs.declared.command.Command.{Command}
use Rattle.cmd_capture.specs.Job.{Job}
use Rattle.cmd_capture.specs.declared.job.JobRow.{JobRow}

-- the fields of the key and of the value
abbrev pub variable_fields : List ℕ × List ℕ → List ℕ
variable_fields pair = content_fields pair.0 ++ content_fields pair.1

-- the length, and the bytes
abbrev pub template_fields : List ℕ → List ℕ
template_fields bytes = 1 ∷ length bytes ∷ []

-- the number, and the fields of the items
abbrev pub counted_fields : {T : Type 0} → (T → List ℕ) → List T → List ℕ
counted_fields fields items = 2 ∷ flat_map fields items

abbrev pub command_fields : Command → List ℕ
command_fields c =
    content_fields c.program
    ++ (counted_fields content_fields c.args
    ++ (path_fields c.cwd
    ++ (counted_fields variable_fields c.env
    ++ (counted_fields path_fields c.inputs
    ++ counted_fields template_fields c.templates))))

abbrev pub job_row_fields : JobRow → List ℕ
job_row_fields row = path_fields row.path ++ node_fields (Some row.node)

abbrev pub job_fields : Job → List ℕ
job_fields j = command_fields j.command ++ (4 ∷ flat_map job_row_fields j.rows)
