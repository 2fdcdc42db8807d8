-- The one spelling of commands and jobs, and which of them have one. A count or a length that its field does not hold
-- stands there as its low bytes; what fits has none such.
use Rattle.std.specs.Prelude.{◌≡◌, ℕ, ◌<◌, ◌≤◌, ◌^◌, true, List, ◌++◌, length, Some}
use Rattle.std.specs.List.{flat_map, AllByRecursion}
use Rattle.std.specs.Int.{w8, w16, w32}
use Rattle.byte_fields.specs.Field.{digits}
use Rattle.file_paths.specs.Limits.{max_file}
use Rattle.file_paths.specs.Path.{IsPath}
use Rattle.byte_fields.specs.Codec.{IsBytes}
use Rattle.tree_values.specs.Tree.{node_size, file_bytes}
use Rattle.file_paths.specs.Spelling.{path, content}
use Rattle.tree_values.specs.Spelling.{node as node_or_none}
use Rattle.tree_values.specs.declared.node.Node.{Node}
use Rattle.cmd_capture.specs.declared.command.Command.{Command}
use Rattle.cmd_capture.specs.Job.{Job}
use Rattle.cmd_capture.specs.declared.job.JobRow.{JobRow}
use Rattle.cmd_capture.specs.Limits.{max_command}
use Rattle.cmd_capture.specs.Rules.{is_text, is_program, is_template, AreVariables}

-- ---- commands

-- the key and the value
abbrev pub variable : List ℕ × List ℕ → List ℕ
variable pair = content pair.0 ++ content pair.1

-- the bytes, behind their number in one byte
abbrev pub template : List ℕ → List ℕ
template bytes = digits w8 (length bytes) ++ bytes

-- the items, behind their number in two bytes
abbrev pub counted : {T : Type 0} → (T → List ℕ) → List T → List ℕ
counted spelling items = digits w16 (length items) ++ flat_map spelling items

-- the program, its arguments, the folder, the variables, the inputs and the templates
abbrev pub command : Command → List ℕ
command c =
    content c.program
    ++ (counted content c.args
    ++ (path c.cwd
    ++ (counted variable c.env
    ++ (counted path c.inputs
    ++ counted template c.templates))))

-- a command whose parts keep their rules
pub record AreParts (c : Command) : Type 0 where
  pub program : is_program c.program ≡ true
  pub args : AllByRecursion (λ arg. is_text arg ≡ true) c.args
  pub cwd : IsPath c.cwd
  pub env : AreVariables c.env
  pub inputs : AllByRecursion IsPath c.inputs
  pub templates : AllByRecursion (λ bytes. is_template bytes ≡ true) c.templates

-- a command each of whose counts its two bytes hold
pub record CountsFit (c : Command) : Type 0 where
  pub args : length c.args < 2 ^ 16
  pub env : length c.env < 2 ^ 16
  pub inputs : length c.inputs < 2 ^ 16
  pub templates : length c.templates < 2 ^ 16

-- a command with a spelling
pub record IsCommand (c : Command) : Type 0 where
  pub parts : AreParts c
  -- the whole has at most 64 KiB
  pub short : length (command c) ≤ max_command

-- ---- jobs

-- the kind of node, and a file's content
abbrev pub job_node : Node → List ℕ
job_node n = node_or_none (Some n)

-- a path, and what stands there
abbrev pub job_row : JobRow → List ℕ
job_row row = path row.path ++ job_node row.node

-- the command, and the rows behind their number
abbrev pub job : Job → List ℕ
job j = command j.command ++ (digits w32 (length j.rows) ++ flat_map job_row j.rows)

-- a path, and no file of more than 8 MiB or of other numbers than bytes
pub record RowFits (row : JobRow) : Type 0 where
  pub is_path : IsPath row.path
  pub small : node_size (Some row.node) ≤ max_file
  pub bytes : IsBytes (file_bytes (Some row.node))

-- a job with a spelling
pub record IsJob (j : Job) : Type 0 where
  pub command_is : IsCommand j.command
  pub rows : AllByRecursion RowFits j.rows
  pub few : length j.rows < 2 ^ 32
