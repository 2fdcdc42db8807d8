-- Reading commands and jobs, with the place of the first faulty field.
use Rattle.std.specs.Prelude.{ℕ, Bool, true, false, ◌&&◌, not, nat_le, List, [], ◌∷◌, ◌++◌, Ok}
use Rattle.std.specs.Int.{w8, w16, w32}
use Rattle.byte_fields.specs.Field.{Reader, ◌>>=◌, ruled, none, tagged_at, span_at, number_at, each_at, limited}
use Rattle.file_paths.specs.Limits.{max_file}
use Rattle.file_paths.specs.Reading.{path_at, content_at}
use Rattle.tree_values.specs.declared.node.Node.{Node}
use Rattle.tree_values.specs.declared.node.Node.TheVariants.{Folder, File}
use Rattle.cmd_capture.specs.declared.command.Command.{Command}
use Rattle.cmd_capture.specs.Job.{Job}
use Rattle.cmd_capture.specs.declared.job.JobRow.{JobRow}
use Rattle.cmd_capture.specs.Limits.{max_command}
use Rattle.cmd_capture.specs.Environment.{has_key}
use Rattle.cmd_capture.specs.Rules.{is_text, is_program, is_key, is_pattern}

-- ---- the parts of a command

-- bytes behind their number; the rule is one of the bytes
unfoldable pub bytes_at : (List ℕ → Bool) → Reader (List ℕ)
bytes_at rule bytes at = do
  size ← number_at w32 bytes at
  ruled rule (span_at size.0) bytes size.1

-- an argument or a value
abbrev pub text_at : Reader (List ℕ)
text_at = bytes_at is_text

-- 1 to 255 bytes behind their number; it is a fault of the number where there is none
unfoldable pub template_at : Reader (List ℕ)
template_at bytes at = do
  size ← ruled (nat_le 1) (number_at w8) bytes at
  ruled is_pattern (span_at size.0) bytes size.1

-- whether no pair has the key
abbrev pub is_new_key : List (List ℕ × List ℕ) → List ℕ → Bool
is_new_key pairs key = not (has_key pairs key)

-- a variable behind these; that its key is new is a rule of the key
unfoldable pub variable_at : List (List ℕ × List ℕ) → Reader (List ℕ × List ℕ)
variable_at pairs bytes at = do
  key ← bytes_at (λ key. is_key key && is_new_key pairs key) bytes at
  value ← text_at bytes key.1
  Ok ((key.0, value.0), value.1)

-- the pairs with one more behind them
abbrev pub with_pair : List (List ℕ × List ℕ) → List ℕ × List ℕ → List (List ℕ × List ℕ)
with_pair pairs pair = pairs ++ pair ∷ []

unfoldable pub variables_at : Reader (List (List ℕ × List ℕ))
variables_at bytes at = do
  count ← number_at w16 bytes at
  each_at variable_at with_pair count.0 [] bytes count.1

-- so many items, none of which asks for another
unfoldable pub alike_at : {A : Type 0} → Reader A → ℕ → Reader (List A)
alike_at {A} item count = each_at {S = Unit {0}} {A = A} (λ state. item) (λ state x. state) count tt

-- items behind their number in two bytes
unfoldable pub counted_at : {A : Type 0} → Reader A → Reader (List A)
counted_at item bytes at = do
  count ← number_at w16 bytes at
  alike_at item count.0 bytes count.1

-- ---- commands

-- the parts of a command one after the other
unfoldable pub parts_at : Reader Command
parts_at bytes at = do
  program ← bytes_at is_program bytes at
  args ← counted_at text_at bytes program.1
  cwd ← path_at bytes args.1
  env ← variables_at bytes cwd.1
  inputs ← counted_at path_at bytes env.1
  templates ← counted_at template_at bytes inputs.1
  Ok (record { program = program.0; args = args.0; cwd = cwd.0; env = env.0; inputs = inputs.0; templates = templates.0 }, templates.1)

-- a command of at most 64 KiB; the first field that ends past them is faulty
unfoldable pub command_at : Reader Command
command_at = limited max_command parts_at

-- ---- jobs

-- a file, which may be run or not
unfoldable pub job_file_at : Bool → Reader Node
job_file_at exec bytes at = do
  content ← content_at max_file bytes at
  Ok (File content.0 exec, content.1)

-- each kind of node with what follows it
abbrev pub job_node_kinds : List (ℕ × Reader Node)
job_node_kinds = (1, none Folder) ∷ (2, job_file_at false) ∷ (3, job_file_at true) ∷ []

unfoldable pub job_node_at : Reader Node
job_node_at = tagged_at job_node_kinds

unfoldable pub job_row_at : Reader JobRow
job_row_at bytes at = do
  path ← path_at bytes at
  node ← job_node_at bytes path.1
  Ok (record { path = path.0; node = node.0 }, node.1)

-- rows behind their number
unfoldable pub job_rows_at : Reader (List JobRow)
job_rows_at bytes at = do
  count ← number_at w32 bytes at
  alike_at job_row_at count.0 bytes count.1

-- a command and its rows
unfoldable pub job_at : Reader Job
job_at bytes at = do
  command ← command_at bytes at
  rows ← job_rows_at bytes command.1
  Ok (record { command = command.0; rows = rows.0 }, rows.1)
