-- Commands and jobs that break a rule: the field that is refused, whatever stands before and behind them.
use Rattle.std.specs.Prelude.{◌≡◌, ◌≢◌, ℕ, ◌+◌, ◌^◌, ◌<◌, ◌≤◌, true, false, List, [], ◌∷◌, ◌++◌, length}
use Rattle.std.specs.Int.{w16, w32}
use Rattle.std.specs.List.{flat_map, AllByRecursion}
use Rattle.byte_fields.specs.Field.{Reader, digits}
use Rattle.byte_fields.specs.Cuts.{start_of}
use Rattle.byte_fields.specs.Broken.{IsRefused}
use Rattle.file_paths.specs.Limits.{max_file}
use Rattle.file_paths.specs.Path.{FilePath, IsPath}
use Rattle.file_paths.specs.Spelling.{path, content}
use Rattle.file_paths.specs.Reading.{path_at}
use Rattle.cmd_capture.specs.declared.command.Command.{Command}
use Rattle.cmd_capture.specs.declared.job.JobRow.{JobRow}
use Rattle.cmd_capture.specs.Limits.{max_command}
use Rattle.cmd_capture.specs.Environment.{has_key}
use Rattle.cmd_capture.specs.Rules.{is_text, is_program, is_key, is_pattern, is_template, AreVariables}
use Rattle.cmd_capture.specs.Spelling.{variable, template, counted, command, AreParts, CountsFit, IsCommand, job_row, RowFits}
use Rattle.cmd_capture.specs.Fields.{command_fields}
use Rattle.cmd_capture.specs.Reading.{bytes_at, text_at, template_at, variable_at, variables_at, counted_at, command_at, job_node_kinds}
use Rattle.cmd_capture.specs.Reading.{job_row_at, job_at}

-- ---- parts of a command

-- a length that its four bytes hold
abbrev pub HasLength : List ℕ → Type 0
HasLength bytes = length bytes < 2 ^ 32

pub record BrokenParts : Type 0 where
  -- a program with a zero byte, or that does not begin with `/`: at its name, behind the length
  pub program_is_wrong : (name : List ℕ) → HasLength name → is_program name ≡ false → IsRefused (bytes_at is_program) (content name) 4
  -- an argument with a zero byte: at it
  pub argument_is_wrong : (word : List ℕ) → HasLength word → is_text word ≡ false → IsRefused text_at (content word) 4
  -- a key of no byte, or with a zero byte or `=`: at it
  pub key_is_wrong : (before : List (List ℕ × List ℕ)) (key : List ℕ) → HasLength key → is_key key ≡ false
      → IsRefused (variable_at before) (content key) 4
  -- such as one that has a `=`
  pub key_has_equals : (before : List (List ℕ × List ℕ)) (front back : List ℕ) → HasLength (front ++ 61 ∷ back)
      → IsRefused (variable_at before) (content (front ++ 61 ∷ back)) 4
  -- a key of a variable before: at it
  pub key_is_twice : (before : List (List ℕ × List ℕ)) (key : List ℕ) → HasLength key → has_key before key ≡ true
      → IsRefused (variable_at before) (content key) 4
  -- a value with a zero byte: at it, behind the key
  pub value_is_wrong : (before : List (List ℕ × List ℕ)) (key value : List ℕ) → HasLength key → is_key key ≡ true
      → has_key before key ≡ false → HasLength value → is_text value ≡ false
      → IsRefused (variable_at before) (content key ++ content value) (length (content key) + 4)
  -- a template of no byte: at its length
  pub template_is_empty : IsRefused template_at (template []) 0
  -- a template with a zero byte or `/`: at it, behind the length
  pub template_is_wrong : (bytes : List ℕ) → 1 ≤ length bytes → length bytes < 2 ^ 8 → is_pattern bytes ≡ false
      → IsRefused template_at (template bytes) 1

-- an item that is refused: behind the count and the items before it
abbrev pub BrokenItems : {A : Type 0} → Reader A → (A → List ℕ) → (A → Type 0) → Type 0
BrokenItems {A} item spelling Fits = (before : List A) (count : ℕ) (text : List ℕ) (offset : ℕ)
    → AllByRecursion Fits before → length before < count → count < 2 ^ 16 → IsRefused item text offset
    → IsRefused (counted_at item) (digits w16 count ++ (flat_map spelling before ++ text))
    (2 + (length (flat_map spelling before) + offset))

pub record BrokenLists : Type 0 where
  pub args : BrokenItems text_at content (λ word. HasLength word × (is_text word ≡ true))
  pub inputs : BrokenItems path_at path IsPath
  pub templates : BrokenItems template_at template (λ bytes. is_template bytes ≡ true)
  -- a variable that is refused beside those before it: behind the count and them
  pub env : (before : List (List ℕ × List ℕ)) (count : ℕ) (text : List ℕ) (offset : ℕ) → AreVariables before
      → AllByRecursion (λ pair. HasLength pair.0 × HasLength pair.1) before → length before < count → count < 2 ^ 16
      → IsRefused (variable_at before) text offset
      → IsRefused variables_at (digits w16 count ++ (flat_map variable before ++ text)) (2 + (length (flat_map variable before) + offset))

-- ---- commands

-- the bytes of a command before each of its parts but the first
abbrev pub before_args : Command → List ℕ
before_args c = content c.program

abbrev pub before_cwd : Command → List ℕ
before_cwd c = before_args c ++ counted content c.args

abbrev pub before_env : Command → List ℕ
before_env c = before_cwd c ++ path c.cwd

abbrev pub before_inputs : Command → List ℕ
before_inputs c = before_env c ++ counted variable c.env

abbrev pub before_templates : Command → List ℕ
before_templates c = before_inputs c ++ counted path c.inputs

-- What is refused as a part is refused behind this front of a command. Both together have at most 64 KiB.
abbrev pub IsRefusedBehind : {A : Type 0} → List ℕ → Reader A → Type 0
IsRefusedBehind front part = (text : List ℕ) (offset : ℕ) → length (front ++ text) ≤ max_command
    → IsRefused part text offset → IsRefused command_at (front ++ text) (length front + offset)

-- a part that is refused: behind the parts before it, which are those of `c`
pub record BrokenCommands : Type 0 where
  pub program : IsRefusedBehind [] (bytes_at is_program)
  pub args : (c : Command) → AreParts c → IsRefusedBehind (before_args c) (counted_at text_at)
  pub cwd : (c : Command) → AreParts c → IsRefusedBehind (before_cwd c) path_at
  pub env : (c : Command) → AreParts c → IsRefusedBehind (before_env c) variables_at
  pub inputs : (c : Command) → AreParts c → IsRefusedBehind (before_inputs c) (counted_at path_at)
  pub templates : (c : Command) → AreParts c → IsRefusedBehind (before_templates c) (counted_at template_at)

-- a command that keeps all rules but the last, that of its length: at the first field that ends past 64 KiB
abbrev pub LongCommands : Type 0
LongCommands = (c : Command) → AreParts c → CountsFit c → max_command < length (command c)
    → length (command c) < 2 ^ 32 → IsRefused command_at (command c) (start_of max_command (command_fields c))

-- ---- jobs

pub record BrokenJobRows : Type 0 where
  -- a path that is refused: in it
  pub path_is_none : (text : List ℕ) (offset : ℕ) → IsRefused path_at text offset → IsRefused job_row_at text offset
  -- a number that is that of no kind of node: at it, behind the path
  pub kind_is_none : (p : FilePath) (kind : ℕ) → IsPath p → kind < 2 ^ 8
      → AllByRecursion (λ known. kind ≢ known.0) job_node_kinds
      → IsRefused job_row_at (path p ++ kind ∷ []) (length (path p))
  -- a content of more than 8 MiB: at its length
  pub content_is_large : (p : FilePath) (size : ℕ) → IsPath p → max_file < size → size < 2 ^ 32
      → AllByRecursion (λ kind. IsRefused job_row_at (path p ++ (kind ∷ digits w32 size)) (length (path p) + 1)) (2 ∷ 3 ∷ [])

pub record BrokenJobs : Type 0 where
  -- a command that is refused: in it
  pub command_is_refused : (text : List ℕ) (offset : ℕ) → IsRefused command_at text offset → IsRefused job_at text offset
  -- a row that is refused: behind the command, the count and the rows before it
  pub row_is_refused : (c : Command) (before : List JobRow) (count : ℕ) (text : List ℕ) (offset : ℕ) → IsCommand c
      → AllByRecursion RowFits before → length before < count → count < 2 ^ 32 → IsRefused job_row_at text offset
      → IsRefused job_at (command c ++ (digits w32 count ++ (flat_map job_row before ++ text)))
      (length (command c) + (4 + (length (flat_map job_row before) + offset)))
