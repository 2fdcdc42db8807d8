-- A command from its words: options, `--`, the program and its arguments.
use Rattle.std.specs.Prelude.{◌≡◌, ℕ, ◌+◌, Bool, true, false, ◌||◌, ◌&&◌, not, ◌==◌, nat_lt, List, [], ◌∷◌, ◌++◌, length, take, drop}
use Rattle.std.specs.Prelude.{slice_index_or, Option, Some, None, is_some, option_map, option_and_then, unwrap_or, Result, Ok, Err}
use Rattle.std.specs.Prelude.{position, if◌then◌else◌}
use Rattle.std.specs.List.{fold, filter_map}
use Rattle.std.specs.Str.{bytes_eq}
use Rattle.byte_fields.specs.Numbers.{as_u32, as_u64}
use Rattle.file_paths.specs.Refusals.{when, unless_refused}
use Rattle.file_paths.specs.Path.{FilePath, IsPath, resolved}
use Rattle.cmd_capture.specs.declared.command.Command.{Command}
use Rattle.cmd_capture.specs.declared.capturing.CaptureError.{CaptureError}
use Rattle.cmd_capture.specs.declared.capturing.CaptureError.TheVariants.{NoProgram, BadOption, BadInput, BadEnv, BadTemplate}
use Rattle.cmd_capture.specs.declared.capturing.CaptureError.TheVariants.{NotAbsolute, ZeroByte, CommandTooLong}
use Rattle.cmd_capture.specs.Limits.{max_command}
use Rattle.cmd_capture.specs.Rules.{is_text, is_absolute, is_template}
use Rattle.cmd_capture.specs.Environment.{set_pair}
use Rattle.cmd_capture.specs.Spelling.{command, IsCommand}

-- ---- the parts of the words

-- `--`
abbrev pub is_dashes : List ℕ → Bool
is_dashes word = bytes_eq word (45 ∷ 45 ∷ [])

abbrev pub before_place : Option ℕ → List (List ℕ) → List (List ℕ)
before_place None words = words
before_place (Some i) words = take i words

abbrev pub behind_place : Option ℕ → List (List ℕ) → List (List ℕ)
behind_place None words = []
behind_place (Some i) words = drop (i + 1) words

-- the words before the first `--`
abbrev pub options : List (List ℕ) → List (List ℕ)
options words = before_place (position is_dashes words) words

-- the program and its arguments
abbrev pub program_words : List (List ℕ) → List (List ℕ)
program_words words = behind_place (position is_dashes words) words

abbrev pub program : List (List ℕ) → List ℕ
program words = slice_index_or (program_words words) 0 []

-- ---- options

-- `in=`
abbrev pub in_mark : List ℕ
in_mark = 105 ∷ 110 ∷ 61 ∷ []

-- `env=`
abbrev pub env_mark : List ℕ
env_mark = 101 ∷ 110 ∷ 118 ∷ 61 ∷ []

-- `tmp=`
abbrev pub tmp_mark : List ℕ
tmp_mark = 116 ∷ 109 ∷ 112 ∷ 61 ∷ []

-- what stands behind the mark in a word that begins with it
abbrev pub behind : List ℕ → List ℕ → Option (List ℕ)
behind mark word = if bytes_eq (take (length mark) word) mark then Some (drop (length mark) word) else None

-- whether the word begins with the mark and what stands behind it passes the test
abbrev pub holds_behind : List ℕ → (List ℕ → Bool) → List ℕ → Bool
holds_behind mark test word = unwrap_or (option_map test (behind mark word)) false

-- whether the word begins with none of the three marks
abbrev pub is_unknown : List ℕ → Bool
is_unknown word = not (is_some (behind in_mark word)) && (not (is_some (behind env_mark word)) && not (is_some (behind tmp_mark word)))

abbrev pub is_err : {T E : Type 0} → Result T E → Bool
is_err (Ok value) = false
is_err (Err refusal) = true

-- a text that names no path in the folder
abbrev pub is_bad_path : FilePath → List ℕ → Bool
is_bad_path cwd text = is_err (resolved cwd text)

-- a zero byte, or no `=`, or nothing before it
abbrev pub is_bad_assignment : List ℕ → Bool
is_bad_assignment text = not (is_text text) || nat_lt (unwrap_or (position (λ b. b == 61) text) 0) 1

-- not 1 to 255 bytes, or a `/` or a zero byte
abbrev pub is_bad_template : List ℕ → Bool
is_bad_template text = not (is_template text)

abbrev pub has_zero : List ℕ → Bool
has_zero word = not (is_text word)

-- ---- the command

-- the bytes before the first `=`, and those behind it
abbrev pub assignment : List ℕ → Option (List ℕ × List ℕ)
assignment text = option_map (λ at. (take at text, drop (at + 1) text)) (position (λ b. b == 61) text)

-- the pairs after an assignment
abbrev pub set_variable : List (List ℕ × List ℕ) → List ℕ × List ℕ → List (List ℕ × List ℕ)
set_variable pairs pair = set_pair pairs pair.0 pair.1

abbrev pub ok : {T E : Type 0} → Result T E → Option T
ok (Ok value) = Some value
ok (Err refusal) = None

-- the path of an input
abbrev pub input_of : FilePath → List ℕ → Option FilePath
input_of cwd word = option_and_then (λ text. ok (resolved cwd text)) (behind in_mark word)

-- the variable of an assignment
abbrev pub variable_of : List ℕ → Option (List ℕ × List ℕ)
variable_of word = option_and_then assignment (behind env_mark word)

-- the command of words that are not refused
abbrev pub captured : List (List ℕ) → FilePath → Command
captured words cwd = record {
  program = program words;
  args = drop 1 (program_words words);
  cwd = cwd;
  env = fold set_variable [] (filter_map variable_of (options words));
  inputs = filter_map (input_of cwd) (options words);
  templates = filter_map (behind tmp_mark) (options words);
}

-- ---- refusals

-- the refusal names the place that was found
abbrev pub refusal_at : (ℕ → CaptureError) → Option ℕ → Option CaptureError
refusal_at refusal found = option_map (λ i. refusal (as_u32 i)) found

-- why the options and the words behind `--` are refused, but for what an option is and for paths
abbrev pub text_refusals : List (List ℕ) → List (List ℕ) → List (Option CaptureError)
text_refusals options texts =
    refusal_at BadEnv (position (holds_behind env_mark is_bad_assignment) options)
    ∷ refusal_at BadTemplate (position (holds_behind tmp_mark is_bad_template) options)
    ∷ when (not (is_absolute (slice_index_or texts 0 []))) NotAbsolute
    ∷ refusal_at ZeroByte (option_map (λ i. length options + 1 + i) (position has_zero texts))
    ∷ []

-- why words are refused, in the order in which it is tried
abbrev pub capture_refusals : List (List ℕ) → FilePath → List (Option CaptureError)
capture_refusals words cwd =
    when (nat_lt (length (program_words words)) 1) NoProgram
    ∷ refusal_at BadOption (position is_unknown (options words))
    ∷ refusal_at BadInput (position (holds_behind in_mark (is_bad_path cwd)) (options words))
    ∷ text_refusals (options words) (program_words words)
    ++ when (nat_lt max_command (length (command (captured words cwd)))) (CommandTooLong (as_u64 (length (command (captured words cwd)))))
    ∷ []

-- the command of the words, or the first refusal
abbrev pub capture : List (List ℕ) → FilePath → Result Command CaptureError
capture words cwd = unless_refused (capture_refusals words cwd) (captured words cwd)

-- ---- law

-- what is captured has a spelling
abbrev pub CapturedHaveASpelling : Type 0
CapturedHaveASpelling = (words : List (List ℕ)) (cwd : FilePath) (c : Command) → IsPath cwd → capture words cwd ≡ Ok c → IsCommand c
