-- What a line of words asks for.
use Rattle.std.specs.Prelude.{◌≡◌, ◌⊎◌, ◌↔◌, ℕ, List, [], ◌∷◌, ◌++◌, length, codes, Option, Some, None, find, Result, Ok, Err, ok_or}
use Rattle.std.specs.Str.{bytes_eq}
use Rattle.byte_fields.specs.Numbers.{as_u32}
use Rattle.shell_lang.specs.Words.{words_of, ◌>>=◌}
use Rattle.shell_lang.specs.declared.line.Line.{Line}
use Rattle.shell_lang.specs.declared.line.Line.TheVariants as lines
use Rattle.shell_lang.specs.declared.line.LineError.{LineError}
use Rattle.shell_lang.specs.declared.line.LineError.TheVariants.{UnknownWord, WrongCount}
use Rattle.shell_lang.specs.declared.command.Verb.{Verb}
use Rattle.shell_lang.specs.declared.command.Verb.TheVariants as commands

-- the commands that a line may name
abbrev pub all_commands : List Verb
all_commands =
    commands.Put ∷ commands.Make ∷ commands.Remove ∷ commands.Move ∷ commands.Cat ∷ commands.List
    ∷ commands.Enter ∷ commands.Run ∷ commands.Status ∷ commands.Sync ∷ commands.Pull ∷ commands.Quit ∷ []

-- the word that names a command
abbrev pub command_word : Verb → List ℕ
command_word commands.Put = codes "put"
command_word commands.Make = codes "mkdir"
command_word commands.Remove = codes "rm"
command_word commands.Move = codes "mv"
command_word commands.Cat = codes "cat"
command_word commands.List = codes "ls"
command_word commands.Enter = codes "cd"
command_word commands.Run = codes "run"
command_word commands.Status = codes "status"
command_word commands.Sync = codes "sync"
command_word commands.Pull = codes "pull"
command_word commands.Quit = codes "quit"

-- the command that a word names
abbrev pub command_of : List ℕ → Option Verb
command_of word = find (λ command. bytes_eq word (command_word command)) all_commands

-- a command with another number of words than these
abbrev pub wrong_count : List (List ℕ) → Result Line LineError
wrong_count words = Err (WrongCount (as_u32 (length words)))

abbrev pub with_none : Line → List (List ℕ) → Result Line LineError
with_none line [] = Ok line
with_none line (w ∷ ws) = wrong_count (w ∷ ws)

abbrev pub with_one : (List ℕ → Line) → List (List ℕ) → Result Line LineError
with_one made (w ∷ []) = Ok (made w)
with_one made words = wrong_count words

abbrev pub with_two : (List ℕ → List ℕ → Line) → List (List ℕ) → Result Line LineError
with_two made (v ∷ w ∷ []) = Ok (made v w)
with_two made words = wrong_count words

-- what a command asks for with these words, unless their number is another
abbrev pub line_of : Verb → List (List ℕ) → Result Line LineError
line_of commands.Put words = with_two lines.Put words
line_of commands.Make words = with_one lines.Make words
line_of commands.Remove words = with_one lines.Remove words
line_of commands.Move words = with_two lines.Move words
line_of commands.Cat words = with_one lines.Cat words
line_of commands.List [] = Ok (lines.List None)
line_of commands.List (w ∷ ws) = with_one (λ path. lines.List (Some path)) (w ∷ ws)
line_of commands.Enter words = with_one lines.Enter words
line_of commands.Run words = Ok (lines.Run words)
line_of commands.Status words = with_none lines.Status words
line_of commands.Sync words = with_none lines.Sync words
line_of commands.Pull words = with_none lines.Pull words
line_of commands.Quit words = with_none lines.Quit words

-- the same of all words of a line, the first of which names the command
abbrev pub line_of_words : List (List ℕ) → Result Line LineError
line_of_words [] = Ok lines.Empty
line_of_words (first ∷ words) = do
  command ← ok_or (command_of first) UnknownWord
  line_of command words

-- what a line asks for, or the first refusal
abbrev pub read_line : List ℕ → Result Line LineError
read_line [] = Ok lines.Empty
read_line (b ∷ bs) = do
  words ← words_of (b ∷ bs)
  line_of_words words

-- the content of a file that is put: the text and a line end
abbrev pub put_content : List ℕ → List ℕ
put_content text = text ++ 10 ∷ []

-- ---- law

-- a line asks for the end of the session exactly where it is the word `quit`, as it is or between quotes
abbrev pub OnlyQuitQuits : Type 0
OnlyQuitQuits = (line : List ℕ) → read_line line ≡ Ok lines.Quit ↔ ((line ≡ codes "quit") ⊎ (line ≡ codes "'quit'"))
