-- What was read of an input, and which of its lines count.
use Rattle.std.specs.Prelude.{◌≡◌, ℕ, ◌+◌, ◌-◌, ◌≤◌, ◌<◌, List, [], ◌++◌, length, take, Option, None, Some}
use Rattle.outside.specs.Outside.{Takes}
use Rattle.client_lines.specs.Limits.{max_input}
use Rattle.client_lines.specs.declared.input.InputEnd.{InputEnd}
use Rattle.client_lines.specs.declared.input.InputEnd.TheVariants.{Read, Failed, TooLong}
use Rattle.shell_lang.specs.Lines.{last_line, lines_of, whole_lines}

-- the bytes that no line was cut from yet, and how many bytes were read in all
pub record Reading : Type 0 where
  pub bytes : List ℕ
  pub count : ℕ

-- nothing is left, where the source tells it
abbrev pub IsAtEnd : Option (List ℕ) → Type 0
IsAtEnd None = Unit {0}
IsAtEnd (Some rest) = rest ≡ []

-- how reading ended, with this left and so many bytes read: at the end, or at a fault, within the limit, or at the first byte past it
abbrev pub EndsAt : Option (List ℕ) → ℕ → InputEnd → Type 0
EndsAt rest count Read = IsAtEnd rest × (count ≤ max_input)
EndsAt rest count Failed = count ≤ max_input
EndsAt rest count TooLong = count ≡ max_input + 1

-- a piece that is no end has bytes, all within the limit
abbrev pub GoesOnOrEnds : Option (List ℕ) → ℕ → ℕ → Option InputEnd → Type 0
GoesOnOrEnds rest before count None = (before < count) × (count ≤ max_input)
GoesOnOrEnds rest before count (Some end) = EndsAt rest count end

-- a piece of the input was read, and its bytes within the limit are to be cut into lines
pub record ReadsPiece (left rest : Option (List ℕ)) (old new : Reading) (end : Option InputEnd) : Type 0 where
  pub piece : List ℕ
  pub taken : Takes left rest piece
  pub count : new.count ≡ old.count + length piece
  pub bytes : new.bytes ≡ old.bytes ++ take (max_input - old.count) piece
  pub ended : GoesOnOrEnds rest old.count new.count end

-- the bytes of an input that count
abbrev pub within_limit : List ℕ → List ℕ
within_limit input = take max_input input

-- the lines that are answered of an input whose reading ended so: all of them at its end, and else the whole ones within the limit
abbrev pub lines_at : InputEnd → List ℕ → List (List ℕ)
lines_at Read input = lines_of input
lines_at Failed input = whole_lines input
lines_at TooLong input = whole_lines (within_limit input)

-- the line that the end of an input makes of the bytes behind its last line end
abbrev pub last_at : InputEnd → List ℕ → List (List ℕ)
last_at Read bytes = last_line bytes
last_at Failed bytes = []
last_at TooLong bytes = []
