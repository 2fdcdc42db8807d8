-- Words that only contracts below the whole check cite.
use Rattle.std.specs.Prelude.{◌≡◌, ◌≢◌, ℕ, ◌+◌, ◌≤◌, List, ◌++◌, length, Option, None, Some, Result}
use Rattle.outside.specs.Outside.{Takes}
use Rattle.program_words.specs.Status.{code}
use Rattle.program_words.specs.declared.status.Status.{Status}
use Rattle.program_words.specs.declared.status.Status.TheVariants.{SinkFailed, NoMemory}
use Rattle.tree_proof.specs.declared.checking.Finding.{Finding}
use Rattle.tree_proof.specs.declared.checking.CheckError.{CheckError}
use Rattle.client_lines.specs.declared.input.InputEnd.{InputEnd}
use Rattle.client_lines.specs.declared.input.InputEnd.TheVariants.{Read, TooLong}
use Rattle.client_lines.specs.Limits.{max_input}
use Rattle.client_lines.specs.Input.{EndsAt, GoesOnOrEnds}
use Rattle.client_proof.specs.Ending.{WritesAnswer, BreaksAnswer}

-- a piece stands behind the bytes, within the limit; or it has the one byte past it
abbrev pub AddsWithin : List ℕ → List ℕ → List ℕ → Option InputEnd → Type 0
AddsWithin old piece new None = (new ≡ old ++ piece) × (length old + length piece ≤ max_input)
AddsWithin old piece new (Some end) = (end ≡ TooLong) × (length old + length piece ≡ max_input + 1)

-- a piece of an input was read, and stands behind the bytes unless one is past the limit
pub record AddsPiece (left rest : Option (List ℕ)) (old new : List ℕ) (end : Option InputEnd) : Type 0 where
  pub piece : List ℕ
  pub taken : Takes left rest piece
  pub ended : GoesOnOrEnds rest (length old) (length (old ++ piece)) end
  pub added : end ≢ Some TooLong → new ≡ old ++ piece

-- an input was read, and came so to its end; the bytes are all of it where nothing is left
pub record ReadsAll (left rest : Option (List ℕ)) (bytes : List ℕ) (end : InputEnd) : Type 0 where
  pub input : List ℕ
  pub taken : Takes left rest input
  pub ended : EndsAt rest (length input) end
  pub whole : end ≡ Read → bytes ≡ input

-- what was read behind so many bytes is within the limit
abbrev pub ReadsWithin : Option (List ℕ) → Option (List ℕ) → ℕ → Type 0
ReadsWithin left rest before = (piece : List ℕ) × Takes left rest piece × (before + length piece ≤ max_input)

-- the answer was written whole, or broken off
abbrev pub TellsFinding : Result Finding CheckError → Status → Option (List ℕ) → Option (List ℕ) → Type 0
TellsFinding answer SinkFailed written now = BreaksAnswer answer written now
TellsFinding answer NoMemory written now = BreaksAnswer answer written now
TellsFinding answer status written now = WritesAnswer answer (code status) written now
