-- Paths and contents that break a rule: the field that is refused, whatever stands before and behind them.
use Rattle.std.specs.Prelude.{◌≡◌, ℕ, ◌^◌, ◌<◌, List, ◌++◌, length, Err}
use Rattle.std.specs.Int.{w16, w32}
use Rattle.byte_fields.specs.Field.{digits}
use Rattle.byte_fields.specs.Broken.{IsRefused}
use Rattle.file_paths.specs.declared.path.PathError.{PathError}
use Rattle.file_paths.specs.Path.{path_of}
use Rattle.file_paths.specs.Reading.{path_at, content_at}

-- a text that spells no path: at the text, behind its length
abbrev pub BrokenTexts : Type 0
BrokenTexts = (text : List ℕ) (cause : PathError) → length text < 2 ^ 16 → path_of text ≡ Err cause
    → IsRefused path_at (digits w16 (length text) ++ text) 2

-- a content that is longer than it may be: at its length
abbrev pub BrokenLengths : Type 0
BrokenLengths = (limit size : ℕ) → limit < size → size < 2 ^ 32 → IsRefused (content_at limit) (digits w32 size) 0
