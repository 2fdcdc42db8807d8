-- The one spelling of each path and each content.
use Rattle.std.specs.Prelude.{ℕ, ◌≤◌, List, ◌++◌, length}
use Rattle.std.specs.Int.{w16, w32}
use Rattle.byte_fields.specs.Field.{digits}
use Rattle.byte_fields.specs.Codec.{IsBytes}
use Rattle.file_paths.specs.Path.{FilePath, path_text}

-- the text, behind the number of its bytes
abbrev pub path : FilePath → List ℕ
path p = digits w16 (length (path_text p)) ++ path_text p

-- the bytes, behind their number
abbrev pub content : List ℕ → List ℕ
content bytes = digits w32 (length bytes) ++ bytes

-- bytes, at most so many
abbrev pub ContentFits : ℕ → List ℕ → Type 0
ContentFits limit bytes = (length bytes ≤ limit) × IsBytes bytes
