-- The fields of the spellings of paths and contents in their order, given by their numbers of bytes.
use Rattle.std.specs.Prelude.{ℕ, List, [], ◌∷◌, length}
use Rattle.file_paths.specs.Path.{FilePath, path_text}

-- the length of the text, and the text
abbrev pub path_fields : FilePath → List ℕ
path_fields p = 2 ∷ length (path_text p) ∷ []

-- the length, and the bytes
abbrev pub content_fields : List ℕ → List ℕ
content_fields c = 4 ∷ length c ∷ []
