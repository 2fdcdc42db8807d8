-- Texts of paths.
use Rattle.std.proofs.Common.{◌≡◌, ℕ, true, List, Result, Ok, Err, refl}
use Rattle.std.specs.Prelude.{is_ok}
use Rattle.file_paths.specs.Path.{FilePath, path_of}
use Rattle.file_paths.specs.declared.path.PathError.{PathError}

-- a text that is one of a path has it
pub path_named : (text : List ℕ) → is_ok (path_of text) ≡ true → (path : FilePath) × (path_of text ≡ Ok path)
path_named text ok = by (path_of text) refl ok
  where
    by : (read : Result FilePath PathError) → path_of text ≡ read → is_ok read ≡ true → (path : FilePath) × (path_of text ≡ Ok path)
    by (Ok path) is ok = (path, is)
    by (Err refused) is ok = absurd (cc ok)
