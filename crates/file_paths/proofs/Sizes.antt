-- How long the spellings of paths and contents are.
use Rattle.std.proofs.Common.{◌≡◌, ℕ, ◌+◌, ◌≤◌, List, length, arith, length-append}
use Rattle.std.specs.Int.{w16, w32}
use Rattle.byte_fields.specs.Field.{digits}
use Rattle.byte_fields.proofs.Facts.{two_bytes, four_bytes}
use Rattle.file_paths.specs.Path.{FilePath, IsPath, path_text}
use Rattle.file_paths.specs.Spelling.{path, content}

pub path_length : (p : FilePath) → length (path p) ≡ 2 + length (path_text p)
path_length p = omega (arith, length-append (digits w16 (length (path_text p))) (path_text p), two_bytes (length (path_text p)))

pub content_length : (c : List ℕ) → length (content c) ≡ 4 + length c
content_length c = omega (arith, length-append (digits w32 (length c)) c, four_bytes (length c))

pub path_size : (p : FilePath) → IsPath p → length (path p) ≤ 1026
path_size p is = omega (arith, path_length p, is.short)
