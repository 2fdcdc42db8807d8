-- Reading paths and contents, with the place of the first faulty field.
use Rattle.std.specs.Prelude.{ℕ, nat_le, List}
use Rattle.std.specs.Int.{w16, w32}
use Rattle.byte_fields.specs.Field.{Reader, ◌>>=◌, ruled, mapped, span_at, number_at}
use Rattle.file_paths.specs.Path.{FilePath, path_of}

-- the number of bytes, and a text that spells a path; one that spells none is a fault of the text
unfoldable pub path_at : Reader FilePath
path_at bytes at = do
  size ← number_at w16 bytes at
  mapped path_of (span_at size.0) bytes size.1

-- a content of at most so many bytes
unfoldable pub content_at : ℕ → Reader (List ℕ)
content_at limit bytes at = do
  size ← ruled (λ n. nat_le n limit) (number_at w32) bytes at
  span_at size.0 bytes size.1
