-- How long paths and contents may be.
use Rattle.std.specs.Prelude.{ℕ}

-- the bytes of a name
abbrev pub max_name : ℕ
max_name = 255

-- the names of a path
abbrev pub max_depth : ℕ
max_depth = 32

-- the bytes of a path's text
abbrev pub max_text : ℕ
max_text = 1024

-- the bytes of a file's content
abbrev pub max_file : ℕ
max_file = 8388608
