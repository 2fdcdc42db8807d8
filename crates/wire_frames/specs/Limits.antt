-- How long a frame is, how clients are numbered, and how many entries a store carries.
use Rattle.std.specs.Prelude.{ℕ}

-- the bytes of a frame
abbrev pub max_frame : ℕ
max_frame = 67108864

-- the entries of a store
abbrev pub max_parts : ℕ
max_parts = 8

-- the highest number of a client
abbrev pub max_client : ℕ
max_client = 64
