-- How long frames and parts are, and how many of them are kept.
use Rattle.std.specs.Prelude.{ℕ}

-- the most bytes of a frame: 64 MiB
abbrev pub max_frame : ℕ
max_frame = 67108864

-- how many bytes stand before the piece of a part, and how many its answer has
abbrev pub part_bytes : ℕ
part_bytes = 47

abbrev pub have_bytes : ℕ
have_bytes = 11

-- the most fronts, without keys and with them
abbrev pub most_unkeyed : ℕ
most_unkeyed = 8

abbrev pub most_keyed : ℕ
most_keyed = 64

-- the most bytes of all fronts together: two of the longest frames
abbrev pub most_bytes : ℕ
most_bytes = 134217728

-- how many bytes the first part has that has any, the fewest that one has behind it, and the most
abbrev pub first_size : ℕ
first_size = 8192

abbrev pub least_size : ℕ
least_size = 1024

abbrev pub most_size : ℕ
most_size = 1048576
