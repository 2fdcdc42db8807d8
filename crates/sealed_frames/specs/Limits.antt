-- How many bytes a seal has, and how many bytes can be sealed.
use Rattle.std.specs.Prelude.{ℕ}

-- the bytes of a seal: the length of what follows, the mark and the tag
abbrev pub seal_bytes : ℕ
seal_bytes = 37

-- the most bytes of a frame that can be sealed
abbrev pub max_sealed : ℕ
max_sealed = 67108827

-- the most bytes of a frame with its seal: 64 MiB
abbrev pub max_frame : ℕ
max_frame = 67108864
