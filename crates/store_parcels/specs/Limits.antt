-- How much a parcel tells of.
use Rattle.std.specs.Prelude.{ℕ}

-- the sources of a parcel
abbrev pub max_sources : ℕ
max_sources = 4096

-- the steps of a parcel
abbrev pub max_steps : ℕ
max_steps = 1048576
