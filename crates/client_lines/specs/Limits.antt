-- How much of an input is read.
use Rattle.std.specs.Prelude.{ℕ}

-- the bytes of an input that are cut into lines
abbrev pub max_input : ℕ
max_input = 16777216
