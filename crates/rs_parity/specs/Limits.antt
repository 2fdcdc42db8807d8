-- How much a sketch may stand for.
use Rattle.std.specs.Prelude.{ℕ}

-- the bytes of the largest content that has a sketch
abbrev pub max_len : ℕ
max_len = 8388608
