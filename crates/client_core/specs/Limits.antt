-- How much a client sends at once.
use Rattle.std.specs.Prelude.{ℕ}

-- the entries of a store
abbrev pub max_window : ℕ
max_window = 8

-- the bytes of contents of a store beside those of its first entry: what a thin link gets through at once
abbrev pub max_beside : ℕ
max_beside = 131072
