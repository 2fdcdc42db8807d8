-- How much a tree holds, and how many effects are spelled together.
use Rattle.std.specs.Prelude.{ℕ}

-- the rows of a tree
abbrev pub max_rows : ℕ
max_rows = 16384

-- the bytes of all files of a tree, and of all contents of effects together
abbrev pub max_files : ℕ
max_files = 33554432

-- the effects that are spelled together
abbrev pub max_effects : ℕ
max_effects = 4096
