-- How many levels the digests of a tree's rows may have.
use Rattle.std.specs.Prelude.{ℕ}

-- as many as there are halvings of the rows that a tree may have, which are 2 ^ 14
abbrev pub most_levels : ℕ
most_levels = 14
