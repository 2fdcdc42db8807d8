-- How long a drill may be.
use Rattle.std.specs.Prelude.{ℕ}

-- the steps of a drill
abbrev pub max_steps : ℕ
max_steps = 1000
