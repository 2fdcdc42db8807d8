-- How many jobs a drill has at most.
use Rattle.std.specs.Prelude.{ℕ}

-- the greatest number of a job of a drill
abbrev pub max_job : ℕ
max_job = 1000
