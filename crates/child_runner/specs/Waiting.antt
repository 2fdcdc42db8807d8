-- How long a client reads: in nanoseconds.
use Rattle.std.specs.Prelude.{ℕ}

-- what a program left, behind its end: a minute
abbrev pub reading_nanos : ℕ
reading_nanos = 60_000_000_000
