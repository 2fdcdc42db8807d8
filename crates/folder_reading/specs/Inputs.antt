-- When what is written was changed, in nanoseconds since 1970.
use Rattle.std.specs.Prelude.{ℕ, ◌*◌}

-- 1 January 2000, 00:00 UTC
abbrev pub input_nanos : ℕ
input_nanos = 946_684_800 * 1_000_000_000
