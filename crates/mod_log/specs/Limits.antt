-- How much a log holds.
use Rattle.std.specs.Prelude.{ℕ}

-- the entries that are pending
abbrev pub max_entries : ℕ
max_entries = 1024

-- the bytes of all spelled entries that are pending
abbrev pub max_log : ℕ
max_log = 67108864
