-- Numbers that stop at the end of their type.
use Rattle.std.specs.Prelude.{ℕ, min}

-- a number, or the largest that 32 bits hold
abbrev pub as_u32 : ℕ → ℕ
as_u32 n = min n 4294967295

-- a number, or the largest that 64 bits hold
abbrev pub as_u64 : ℕ → ℕ
as_u64 n = min n 18446744073709551615
