-- A number's low bytes are those of the number that wraps at the field's width.
use Rattle.std.proofs.Common.{◌≡◌, ℕ, ◌%◌, arith}
use Rattle.std.specs.Int.{w8, w16, w32}
use Rattle.byte_fields.specs.Field.{digits}

pub wrapped8 : (n : ℕ) → digits w8 (n % 256) ≡ digits w8 n
unfolding digits
wrapped8 n = grind arith

pub wrapped16 : (n : ℕ) → digits w16 (n % 65536) ≡ digits w16 n
unfolding digits
wrapped16 n = grind arith

pub wrapped32 : (n : ℕ) → digits w32 (n % 4294967296) ≡ digits w32 n
unfolding digits
wrapped32 n = grind arith
