-- Bytes that end too early: the field in which they end is the faulty one.
use Rattle.std.specs.Prelude.{◌≡◌, ℕ, ◌+◌, ◌-◌, ◌<◌, ◌≤◌, nat_lt, List, [], ◌∷◌, length, take, sum, Err, if◌then◌else◌}
use Rattle.byte_fields.specs.Field.{Reader}
use Rattle.byte_fields.specs.Codec.{Stands}

-- where the field begins in which a place lies; each field is given by the number of its bytes
abbrev pub start_of : ℕ → List ℕ → ℕ
start_of place [] = 0
start_of place (size ∷ sizes) = (if nat_lt place size then 0 else size + start_of (place - size) sizes)

-- The fields make up the spelling. Where the bytes end inside a value, the field in which they end is the faulty one.
pub record IsCut {A : Type 0} (read : Reader A) (spelling fields : A → List ℕ) (Fits : A → Type 0) : Type 0 where
  pub whole : (x : A) → Fits x → sum (fields x) ≡ length (spelling x)
  pub cut : (bytes : List ℕ) (at : ℕ) (x : A) (next end : ℕ) → Stands bytes at (spelling x) next → Fits x → at ≤ end → end < next
      → read (take end bytes) at ≡ Err (at + start_of (end - at) (fields x))
