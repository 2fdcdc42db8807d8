-- One spelling for each value: what it means that a reader and a spelling belong together.
use Rattle.std.specs.Prelude.{◌≡◌, ℕ, ◌+◌, ◌<◌, ◌≤◌, List, ◌++◌, length, drop, get_or, Ok, Err}
use Rattle.byte_fields.specs.Field.{Reader}

-- the text stands in the bytes from one place to the other
pub record Stands (bytes : List ℕ) (at : ℕ) (text : List ℕ) (next : ℕ) : Type 0 where
  pub here : drop at bytes ≡ text ++ drop next bytes
  pub next_is : next ≡ at + length text
  pub within : next ≤ length bytes

-- each number is a byte
abbrev pub IsBytes : List ℕ → Type 0
IsBytes bytes = (i : ℕ) → get_or bytes i 0 < 256

-- a faulty field begins where the value begins or later, and within the bytes
pub record IsFault (bytes : List ℕ) (at : ℕ) (place : ℕ) : Type 0 where
  pub begins : at ≤ place
  pub within : place ≤ length bytes

-- What is read is spelled so and fits, what fits and is spelled so is read, whatever stands before and after it.
pub record IsCodec {A : Type 0} (read : Reader A) (spelling : A → List ℕ) (Fits : A → Type 0) : Type 0 where
  pub found : (bytes : List ℕ) (at : ℕ) (x : A) (next : ℕ) → IsBytes bytes → at ≤ length bytes
      → read bytes at ≡ Ok (x, next) → Stands bytes at (spelling x) next × Fits x
  pub again : (bytes : List ℕ) (at : ℕ) (x : A) (next : ℕ)
      → Stands bytes at (spelling x) next → Fits x → read bytes at ≡ Ok (x, next)
  pub fault : (bytes : List ℕ) (at : ℕ) (place : ℕ) → IsBytes bytes → at ≤ length bytes
      → read bytes at ≡ Err place → IsFault bytes at place
