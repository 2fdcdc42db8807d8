-- What the private functions of the encoder give one another: rows of multiples of the polynomial whose roots are the powers 1
-- to 32 of the element 2.
use Rattle.std.specs.Prelude.{◌≡◌, ℕ, ◌+◌, ◌*◌, ◌<◌, List, [], ◌∷◌, length, slice_index, slice_index_or, bit_xor}
use Rattle.gf_65536.specs.Field.{gf_mul}

-- the coefficients of that polynomial, the highest first, without the first, which is 1
abbrev pub generator : List ℕ
generator =
    0x12AA ∷ 0x167D ∷ 0xA5A0 ∷ 0xCCEB ∷ 0xDF89 ∷ 0x96C5 ∷ 0x030A ∷ 0x1FD3 ∷ 0x4192 ∷ 0xC681 ∷ 0xD3DD ∷ 0x10F4 ∷ 0xAA9A ∷ 0x5BEA ∷
    0x6DA9 ∷ 0x534B
    ∷ 0xFD9B ∷ 0xCF2B ∷ 0x9B20 ∷ 0x92E5 ∷ 0xCC6F ∷ 0x7AD6 ∷ 0x6CB2 ∷ 0x951E ∷ 0x638F ∷ 0x58CD ∷ 0xADE1 ∷ 0xF339 ∷ 0x5DCF ∷ 0xEE9F ∷
    0xDB3C ∷ 0x8720 ∷ []

-- a row of the multiples of the generator's coefficients by one factor
pub record IsMultiple (factor : ℕ) (row : List ℕ) : Type 0 where
  pub length_is : length row ≡ 32
  pub each : (k : ℕ) → k < 32 → slice_index row k ≡ gf_mul factor (slice_index generator k)

-- row b has the multiples by b * scale, for each byte b
pub record IsTable (scale : ℕ) (rows : List (List ℕ)) : Type 0 where
  pub length_is : length rows ≡ 256
  pub each : (b : ℕ) → b < 256 → IsMultiple (b * scale) (slice_index_or rows b [])

-- the sum of two rows and of a word moved up by a place
pub record IsMovedSum (word high low moved : List ℕ) : Type 0 where
  pub length_is : length moved ≡ 32
  pub each : (k : ℕ) → k < 32 → slice_index moved k ≡ bit_xor (bit_xor (slice_index word (k + 1)) (slice_index high k)) (slice_index low k)
