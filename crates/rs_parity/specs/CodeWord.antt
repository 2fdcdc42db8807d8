-- The words of the Reed-Solomon code with 32 check symbols over the field of 65,536 elements.
use Rattle.std.specs.Prelude.{◌≡◌, ℕ, ◌+◌, ◌*◌, ◌≤◌, List, [], ◌∷◌, length, bit_xor}
use Rattle.gf_65536.specs.Field.{gf_mul, gf_pow}

-- the symbols of a block: its big-endian pairs of bytes; an odd last byte is followed by a zero byte
unfoldable pub symbols : List ℕ → List ℕ
symbols [] = []
symbols (high ∷ []) = high * 256 ∷ []
symbols (high ∷ low ∷ bytes) = (high * 256 + low) ∷ symbols bytes

-- the sum over s of w_s * 2 ^ (j * (L - 1 - s)), for the symbols w_0 .. w_(L-1): the word's polynomial at the point 2 ^ j
unfoldable pub sum_at : ℕ → List ℕ → ℕ
sum_at j [] = 0
sum_at j (w ∷ ws) = bit_xor (gf_mul w (gf_pow 2 (j * length ws))) (sum_at j ws)

-- the word's polynomial vanishes at the points 2 ^ 1 to 2 ^ 32
pub record IsCodeWord (ws : List ℕ) : Type 0 where
  pub vanishes : (j : ℕ) → 1 ≤ j → j ≤ 32 → sum_at j ws ≡ 0
