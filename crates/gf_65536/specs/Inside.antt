-- What the private functions of this crate give one another.
use Rattle.std.specs.Prelude.{◌≡◌, ℕ, ◌<◌, List, length, slice_index}
use Rattle.gf_65536.specs.Field.{product}

-- entry w is the polynomial product of a and w, for each polynomial w of degree below 4
pub record HasMultiples (a : ℕ) (entries : List ℕ) : Type 0 where
  pub size : length entries ≡ 16
  pub each : (w : ℕ) → w < 16 → slice_index entries w ≡ product 16 a w
