-- The head of a name: its first bytes as one number.
use Rattle.std.specs.Prelude.{ℕ, zero, suc, ◌+◌, ◌*◌, ◌^◌, List, [], ◌∷◌}

-- how many bytes a head has
abbrev pub head_bytes : ℕ
head_bytes = 8

-- the number of the first n bytes of a name, the first byte highest; behind the name's end are zeros
abbrev pub name_head : ℕ → List ℕ → ℕ
name_head zero name = 0
name_head (suc n) [] = 0
name_head (suc n) (byte ∷ rest) = byte * 256 ^ n + name_head n rest
