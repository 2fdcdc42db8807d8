-- What the parts of a command have to be.
use Rattle.std.specs.Prelude.{◌≡◌, ℕ, Bool, true, ◌&&◌, not, ◌==◌, nat_lt, nat_le, List, [], ◌∷◌, length, take, map}
use Rattle.std.specs.List.{list_all, IsDistinct, AllByRecursion}
use Rattle.std.specs.Str.{bytes_eq}
use Rattle.cmd_capture.specs.Limits.{max_template}

-- a byte, and not zero
abbrev pub is_text_byte : ℕ → Bool
is_text_byte b = nat_lt b 256 && not (b == 0)

-- no byte is zero
abbrev pub is_text : List ℕ → Bool
is_text bytes = list_all is_text_byte bytes

-- whether it begins with `/`
abbrev pub is_absolute : List ℕ → Bool
is_absolute bytes = bytes_eq (take 1 bytes) (47 ∷ [])

-- a program's name: a text that begins with `/`
abbrev pub is_program : List ℕ → Bool
is_program bytes = is_text bytes && is_absolute bytes

-- neither zero nor `=`
abbrev pub is_key_byte : ℕ → Bool
is_key_byte b = is_text_byte b && not (b == 61)

-- the key of a variable: at least one byte, none of them zero or `=`
abbrev pub is_key : List ℕ → Bool
is_key bytes = nat_le 1 (length bytes) && list_all is_key_byte bytes

-- neither zero nor `/`
abbrev pub is_pattern_byte : ℕ → Bool
is_pattern_byte b = is_text_byte b && not (b == 47)

-- the bytes of a template: none of them zero or `/`
abbrev pub is_pattern : List ℕ → Bool
is_pattern bytes = list_all is_pattern_byte bytes

-- a template has 1 to 255 bytes
abbrev pub is_template : List ℕ → Bool
is_template bytes = nat_le 1 (length bytes) && (nat_le (length bytes) max_template && is_pattern bytes)

-- a key, and a text as its value
abbrev pub IsVariable : List ℕ × List ℕ → Type 0
IsVariable pair = (is_key pair.0 ≡ true) × (is_text pair.1 ≡ true)

-- variables, none of whose keys is twice
pub record AreVariables (pairs : List (List ℕ × List ℕ)) : Type 0 where
  pub each : AllByRecursion IsVariable pairs
  pub distinct : IsDistinct bytes_eq (map (λ pair. pair.0) pairs)
