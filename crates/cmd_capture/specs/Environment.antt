-- Variables as a list of pairs, and what setting one does to it.
use Rattle.std.specs.Prelude.{ℕ, Bool, List, [], ◌∷◌, if◌then◌else◌}
use Rattle.std.specs.List.{list_any}
use Rattle.std.specs.Str.{bytes_eq}

-- whether a pair has the key
abbrev pub has_key : List (List ℕ × List ℕ) → List ℕ → Bool
has_key pairs key = list_any (λ pair. bytes_eq key pair.0) pairs

-- the pair with the key takes the value, and a new key goes last
abbrev pub set_pair : List (List ℕ × List ℕ) → List ℕ → List ℕ → List (List ℕ × List ℕ)
set_pair [] key value = (key, value) ∷ []
set_pair (pair ∷ pairs) key value = (if bytes_eq key pair.0 then (pair.0, value) ∷ pairs else pair ∷ set_pair pairs key value)
