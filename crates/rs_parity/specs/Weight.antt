-- How many symbols of a word are not 0, and in how many places two words differ.
use Rattle.std.specs.Prelude.{◌≡◌, ℕ, zero, suc, ◌+◌, ◌<◌, ◌≤◌, ◌^◌, ◌==◌, List, [], ◌∷◌, length, slice_index, if◌then◌else◌}
use Rattle.rs_parity.specs.CodeWord.{IsCodeWord}

-- the number of symbols that are not 0
unfoldable pub weight : List ℕ → ℕ
weight [] = 0
weight (zero ∷ ws) = weight ws
weight (suc w ∷ ws) = suc (weight ws)

-- the number of places where two words of one length differ
unfoldable pub differing : List ℕ → List ℕ → ℕ
differing [] bs = 0
differing (a ∷ as') [] = 0
differing (a ∷ as') (b ∷ bs) = (if a == b then 0 else 1) + differing as' bs

-- each symbol is an element of the field
abbrev pub HasElements : List ℕ → Type 0
HasElements ws = (k : ℕ) → slice_index ws k < 2 ^ 16

-- different code words of one length differ in at least 33 places
abbrev pub CodeWordsAreApart : Type 0
CodeWordsAreApart =
    (a b : List ℕ) → length a ≡ length b → length a ≤ 65535 → HasElements a → HasElements b
    → IsCodeWord a → IsCodeWord b → differing a b ≤ 32 → a ≡ b
