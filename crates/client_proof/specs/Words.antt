-- Roots as words.
use Rattle.std.specs.Prelude.{◌≡◌, ◌↔◌, ℕ, nat_le, Bool, ◌&&◌, ◌||◌, List, length, Option, None, Some, if◌then◌else◌}
use Rattle.std.specs.List.{list_all}
use Rattle.std.specs.Result.{result_ok}
use Rattle.hex.specs.Hex.{decode_sized, encode_lower, IsBytes}

-- a byte `0` to `9`, or `a` to `f`
abbrev pub is_lower_digit : ℕ → Bool
is_lower_digit c = (nat_le 48 c && nat_le c 57) || (nat_le 97 c && nat_le c 102)

-- the 32 bytes that a word spells in 64 such digits, two for each; other words spell none
abbrev pub root_of_word : List ℕ → Option (List ℕ)
root_of_word word = if list_all is_lower_digit word then result_ok (decode_sized word 32) else None

-- ---- law

-- a word tells these bytes exactly where they are a root, and it is their digits
abbrev pub RootsAreWritten : Type 0
RootsAreWritten = (word root : List ℕ) → (root_of_word word ≡ Some root) ↔ (IsBytes root × (length root ≡ 32) × (word ≡ encode_lower root))
