-- Tags that are compared byte by byte.
use Rattle.std.proofs.Common.{◌≡◌, ◌↔◌, ℕ, ◌+◌, ◌<◌, List, length, take, get_or, bit_or, bit_xor, sym, ap, ◌∙◌, arith, take-take, get_or-take}
use Rattle.std.proofs.lemmas.List.{take_more_same}
use Rattle.std.proofs.lemmas.Nat.{and_le_l, and_le_r}
use lib.Bits.{or_add_and, xor_add_and, xor_self}

-- two numbers crossed are none exactly where they are the same
pub crossed_none : (a b : ℕ) → bit_xor a b ≡ 0 → a ≡ b
crossed_none a b none = omega (arith, none, xor_add_and a b, and_le_l a b, and_le_r a b)

pub either_none : (a b : ℕ) → bit_or a b ≡ 0 → (a ≡ 0) × (b ≡ 0)
either_none a b none =
    (omega (arith, none, or_add_and a b, and_le_l a b, and_le_r a b), omega (arith, none, or_add_and a b, and_le_l a b, and_le_r a b))

both_none : (a b : ℕ) → a ≡ 0 → b ≡ 0 → bit_or a b ≡ 0
both_none a b one other = omega (arith, one, other, or_add_and a b)

-- what was seen of two tags and one byte more of each
pub seen_more : (one other : List ℕ) (i differing : ℕ) → i < length one → i < length other
    → ((differing ≡ 0) ↔ (take i one ≡ take i other))
    → ((bit_or differing (bit_xor (get_or one i 0) (get_or other i 0)) ≡ 0) ↔ (take (i + 1) one ≡ take (i + 1) other))
seen_more one other i differing in_one in_other seen = (same, none)
  where
    a : ℕ
    a = get_or one i 0

    b : ℕ
    b = get_or other i 0

    same : bit_or differing (bit_xor a b) ≡ 0 → take (i + 1) one ≡ take (i + 1) other
    same nothing =
        let parts = either_none differing (bit_xor a b) nothing in
        take_more_same one other i 0 in_one in_other (seen.0 parts.0) (crossed_none a b parts.1)

    none : take (i + 1) one ≡ take (i + 1) other → bit_or differing (bit_xor a b) ≡ 0
    none all =
        let front : take i one ≡ take i other =
        sym (take-take i (i + 1) one (omega arith)) ∙ ap (take i) all ∙ take-take i (i + 1) other (omega arith) in
        let here : a ≡ b =
        sym (get_or-take (i + 1) one i 0 (omega arith)) ∙ ap (λ (l : List ℕ). get_or l i 0) all ∙ get_or-take (i + 1) other i 0 (omega arith) in
        both_none differing (bit_xor a b) (seen.1 front) (ap (λ (x : ℕ). bit_xor x b) here ∙ xor_self b)
