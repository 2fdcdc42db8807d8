-- The entries that are taken of a store stand in it one after the other: their effects are a front of those above the client's last
-- number.
use Rattle.std.proofs.Common.{◌≡◌, ℕ, suc, ◌+◌, ◌<◌, ◌≤◌, Bool, true, false, List, [], ◌∷◌, ◌++◌, length, take, refl, sym, ap, ◌∙◌, arith}
use Rattle.std.specs.Prelude.{nat_lt, nat_le, ◌&&◌, if◌then◌else◌}
use Rattle.std.proofs.lemmas.List.Sums.{sum_by-cons}
use Rattle.byte_fields.proofs.Facts.{lt_of, lt_holds, le_fails, not_le_of}
use Rattle.tree_values.specs.declared.node.Effect.{Effect}
use Rattle.wire_frames.specs.declared.parts.Part.{Part}
use Rattle.wire_frames.specs.Parts.{effects_count}
use Rattle.server_core.specs.Inside.{effects_numbered_above, effects_between}

-- the effects of the entries that are numbered above one number and up to another
abbrev pub effects_of : ℕ → List Part → ℕ → ℕ → List Effect
effects_of number [] above upto = []
effects_of number (part ∷ parts) above upto = (if nat_lt above number && nat_le number upto then part.effects else []) ++ effects_of (number + 1) parts above upto

-- ---- none beyond the last

pub none_between : (number : ℕ) (parts : List Part) (above upto : ℕ) → upto < number → effects_between number parts above upto ≡ 0
none_between number [] above upto past = refl
none_between number (part ∷ parts) above upto past = by (nat_lt above number) (none_between (number + 1) parts above upto (omega (arith, past)))
  where
    by : (b : Bool) → effects_between (number + 1) parts above upto ≡ 0 → (if b && nat_le number upto then length part.effects else 0) + effects_between (number + 1) parts above upto ≡ 0
    by true rest =
        let none : 0 + effects_between (number + 1) parts above upto ≡ 0 = omega (arith, rest) in
        ap (λ (c : Bool). (if c then length part.effects else 0) + effects_between (number + 1) parts above upto) (le_fails number upto past) ∙ none
    by false rest = omega (arith, rest)

pub no_effects : (number : ℕ) (parts : List Part) (above upto : ℕ) → upto < number → effects_of number parts above upto ≡ []
no_effects number [] above upto past = refl
no_effects number (part ∷ parts) above upto past = by (nat_lt above number) (no_effects (number + 1) parts above upto (omega (arith, past)))
  where
    by : (b : Bool) → effects_of (number + 1) parts above upto ≡ [] → (if b && nat_le number upto then part.effects else []) ++ effects_of (number + 1) parts above upto ≡ []
    by true rest = ap (λ (c : Bool). (if c then part.effects else []) ++ effects_of (number + 1) parts above upto) (le_fails number upto past) ∙ rest
    by false rest = rest

-- nothing is above a number and up to it
pub no_effects_here : (number : ℕ) (parts : List Part) (last : ℕ) → effects_of number parts last last ≡ []
no_effects_here number [] last = refl
no_effects_here number (part ∷ parts) last = by (nat_lt last number) refl (no_effects_here (number + 1) parts last)
  where
    by : (b : Bool) → nat_lt last number ≡ b → effects_of (number + 1) parts last last ≡ [] → (if b && nat_le number last then part.effects else []) ++ effects_of (number + 1) parts last last ≡ []
    by true e rest = ap (λ (c : Bool). (if c then part.effects else []) ++ effects_of (number + 1) parts last last) (le_fails number last (lt_of last number e)) ∙ rest
    by false e rest = rest

-- where all are beyond both bounds, which of them they are above does not matter
pub above_either : (number : ℕ) (parts : List Part) (above other upto : ℕ) → above < number → other < number → effects_of number parts above upto ≡ effects_of number parts other upto
above_either number [] above other upto a b = refl
above_either number (part ∷ parts) above other upto a b =
    let same : nat_lt above number ≡ nat_lt other number = lt_holds above number a ∙ sym (lt_holds other number b) in
    ap (λ (c : Bool). (if c && nat_le number upto then part.effects else []) ++ effects_of (number + 1) parts above upto) same
    ∙ ap (λ (rest : List Effect). (if nat_lt other number && nat_le number upto then part.effects else []) ++ rest) (above_either (number + 1) parts above other upto (omega (arith, a)) (omega (arith, b)))

-- ---- a front

take_both : {X : Type 0} (xs ys : List X) (k : ℕ) → take (length xs + k) (xs ++ ys) ≡ xs ++ take k ys
take_both [] ys k = ap (λ n. take n ys) (omega arith)
take_both (x ∷ xs) ys k =
    let e : length (x ∷ xs) + k ≡ suc (length xs + k) = omega arith in
    ap (λ n. take n (x ∷ (xs ++ ys))) e ∙ ap (λ zs. x ∷ zs) (take_both xs ys k)

pub front_taken : (number : ℕ) (parts : List Part) (above upto : ℕ) → take (effects_between number parts above upto) (effects_numbered_above number parts above) ≡ effects_of number parts above upto
front_taken number [] above upto = refl
front_taken number (part ∷ parts) above upto = by (nat_lt above number) refl (nat_le number upto) refl (front_taken (number + 1) parts above upto)
  where
    by : (b : Bool) → nat_lt above number ≡ b → (c : Bool) → nat_le number upto ≡ c
        → take (effects_between (number + 1) parts above upto) (effects_numbered_above (number + 1) parts above) ≡ effects_of (number + 1) parts above upto
        → take ((if b && c then length part.effects else 0) + effects_between (number + 1) parts above upto) ((if b then part.effects else []) ++ effects_numbered_above (number + 1) parts above)
        ≡ (if b && c then part.effects else []) ++ effects_of (number + 1) parts above upto
    by true is true within rest = take_both part.effects (effects_numbered_above (number + 1) parts above) (effects_between (number + 1) parts above upto) ∙ ap (λ zs. part.effects ++ zs) rest
    by true is false within rest =
        let past : upto < number = not_le_of number upto within in
        let none : 0 + effects_between (number + 1) parts above upto ≡ 0 = omega (arith, none_between (number + 1) parts above upto (omega (arith, past))) in
        ap (λ n. take n (part.effects ++ effects_numbered_above (number + 1) parts above)) none ∙ sym (no_effects (number + 1) parts above upto (omega (arith, past)))
    by false is c within rest =
        let none : 0 + effects_between (number + 1) parts above upto ≡ effects_between (number + 1) parts above upto = omega arith in
        ap (λ n. take n (effects_numbered_above (number + 1) parts above)) none ∙ rest

-- ---- counts

-- what is between two numbers is no more than all
pub between_few : (number : ℕ) (parts : List Part) (above upto : ℕ) → effects_between number parts above upto ≤ effects_count parts
between_few number [] above upto = omega arith
between_few number (part ∷ parts) above upto = by (nat_lt above number && nat_le number upto) (between_few (number + 1) parts above upto)
  where
    by : (b : Bool) → effects_between (number + 1) parts above upto ≤ effects_count parts → (if b then length part.effects else 0) + effects_between (number + 1) parts above upto ≤ effects_count (part ∷ parts)
    by true rest =
        let all : effects_count (part ∷ parts) ≡ length part.effects + effects_count parts = sum_by-cons (λ (p : Part). length p.effects) part parts in
        omega (arith, rest, all)
    by false rest =
        let all : effects_count (part ∷ parts) ≡ length part.effects + effects_count parts = sum_by-cons (λ (p : Part). length p.effects) part parts in
        omega (arith, rest, all)
