-- The definitions over levels, one case each.
use Rattle.std.proofs.Common.{◌≡◌, ℕ, suc, ◌+◌, ◌-◌, ◌^◌, ◌<◌, ◌≤◌, List, [], ◌∷◌, ◌++◌, length, take, drop, get_or, refl, subst, ap, ◌∙◌, sym, inl, inr, append_assoc, arith}
use Rattle.std.proofs.lemmas.Bool.{cases_lt}
use Rattle.std.proofs.lemmas.List.{length-take-le, append-nil}
use Rattle.std.proofs.lemmas.List.Concat.{flat_map-cons}
use Rattle.byte_fields.proofs.Facts.{le_holds, le_fails, lt_holds, lt_fails}
use Rattle.tree_proof.specs.Tops.{Digest, pair_text, pair_of, top_within, way_within, beside_within, front_of, topmost, climbed_within}
use Rattle.tree_proof.specs.Texts.{top_texts, way_texts}
use Rattle.tree_proof.specs.Certificate.{digests_spelling}

-- ---- tops

pub top_low : (levels : ℕ) (digests : List Digest) → length digests ≤ 2 ^ levels → top_within (suc levels) digests ≡ top_within levels digests
unfolding top_within
top_low levels digests le = rw (le_holds _ _ le) refl

pub top_high : (levels : ℕ) (digests : List Digest) → 2 ^ levels < length digests
    → top_within (suc levels) digests ≡ pair_of (top_within levels (take (2 ^ levels) digests)) (top_within levels (drop (2 ^ levels) digests))
unfolding top_within
top_high levels digests lt = rw (le_fails _ _ lt) refl

pub texts_low : (levels : ℕ) (digests : List Digest) → length digests ≤ 2 ^ levels → top_texts (suc levels) digests ≡ top_texts levels digests
unfolding top_texts
texts_low levels digests le = rw (le_holds _ _ le) refl

pub texts_high : (levels : ℕ) (digests : List Digest) → 2 ^ levels < length digests
    → top_texts (suc levels) digests ≡ pair_text (top_within levels (take (2 ^ levels) digests)) (top_within levels (drop (2 ^ levels) digests))
    ∷ (top_texts levels (take (2 ^ levels) digests) ++ top_texts levels (drop (2 ^ levels) digests))
unfolding top_texts
texts_high levels digests lt = rw (le_fails _ _ lt) refl

-- ---- ways

pub way_low : (levels count place : ℕ) → count ≤ 2 ^ levels → way_within (suc levels) count place ≡ way_within levels count place
unfolding way_within
way_low levels count place le = rw (le_holds _ _ le) refl

pub way_left : (levels count place : ℕ) → 2 ^ levels < count → place < 2 ^ levels → way_within (suc levels) count place ≡ way_within levels (2 ^ levels) place + 1
unfolding way_within
way_left levels count place lt left = rw (le_fails _ _ lt, lt_holds _ _ left) refl

pub way_right : (levels count place : ℕ) → 2 ^ levels < count → 2 ^ levels ≤ place
    → way_within (suc levels) count place ≡ way_within levels (count - 2 ^ levels) (place - 2 ^ levels) + 1
unfolding way_within
way_right levels count place lt right = rw (le_fails _ _ lt, lt_fails _ _ right) refl

-- ---- what stands beside

pub beside_low : (levels : ℕ) (digests : List Digest) (place : ℕ) → length digests ≤ 2 ^ levels → beside_within (suc levels) digests place ≡ beside_within levels digests place
unfolding beside_within
beside_low levels digests place le = rw (le_holds _ _ le) refl

pub beside_left : (levels : ℕ) (digests : List Digest) (place : ℕ) → 2 ^ levels < length digests → place < 2 ^ levels
    → beside_within (suc levels) digests place ≡ beside_within levels (take (2 ^ levels) digests) place ++ top_within levels (drop (2 ^ levels) digests) ∷ []
unfolding beside_within
beside_left levels digests place lt left = rw (le_fails _ _ lt, lt_holds _ _ left) refl

pub beside_right : (levels : ℕ) (digests : List Digest) (place : ℕ) → 2 ^ levels < length digests → 2 ^ levels ≤ place
    → beside_within (suc levels) digests place ≡ beside_within levels (drop (2 ^ levels) digests) (place - 2 ^ levels) ++ top_within levels (take (2 ^ levels) digests) ∷ []
unfolding beside_within
beside_right levels digests place lt right = rw (le_fails _ _ lt, lt_fails _ _ right) refl

-- ---- what is computed

pub climbed_low : (levels count place : ℕ) (leaf : Digest) (beside : List Digest) → count ≤ 2 ^ levels
    → climbed_within (suc levels) count place leaf beside ≡ climbed_within levels count place leaf beside
unfolding climbed_within
climbed_low levels count place leaf beside le = rw (le_holds _ _ le) refl

pub climbed_left : (levels count place : ℕ) (leaf : Digest) (beside : List Digest) → 2 ^ levels < count → place < 2 ^ levels
    → climbed_within (suc levels) count place leaf beside ≡ pair_of (climbed_within levels (2 ^ levels) place leaf (front_of beside)) (topmost beside)
unfolding climbed_within
climbed_left levels count place leaf beside lt left = rw (le_fails _ _ lt, lt_holds _ _ left) refl

pub climbed_right : (levels count place : ℕ) (leaf : Digest) (beside : List Digest) → 2 ^ levels < count → 2 ^ levels ≤ place
    → climbed_within (suc levels) count place leaf beside ≡ pair_of (topmost beside) (climbed_within levels (count - 2 ^ levels) (place - 2 ^ levels) leaf (front_of beside))
unfolding climbed_within
climbed_right levels count place leaf beside lt right = rw (le_fails _ _ lt, lt_fails _ _ right) refl

pub way_texts_low : (levels count place : ℕ) (leaf : Digest) (beside : List Digest) → count ≤ 2 ^ levels
    → way_texts (suc levels) count place leaf beside ≡ way_texts levels count place leaf beside
unfolding way_texts
way_texts_low levels count place leaf beside le = rw (le_holds _ _ le) refl

pub way_texts_left : (levels count place : ℕ) (leaf : Digest) (beside : List Digest) → 2 ^ levels < count → place < 2 ^ levels
    → way_texts (suc levels) count place leaf beside ≡ pair_text (climbed_within levels (2 ^ levels) place leaf (front_of beside)) (topmost beside)
    ∷ way_texts levels (2 ^ levels) place leaf (front_of beside)
unfolding way_texts
way_texts_left levels count place leaf beside lt left = rw (le_fails _ _ lt, lt_holds _ _ left) refl

pub way_texts_right : (levels count place : ℕ) (leaf : Digest) (beside : List Digest) → 2 ^ levels < count → 2 ^ levels ≤ place
    → way_texts (suc levels) count place leaf beside ≡ pair_text (topmost beside) (climbed_within levels (count - 2 ^ levels) (place - 2 ^ levels) leaf (front_of beside))
    ∷ way_texts levels (count - 2 ^ levels) (place - 2 ^ levels) leaf (front_of beside)
unfolding way_texts
way_texts_right levels count place leaf beside lt right = rw (le_fails _ _ lt, lt_fails _ _ right) refl

-- ---- the same at levels that are not 0

one_less : (levels : ℕ) → 0 < levels → suc (levels - 1) ≡ levels
one_less levels some = omega arith

pub top_none : (digests : List Digest) → top_within 0 digests ≡ get_or digests 0 []
unfolding top_within
top_none digests = refl

pub top_low_at : (levels : ℕ) (digests : List Digest) → 0 < levels → length digests ≤ 2 ^ (levels - 1) → top_within levels digests ≡ top_within (levels - 1) digests
top_low_at levels digests some le = subst (λ (n : ℕ). top_within n digests ≡ top_within (levels - 1) digests) (one_less levels some) (top_low (levels - 1) digests le)

pub top_high_at : (levels : ℕ) (digests : List Digest) → 0 < levels → 2 ^ (levels - 1) < length digests
    → top_within levels digests ≡ pair_of (top_within (levels - 1) (take (2 ^ (levels - 1)) digests)) (top_within (levels - 1) (drop (2 ^ (levels - 1)) digests))
top_high_at levels digests some lt =
    subst (λ (n : ℕ). top_within n digests ≡ pair_of (top_within (levels - 1) (take (2 ^ (levels - 1)) digests)) (top_within (levels - 1) (drop (2 ^ (levels - 1)) digests)))
    (one_less levels some) (top_high (levels - 1) digests lt)

pub way_none : (count place : ℕ) → way_within 0 count place ≡ 0
unfolding way_within
way_none count place = refl

pub way_low_at : (levels count place : ℕ) → 0 < levels → count ≤ 2 ^ (levels - 1) → way_within levels count place ≡ way_within (levels - 1) count place
way_low_at levels count place some le = subst (λ (n : ℕ). way_within n count place ≡ way_within (levels - 1) count place) (one_less levels some) (way_low (levels - 1) count place le)

pub way_left_at : (levels count place : ℕ) → 0 < levels → 2 ^ (levels - 1) < count → place < 2 ^ (levels - 1)
    → way_within levels count place ≡ way_within (levels - 1) (2 ^ (levels - 1)) place + 1
way_left_at levels count place some lt left =
    subst (λ (n : ℕ). way_within n count place ≡ way_within (levels - 1) (2 ^ (levels - 1)) place + 1) (one_less levels some) (way_left (levels - 1) count place lt left)

pub way_right_at : (levels count place : ℕ) → 0 < levels → 2 ^ (levels - 1) < count → 2 ^ (levels - 1) ≤ place
    → way_within levels count place ≡ way_within (levels - 1) (count - 2 ^ (levels - 1)) (place - 2 ^ (levels - 1)) + 1
way_right_at levels count place some lt right =
    subst (λ (n : ℕ). way_within n count place ≡ way_within (levels - 1) (count - 2 ^ (levels - 1)) (place - 2 ^ (levels - 1)) + 1) (one_less levels some) (way_right (levels - 1) count place lt right)

pub beside_none : (digests : List Digest) (place : ℕ) → beside_within 0 digests place ≡ []
unfolding beside_within
beside_none digests place = refl

pub beside_low_at : (levels : ℕ) (digests : List Digest) (place : ℕ) → 0 < levels → length digests ≤ 2 ^ (levels - 1) → beside_within levels digests place ≡ beside_within (levels - 1) digests place
beside_low_at levels digests place some le =
    subst (λ (n : ℕ). beside_within n digests place ≡ beside_within (levels - 1) digests place) (one_less levels some) (beside_low (levels - 1) digests place le)

pub beside_left_at : (levels : ℕ) (digests : List Digest) (place : ℕ) → 0 < levels → 2 ^ (levels - 1) < length digests → place < 2 ^ (levels - 1)
    → beside_within levels digests place ≡ beside_within (levels - 1) (take (2 ^ (levels - 1)) digests) place ++ top_within (levels - 1) (drop (2 ^ (levels - 1)) digests) ∷ []
beside_left_at levels digests place some lt left =
    subst (λ (n : ℕ). beside_within n digests place ≡ beside_within (levels - 1) (take (2 ^ (levels - 1)) digests) place ++ top_within (levels - 1) (drop (2 ^ (levels - 1)) digests) ∷ [])
    (one_less levels some) (beside_left (levels - 1) digests place lt left)

pub beside_right_at : (levels : ℕ) (digests : List Digest) (place : ℕ) → 0 < levels → 2 ^ (levels - 1) < length digests → 2 ^ (levels - 1) ≤ place
    → beside_within levels digests place ≡ beside_within (levels - 1) (drop (2 ^ (levels - 1)) digests) (place - 2 ^ (levels - 1)) ++ top_within (levels - 1) (take (2 ^ (levels - 1)) digests) ∷ []
beside_right_at levels digests place some lt right =
    subst (λ (n : ℕ). beside_within n digests place ≡ beside_within (levels - 1) (drop (2 ^ (levels - 1)) digests) (place - 2 ^ (levels - 1)) ++ top_within (levels - 1) (take (2 ^ (levels - 1)) digests) ∷ [])
    (one_less levels some) (beside_right (levels - 1) digests place lt right)

pub climbed_none : (count place : ℕ) (leaf : Digest) (beside : List Digest) → climbed_within 0 count place leaf beside ≡ leaf
unfolding climbed_within
climbed_none count place leaf beside = refl

pub climbed_low_at : (levels count place : ℕ) (leaf : Digest) (beside : List Digest) → 0 < levels → count ≤ 2 ^ (levels - 1)
    → climbed_within levels count place leaf beside ≡ climbed_within (levels - 1) count place leaf beside
climbed_low_at levels count place leaf beside some le =
    subst (λ (n : ℕ). climbed_within n count place leaf beside ≡ climbed_within (levels - 1) count place leaf beside) (one_less levels some) (climbed_low (levels - 1) count place leaf beside le)

pub climbed_left_at : (levels count place : ℕ) (leaf : Digest) (beside : List Digest) → 0 < levels → 2 ^ (levels - 1) < count → place < 2 ^ (levels - 1)
    → climbed_within levels count place leaf beside ≡ pair_of (climbed_within (levels - 1) (2 ^ (levels - 1)) place leaf (front_of beside)) (topmost beside)
climbed_left_at levels count place leaf beside some lt left =
    subst (λ (n : ℕ). climbed_within n count place leaf beside ≡ pair_of (climbed_within (levels - 1) (2 ^ (levels - 1)) place leaf (front_of beside)) (topmost beside))
    (one_less levels some) (climbed_left (levels - 1) count place leaf beside lt left)

pub climbed_right_at : (levels count place : ℕ) (leaf : Digest) (beside : List Digest) → 0 < levels → 2 ^ (levels - 1) < count → 2 ^ (levels - 1) ≤ place
    → climbed_within levels count place leaf beside ≡ pair_of (topmost beside) (climbed_within (levels - 1) (count - 2 ^ (levels - 1)) (place - 2 ^ (levels - 1)) leaf (front_of beside))
climbed_right_at levels count place leaf beside some lt right =
    subst (λ (n : ℕ). climbed_within n count place leaf beside ≡ pair_of (topmost beside) (climbed_within (levels - 1) (count - 2 ^ (levels - 1)) (place - 2 ^ (levels - 1)) leaf (front_of beside)))
    (one_less levels some) (climbed_right (levels - 1) count place leaf beside lt right)

-- ---- how many stand below the last

front_length : (beside : List Digest) (n : ℕ) → length beside ≡ n + 1 → length (front_of beside) ≡ n
front_length beside n e = length-take-le (length beside - 1) beside (omega arith) ∙ omega (arith, e)

pub front_left : (levels count place : ℕ) (beside : List Digest) → 0 < levels → 2 ^ (levels - 1) < count → place < 2 ^ (levels - 1)
    → length beside ≡ way_within levels count place → length (front_of beside) ≡ way_within (levels - 1) (2 ^ (levels - 1)) place
front_left levels count place beside some lt left e =
    front_length beside (way_within (levels - 1) (2 ^ (levels - 1)) place) (e ∙ way_left_at levels count place some lt left)

pub front_right : (levels count place : ℕ) (beside : List Digest) → 0 < levels → 2 ^ (levels - 1) < count → 2 ^ (levels - 1) ≤ place
    → length beside ≡ way_within levels count place → length (front_of beside) ≡ way_within (levels - 1) (count - 2 ^ (levels - 1)) (place - 2 ^ (levels - 1))
front_right levels count place beside some lt right e =
    front_length beside (way_within (levels - 1) (count - 2 ^ (levels - 1)) (place - 2 ^ (levels - 1))) (e ∙ way_right_at levels count place some lt right)

-- one stands beside a way that has a pair
pub some_beside : (levels count place : ℕ) (beside : List Digest) → 0 < levels → 2 ^ (levels - 1) < count → length beside ≡ way_within levels count place → 0 < length beside
some_beside levels count place beside some lt e =
    elim (cases_lt place (2 ^ (levels - 1))) [
      | inl left ↦ omega (arith, e, way_left_at levels count place some lt left)
      | inr right ↦ omega (arith, e, way_right_at levels count place some lt right)
    ]

-- ---- digests one after the other

pub digests_push : (digests : List Digest) (last : Digest) → digests_spelling (digests ++ last ∷ []) ≡ digests_spelling digests ++ last
digests_push [] last = flat_map-cons (λ (d : Digest). d) last [] ∙ append-nil last
digests_push (digest ∷ digests) last =
    flat_map-cons (λ (d : Digest). d) digest (digests ++ last ∷ []) ∙ ap (λ (rest : List ℕ). digest ++ rest) (digests_push digests last)
    ∙ sym (append_assoc digest (digests_spelling digests) last) ∙ ap (λ (front : List ℕ). front ++ last) (sym (flat_map-cons (λ (d : Digest). d) digest digests))
