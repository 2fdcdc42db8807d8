-- The top that a leaf computes with the digests beside its way.
use Rattle.std.proofs.Common.{◌≡◌, ℕ, zero, suc, ◌+◌, ◌-◌, ◌^◌, ◌<◌, ◌≤◌, List, [], ◌∷◌, ◌++◌, length, take, drop, get_or, refl, sym, ap, subst, ◌∙◌, inl, inr, arith, length-append, length-drop}
use Rattle.std.specs.List.{AllByRecursion}
use Rattle.std.proofs.lemmas.Bool.{cases_lt}
use Rattle.std.proofs.lemmas.List.{get_or-take, get_or-drop, length-take-le}
use Rattle.sha2.specs.Sha256.{sha256}
use Rattle.sha2.proofs.Facts256.{length-sha256}
use Rattle.tree_values.specs.Lists.{IsIn}
use Rattle.rs_parity.specs.Sketches.{Distinct}
use Rattle.tree_proof.specs.Tops.{Digest, pair_text, pair_of, top_within, way_within, beside_within, front_of, topmost, climbed_within}
use Rattle.tree_proof.specs.Texts.{top_texts, way_texts}
use Rattle.vol_tree.proofs.Behind.{IsIn-left, IsIn-right}
use Rattle.tree_proof.proofs.Lists.{same_fronts, all_taken, all_dropped, all_got, all_both, last_behind, front_before}
use Rattle.tree_proof.proofs.Levels.{top_low, top_high, texts_low, texts_high, way_low, way_left, way_right, beside_low, beside_left, beside_right, climbed_low, climbed_left, climbed_right, way_texts_low, way_texts_left, way_texts_right}

-- a digest has 32 bytes
abbrev pub IsDigest : List ℕ → Type 0
IsDigest digest = length digest ≡ 32

-- twice half of them
pub doubled : (levels : ℕ) → 2 ^ suc levels ≡ 2 ^ levels + 2 ^ levels
doubled levels = omega arith

pub some_of : (levels : ℕ) → 0 < 2 ^ levels
some_of zero = omega arith
some_of (suc levels) = let less = some_of levels in omega (arith, less)

-- ---- how many stand beside a way

pub beside_length : (levels : ℕ) (digests : List Digest) (place : ℕ) → length (beside_within levels digests place) ≡ way_within levels (length digests) place
unfolding beside_within way_within
beside_length zero digests place = refl
beside_length (suc levels) digests place =
    elim (cases_lt (2 ^ levels) (length digests)) [
      | inr le ↦ rw (beside_low levels digests place le, way_low levels (length digests) place le) (beside_length levels digests place)
      | inl lt ↦ elim (cases_lt place (2 ^ levels)) [
        | inl left ↦
            let low = length-take-le (2 ^ levels) digests (omega arith) in
            let one = beside_length levels (take (2 ^ levels) digests) place in
            rw (beside_left levels digests place lt left, way_left levels (length digests) place lt left)
            (length-append (beside_within levels (take (2 ^ levels) digests) place) (top_within levels (drop (2 ^ levels) digests) ∷ [])
            ∙ ap (λ n. n + 1) (one ∙ ap (λ n. way_within levels n place) low))
        | inr right ↦
            let high = length-drop (2 ^ levels) digests in
            let one = beside_length levels (drop (2 ^ levels) digests) (place - 2 ^ levels) in
            rw (beside_right levels digests place lt right, way_right levels (length digests) place lt right)
            (length-append (beside_within levels (drop (2 ^ levels) digests) (place - 2 ^ levels)) (top_within levels (take (2 ^ levels) digests) ∷ [])
            ∙ ap (λ n. n + 1) (one ∙ ap (λ n. way_within levels n (place - 2 ^ levels)) high))
      ]
    ]

-- ---- digests are digests

pub pair_is_digest : (left right : Digest) → IsDigest (pair_of left right)
pair_is_digest left right = length-sha256 (pair_text left right)

pub top_is_digest : (levels : ℕ) (digests : List Digest) → 0 < length digests → AllByRecursion IsDigest digests → IsDigest (top_within levels digests)
unfolding top_within
top_is_digest zero digests some all = all_got IsDigest digests 0 [] all some
top_is_digest (suc levels) digests some all =
    elim (cases_lt (2 ^ levels) (length digests)) [
      | inr le ↦ rw (top_low levels digests le) (top_is_digest levels digests some all)
      | inl lt ↦ rw (top_high levels digests lt) (pair_is_digest (top_within levels (take (2 ^ levels) digests)) (top_within levels (drop (2 ^ levels) digests)))
    ]

pub climbed_is_digest : (levels count place : ℕ) (leaf : Digest) (beside : List Digest) → IsDigest leaf → IsDigest (climbed_within levels count place leaf beside)
unfolding climbed_within
climbed_is_digest zero count place leaf beside is = is
climbed_is_digest (suc levels) count place leaf beside is =
    elim (cases_lt (2 ^ levels) count) [
      | inr le ↦ rw (climbed_low levels count place leaf beside le) (climbed_is_digest levels count place leaf beside is)
      | inl lt ↦ elim (cases_lt place (2 ^ levels)) [
        | inl left ↦ rw (climbed_left levels count place leaf beside lt left) (pair_is_digest (climbed_within levels (2 ^ levels) place leaf (front_of beside)) (topmost beside))
        | inr right ↦ rw (climbed_right levels count place leaf beside lt right) (pair_is_digest (topmost beside) (climbed_within levels (count - 2 ^ levels) (place - 2 ^ levels) leaf (front_of beside)))
      ]
    ]

pub beside_are_digests : (levels : ℕ) (digests : List Digest) (place : ℕ) → AllByRecursion IsDigest digests → AllByRecursion IsDigest (beside_within levels digests place)
unfolding beside_within
beside_are_digests zero digests place all = tt
beside_are_digests (suc levels) digests place all =
    elim (cases_lt (2 ^ levels) (length digests)) [
      | inr le ↦ rw (beside_low levels digests place le) (beside_are_digests levels digests place all)
      | inl more ↦ elim (cases_lt place (2 ^ levels)) [
        | inl left ↦
            rw (beside_left levels digests place more left)
            (all_both IsDigest (beside_within levels (take (2 ^ levels) digests) place) (top_within levels (drop (2 ^ levels) digests) ∷ []) (beside_are_digests levels (take (2 ^ levels) digests) place (all_taken IsDigest (2 ^ levels) digests all))
            (top_is_digest levels (drop (2 ^ levels) digests) (omega (arith, length-drop (2 ^ levels) digests)) (all_dropped IsDigest (2 ^ levels) digests all), tt))
        | inr right ↦
            rw (beside_right levels digests place more right)
            (all_both IsDigest (beside_within levels (drop (2 ^ levels) digests) (place - 2 ^ levels)) (top_within levels (take (2 ^ levels) digests) ∷ []) (beside_are_digests levels (drop (2 ^ levels) digests) (place - 2 ^ levels) (all_dropped IsDigest (2 ^ levels) digests all))
            (top_is_digest levels (take (2 ^ levels) digests) (omega (arith, length-take-le (2 ^ levels) digests (omega arith), some_of levels)) (all_taken IsDigest (2 ^ levels) digests all), tt))
      ]
    ]

-- ---- a digest with those beside its way computes the top

pub climbs : (levels : ℕ) (digests : List Digest) (place : ℕ) → place < length digests → length digests ≤ 2 ^ levels
    → climbed_within levels (length digests) place (get_or digests place []) (beside_within levels digests place) ≡ top_within levels digests
unfolding climbed_within top_within
climbs zero digests place lt few = let none : place ≡ 0 = omega arith in rw none refl
climbs (suc levels) digests place lt few =
    elim (cases_lt (2 ^ levels) (length digests)) [
      | inr le ↦ rw (climbed_low levels (length digests) place (get_or digests place []) (beside_within (suc levels) digests place) le, beside_low levels digests place le, top_low levels digests le) (climbs levels digests place lt le)
      | inl more ↦ elim (cases_lt place (2 ^ levels)) [
        | inl left ↦
            let low = length-take-le (2 ^ levels) digests (omega arith) in
            let inner = beside_within levels (take (2 ^ levels) digests) place in
            let other = top_within levels (drop (2 ^ levels) digests) in
            let one = climbs levels (take (2 ^ levels) digests) place (omega (arith, low)) (omega (arith, low)) in
            let below : climbed_within levels (2 ^ levels) place (get_or digests place []) inner ≡ top_within levels (take (2 ^ levels) digests) =
            ap (λ (n : ℕ). climbed_within levels n place (get_or digests place []) inner) (sym low)
            ∙ ap (λ (leaf : Digest). climbed_within levels (length (take (2 ^ levels) digests)) place leaf inner) (sym (get_or-take (2 ^ levels) digests place [] left))
            ∙ one in
            rw (climbed_left levels (length digests) place (get_or digests place []) (beside_within (suc levels) digests place) more left, beside_left levels digests place more left, top_high levels digests more, front_before inner other, last_behind inner other [], below) refl
        | inr right ↦
            let high = length-drop (2 ^ levels) digests in
            let inner = beside_within levels (drop (2 ^ levels) digests) (place - 2 ^ levels) in
            let other = top_within levels (take (2 ^ levels) digests) in
            let one = climbs levels (drop (2 ^ levels) digests) (place - 2 ^ levels) (omega (arith, high)) (omega (arith, high, doubled levels)) in
            let there : 2 ^ levels + (place - 2 ^ levels) ≡ place = omega arith in
            let got : get_or (drop (2 ^ levels) digests) (place - 2 ^ levels) [] ≡ get_or digests place [] =
            get_or-drop (2 ^ levels) digests (place - 2 ^ levels) [] ∙ ap (λ (n : ℕ). get_or digests n []) there in
            let below : climbed_within levels (length digests - 2 ^ levels) (place - 2 ^ levels) (get_or digests place []) inner ≡ top_within levels (drop (2 ^ levels) digests) =
            ap (λ (n : ℕ). climbed_within levels n (place - 2 ^ levels) (get_or digests place []) inner) (sym high)
            ∙ ap (λ (leaf : Digest). climbed_within levels (length (drop (2 ^ levels) digests)) (place - 2 ^ levels) leaf inner) (sym got)
            ∙ one in
            rw (climbed_right levels (length digests) place (get_or digests place []) (beside_within (suc levels) digests place) more right, beside_right levels digests place more right, top_high levels digests more, front_before inner other, last_behind inner other [], below) refl
      ]
    ]

-- ---- only the digest at its place computes the top

pair_parts : (a b c d : Digest) → pair_text a b ≡ pair_text c d → length a ≡ length c → (a ≡ c) × (b ≡ d)
pair_parts a b c d e len = let rest : a ++ b ≡ c ++ d = cc in same_fronts a b c d rest len

-- the right sides are equal where they are equally long
pair_ends : (a b c d : Digest) → pair_text a b ≡ pair_text c d → length b ≡ length d → b ≡ d
pair_ends a b c d e len =
    let rest : a ++ b ≡ c ++ d = cc in
    let fronts : length a ≡ length c = omega (arith, ap length rest, length-append a b, length-append c d, len) in
    (same_fronts a b c d rest fronts).1

pub climbs_alone : (levels : ℕ) (digests : List Digest) (place : ℕ) (leaf : Digest) (beside : List Digest) → place < length digests → length digests ≤ 2 ^ levels
    → IsDigest leaf → AllByRecursion IsDigest digests
    → Distinct (λ text. IsIn text (way_texts levels (length digests) place leaf beside)) (λ text. IsIn text (top_texts levels digests))
    → climbed_within levels (length digests) place leaf beside ≡ top_within levels digests → leaf ≡ get_or digests place []
unfolding climbed_within top_within
climbs_alone zero digests place leaf beside lt few is all apart e = let none : place ≡ 0 = omega arith in rw none e
climbs_alone (suc levels) digests place leaf beside lt few is all apart e =
    elim (cases_lt (2 ^ levels) (length digests)) [
      | inr le ↦
          climbs_alone levels digests place leaf beside lt le is all
          (λ x y here there same. apart x y (rw (way_texts_low levels (length digests) place leaf beside le) here) (rw (texts_low levels digests le) there) same)
          (sym (climbed_low levels (length digests) place leaf beside le) ∙ e ∙ top_low levels digests le)
      | inl more ↦ elim (cases_lt place (2 ^ levels)) [
        | inl left ↦
            let low = length-take-le (2 ^ levels) digests (omega arith) in
            let high = length-drop (2 ^ levels) digests in
            let front = front_of beside in
            let mine = climbed_within levels (2 ^ levels) place leaf front in
            let theirs = top_within levels (take (2 ^ levels) digests) in
            let other = top_within levels (drop (2 ^ levels) digests) in
            let here = way_texts_left levels (length digests) place leaf beside more left in
            let there = texts_high levels digests more in
            let same : sha256 (pair_text mine (topmost beside)) ≡ sha256 (pair_text theirs other) =
            sym (climbed_left levels (length digests) place leaf beside more left) ∙ e ∙ top_high levels digests more in
            let texts : pair_text mine (topmost beside) ≡ pair_text theirs other = apart (pair_text mine (topmost beside)) (pair_text theirs other) (rw here (inl refl)) (rw there (inl refl)) same in
            let parts = pair_parts mine (topmost beside) theirs other texts
            (climbed_is_digest levels (2 ^ levels) place leaf front is ∙ sym (top_is_digest levels (take (2 ^ levels) digests) (omega (arith, low, some_of levels)) (all_taken IsDigest (2 ^ levels) digests all))) in
            let inner = climbs_alone levels (take (2 ^ levels) digests) place leaf front (omega (arith, low)) (omega (arith, low)) is (all_taken IsDigest (2 ^ levels) digests all)
            (λ x y among also.
            apart x y (rw here (inr (subst (λ (n : ℕ). IsIn x (way_texts levels n place leaf front)) low among)))
            (rw there (inr (IsIn-left y (top_texts levels (take (2 ^ levels) digests)) (top_texts levels (drop (2 ^ levels) digests)) also))))
            (ap (λ (n : ℕ). climbed_within levels n place leaf front) low ∙ parts.0) in
            inner ∙ get_or-take (2 ^ levels) digests place [] left
        | inr right ↦
            let low = length-take-le (2 ^ levels) digests (omega arith) in
            let high = length-drop (2 ^ levels) digests in
            let front = front_of beside in
            let mine = climbed_within levels (length digests - 2 ^ levels) (place - 2 ^ levels) leaf front in
            let theirs = top_within levels (drop (2 ^ levels) digests) in
            let other = top_within levels (take (2 ^ levels) digests) in
            let here = way_texts_right levels (length digests) place leaf beside more right in
            let there = texts_high levels digests more in
            let same : sha256 (pair_text (topmost beside) mine) ≡ sha256 (pair_text other theirs) =
            sym (climbed_right levels (length digests) place leaf beside more right) ∙ e ∙ top_high levels digests more in
            let texts : pair_text (topmost beside) mine ≡ pair_text other theirs = apart (pair_text (topmost beside) mine) (pair_text other theirs) (rw here (inl refl)) (rw there (inl refl)) same in
            let parts = pair_ends (topmost beside) mine other theirs texts
            (climbed_is_digest levels (length digests - 2 ^ levels) (place - 2 ^ levels) leaf front is ∙ sym (top_is_digest levels (drop (2 ^ levels) digests) (omega (arith, high)) (all_dropped IsDigest (2 ^ levels) digests all))) in
            let inner = climbs_alone levels (drop (2 ^ levels) digests) (place - 2 ^ levels) leaf front (omega (arith, high)) (omega (arith, high, doubled levels)) is (all_dropped IsDigest (2 ^ levels) digests all)
            (λ x y among also.
            apart x y (rw here (inr (subst (λ (n : ℕ). IsIn x (way_texts levels n (place - 2 ^ levels) leaf front)) high among)))
            (rw there (inr (IsIn-right y (top_texts levels (take (2 ^ levels) digests)) (top_texts levels (drop (2 ^ levels) digests)) also))))
            (ap (λ (n : ℕ). climbed_within levels n (place - 2 ^ levels) leaf front) high ∙ parts) in
            let at : 2 ^ levels + (place - 2 ^ levels) ≡ place = omega arith in
            inner ∙ get_or-drop (2 ^ levels) digests (place - 2 ^ levels) [] ∙ ap (λ (n : ℕ). get_or digests n []) at
      ]
    ]
