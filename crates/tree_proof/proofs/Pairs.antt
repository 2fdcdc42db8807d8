-- The top of digests is that of a pair, whose left side has the greatest power of two below their number.
use Rattle.std.proofs.Common.{◌≡◌, ℕ, zero, suc, ◌+◌, ◌^◌, ◌<◌, ◌≤◌, List, [], ◌∷◌, length, take, drop, refl, sym, ap, subst, ◌∙◌, inl, inr, arith, ◌-◌, length-drop}
use Rattle.std.proofs.lemmas.List.{length-take-le}
use Rattle.std.proofs.lemmas.Bool.{cases_lt}
use Rattle.tree_values.specs.Limits.{max_rows}
use Rattle.tree_proof.specs.Limits.{most_levels}
use Rattle.tree_proof.specs.Tops.{Digest, pair_of, top_within, top}
use Rattle.tree_proof.specs.Laws.{TopsAreOfPairs}
use Rattle.tree_proof.proofs.Levels.{top_low, top_high}
use Rattle.tree_proof.proofs.Climbing.{doubled}

power_more : (levels extra : ℕ) → 2 ^ levels ≤ 2 ^ (levels + extra)
power_more levels zero = let e : levels + 0 ≡ levels = omega arith in rw e (omega arith)
power_more levels (suc extra) =
    let e : levels + suc extra ≡ suc (levels + extra) = omega arith in
    let less = power_more levels extra in
    rw e (omega (arith, less))

-- levels that are not needed change nothing
more_levels : (levels extra : ℕ) (digests : List Digest) → length digests ≤ 2 ^ levels → top_within (levels + extra) digests ≡ top_within levels digests
more_levels levels zero digests few = let e : levels + 0 ≡ levels = omega arith in rw e refl
more_levels levels (suc extra) digests few =
    let e : levels + suc extra ≡ suc (levels + extra) = omega arith in
    let enough : length digests ≤ 2 ^ (levels + extra) = omega (arith, few, power_more levels extra) in
    rw (e, top_low (levels + extra) digests enough) (more_levels levels extra digests few)

top_is : (levels : ℕ) (digests : List Digest) → levels ≤ most_levels → 0 < length digests → length digests ≤ 2 ^ levels → top digests ≡ top_within levels digests
top_is levels [] le some few = absurd (omega arith)
top_is levels (digest ∷ digests) le some few =
    let e : most_levels ≡ levels + (most_levels - levels) = omega arith in
    ap (λ (n : ℕ). top_within n (digest ∷ digests)) e ∙ more_levels levels (most_levels - levels) (digest ∷ digests) few

exponent_small : (exponent count : ℕ) → count ≤ max_rows → 2 ^ exponent < count → exponent < most_levels
exponent_small exponent count few lt =
    elim (cases_lt exponent most_levels) [
      | inl small ↦ small
      | inr large ↦
          let e : most_levels + (exponent - most_levels) ≡ exponent = omega arith in
          let more : 2 ^ most_levels ≤ 2 ^ exponent = ap-le e (power_more most_levels (exponent - most_levels)) in
          absurd (omega (arith, more, few, lt))
    ]
  where
    ap-le : {a b : ℕ} → a ≡ b → 2 ^ most_levels ≤ 2 ^ a → 2 ^ most_levels ≤ 2 ^ b
    ap-le e le = subst (λ (n : ℕ). 2 ^ most_levels ≤ 2 ^ n) e le

one_top : (digest : Digest) → top_within 0 (digest ∷ []) ≡ digest
unfolding top_within
one_top digest = refl

pub tops_of_pairs : TopsAreOfPairs
tops_of_pairs = record {
  one = λ digest. top_is 0 (digest ∷ []) (omega arith) (omega arith) (omega arith) ∙ one_top digest;
  more = λ digests exponent few lt le.
      let small = exponent_small exponent (length digests) few lt in
      let low = length-take-le (2 ^ exponent) digests (omega arith) in
      let high = length-drop (2 ^ exponent) digests in
      let some : 0 < 2 ^ exponent = powers_are_some exponent in
      top_is (suc exponent) digests (omega arith) (omega arith) (omega (arith, doubled exponent))
      ∙ top_high exponent digests lt
      ∙ (λ i. pair_of (sym (top_is exponent (take (2 ^ exponent) digests) (omega arith) (omega (arith, low)) (omega (arith, low))) i)
      (sym (top_is exponent (drop (2 ^ exponent) digests) (omega arith) (omega (arith, high)) (omega (arith, high))) i));
}
  where
    powers_are_some : (n : ℕ) → 0 < 2 ^ n
    powers_are_some zero = omega arith
    powers_are_some (suc n) = let less = powers_are_some n in omega (arith, less)
