-- One exponent more in the search for roots, and the steps of the loops over a row and over powers.
use Rattle.std.proofs.Common.{◌≡◌, ◌≢◌, ℕ, ◌+◌, ◌<◌, ◌≤◌, ◌^◌, ⊎_elim, List, [], ◌∷◌, ◌++◌, length, get_or, drop, sym, ap, ◌∙◌, arith}
use Rattle.std.proofs.lemmas.Bool.{cases_eq, cases_lt}
use Rattle.std.proofs.lemmas.List.{length_push, get_or_push, get_or_append_left, drop_more}
use Rattle.std.specs.Int.Bits.{bit_xor}
use Rattle.gf_65536.specs.Field.{gf_mul, gf_pow}
use Rattle.rs_repair.specs.Inside.{value, AreRoots}

pub roots_start : (row : List ℕ) (items : List ℕ) → ((k : ℕ) → get_or row k 0 < 2 ^ 16) → items ≡ [] → AreRoots row 32 items
roots_start row items h e = record {
  coefficients = h;
  each = λ i h. absurd (omega (arith, ap length e));
  ordered = λ i j l h. absurd (omega (arith, ap length e));
  complete = λ e from to z. absurd (omega arith);
}

pub roots_skip : (row items : List ℕ) (e : ℕ) → AreRoots row e items → value row (gf_pow 2 e) ≢ 0 → AreRoots row (e + 1) items
roots_skip row items e r some = record {
  coefficients = r.coefficients;
  each = λ i h. let a = r.each i h in (omega (arith, a.0), a.1);
  ordered = r.ordered;
  complete = λ k from to z. ⊎_elim (λ same. absurd (some (ap (λ n. value row (gf_pow 2 n)) (sym same) ∙ z))) (λ ne. r.complete k from (omega arith) z) (cases_eq k e);
}

module _ (row items : List ℕ) (e : ℕ) (r : AreRoots row e items) (zero_at : value row (gf_pow 2 e) ≡ 0) where
  old_at : (i : ℕ) → i < length items → get_or (items ++ e ∷ []) i 0 ≡ get_or items i 0
  old_at i h = get_or_append_left items (e ∷ []) 0 i h

  last_at : (i : ℕ) → length items ≤ i → i < length (items ++ e ∷ []) → get_or (items ++ e ∷ []) i 0 ≡ e
  last_at i from to = get_or_push items e 0 i (omega (arith, length_push items e))

  pub roots_push : AreRoots row (e + 1) (items ++ e ∷ [])
  roots_push = record {
    coefficients = r.coefficients;
    each = λ i h. ⊎_elim
        (λ l. let a = r.each i l in (omega (arith, a.0, old_at i l), ap (λ n. value row (gf_pow 2 n)) (old_at i l) ∙ a.1))
        (λ past. (omega (arith, last_at i past h), ap (λ n. value row (gf_pow 2 n)) (last_at i past h) ∙ zero_at)) (cases_lt i (length items));
    ordered = λ i j l h. ⊎_elim
        (λ jl. omega (arith, r.ordered i j l jl, old_at i (omega arith), old_at j jl))
        (λ past. let il : i < length items = omega (arith, length_push items e) in omega (arith, old_at i il, last_at j past h, (r.each i il).0)) (cases_lt j (length items));
    complete = λ k from to z. ⊎_elim
        (λ same. (length items, omega (arith, length_push items e), last_at (length items) (omega arith) (omega (arith, length_push items e)) ∙ sym same))
        (λ ne. let a = r.complete k from (omega arith) z in (a.0, omega (arith, a.1, length_push items e), old_at a.0 a.1 ∙ a.2)) (cases_eq k e);
  }

-- one coefficient more
pub value_more : (row : List ℕ) (x i : ℕ) → i < length row → bit_xor (get_or row i 0) (gf_mul x (value (drop (i + 1) row) x)) ≡ value (drop i row) x
unfolding value
value_more row x i h = sym (ap (λ r. value r x) (drop_more row i 0 h))
