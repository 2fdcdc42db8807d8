-- What a step of the elimination keeps.
use Rattle.std.proofs.Common.{◌≡◌, ◌≢◌, ℕ, zero, suc, ◌+◌, ◌<◌, ◌≤◌, ◌^◌, List, [], ◌∷◌, length, get_or, set, replicate, take, drop, drop-cons, sum, ⊎_elim, refl, sym, ap, ◌∙◌, subst, arith, lit<}
use Rattle.std.proofs.lemmas.List.{get_or_past, drop_more, length-set, get_or-set_same, get_or-set_other}
use Rattle.std.proofs.lemmas.Bool.{cases_lt, cases_eq}
use Rattle.std.proofs.lemmas.Nat.{xor_lt}
use borrow.Author.Count.{below_more}
use Rattle.std.specs.Int.Bits.{bit_xor, xor_self, xor_assoc}
use Rattle.byte_fields.proofs.Facts.{sum_more}
use Rattle.gf_65536.specs.Field.{gf_mul}
use Rattle.gf_65536.proofs.Linear.{xor_swap}
use Rattle.gf_65536.proofs.Product.{mul_left, mul_right, mul_assoc, mul_comm, mul_one, mul_below, mul_zero, zero_mul}
use Rattle.rs_parity.specs.CodeWord.{sum_at}
use Rattle.rs_repair.specs.Inside.{pairing, IsMonicRow, IsPlusMultiple, IsBasis, AreCleared, IsClearedAbove}
use Rattle.rs_repair.proofs.Locate.{annihilated}

-- a multiple added to a row is added to its pairing
pairing_plus : (row other new ss : List ℕ) (factor : ℕ) → length row ≡ length new → length other ≡ length new
    → ((k : ℕ) → k < length new → get_or new k 0 ≡ bit_xor (get_or row k 0) (gf_mul factor (get_or other k 0)))
    → pairing new ss ≡ bit_xor (pairing row ss) (gf_mul factor (pairing other ss))
unfolding pairing
pairing_plus [] [] [] ss factor er eo each = sym (mul_zero factor)
pairing_plus [] [] (c ∷ new) ss factor er eo each = absurd (omega arith)
pairing_plus [] (b ∷ other) [] ss factor er eo each = absurd (omega arith)
pairing_plus [] (b ∷ other) (c ∷ new) ss factor er eo each = absurd (omega arith)
pairing_plus (a ∷ row) [] new ss factor er eo each = absurd (omega arith)
pairing_plus (a ∷ row) (b ∷ other) [] ss factor er eo each = absurd (omega arith)
pairing_plus (a ∷ row) (b ∷ other) (c ∷ new) [] factor er eo each = sym (mul_zero factor)
pairing_plus (a ∷ row) (b ∷ other) (c ∷ new) (s ∷ ss) factor er eo each =
    (λ i. bit_xor ((ap (λ z. gf_mul z s) (each 0 (omega arith)) ∙ (mul_left s).keeps a (gf_mul factor b) ∙ ap (bit_xor (gf_mul a s)) (mul_assoc factor b s)) i)
    (pairing_plus row other new ss factor (omega arith) (omega arith) (λ k h. each (suc k) (omega arith)) i))
    ∙ xor_swap (gf_mul a s) (gf_mul factor (gf_mul b s)) (pairing row ss) (gf_mul factor (pairing other ss))
    ∙ ap (bit_xor (bit_xor (gf_mul a s) (pairing row ss))) (sym ((mul_right factor).keeps (gf_mul b s) (pairing other ss)))

pub pairing_of : (row other new ss : List ℕ) (factor : ℕ) → IsPlusMultiple row other factor new
    → pairing new ss ≡ bit_xor (pairing row ss) (gf_mul factor (pairing other ss))
pairing_of row other new ss factor plus =
    pairing_plus row other new ss factor (plus.row_size ∙ sym plus.size) (plus.other_size ∙ sym plus.size) (λ k h. plus.each k (omega (arith, plus.size)))

-- the factor is chosen so that the pairing vanishes
pub pairing_cleared : (row other new ss : List ℕ) (i : ℕ) → gf_mul (pairing other ss) i ≡ 1 → pairing row ss < 2 ^ 16
    → IsPlusMultiple row other (gf_mul (pairing row ss) i) new → pairing new ss ≡ 0
pairing_cleared row other new ss i inverse fits plus =
    pairing_of row other new ss (gf_mul (pairing row ss) i) plus
    ∙ ap (bit_xor (pairing row ss)) (mul_assoc (pairing row ss) i (pairing other ss) ∙ ap (gf_mul (pairing row ss)) (mul_comm i (pairing other ss) ∙ inverse) ∙ mul_comm (pairing row ss) 1 ∙ mul_one (pairing row ss) fits)
    ∙ xor_self (pairing row ss)

-- a lower row added to a higher one leaves its top
pub monic_plus : (d e : ℕ) (row other new : List ℕ) (factor : ℕ) → d < e → e < 17 → IsMonicRow e row → IsMonicRow d other → IsPlusMultiple row other factor new → IsMonicRow e new
monic_plus d e row other new factor lower within mr mo plus = record {
  size = plus.size;
  top = plus.each e within ∙ (λ i. bit_xor (mr.top i) (gf_mul factor (mo.above e lower i))) ∙ ap (bit_xor 1) (mul_zero factor);
  above = λ k h. ⊎_elim
      (λ lt. plus.each k lt ∙ (λ i. bit_xor (mr.above k h i) (gf_mul factor (mo.above k (omega arith) i))) ∙ mul_zero factor)
      (λ past. get_or_past new k 0 (omega (arith, plus.size))) (cases_lt k 17);
}

-- the pairing with a word's sums
pub annihilated_pairing : (ls ss ws : List ℕ) (at : ℕ) → at + length ls ≤ length ss → ((i : ℕ) → i < length ss → get_or ss i 0 ≡ sum_at (suc i) ws) → annihilated ls (suc at) ws ≡ pairing ls (drop at ss)
unfolding annihilated pairing
annihilated_pairing [] ss ws at fits same = refl
annihilated_pairing (l ∷ ls) ss ws at fits same =
    (λ i. bit_xor (gf_mul l (sym (same at (omega arith)) i)) (annihilated_pairing ls ss ws (suc at) (omega arith) same i))
    ∙ sym (ap (pairing (l ∷ ls)) (drop-cons ss at 0 (omega arith)))

-- one turn of the pairing's loop
pub pairing_turn : (row sums : List ℕ) (i p total : ℕ) → i < length row → p < length sums
    → bit_xor (bit_xor total (gf_mul (get_or row i 0) (get_or sums p 0))) (pairing (drop (i + 1) row) (drop (p + 1) sums)) ≡ bit_xor total (pairing (drop i row) (drop p sums))
unfolding pairing
pairing_turn row sums i p total hi hp =
    xor_assoc total (gf_mul (get_or row i 0) (get_or sums p 0)) (pairing (drop (i + 1) row) (drop (p + 1) sums))
    ∙ ap (bit_xor total) (sym (λ t. pairing (drop_more row i 0 hi t) (drop_more sums p 0 hp t)))

pub pairing_none : (ss : List ℕ) → pairing [] ss ≡ 0
unfolding pairing
pairing_none ss = refl

pub pairing_short : (ls : List ℕ) → pairing ls [] ≡ 0
unfolding pairing
pairing_short [] = refl
pairing_short (l ∷ ls) = refl

pairing_zeros : (row ss : List ℕ) → ((k : ℕ) → get_or row k 0 ≡ 0) → pairing row ss ≡ 0
unfolding pairing
pairing_zeros [] ss none = refl
pairing_zeros (l ∷ row) [] none = refl
pairing_zeros (l ∷ row) (s ∷ ss) none = (λ i. bit_xor (gf_mul (none 0 i) s) (pairing_zeros row ss (λ k. none (suc k)) i)) ∙ ap (λ z. bit_xor z 0) (zero_mul s)

-- the coefficients above the degree, which are 0, add nothing
pub pairing-take : (d : ℕ) (row ss : List ℕ) → ((k : ℕ) → d < k → get_or row k 0 ≡ 0) → pairing (take (suc d) row) ss ≡ pairing row ss
unfolding pairing
pairing-take d [] ss above = refl
pairing-take zero (l ∷ row) [] above = refl
pairing-take zero (l ∷ row) (s ∷ ss) above = ap (bit_xor (gf_mul l s)) (sym (pairing_zeros row ss (λ k. above (suc k) (omega arith))))
pairing-take (suc d) (l ∷ row) [] above = refl
pairing-take (suc d) (l ∷ row) (s ∷ ss) above = ap (bit_xor (gf_mul l s)) (pairing-take d row ss (λ k h. above (suc k) (omega arith)))

pub pairing_below : (ls ss : List ℕ) → pairing ls ss < 2 ^ 16
unfolding pairing
pairing_below [] ss = lit< tt
pairing_below (l ∷ ls) [] = lit< tt
pairing_below (l ∷ ls) (s ∷ ss) = xor_lt 16 (gf_mul l s) (pairing ls ss) (mul_below l s) (pairing_below ls ss)

zeros_at : (n k : ℕ) → get_or {A = ℕ} (replicate n 0) k 0 ≡ 0
zeros_at zero k = refl
zeros_at (suc n) zero = refl
zeros_at (suc n) (suc k) = zeros_at n k

pub monomial_is : (d : ℕ) → d < 17 → IsMonicRow d (set (replicate 17 0) d 1)
monomial_is d h = record {
  size = length-set (replicate 17 0) d 1;
  top = get_or-set_same (replicate 17 0) d 1 0 h;
  above = λ k l. get_or-set_other (replicate 17 0) d k 1 0 (λ e. absurd (omega arith)) ∙ zeros_at 17 k;
}

-- ---- one place more

sum_mark : (marks : List ℕ) (i : ℕ) → sum (set marks i 1) ≤ sum marks + 1
sum_mark [] i = omega arith
sum_mark (m ∷ ms) zero = omega (arith, sum_more m ms, sum_more 1 ms)
sum_mark (m ∷ ms) (suc i) = omega (arith, sum_mark ms i, sum_more m ms, sum_more m (set ms i 1))

module _ (place pivot : ℕ) (sums : List ℕ) (old new : List (List ℕ)) (marks : List ℕ) (b : IsBasis place sums old marks) (within : pivot < 17)
    (unmarked : get_or marks pivot 0 ≡ 0) (cleared : AreCleared pivot 17 place sums old marks) (above : IsClearedAbove pivot sums place old new) where
  row_of : (i : ℕ) → i < 17 → IsMonicRow i (get_or new i [])
  row_of i h = ⊎_elim
      (λ over. let a = above.cleared i over h in monic_plus pivot i (get_or old i []) (get_or old pivot []) (get_or new i []) a.0 over h (b.rows i h) (b.rows pivot within) a.1)
      (λ under. let e = sym (above.kept i under) in subst (λ (r : List ℕ). IsMonicRow i r) e (b.rows i h)) (cases_lt pivot i)

  zero_of : (i : ℕ) → i < 17 → get_or marks i 0 ≡ 0 → i ≢ pivot → (e : ℕ) → e < place + 1 → pairing (get_or new i []) (drop e sums) ≡ 0
  zero_of i h z ne = below_more (λ e. pairing (get_or new i []) (drop e sums) ≡ 0) place earlier last
    where
      earlier : (e : ℕ) → e < place → pairing (get_or new i []) (drop e sums) ≡ 0
      earlier e l = ⊎_elim
          (λ over. let a = above.cleared i over h in
          pairing_of (get_or old i []) (get_or old pivot []) (get_or new i []) (drop e sums) a.0 a.1
          ∙ (λ t. bit_xor (b.zeros i h z e l t) (gf_mul a.0 (b.zeros pivot within unmarked e l t))) ∙ mul_zero a.0)
          (λ under. ap (λ r. pairing r (drop e sums)) (above.kept i under) ∙ b.zeros i h z e l) (cases_lt pivot i)

      last : pairing (get_or new i []) (drop place sums) ≡ 0
      last = ⊎_elim (λ over. (above.cleared i over h).2)
          (λ under. ap (λ r. pairing r (drop place sums)) (above.kept i under) ∙ cleared i (omega arith) h z (λ e. absurd (omega arith))) (cases_lt pivot i)

  marked : (i : ℕ) → get_or (set marks pivot 1) i 0 ≡ 0 → (i ≢ pivot) × (get_or marks i 0 ≡ 0)
  marked i z = ⊎_elim
      (λ same. let one : ◌≡◌ {A = ℕ} 1 0 = sym (get_or-set_same marks pivot 1 0 (omega (arith, b.marks_size))) ∙ ap (λ k. get_or (set marks pivot 1) k 0) (sym same) ∙ z in absurd (omega arith))
      (λ other. (other, sym (get_or-set_other marks pivot i 1 0 other) ∙ z)) (cases_eq i pivot)

  pub basis_marked : IsBasis (place + 1) sums new (set marks pivot 1)
  basis_marked = record {
    size = above.size;
    marks_size = length-set marks pivot 1 ∙ b.marks_size;
    rows = row_of;
    zeros = λ i h z. let m = marked i z in zero_of i h m.1 m.0;
    few_marks = omega (arith, sum_mark marks pivot, b.few_marks);
  }

-- where all marks but the last are set, and the sum is less than their number, the last is not
pub last_unmarked : (marks : List ℕ) (n : ℕ) → length marks ≡ suc n → ((k : ℕ) → k < n → get_or marks k 0 ≢ 0) → sum marks ≤ n → get_or marks n 0 ≡ 0
last_unmarked [] n size set_before few = refl
last_unmarked (m ∷ ms) zero size set_before few = omega (arith, sum_more m ms)
last_unmarked (m ∷ ms) (suc n) size set_before few = last_unmarked ms n (omega arith) (λ k h. set_before (suc k) (omega arith)) (omega (arith, some m (set_before 0 (omega arith)), sum_more m ms))
  where
    some : (x : ℕ) → x ≢ 0 → 1 ≤ x
    some x ne = omega arith
