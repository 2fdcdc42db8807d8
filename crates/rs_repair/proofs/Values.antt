-- Where every place of a word that is not 0 is known, the sums give each symbol.
use Rattle.std.proofs.Common.{◌≡◌, ◌≢◌, ℕ, zero, suc, ◌+◌, ◌-◌, ◌*◌, ◌<◌, ◌^◌, ⊎_elim, List, [], ◌∷◌, ◌++◌, length, get_or, refl, sym, ap, ◌∙◌, arith, lit<}
use Rattle.std.proofs.lemmas.Bool.{cases_eq, cases_lt}
use Rattle.std.proofs.lemmas.List.{get_or_past}
use Rattle.std.specs.Int.Bits.{bit_xor, xor_self, xor_zero_r}
use Rattle.gf_65536.specs.Field.{gf_mul, gf_pow}
use Rattle.gf_65536.proofs.Product.{mul_assoc, mul_comm, mul_one, mul_below, mul_zero, zero_mul}
use Rattle.gf_65536.proofs.Inverse.{inverse, no_zero_divisors, same_from_xor}
use Rattle.std.proofs.lemmas.Nat.{xor_lt}
use Rattle.rs_parity.specs.CodeWord.{sum_at}
use Rattle.rs_repair.specs.Inside.{gap, reduced}
use Rattle.rs_parity.specs.Weight.{HasElements}
use Rattle.rs_parity.proofs.Sums.{sum_cons, sum_nil}
use Rattle.rs_parity.proofs.Distance.{times, length-times, times_elements, sum-times, zero_first}

-- the power of place s of a word of n symbols
abbrev pub place_power : ℕ → ℕ → ℕ
place_power n s = gf_pow 2 (n - 1 - s)

pub get_or-times : (x : ℕ) (ws : List ℕ) (s : ℕ) → s < length ws → get_or (times x ws) s 0 ≡ gf_mul (get_or ws s 0) (bit_xor (place_power (length ws) s) x)
unfolding times
get_or-times x [] s h = absurd (omega arith)
get_or-times x (w ∷ ws) zero h = let e : length ws ≡ suc (length ws) - 1 - 0 = omega arith in ap (λ n. gf_mul w (bit_xor (gf_pow 2 n) x)) e
get_or-times x (w ∷ ws) (suc s) h =
    let e : length ws - 1 - s ≡ suc (length ws) - 1 - suc s = omega arith in
    get_or-times x ws s (omega arith) ∙ ap (λ n. gf_mul (get_or ws s 0) (bit_xor (gf_pow 2 n) x)) e

-- a word times each of the factors
unfoldable pub times_all : List ℕ → List ℕ → List ℕ
times_all [] ws = ws
times_all (r ∷ rs) ws = times_all rs (times r ws)

length-times_all : (rs ws : List ℕ) → length (times_all rs ws) ≡ length ws
unfolding times_all
length-times_all [] ws = refl
length-times_all (r ∷ rs) ws = length-times_all rs (times r ws) ∙ length-times r ws

get_or-times_all : (rs ws : List ℕ) (s : ℕ) → HasElements ws → s < length ws → get_or (times_all rs ws) s 0 ≡ gf_mul (get_or ws s 0) (gap (place_power (length ws) s) rs)
unfolding times_all gap
get_or-times_all [] ws s h below = sym (mul_comm (get_or ws s 0) 1 ∙ mul_one (get_or ws s 0) (h s))
get_or-times_all (r ∷ rs) ws s h below =
    get_or-times_all rs (times r ws) s (times_elements r ws) (omega (arith, length-times r ws))
    ∙ (λ i. gf_mul (get_or-times r ws s below i) (gap (place_power (length-times r ws i) s) rs))
    ∙ mul_assoc (get_or ws s 0) (bit_xor (place_power (length ws) s) r) (gap (place_power (length ws) s) rs)

pub gap_zero : (x : ℕ) (rs : List ℕ) (i : ℕ) → i < length rs → get_or rs i 0 ≡ x → gap x rs ≡ 0
unfolding gap
gap_zero x [] i h e = absurd (omega arith)
gap_zero x (r ∷ rs) zero h e = ap (λ z. gf_mul (bit_xor x z) (gap x rs)) e ∙ ap (λ z. gf_mul z (gap x rs)) (xor_self x) ∙ zero_mul (gap x rs)
gap_zero x (r ∷ rs) (suc i) h e = ap (gf_mul (bit_xor x r)) (gap_zero x rs i (omega arith) e) ∙ mul_zero (bit_xor x r)

sum_none : (j : ℕ) (ws : List ℕ) → ((s : ℕ) → get_or ws s 0 ≡ 0) → sum_at j ws ≡ 0
sum_none j [] none = sum_nil j
sum_none j (w ∷ ws) none = zero_first j w ws (none 0) ∙ sum_none j ws (λ s. none (suc s))

-- the first sum of a word with one symbol
sum_alone : (ws : List ℕ) (t : ℕ) → t < length ws → ((s : ℕ) → s ≢ t → get_or ws s 0 ≡ 0) → sum_at 1 ws ≡ gf_mul (get_or ws t 0) (place_power (length ws) t)
sum_alone [] t h alone = absurd (omega arith)
sum_alone (w ∷ ws) zero h alone =
    let e : 1 * length ws ≡ suc (length ws) - 1 - 0 = omega arith in
    sum_cons 1 w ws ∙ (λ i. bit_xor (gf_mul w (gf_pow 2 (e i))) (sum_none 1 ws (λ s. alone (suc s) (λ n. absurd (omega arith))) i)) ∙ xor_zero_r (gf_mul w (place_power (suc (length ws)) 0))
sum_alone (w ∷ ws) (suc t) h alone =
    let e : length ws - 1 - t ≡ suc (length ws) - 1 - suc t = omega arith in
    zero_first 1 w ws (alone 0 (λ n. absurd (omega arith))) ∙ sum_alone ws t (omega arith) (λ s ne. alone (suc s) (λ n. ne (omega arith))) ∙ ap (λ n. gf_mul (get_or ws t 0) (gf_pow 2 n)) e

sum-times_all : (rs ws : List ℕ) (f : ℕ → ℕ) (n j : ℕ) → ((i : ℕ) → i < n + length rs → f i ≡ sum_at (suc i) ws) → j < n → reduced rs f j ≡ sum_at (suc j) (times_all rs ws)
unfolding reduced times_all
sum-times_all [] ws f n j same h = same j (omega arith)
sum-times_all (r ∷ rs) ws f n j same h =
    sum-times_all rs (times r ws) (λ i. bit_xor (f (suc i)) (gf_mul r (f i))) n j
    (λ i hi. (λ t. bit_xor (same (suc i) (omega arith) t) (gf_mul r (same i (omega arith) t))) ∙ sym (sum-times (suc i) r ws)) h

-- the symbol at t, where the factors have the power of every other place that is not 0
pub symbol_from_sums : (rs ws : List ℕ) (f : ℕ → ℕ) (t : ℕ) → HasElements ws → t < length ws
    → ((i : ℕ) → i < 1 + length rs → f i ≡ sum_at (suc i) ws)
    → ((s : ℕ) → s < length ws → s ≢ t → get_or ws s 0 ≢ 0 → (i : ℕ) × (i < length rs) × (get_or rs i 0 ≡ place_power (length ws) s))
    → gf_mul (place_power (length ws) t) (gap (place_power (length ws) t) rs) ≢ 0
    → gf_mul (reduced rs f 0) (gf_pow (gf_mul (place_power (length ws) t) (gap (place_power (length ws) t) rs)) 65534) ≡ get_or ws t 0
symbol_from_sums rs ws f t h below same known apart =
    ap (λ z. gf_mul z (gf_pow scale 65534)) (sum-times_all rs ws f 1 0 same (lit< tt) ∙ sum_alone (times_all rs ws) t (omega (arith, length-times_all rs ws)) vanishing ∙ at_t)
    ∙ mul_assoc (get_or ws t 0) scale (gf_pow scale 65534) ∙ ap (gf_mul (get_or ws t 0)) (inverse scale (mul_below x (gap x rs)) apart) ∙ mul_comm (get_or ws t 0) 1 ∙ mul_one (get_or ws t 0) (h t)
  where
    x : ℕ
    x = place_power (length ws) t

    scale : ℕ
    scale = gf_mul x (gap x rs)

    vanishing : (s : ℕ) → s ≢ t → get_or (times_all rs ws) s 0 ≡ 0
    vanishing s ne = ⊎_elim inside (λ past. get_or_past (times_all rs ws) s 0 (omega (arith, length-times_all rs ws))) (cases_lt s (length ws))
      where
        inside : s < length ws → get_or (times_all rs ws) s 0 ≡ 0
        inside lt =
            get_or-times_all rs ws s h lt
            ∙ ⊎_elim (λ z. ap (λ w. gf_mul w (gap (place_power (length ws) s) rs)) z ∙ zero_mul (gap (place_power (length ws) s) rs))
            (λ some. let found = known s lt ne some in ap (gf_mul (get_or ws s 0)) (gap_zero (place_power (length ws) s) rs found.0 found.1 found.2) ∙ mul_zero (get_or ws s 0))
            (cases_eq (get_or ws s 0) 0)

    at_t : gf_mul (get_or (times_all rs ws) t 0) (place_power (length (times_all rs ws)) t) ≡ gf_mul (get_or ws t 0) scale
    at_t = (λ i. gf_mul (get_or-times_all rs ws t h below i) (place_power (length-times_all rs ws i) t)) ∙ mul_assoc (get_or ws t 0) (gap x rs) x ∙ ap (gf_mul (get_or ws t 0)) (mul_comm (gap x rs) x)

-- factors in two parts
pub reduced-append : (rs ss : List ℕ) (f : ℕ → ℕ) (j : ℕ) → reduced (rs ++ ss) f j ≡ reduced ss (reduced rs f) j
unfolding reduced
reduced-append [] ss f j = refl
reduced-append (r ∷ rs) ss f j = reduced-append rs ss (λ i. bit_xor (f (suc i)) (gf_mul r (f i))) j

pub reduced_same : (rs : List ℕ) (f g : ℕ → ℕ) → ((j : ℕ) → f j ≡ g j) → (j : ℕ) → reduced rs f j ≡ reduced rs g j
unfolding reduced
reduced_same [] f g same j = same j
reduced_same (r ∷ rs) f g same j = reduced_same rs _ _ (λ i t. bit_xor (same (suc i) t) (gf_mul r (same i t))) j

pub reduced_cons : (r : ℕ) (rs : List ℕ) (f : ℕ → ℕ) (j : ℕ) → reduced (r ∷ rs) f j ≡ reduced rs (λ i. bit_xor (f (suc i)) (gf_mul r (f i))) j
unfolding reduced
reduced_cons r rs f j = refl

pub reduced_nil : (f : ℕ → ℕ) (j : ℕ) → reduced [] f j ≡ f j
unfolding reduced
reduced_nil f j = refl

pub gap_below : (x : ℕ) (rs : List ℕ) → gap x rs < 2 ^ 16
unfolding gap
gap_below x [] = lit< tt
gap_below x (r ∷ rs) = mul_below (bit_xor x r) (gap x rs)

pub gap-append : (x : ℕ) (rs ss : List ℕ) → gap x (rs ++ ss) ≡ gf_mul (gap x rs) (gap x ss)
unfolding gap
gap-append x [] ss = sym (mul_one (gap x ss) (gap_below x ss))
gap-append x (r ∷ rs) ss = ap (gf_mul (bit_xor x r)) (gap-append x rs ss) ∙ sym (mul_assoc (bit_xor x r) (gap x rs) (gap x ss))

pub gap_cons : (x r : ℕ) (rs : List ℕ) → gap x (r ∷ rs) ≡ gf_mul (bit_xor x r) (gap x rs)
unfolding gap
gap_cons x r rs = refl

pub gap_nil : (x : ℕ) → gap x [] ≡ 1
unfolding gap
gap_nil x = refl

pub gap_not_zero : (x : ℕ) (rs : List ℕ) → x < 2 ^ 16 → HasElements rs → ((k : ℕ) → k < length rs → get_or rs k 0 ≢ x) → gap x rs ≢ 0
unfolding gap
gap_not_zero x [] hx h apart e = absurd (omega arith)
gap_not_zero x (r ∷ rs) hx h apart e =
    gap_not_zero x rs hx (λ k. h (suc k)) (λ k l. apart (suc k) (omega arith))
    (no_zero_divisors (bit_xor x r) (gap x rs) (xor_lt 16 x r hx (h 0)) (gap_below x rs) (λ z. apart 0 (omega arith) (sym (same_from_xor x r z))) e)
