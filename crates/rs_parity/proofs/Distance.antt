-- A word with at most m symbols that are not 0 and whose sums at 1 to m are 0 is 0.
use Rattle.std.proofs.Common.{◌≡◌, ◌≢◌, ℕ, zero, suc, ◌+◌, ◌-◌, ◌*◌, ◌<◌, ◌≤◌, ◌^◌, ⊎_elim, List, [], ◌∷◌, length, get_or, cond, eqb, refl, sym, ap, ◌∙◌, subst, arith, lit<}
use Rattle.std.proofs.lemmas.Bool.{cases_eq, eq-eqb, ne_eqb}
use Rattle.std.proofs.lemmas.Grind.{same_number_lists}
use Rattle.std.proofs.lemmas.Nat.{xor_lt}
use Rattle.std.specs.Int.Bits.{bit_xor, xor_self, xor_zero_r}
use Rattle.gf_65536.specs.Field.{gf_mul, gf_pow}
use Rattle.gf_65536.proofs.Linear.{xor_swap}
use Rattle.gf_65536.proofs.Product.{mul_left, mul_right, mul_assoc, mul_comm, mul_below, mul_zero, zero_mul}
use Rattle.gf_65536.proofs.Powers.{pow_add, pow_below, powers_apart, multiple_of_order}
use Rattle.gf_65536.proofs.Inverse.{same_from_xor, no_zero_divisors}
use Rattle.rs_parity.specs.CodeWord.{sum_at}
use Rattle.rs_parity.specs.Weight.{weight, differing, HasElements, CodeWordsAreApart}
use Rattle.rs_parity.proofs.Sums.{sum_cons, sum_nil, sum-zip, zip_sum, length-zip, get_or-zip}

pub once_more : (j n : ℕ) → n + j * n ≡ suc j * n
once_more j n = omega arith

pub power_not_zero : (e : ℕ) → gf_pow 2 e ≢ 0
power_not_zero e none =
    let all : e + 65534 * e ≡ 65535 * e = omega arith in
    let one : ◌≡◌ {A = ℕ} 1 0 = sym (multiple_of_order e) ∙ ap (gf_pow 2) (sym all) ∙ pow_add 2 e (65534 * e) ∙ ap (λ x. gf_mul x (gf_pow 2 (65534 * e))) none ∙ zero_mul (gf_pow 2 (65534 * e)) in
    omega arith

pub weight_zero : (w : ℕ) (ws : List ℕ) → w ≡ 0 → weight (w ∷ ws) ≡ weight ws
unfolding weight
weight_zero zero ws e = refl
weight_zero (suc w) ws e = absurd (omega arith)

pub weight_more : (w : ℕ) (ws : List ℕ) → w ≢ 0 → weight (w ∷ ws) ≡ suc (weight ws)
unfolding weight
weight_more zero ws some = absurd (some refl)
weight_more (suc w) ws some = refl

pub weight_nil : weight [] ≡ 0
unfolding weight
weight_nil = refl

-- a word of weight 0 has no symbol but 0
pub weightless : (ws : List ℕ) → weight ws ≡ 0 → (k : ℕ) → get_or ws k 0 ≡ 0
unfolding weight
weightless [] e k = refl
weightless (zero ∷ ws) e zero = refl
weightless (zero ∷ ws) e (suc k) = weightless ws e k
weightless (suc w ∷ ws) e k = absurd (omega arith)

pub sum_weightless : (j : ℕ) (ws : List ℕ) → weight ws ≡ 0 → sum_at j ws ≡ 0
unfolding weight
sum_weightless j [] e = sum_nil j
sum_weightless j (zero ∷ ws) e = sum_cons j 0 ws ∙ ap (λ z. bit_xor z (sum_at j ws)) (zero_mul (gf_pow 2 (j * length ws))) ∙ sum_weightless j ws e
sum_weightless j (suc w ∷ ws) e = absurd (omega arith)

-- each symbol times the sum of its place's power and x
unfoldable pub times : ℕ → List ℕ → List ℕ
times x [] = []
times x (w ∷ ws) = gf_mul w (bit_xor (gf_pow 2 (length ws)) x) ∷ times x ws

pub length-times : (x : ℕ) (ws : List ℕ) → length (times x ws) ≡ length ws
unfolding times
length-times x [] = refl
length-times x (w ∷ ws) = ap suc (length-times x ws)

pub times_elements : (x : ℕ) (ws : List ℕ) → HasElements (times x ws)
unfolding times
times_elements x [] k = lit< tt
times_elements x (w ∷ ws) zero = mul_below w (bit_xor (gf_pow 2 (length ws)) x)
times_elements x (w ∷ ws) (suc k) = times_elements x ws k

pub sum-times : (j x : ℕ) (ws : List ℕ) → sum_at j (times x ws) ≡ bit_xor (sum_at (suc j) ws) (gf_mul x (sum_at j ws))
unfolding times sum_at
sum-times j x [] = sym (mul_zero x)
sum-times j x (w ∷ ws) =
    (λ i. bit_xor (gf_mul (gf_mul w (bit_xor p x)) (gf_pow 2 (j * length-times x ws i))) (sum-times j x ws i))
    ∙ ap (λ z. bit_xor z (bit_xor (sum_at (suc j) ws) (gf_mul x (sum_at j ws)))) here
    ∙ xor_swap (gf_mul w (gf_pow 2 (suc j * length ws))) (gf_mul x (gf_mul w q)) (sum_at (suc j) ws) (gf_mul x (sum_at j ws))
    ∙ ap (bit_xor (bit_xor (gf_mul w (gf_pow 2 (suc j * length ws))) (sum_at (suc j) ws))) (sym ((mul_right x).keeps (gf_mul w q) (sum_at j ws)))
  where
    p : ℕ
    p = gf_pow 2 (length ws)

    q : ℕ
    q = gf_pow 2 (j * length ws)

    here : gf_mul (gf_mul w (bit_xor p x)) q ≡ bit_xor (gf_mul w (gf_pow 2 (suc j * length ws))) (gf_mul x (gf_mul w q))
    here =
        mul_assoc w (bit_xor p x) q ∙ ap (gf_mul w) ((mul_left q).keeps p x) ∙ (mul_right w).keeps (gf_mul p q) (gf_mul x q)
        ∙ (λ i. bit_xor (gf_mul w ((sym (pow_add 2 (length ws) (j * length ws)) ∙ ap (gf_pow 2) (once_more j (length ws))) i)) ((sym (mul_assoc w x q) ∙ ap (λ z. gf_mul z q) (mul_comm w x) ∙ mul_assoc x w q) i))

-- one symbol that does not vanish
times_weight : (w factor : ℕ) (ws more : List ℕ) → w < 2 ^ 16 → factor < 2 ^ 16 → factor ≢ 0 → weight more ≡ weight ws → weight (gf_mul w factor ∷ more) ≡ weight (w ∷ ws)
times_weight w factor ws more hw hf nonzero rest = ⊎_elim none some (cases_eq w 0)
  where
    none : w ≡ 0 → weight (gf_mul w factor ∷ more) ≡ weight (w ∷ ws)
    none e = weight_zero (gf_mul w factor) more (ap (λ z. gf_mul z factor) e ∙ zero_mul factor) ∙ rest ∙ sym (weight_zero w ws e)

    some : w ≢ 0 → weight (gf_mul w factor ∷ more) ≡ weight (w ∷ ws)
    some ne = weight_more (gf_mul w factor) more (λ z. nonzero (no_zero_divisors w factor hw hf ne z)) ∙ ap suc rest ∙ sym (weight_more w ws ne)

-- where x is no place's power, no symbol vanishes
pub weight-times : (x : ℕ) (ws : List ℕ) → x < 2 ^ 16 → HasElements ws → ((i : ℕ) → i < length ws → gf_pow 2 i ≢ x) → weight (times x ws) ≡ weight ws
unfolding times
weight-times x [] hx h apart = refl
weight-times x (w ∷ ws) hx h apart =
    times_weight w (bit_xor (gf_pow 2 (length ws)) x) ws (times x ws) (h 0) (xor_lt 16 _ _ (pow_below 2 (length ws)) hx)
    (λ z. apart (length ws) (omega arith) (same_from_xor (gf_pow 2 (length ws)) x z)) (weight-times x ws hx (λ k. h (suc k)) (λ i l. apart i (omega arith)))

-- a word whose first symbol is not 0 and whose others vanish has a sum that is not 0
first_alone : (w : ℕ) (ws : List ℕ) → w < 2 ^ 16 → w ≢ 0 → weight ws ≡ 0 → sum_at 1 (w ∷ ws) ≢ 0
first_alone w ws hw some rest none =
    let alone : gf_mul w (gf_pow 2 (1 * length ws)) ≡ 0 =
    sym (sum_cons 1 w ws ∙ ap (bit_xor (gf_mul w (gf_pow 2 (1 * length ws)))) (sum_weightless 1 ws rest) ∙ xor_zero_r (gf_mul w (gf_pow 2 (1 * length ws)))) ∙ none in
    power_not_zero (1 * length ws) (no_zero_divisors w (gf_pow 2 (1 * length ws)) hw (pow_below 2 (1 * length ws)) some alone)

pub zero_first : (j w : ℕ) (ws : List ℕ) → w ≡ 0 → sum_at j (w ∷ ws) ≡ sum_at j ws
zero_first j w ws e = sum_cons j w ws ∙ ap (λ z. bit_xor z (sum_at j ws)) (ap (λ z. gf_mul z (gf_pow 2 (j * length ws))) e ∙ zero_mul (gf_pow 2 (j * length ws)))

first_gone : (w : ℕ) (ws : List ℕ) (j : ℕ) → sum_at j (times (gf_pow 2 (length ws)) (w ∷ ws)) ≡ sum_at j (times (gf_pow 2 (length ws)) ws)
unfolding times
first_gone w ws j = let x = gf_pow 2 (length ws) in zero_first j (gf_mul w (bit_xor x x)) (times x ws) (ap (gf_mul w) (xor_self x) ∙ mul_zero w)

-- the sums of a word and of its first place's multiple
sums_step : (w : ℕ) (ws : List ℕ) (j : ℕ) → sum_at j (w ∷ ws) ≡ 0 → sum_at (suc j) (w ∷ ws) ≡ 0 → sum_at j (times (gf_pow 2 (length ws)) ws) ≡ 0
sums_step w ws j here next =
    let x = gf_pow 2 (length ws) in
    let whole : sum_at j (times x (w ∷ ws)) ≡ 0 = sum-times j x (w ∷ ws) ∙ (λ i. bit_xor (next i) (gf_mul x (here i))) ∙ mul_zero x in
    sym (first_gone w ws j) ∙ whole

pub vanish : (n m : ℕ) (ws : List ℕ) → length ws ≡ n → n ≤ 65535 → HasElements ws → weight ws ≤ m → ((j : ℕ) → 1 ≤ j → j ≤ m → sum_at j ws ≡ 0) → weight ws ≡ 0
vanish n m [] size short h light sums = weight_nil
vanish zero m (w ∷ ws) size short h light sums = absurd (omega arith)
vanish (suc n) m (w ∷ ws) size short h light sums =
    let size' : length ws ≡ n = omega arith in
    ⊎_elim
    (λ e. weight_zero w ws e ∙ vanish n m ws size' (omega arith) (λ k. h (suc k)) (omega (arith, weight_zero w ws e))
    (λ j from to. sym (zero_first j w ws e) ∙ sums j from to))
    (λ some.
    let x = gf_pow 2 (length ws) in
    let same = weight-times x ws (pow_below 2 (length ws)) (λ k. h (suc k)) (λ i l e. below_apart i (length ws) (omega arith) l e) in
    let gone = vanish n (m - 1) (times x ws) (length-times x ws ∙ size') (omega arith) (times_elements x ws) (omega (arith, same, weight_more w ws some))
    (λ j from to. sums_step w ws j (sums j from (omega arith)) (sums (suc j) (omega arith) (omega (arith, weight_more w ws some)))) in
    absurd (first_alone w ws (h 0) some (sym same ∙ gone) (sums 1 (omega arith) (omega (arith, weight_more w ws some)))))
    (cases_eq w 0)
  where
    below_apart : (i k : ℕ) → k < 65535 → i < k → gf_pow 2 i ≡ gf_pow 2 k → ⊥
    below_apart i k hk l e = let same = powers_apart i k (omega arith) hk e in omega arith

-- ---- the distance of code words

one_place : (x y : ℕ) (ws : List ℕ) (n : ℕ) → weight ws ≡ n → weight (bit_xor x y ∷ ws) ≡ cond (eqb x y) 0 1 + n
one_place x y ws n e = ⊎_elim (λ same. weight_zero (bit_xor x y) ws (ap (bit_xor x) (sym same) ∙ xor_self x) ∙ e ∙ omega (arith, ap {B = ℕ} (λ t. cond t 0 1) (eq-eqb x y same)))
    (λ other. weight_more (bit_xor x y) ws (λ z. other (same_from_xor x y z)) ∙ omega (arith, ap {B = ℕ} (λ t. cond t 0 1) (ne_eqb x y other)))
    (cases_eq x y)

pub weight-zip : (a b : List ℕ) → length a ≡ length b → weight (zip_sum a b) ≡ differing a b
unfolding zip_sum differing
weight-zip [] [] e = weight_nil
weight-zip [] (y ∷ b) e = absurd (omega arith)
weight-zip (x ∷ a) [] e = absurd (omega arith)
weight-zip (x ∷ a) (y ∷ b) e = one_place x y (zip_sum a b) (differing a b) (weight-zip a b (omega arith))

pub elements-zip : (a b : List ℕ) → length a ≡ length b → HasElements a → HasElements b → HasElements (zip_sum a b)
elements-zip a b e ha hb k = let same : bit_xor (get_or a k 0) (get_or b k 0) ≡ get_or (zip_sum a b) k 0 = sym (get_or-zip a b k e) in subst (λ z. z < 2 ^ 16) same (xor_lt 16 _ _ (ha k) (hb k))

pub code_words_apart : CodeWordsAreApart
code_words_apart a b size short ha hb wa wb near =
    same_number_lists a b size (λ k h. same_from_xor (get_or a k 0) (get_or b k 0) (sym (get_or-zip a b k size) ∙ weightless (zip_sum a b) nothing k))
  where
    nothing : weight (zip_sum a b) ≡ 0
    nothing = vanish (length a) 32 (zip_sum a b) (length-zip a b size) short (elements-zip a b size ha hb) (omega (arith, weight-zip a b size))
        (λ j from to. sum-zip j a b size ∙ (λ i. bit_xor (wa.vanishes j from to i) (wb.vanishes j from to i)))
