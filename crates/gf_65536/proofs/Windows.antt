-- A polynomial product by windows of four coefficients, and its remainder by the quotient.
use Rattle.std.proofs.Common.{◌≡◌, ℕ, zero, suc, ◌+◌, ◌*◌, ◌/◌, ◌%◌, ◌^◌, ◌<◌, ◌≢◌, ⊎_elim, List, ◌∷◌, length, get_or, set, length-set, eqb, ltb, refl, sym, ap, ◌∙◌, arith}
use Rattle.std.proofs.lemmas.Bool.{eqb-true, ltb-true, cases_eq}
use Rattle.std.proofs.lemmas.List.{get_or-set_other}
use Rattle.std.proofs.lemmas.Grind.{get_or-set_at}
use Rattle.std.specs.Int.Bits.{bit_xor}
use Rattle.gf_65536.specs.Field.{product, remainder, gf_mul}
use Rattle.gf_65536.specs.Inside.{HasMultiples}
use Rattle.gf_65536.proofs.Linear.{IsLinear, linear_same, linear_below, linear_zero, linear_id, linear_sum, linear_after, linear_shift, linear_low, linear_high}
use Rattle.gf_65536.proofs.Tests.{all_below, at_below}
use Rattle.gf_65536.proofs.Product.{product_left, product_right, remainder_linear, bilinear_same}

pub low_is : (n : ℕ) → n < 2 ^ 16 → n % 2 ^ 16 ≡ n
low_is n h = omega arith

-- the field's product is the remainder of the polynomial product
pub mul_is : (a b : ℕ) → a < 2 ^ 16 → b < 2 ^ 16 → gf_mul a b ≡ remainder 15 (product 16 a b)
unfolding gf_mul
mul_is a b ha hb = λ i. remainder 15 (product 16 (low_is a ha i) (low_is b hb i))

-- the four coefficients of b from coefficient k on, times a, moved to their place
abbrev pub window : ℕ → ℕ → ℕ → ℕ
window k a b = product 16 a (b / 2 ^ k % 2 ^ 4) * 2 ^ k % 2 ^ 32

window_left : (k b : ℕ) → IsLinear (λ a. window k a b)
window_left k b = linear_after (linear_low 32) (linear_after (linear_shift k) (product_left 16 (b / 2 ^ k % 2 ^ 4)))

window_right : (k a : ℕ) → IsLinear (window k a)
window_right k a = linear_after (linear_low 32) (linear_after (linear_shift k) (linear_after (product_right 16 a) (linear_after (linear_low 4) (linear_high k))))

abbrev pub windows : ℕ → ℕ → ℕ
windows a b = bit_xor (bit_xor (bit_xor (product 16 a (b / 2 ^ 12) * 2 ^ 12 % 2 ^ 32) (window 8 a b)) (window 4 a b)) (product 16 a (b % 2 ^ 4))

pub product_by_windows : (a b : ℕ) → a < 2 ^ 16 → b < 2 ^ 16 → windows a b ≡ product 16 a b
unfolding product
product_by_windows =
    bilinear_same windows (product 16)
    (λ b. linear_sum (linear_sum (linear_sum (linear_after (linear_low 32) (linear_after (linear_shift 12) (product_left 16 (b / 2 ^ 12)))) (window_left 8 b)) (window_left 4 b)) (product_left 16 (b % 2 ^ 4)))
    (λ a. linear_sum (linear_sum (linear_sum (linear_after (linear_low 32) (linear_after (linear_shift 12) (linear_after (product_right 16 a) (linear_high 12)))) (window_right 8 a)) (window_right 4 a))
    (linear_after (product_right 16 a) (linear_low 4)))
    (product_left 16) (product_right 16) refl

-- the product of two polynomials of degree below 16 has a degree below 31
pub product_below : (a b : ℕ) → a < 2 ^ 16 → b < 2 ^ 16 → product 16 a b < 2 ^ 31
unfolding product
product_below a b ha hb =
    linear_below (λ a. product 16 a b) (product_left 16 b) 31 16
    (λ i hi. linear_below (product 16 (2 ^ i)) (product_right 16 (2 ^ i)) 31 16 (λ j hj. ltb-true _ _
    (at_below 16 (λ j. ltb (product 16 (2 ^ i) (2 ^ j)) (2 ^ 31)) (at_below 16 (λ i. all_below 16 (λ j. ltb (product 16 (2 ^ i) (2 ^ j)) (2 ^ 31))) refl i hi) j hj)) b hb) a ha

-- the products of a with two polynomials of degree below 4, from that with a polynomial h of degree below 3
pub product_even : (a h : ℕ) → a < 2 ^ 16 → h < 8 → product 16 a h * 2 ^ 1 % 2 ^ 32 ≡ product 16 a (2 * h)
unfolding product
product_even a h ha hh =
    linear_same (λ a. product 16 a h * 2 ^ 1 % 2 ^ 32) (λ a. product 16 a (2 * h)) (linear_after (linear_low 32) (linear_after (linear_shift 1) (product_left 16 h))) (product_left 16 (2 * h)) 16
    (λ i hi. eqb-true _ _ (at_below 16 (λ i. eqb (product 16 (2 ^ i) h * 2 ^ 1 % 2 ^ 32) (product 16 (2 ^ i) (2 * h)))
    (at_below 8 (λ h. all_below 16 (λ i. eqb (product 16 (2 ^ i) h * 2 ^ 1 % 2 ^ 32) (product 16 (2 ^ i) (2 * h)))) refl h hh) i hi)) a ha

pub product_odd : (a h : ℕ) → a < 2 ^ 16 → h < 8 → bit_xor (product 16 a (2 * h)) a ≡ product 16 a (2 * h + 1)
unfolding product
product_odd a h ha hh =
    linear_same (λ a. bit_xor (product 16 a (2 * h)) a) (λ a. product 16 a (2 * h + 1)) (linear_sum (product_left 16 (2 * h)) linear_id) (product_left 16 (2 * h + 1)) 16
    (λ i hi. eqb-true _ _ (at_below 16 (λ i. eqb (bit_xor (product 16 (2 ^ i) (2 * h)) (2 ^ i)) (product 16 (2 ^ i) (2 * h + 1)))
    (at_below 8 (λ h. all_below 16 (λ i. eqb (bit_xor (product 16 (2 ^ i) (2 * h)) (2 ^ i)) (product 16 (2 ^ i) (2 * h + 1)))) refl h hh) i hi)) a ha

pub product_none : (a : ℕ) → product 16 a 0 ≡ 0
product_none a = linear_zero (product_right 16 a)

pub product_one : (a : ℕ) → a < 2 ^ 16 → product 16 a 1 ≡ a
unfolding product
product_one = linear_same (λ a. product 16 a 1) (λ a. a) (product_left 16 1) linear_id 16 (λ i h. eqb-true _ _ (at_below 16 (λ i. eqb (product 16 (2 ^ i) 1) (2 ^ i)) refl i h))

-- the first two entries of a list of multiples
pub first_multiples : (a w : ℕ) (others : List ℕ) → a < 2 ^ 16 → w < 2 → get_or (0 ∷ a ∷ others) w 0 ≡ product 16 a w
first_multiples a zero others h hw = sym (product_none a)
first_multiples a (suc zero) others h hw = sym (product_one a h)
first_multiples a (suc (suc w)) others h hw = absurd (omega arith)

-- the next two entries, from that of half their number
pub next_multiples : (a single half : ℕ) (entries : List ℕ) → a < 2 ^ 16 → single ≡ a → 0 < half → half < 8 → length entries ≡ 16
    → ((w : ℕ) → w < 2 * half → get_or entries w 0 ≡ product 16 a w) → (w : ℕ) → w < 2 * half + 2
    → get_or (set (set entries (2 * half) (get_or entries half 0 * 2 % 2 ^ 32)) (2 * half + 1) (bit_xor (get_or entries half 0 * 2 % 2 ^ 32) single)) w 0 ≡ product 16 a w
next_multiples a single half entries ha same some hh size before w hw =
    ⊎_elim at_odd (λ not_odd. ⊎_elim (at_even not_odd) (others not_odd) (cases_eq w (2 * half))) (cases_eq w (2 * half + 1))
  where
    value : ℕ
    value = get_or entries half 0 * 2 % 2 ^ 32

    value_is : value ≡ product 16 a (2 * half)
    value_is = ap (λ v. v * 2 % 2 ^ 32) (before half (omega arith)) ∙ product_even a half ha hh

    one : List ℕ
    one = set entries (2 * half) value

    at_odd : w ≡ 2 * half + 1 → get_or (set one (2 * half + 1) (bit_xor value single)) w 0 ≡ product 16 a w
    at_odd e =
        get_or-set_at one (2 * half + 1) w (bit_xor value single) 0 e (omega (arith, length-set entries (2 * half) value))
        ∙ (λ i. bit_xor (value_is i) (same i)) ∙ product_odd a half ha hh ∙ ap (product 16 a) (sym e)

    at_even : w ≢ 2 * half + 1 → w ≡ 2 * half → get_or (set one (2 * half + 1) (bit_xor value single)) w 0 ≡ product 16 a w
    at_even not_odd e =
        get_or-set_other one (2 * half + 1) w (bit_xor value single) 0 not_odd
        ∙ get_or-set_at entries (2 * half) w value 0 e (omega arith) ∙ value_is ∙ ap (product 16 a) (sym e)

    others : w ≢ 2 * half + 1 → w ≢ 2 * half → get_or (set one (2 * half + 1) (bit_xor value single)) w 0 ≡ product 16 a w
    others not_odd not_even =
        get_or-set_other one (2 * half + 1) w (bit_xor value single) 0 not_odd ∙ get_or-set_other entries (2 * half) w value 0 not_even ∙ before w (omega arith)

-- four entries of the multiples of a, moved to their places, make the product of a and b
pub joined_windows : (a b t u l w : ℕ) (entries : List ℕ) → a < 2 ^ 16 → b < 2 ^ 16 → HasMultiples a entries
    → t ≡ b / 2 ^ 12 → u ≡ b / 2 ^ 8 % 2 ^ 4 → l ≡ b / 2 ^ 4 % 2 ^ 4 → w ≡ b % 2 ^ 4
    → bit_xor (bit_xor (bit_xor (get_or entries t 0 * 2 ^ 12 % 2 ^ 32) (get_or entries u 0 * 2 ^ 8 % 2 ^ 32)) (get_or entries l 0 * 2 ^ 4 % 2 ^ 32)) (get_or entries w 0) ≡ product 16 a b
joined_windows a b t u l w entries ha hb has et eu el ew =
    (λ i. bit_xor (bit_xor (bit_xor (at t (b / 2 ^ 12) et (omega arith) i * 2 ^ 12 % 2 ^ 32) (at u (b / 2 ^ 8 % 2 ^ 4) eu (omega arith) i * 2 ^ 8 % 2 ^ 32))
    (at l (b / 2 ^ 4 % 2 ^ 4) el (omega arith) i * 2 ^ 4 % 2 ^ 32)) (at w (b % 2 ^ 4) ew (omega arith) i))
    ∙ product_by_windows a b ha hb
  where
    at : (k v : ℕ) → k ≡ v → v < 16 → get_or entries k 0 ≡ product 16 a v
    at k v e h = ap (λ k. get_or entries k 0) e ∙ has.each v h

-- the quotient of a polynomial of degree below 31 by the modulus, from the coefficients from 16 on
abbrev pub quotient : ℕ → ℕ
quotient h = bit_xor (bit_xor (bit_xor (bit_xor h (h / 2 ^ 4)) (h / 2 ^ 8)) (h / 2 ^ 12)) (h / 2 ^ 13)

-- the low bits of a polynomial, less the quotient's multiple of the modulus
abbrev pub rest : ℕ → ℕ → ℕ
rest p q = bit_xor (bit_xor (bit_xor (bit_xor p q) (q * 2 ^ 1 % 2 ^ 32)) (q * 2 ^ 3 % 2 ^ 32)) (q * 2 ^ 12 % 2 ^ 32) % 2 ^ 16

pub remainder_by_quotient : (p : ℕ) → p < 2 ^ 31 → rest p (quotient (p / 2 ^ 16)) ≡ remainder 15 p
unfolding remainder
remainder_by_quotient =
    linear_same (λ p. rest p (quotient (p / 2 ^ 16))) (remainder 15)
    (linear_after (linear_low 16) (linear_sum (linear_sum (linear_sum (linear_sum linear_id of_p) (moved 1)) (moved 3)) (moved 12)))
    (remainder_linear 15) 31
    (λ i h. eqb-true _ _ (at_below 31 (λ i. eqb (rest (2 ^ i) (quotient (2 ^ i / 2 ^ 16))) (remainder 15 (2 ^ i))) refl i h))
  where
    of_high : IsLinear quotient
    of_high = linear_sum (linear_sum (linear_sum (linear_sum linear_id (linear_high 4)) (linear_high 8)) (linear_high 12)) (linear_high 13)

    of_p : IsLinear (λ p. quotient (p / 2 ^ 16))
    of_p = linear_after of_high (linear_high 16)

    moved : (k : ℕ) → IsLinear (λ p. quotient (p / 2 ^ 16) * 2 ^ k % 2 ^ 32)
    moved k = linear_after (linear_low 32) (linear_after (linear_shift k) of_p)
