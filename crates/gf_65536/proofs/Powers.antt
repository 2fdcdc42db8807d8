-- Powers in the field, and the order of the element 2.
use Rattle.std.proofs.Common.{◌≡◌, ◌≢◌, ℕ, zero, suc, ◌+◌, ◌-◌, ◌*◌, ◌/◌, ◌%◌, ◌^◌, ◌<◌, ◌||◌, ⊎_elim, true, false, eqb, refl, sym, ap, ◌∙◌, arith, lit<}
use Rattle.std.proofs.lemmas.Bool.{eqb-true, eqb-false, or_cases}
use Rattle.std.proofs.Math.Nat.{pow-suc, zero-add, mul-zero}
use Rattle.gf_65536.specs.Field.{product, remainder, gf_mul, gf_pow}
use Rattle.gf_65536.proofs.Tests.{all_below, at_below}
use Rattle.gf_65536.proofs.Product.{mul_assoc, mul_comm, mul_one, mul_below}

pub pow_below : (a e : ℕ) → gf_pow a e < 2 ^ 16
unfolding gf_pow
pow_below a zero = lit< tt
pow_below a (suc e) = mul_below a (gf_pow a e)

pub pow_add : (a m n : ℕ) → gf_pow a (m + n) ≡ gf_mul (gf_pow a m) (gf_pow a n)
unfolding gf_pow
pow_add a zero n = ap (gf_pow a) (zero-add n) ∙ sym (mul_one (gf_pow a n) (pow_below a n))
pow_add a (suc m) n =
    let e : suc m + n ≡ suc (m + n) = omega arith in
    ap (gf_pow a) e ∙ ap (gf_mul a) (pow_add a m n) ∙ sym (mul_assoc a (gf_pow a m) (gf_pow a n))

pub pow_one : (n : ℕ) → gf_pow 1 n ≡ 1
unfolding gf_pow
pow_one zero = refl
pow_one (suc n) = mul_one (gf_pow 1 n) (pow_below 1 n) ∙ pow_one n

pub pow_mul : (a m n : ℕ) → gf_pow (gf_pow a m) n ≡ gf_pow a (m * n)
unfolding gf_pow
pow_mul a m zero = sym (ap (gf_pow a) (mul-zero m))
pow_mul a m (suc n) =
    let e : m + m * n ≡ m * suc n = omega arith in
    ap (gf_mul (gf_pow a m)) (pow_mul a m n) ∙ sym (pow_add a m (m * n)) ∙ ap (gf_pow a) e

-- ---- a power by squarings, which the checker computes at numerals

abbrev pub factor : ℕ → ℕ → ℕ
factor zero a = 1
factor (suc b) a = a

-- a ^ e for e below 2 ^ k
unfoldable pub fast_pow : ℕ → ℕ → ℕ → ℕ
fast_pow zero a e = 1
fast_pow (suc k) a e = let half = fast_pow k a (e / 2) in gf_mul (factor (e % 2) a) (gf_mul half half)

pub factor_is : (a b : ℕ) → a < 2 ^ 16 → b < 2 → factor b a ≡ gf_pow a b
unfolding gf_pow
factor_is a zero h hb = refl
factor_is a (suc zero) h hb = sym (mul_comm a 1 ∙ mul_one a h)
factor_is a (suc (suc b)) h hb = absurd (omega arith)

pub pow_zero : (a : ℕ) → gf_pow a 0 ≡ 1
unfolding gf_pow
pow_zero a = refl

pub pow_next : (a e : ℕ) → gf_pow a (suc e) ≡ gf_mul a (gf_pow a e)
unfolding gf_pow
pow_next a e = refl

pub pow_single : (a : ℕ) → a < 2 ^ 16 → gf_pow a 1 ≡ a
pow_single a h = pow_next a 0 ∙ ap (gf_mul a) (pow_zero a) ∙ mul_comm a 1 ∙ mul_one a h

pub fast_is : (k a e : ℕ) → a < 2 ^ 16 → e < 2 ^ k → fast_pow k a e ≡ gf_pow a e
unfolding fast_pow
fast_is zero a e h he = let none : 0 ≡ e = omega arith in sym (pow_zero a) ∙ ap (gf_pow a) none
fast_is (suc k) a e h he =
    let half = fast_is k a (e / 2) h (omega (arith, pow-suc 2 k)) in
    let parts : e % 2 + (e / 2 + e / 2) ≡ e = omega arith in
    (λ i. gf_mul (factor_is a (e % 2) h (omega arith) i) (gf_mul (half i) (half i)))
    ∙ ap (gf_mul (gf_pow a (e % 2))) (sym (pow_add a (e / 2) (e / 2))) ∙ sym (pow_add a (e % 2) (e / 2 + e / 2)) ∙ ap (gf_pow a) parts

-- ---- the order of the element 2

-- the power of 2 that the checker computes
pub two_to : (e v : ℕ) → e < 2 ^ 16 → fast_pow 16 2 e ≡ v → gf_pow 2 e ≡ v
two_to e v he c = sym (fast_is 16 2 e (lit< tt) he) ∙ c

pub whole_order : gf_pow 2 65535 ≡ 1
unfolding fast_pow gf_mul product remainder
whole_order = two_to 65535 1 (lit< tt) refl

pub multiple_of_order : (m : ℕ) → gf_pow 2 (65535 * m) ≡ 1
multiple_of_order m = sym (pow_mul 2 65535 m) ∙ ap (λ x. gf_pow x m) whole_order ∙ pow_one m

-- each r below p, but 0, has the inverse r ^ (p - 2) modulo p
abbrev pub IsPrimeByTest : ℕ → Type 0
IsPrimeByTest p = all_below p (λ r. eqb r 0 || eqb ((r ^ (p - 2) * r) % p) 1) ≡ true

whole : (m q : ℕ) → gf_pow 2 (65535 * m + q) ≡ gf_pow 2 q
whole m q =
    pow_add 2 (65535 * m) q
    ∙ ap (λ x. gf_mul x (gf_pow 2 q)) (multiple_of_order m)
    ∙ mul_one (gf_pow 2 q) (pow_below 2 q)

-- where 2 ^ k is 1 and 2 ^ q is not, the factor p = 65535 / q divides k
divides : (p q : ℕ) → 0 < p → p * q ≡ 65535 → IsPrimeByTest p → gf_pow 2 q ≢ 1 → (k : ℕ) → gf_pow 2 k ≡ 1 → k % p ≡ 0
divides p q some whole_is test proper k one = ⊎_elim (λ z. eqb-true (k % p) 0 z) (λ u. absurd (proper (from (eqb-true _ _ u)))) (or_cases _ _ (at_below p (λ r. eqb r 0 || eqb ((r ^ (p - 2) * r) % p) 1) test (k % p) (omega arith)))
  where
    inverse : ℕ
    inverse = (k % p) ^ (p - 2)

    step : (r u s t : ℕ) → k ≡ p * t + r → u * r ≡ p * s + 1 → k * (q * u) ≡ 65535 * (t * u + s) + q
    step r u s t ek eu =
        let scaled : k * (q * u) ≡ (p * t + r) * (q * u) = ap (λ x. x * (q * u)) ek in
        let turned : q * (u * r) ≡ q * (p * s + 1) = ap (λ x. q * x) eu in
        let total : p * q * (t * u + s) ≡ 65535 * (t * u + s) = ap (λ x. x * (t * u + s)) whole_is in
        omega arith

    from : ((k % p) ^ (p - 2) * (k % p)) % p ≡ 1 → gf_pow 2 q ≡ 1
    from e =
        let split = step (k % p) inverse (inverse * (k % p) / p) (k / p) (omega arith) (omega arith) in
        sym (whole (k / p * inverse + inverse * (k % p) / p) q) ∙ ap (gf_pow 2) (sym split) ∙ sym (pow_mul 2 k (q * inverse)) ∙ ap (λ x. gf_pow x (q * inverse)) one ∙ pow_one (q * inverse)

-- the power of 2 that the checker computes, where it is not 1
not_one : (e : ℕ) → e < 2 ^ 16 → eqb (fast_pow 16 2 e) 1 ≡ false → gf_pow 2 e ≢ 1
not_one e he c one = eqb-false (fast_pow 16 2 e) 1 c (fast_is 16 2 e (lit< tt) he ∙ one)

pub not_third : gf_pow 2 21845 ≢ 1
unfolding fast_pow gf_mul product remainder
not_third = not_one 21845 (lit< tt) refl

pub not_fifth : gf_pow 2 13107 ≢ 1
unfolding fast_pow gf_mul product remainder
not_fifth = not_one 13107 (lit< tt) refl

pub not_seventeenth : gf_pow 2 3855 ≢ 1
unfolding fast_pow gf_mul product remainder
not_seventeenth = not_one 3855 (lit< tt) refl

pub not_257th : gf_pow 2 255 ≢ 1
unfolding fast_pow gf_mul product remainder
not_257th = not_one 255 (lit< tt) refl

-- the order of the element 2 is 65535 = 3 * 5 * 17 * 257
pub order_divides : (k : ℕ) → gf_pow 2 k ≡ 1 → k % 65535 ≡ 0
order_divides k one =
    by_factors k (divides 3 21845 (lit< tt) refl refl not_third k one) (divides 5 13107 (lit< tt) refl refl not_fifth k one)
    (divides 17 3855 (lit< tt) refl refl not_seventeenth k one) (divides 257 255 (lit< tt) refl refl not_257th k one)
  where
    by_factors : (k : ℕ) → k % 3 ≡ 0 → k % 5 ≡ 0 → k % 17 ≡ 0 → k % 257 ≡ 0 → k % 65535 ≡ 0
    by_factors k a b c d = omega arith

-- the powers of 2 below its order differ
pub powers_apart : (i j : ℕ) → i < 65535 → j < 65535 → gf_pow 2 i ≡ gf_pow 2 j → i ≡ j
powers_apart i j hi hj e =
    let back : 65535 - i + i ≡ 65535 = omega arith in
    let one = pow_add 2 (65535 - i) j ∙ ap (gf_mul (gf_pow 2 (65535 - i))) (sym e) ∙ sym (pow_add 2 (65535 - i) i) ∙ ap (gf_pow 2) back ∙ whole_order in
    let none : (65535 - i + j) % 65535 ≡ 0 = order_divides (65535 - i + j) one in
    omega arith
