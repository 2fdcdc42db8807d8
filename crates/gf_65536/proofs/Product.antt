-- The product of the field is linear in each factor, so its laws follow from those of the powers of x.
use Rattle.std.proofs.Common.{◌≡◌, ℕ, zero, suc, ◌+◌, ◌*◌, ◌%◌, ◌^◌, ◌<◌, true, eqb, ltb, refl, sym, ap, ◌∙◌, subst, arith}
use Rattle.std.proofs.lemmas.Bool.{eqb-true, ltb-true}
use Rattle.gf_65536.specs.Field.{modulus, product, remainder, gf_mul}
use Rattle.gf_65536.proofs.Linear.{IsLinear, linear_same, linear_below, linear_zero, linear_id, linear_none, linear_sum, linear_after, linear_shift, linear_bit, linear_scaled, linear_low}
use Rattle.gf_65536.proofs.Tests.{all_below, at_below}

pub product_left : (n b : ℕ) → IsLinear (λ a. product n a b)
unfolding product
product_left zero b = linear_none
product_left (suc n) b = linear_sum (product_left n b) (linear_scaled b n (linear_shift n))

pub product_right : (n a : ℕ) → IsLinear (λ b. product n a b)
unfolding product
product_right zero a = linear_none
product_right (suc n) a = linear_sum (product_right n a) (linear_bit n (a * 2 ^ n))

pub remainder_linear : (n : ℕ) → IsLinear (remainder n)
unfolding remainder
remainder_linear zero = linear_id
remainder_linear (suc n) = linear_after (remainder_linear n) (linear_sum linear_id (linear_bit (16 + n) (modulus * 2 ^ n)))

pub mul_left : (b : ℕ) → IsLinear (λ a. gf_mul a b)
unfolding gf_mul
mul_left b = linear_after (remainder_linear 15) (linear_after (product_left 16 (b % 2 ^ 16)) (linear_low 16))

pub mul_right : (a : ℕ) → IsLinear (λ b. gf_mul a b)
unfolding gf_mul
mul_right a = linear_after (remainder_linear 15) (linear_after (product_right 16 (a % 2 ^ 16)) (linear_low 16))

-- a fact on two elements that the checker computes at the powers of two
pub at_powers : (f g : ℕ → ℕ → ℕ) → all_below 16 (λ i. all_below 16 (λ j. eqb (f (2 ^ i) (2 ^ j)) (g (2 ^ i) (2 ^ j)))) ≡ true
    → (i j : ℕ) → i < 16 → j < 16 → f (2 ^ i) (2 ^ j) ≡ g (2 ^ i) (2 ^ j)
at_powers f g e i j hi hj =
    eqb-true _ _ (at_below 16 (λ j. eqb (f (2 ^ i) (2 ^ j)) (g (2 ^ i) (2 ^ j)))
    (at_below 16 (λ i. all_below 16 (λ j. eqb (f (2 ^ i) (2 ^ j)) (g (2 ^ i) (2 ^ j)))) e i hi) j hj)

-- maps of two elements that are linear in each and agree at the powers of two
pub bilinear_same : (f g : ℕ → ℕ → ℕ) → ((b : ℕ) → IsLinear (λ a. f a b)) → ((a : ℕ) → IsLinear (f a)) → ((b : ℕ) → IsLinear (λ a. g a b)) → ((a : ℕ) → IsLinear (g a))
    → all_below 16 (λ i. all_below 16 (λ j. eqb (f (2 ^ i) (2 ^ j)) (g (2 ^ i) (2 ^ j)))) ≡ true
    → (a b : ℕ) → a < 2 ^ 16 → b < 2 ^ 16 → f a b ≡ g a b
bilinear_same f g fl fr gl gr e a b ha hb =
    linear_same (λ a. f a b) (λ a. g a b) (fl b) (gl b) 16
    (λ i hi. linear_same (f (2 ^ i)) (g (2 ^ i)) (fr (2 ^ i)) (gr (2 ^ i)) 16 (λ j hj. at_powers f g e i j hi hj) b hb) a ha

-- the product reads the low bits alone
pub mul_low : (a b : ℕ) → gf_mul a b ≡ gf_mul (a % 2 ^ 16) (b % 2 ^ 16)
unfolding gf_mul
mul_low a b = sym (λ i. remainder 15 (product 16 (twice a i) (twice b i)))
  where
    twice : (n : ℕ) → n % 2 ^ 16 % 2 ^ 16 ≡ n % 2 ^ 16
    twice n = omega arith

pub low : (n : ℕ) → n % 2 ^ 16 < 2 ^ 16
low n = omega arith

comm_below : (a b : ℕ) → a < 2 ^ 16 → b < 2 ^ 16 → gf_mul a b ≡ gf_mul b a
unfolding gf_mul product remainder
comm_below = bilinear_same gf_mul (λ a b. gf_mul b a) mul_left mul_right mul_right mul_left refl

pub mul_comm : (a b : ℕ) → gf_mul a b ≡ gf_mul b a
mul_comm a b = mul_low a b ∙ comm_below (a % 2 ^ 16) (b % 2 ^ 16) (low a) (low b) ∙ sym (mul_low b a)

-- maps of three elements that are linear in each and agree at the powers of two
pub trilinear_same : (f g : ℕ → ℕ → ℕ → ℕ) → ((b c : ℕ) → IsLinear (λ a. f a b c)) → ((a c : ℕ) → IsLinear (λ b. f a b c)) → ((a b : ℕ) → IsLinear (f a b))
    → ((b c : ℕ) → IsLinear (λ a. g a b c)) → ((a c : ℕ) → IsLinear (λ b. g a b c)) → ((a b : ℕ) → IsLinear (g a b))
    → all_below 16 (λ k. all_below 16 (λ i. all_below 16 (λ j. eqb (f (2 ^ k) (2 ^ i) (2 ^ j)) (g (2 ^ k) (2 ^ i) (2 ^ j))))) ≡ true
    → (a b c : ℕ) → a < 2 ^ 16 → b < 2 ^ 16 → c < 2 ^ 16 → f a b c ≡ g a b c
trilinear_same f g f1 f2 f3 g1 g2 g3 e a b c ha hb hc =
    linear_same (λ a. f a b c) (λ a. g a b c) (f1 b c) (g1 b c) 16
    (λ k hk. bilinear_same (f (2 ^ k)) (g (2 ^ k)) (f2 (2 ^ k)) (f3 (2 ^ k)) (g2 (2 ^ k)) (g3 (2 ^ k))
    (at_below 16 (λ k. all_below 16 (λ i. all_below 16 (λ j. eqb (f (2 ^ k) (2 ^ i) (2 ^ j)) (g (2 ^ k) (2 ^ i) (2 ^ j))))) e k hk) b c hb hc) a ha

below_below : (a b : ℕ) → a < 2 ^ 16 → b < 2 ^ 16 → gf_mul a b < 2 ^ 16
unfolding gf_mul product remainder
below_below a b ha hb =
    linear_below (λ a. gf_mul a b) (mul_left b) 16 16
    (λ i hi. linear_below (gf_mul (2 ^ i)) (mul_right (2 ^ i)) 16 16 (λ j hj. ltb-true _ _
    (at_below 16 (λ j. ltb (gf_mul (2 ^ i) (2 ^ j)) 65536) (at_below 16 (λ i. all_below 16 (λ j. ltb (gf_mul (2 ^ i) (2 ^ j)) 65536)) refl i hi) j hj)) b hb) a ha

pub mul_below : (a b : ℕ) → gf_mul a b < 2 ^ 16
mul_below a b = let e : gf_mul (a % 2 ^ 16) (b % 2 ^ 16) ≡ gf_mul a b = sym (mul_low a b) in subst (λ x. x < 2 ^ 16) e (below_below (a % 2 ^ 16) (b % 2 ^ 16) (low a) (low b))

assoc_below : (a b c : ℕ) → a < 2 ^ 16 → b < 2 ^ 16 → c < 2 ^ 16 → gf_mul (gf_mul a b) c ≡ gf_mul a (gf_mul b c)
unfolding gf_mul product remainder
assoc_below =
    trilinear_same (λ a b c. gf_mul (gf_mul a b) c) (λ a b c. gf_mul a (gf_mul b c))
    (λ b c. linear_after (mul_left c) (mul_left b)) (λ a c. linear_after (mul_left c) (mul_right a)) (λ a b. mul_right (gf_mul a b))
    (λ b c. mul_left (gf_mul b c)) (λ a c. linear_after (mul_right a) (mul_left c)) (λ a b. linear_after (mul_right a) (mul_right b)) refl

pub mul_low_left : (a b : ℕ) → gf_mul (a % 2 ^ 16) b ≡ gf_mul a b
mul_low_left a b = let e : a % 2 ^ 16 % 2 ^ 16 ≡ a % 2 ^ 16 = omega arith in mul_low (a % 2 ^ 16) b ∙ ap (λ x. gf_mul x (b % 2 ^ 16)) e ∙ sym (mul_low a b)

pub mul_low_right : (a b : ℕ) → gf_mul a (b % 2 ^ 16) ≡ gf_mul a b
mul_low_right a b = mul_comm a (b % 2 ^ 16) ∙ mul_low_left b a ∙ mul_comm b a

pub mul_assoc : (a b c : ℕ) → gf_mul (gf_mul a b) c ≡ gf_mul a (gf_mul b c)
mul_assoc a b c =
    ap (λ x. gf_mul x c) (mul_low a b) ∙ sym (mul_low_right (gf_mul (a % 2 ^ 16) (b % 2 ^ 16)) c)
    ∙ assoc_below (a % 2 ^ 16) (b % 2 ^ 16) (c % 2 ^ 16) (low a) (low b) (low c)
    ∙ ap (gf_mul (a % 2 ^ 16)) (sym (mul_low b c)) ∙ mul_low_left a (gf_mul b c)

pub mul_one : (a : ℕ) → a < 2 ^ 16 → gf_mul 1 a ≡ a
unfolding gf_mul product remainder
mul_one = linear_same (gf_mul 1) (λ a. a) (mul_right 1) linear_id 16 (λ i h. eqb-true _ _ (at_below 16 (λ i. eqb (gf_mul 1 (2 ^ i)) (2 ^ i)) refl i h))

pub mul_zero : (a : ℕ) → gf_mul a 0 ≡ 0
mul_zero a = linear_zero (mul_right a)

pub zero_mul : (a : ℕ) → gf_mul 0 a ≡ 0
zero_mul a = linear_zero (mul_left a)
