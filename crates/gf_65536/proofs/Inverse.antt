-- Every element but 0 has an inverse: sixteen squarings give an element back, and only 0 and 1 are their own squares.
use Rattle.std.proofs.Common.{◌≡◌, ◌≢◌, ℕ, zero, suc, ◌+◌, ◌*◌, ◌^◌, ◌<◌, ◌⊎◌, ⊎_elim, List, [], ◌∷◌, length, eqb, refl, sym, ap, ◌∙◌, inl, inr, arith}
use Rattle.std.proofs.lemmas.Bool.{eqb-true}
use Rattle.std.proofs.Math.Nat.{pow-suc}
use Rattle.std.specs.Int.{bit_at}
use Rattle.std.specs.Int.Bits.{bit_xor, xor_self, xor_zero_r, xor_assoc}
use Rattle.gf_65536.specs.Field.{product, remainder, gf_mul, gf_pow}
use Rattle.gf_65536.proofs.Linear.{IsLinear, linear_same, linear_zero, linear_id, linear_none, linear_sum, linear_after, linear_bit}
use Rattle.gf_65536.proofs.Tests.{at_below}
use Rattle.gf_65536.proofs.Product.{mul_left, mul_right, mul_assoc, mul_comm, mul_one, mul_zero}
use Rattle.gf_65536.proofs.Powers.{pow_below, pow_add, pow_zero, pow_next}

unfoldable square : ℕ → ℕ
square a = gf_mul a a

-- (x + y)(x + y) is xx + yy, since xy + yx is 0
square_linear : IsLinear square
unfolding square
square_linear = record {
  keeps = λ a b.
      (mul_left (bit_xor a b)).keeps a b ∙ (λ i. bit_xor ((mul_right a).keeps a b i) ((mul_right b).keeps a b i))
      ∙ ap (λ m. bit_xor (bit_xor (gf_mul a a) (gf_mul a b)) (bit_xor m (gf_mul b b))) (mul_comm b a)
      ∙ xor_assoc (gf_mul a a) (gf_mul a b) (bit_xor (gf_mul a b) (gf_mul b b))
      ∙ ap (bit_xor (gf_mul a a)) (sym (xor_assoc (gf_mul a b) (gf_mul a b) (gf_mul b b)) ∙ ap (λ z. bit_xor z (gf_mul b b)) (xor_self (gf_mul a b)));
}

-- k squarings
unfoldable squarings : ℕ → ℕ → ℕ
squarings zero a = a
squarings (suc k) a = square (squarings k a)

squarings_linear : (k : ℕ) → IsLinear (squarings k)
unfolding squarings
squarings_linear zero = linear_id
squarings_linear (suc k) = linear_after square_linear (squarings_linear k)

squarings_power : (k a : ℕ) → a < 2 ^ 16 → squarings k a ≡ gf_pow a (2 ^ k)
unfolding squarings square
squarings_power zero a h = sym (pow_next a 0 ∙ ap (gf_mul a) (pow_zero a) ∙ mul_comm a 1 ∙ mul_one a h)
squarings_power (suc k) a h =
    let ih = squarings_power k a h in
    let twice : 2 ^ k + 2 ^ k ≡ 2 ^ suc k = omega (arith, pow-suc 2 k) in
    (λ i. gf_mul (ih i) (ih i)) ∙ sym (pow_add a (2 ^ k) (2 ^ k)) ∙ ap (gf_pow a) twice

-- sixteen squarings give an element back
sixteen : (a : ℕ) → a < 2 ^ 16 → squarings 16 a ≡ a
unfolding squarings square gf_mul product remainder
sixteen = linear_same (squarings 16) (λ a. a) (squarings_linear 16) linear_id 16 (λ i h. eqb-true _ _ (at_below 16 (λ i. eqb (squarings 16 (2 ^ i)) (2 ^ i)) refl i h))

pub fermat : (a : ℕ) → a < 2 ^ 16 → gf_pow a 65536 ≡ a
fermat a h = sym (squarings_power 16 a h) ∙ sixteen a h

-- ---- only 0 and 1 are their own squares

-- the sum of the numbers at whose places x has a bit, the first at the highest place
unfoldable combined : List ℕ → ℕ → ℕ
combined [] x = 0
combined (v ∷ vs) x = bit_xor (bit_at x (length vs) * v) (combined vs x)

combined_linear : (vs : List ℕ) → IsLinear (combined vs)
unfolding combined
combined_linear [] = linear_none
combined_linear (v ∷ vs) = linear_sum (linear_bit (length vs) v) (combined_linear vs)

-- takes the square of x plus x to x without its lowest bit
abbrev solution : List ℕ
solution = 21936 ∷ 1456 ∷ 0 ∷ 7356 ∷ 5068 ∷ 10240 ∷ 38610 ∷ 42402 ∷ 1328 ∷ 7420 ∷ 10272 ∷ 42418 ∷ 7412 ∷ 42422 ∷ 42420 ∷ 350 ∷ []

solved : (x : ℕ) → x < 2 ^ 16 → combined solution (bit_xor (square x) x) ≡ bit_xor x (bit_at x 0 * 1)
unfolding combined square gf_mul product remainder
solved = linear_same (λ x. combined solution (bit_xor (square x) x)) (λ x. bit_xor x (bit_at x 0 * 1))
    (linear_after (combined_linear solution) (linear_sum square_linear linear_id)) (linear_sum linear_id (linear_bit 0 1)) 16
    (λ i h. eqb-true _ _ (at_below 16 (λ i. eqb (combined solution (bit_xor (square (2 ^ i)) (2 ^ i))) (bit_xor (2 ^ i) (bit_at (2 ^ i) 0 * 1))) refl i h))

-- numbers whose bit_xor is 0 are equal
pub same_from_xor : (a b : ℕ) → bit_xor a b ≡ 0 → a ≡ b
same_from_xor a b e = sym (xor_zero_r a) ∙ ap (bit_xor a) (sym (xor_self b)) ∙ sym (xor_assoc a b b) ∙ ap (λ x. bit_xor x b) e

own_square : (x : ℕ) → x < 2 ^ 16 → gf_mul x x ≡ x → (x ≡ 0) ⊎ (x ≡ 1)
unfolding square
own_square x h e = cases (bit_at x 0) (omega arith) (same_from_xor x (bit_at x 0 * 1) (sym (solved x h) ∙ ap (combined solution) none ∙ linear_zero (combined_linear solution)))
  where
    none : bit_xor (square x) x ≡ 0
    none = ap (λ s. bit_xor s x) e ∙ xor_self x

    cases : (b : ℕ) → b < 2 → x ≡ b * 1 → (x ≡ 0) ⊎ (x ≡ 1)
    cases zero hb eb = inl (omega arith)
    cases (suc zero) hb eb = inr (omega arith)
    cases (suc (suc b)) hb eb = absurd (omega arith)

pub inverse : (a : ℕ) → a < 2 ^ 16 → a ≢ 0 → gf_mul a (gf_pow a 65534) ≡ 1
inverse a h some = ⊎_elim (λ z. absurd (some (vanishes z))) (λ o. next ∙ o) (own_square (gf_pow a 65535) (pow_below a 65535) idempotent)
  where
    next : gf_mul a (gf_pow a 65534) ≡ gf_pow a 65535
    next = sym (pow_next a 65534)

    idempotent : gf_mul (gf_pow a 65535) (gf_pow a 65535) ≡ gf_pow a 65535
    idempotent = sym (pow_add a 65535 65535) ∙ pow_add a 65536 65534 ∙ ap (λ x. gf_mul x (gf_pow a 65534)) (fermat a h) ∙ next

    vanishes : gf_pow a 65535 ≡ 0 → a ≡ 0
    vanishes z = sym (fermat a h) ∙ pow_next a 65535 ∙ ap (gf_mul a) z ∙ mul_zero a

pub no_zero_divisors : (a b : ℕ) → a < 2 ^ 16 → b < 2 ^ 16 → a ≢ 0 → gf_mul a b ≡ 0 → b ≡ 0
no_zero_divisors a b ha hb some e =
    let i = gf_pow a 65534 in
    sym (mul_one b hb) ∙ ap (λ x. gf_mul x b) (sym (inverse a ha some) ∙ mul_comm a i) ∙ mul_assoc i a b ∙ ap (gf_mul i) e ∙ mul_zero i

-- an element has at most one inverse
pub one_inverse : (a b c : ℕ) → a < 2 ^ 16 → b < 2 ^ 16 → c < 2 ^ 16 → gf_mul a b ≡ 1 → gf_mul a c ≡ 1 → b ≡ c
one_inverse a b c ha hb hc eb ec =
    sym (mul_one b hb) ∙ ap (λ x. gf_mul x b) (sym ec ∙ mul_comm a c) ∙ mul_assoc c a b ∙ ap (gf_mul c) eb ∙ mul_comm c 1 ∙ mul_one c hc
