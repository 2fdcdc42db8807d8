-- The laws of a product modulo x ^ 16 + x ^ 12 + x ^ 3 + x + 1 leave one product.
use Rattle.std.proofs.Common.{◌≡◌, ℕ, zero, suc, ◌*◌, ◌%◌, ◌^◌, ◌<◌, ⊎_elim, eqb, refl, sym, ap, ◌∙◌, arith, lit<}
use Rattle.std.proofs.lemmas.Bool.{eqb-true, cases_eq}
use Rattle.std.proofs.lemmas.Nat.{xor_mod}
use Rattle.std.proofs.Math.Nat.{pow-suc}
use Rattle.std.proofs.Math.Pow.{pow-lt}
use Rattle.gf_65536.specs.Field.{product, remainder, gf_mul}
use Rattle.gf_65536.specs.Laws.{IsProductModulo1100B, OnlyProduct}
use Rattle.gf_65536.proofs.Linear.{IsLinear, linear_same, linear_shift}
use Rattle.gf_65536.proofs.Tests.{at_below}
use Rattle.gf_65536.proofs.Windows.{low_is}
use Rattle.gf_65536.proofs.Product.{low, mul_left, mul_right, mul_assoc, mul_one, mul_below}

pub reduces : gf_mul 2 0x8000 ≡ 0x100B
unfolding gf_mul product remainder
reduces = refl

shifts : (a : ℕ) → a < 2 ^ 15 → gf_mul 2 a ≡ a * 2 ^ 1
unfolding gf_mul product remainder
shifts = linear_same (gf_mul 2) (λ a. a * 2 ^ 1) (mul_right 2) (linear_shift 1) 15 (λ i h. eqb-true _ _ (at_below 15 (λ i. eqb (gf_mul 2 (2 ^ i)) (2 ^ i * 2 ^ 1)) refl i h))

-- the product with 2 of a polynomial of degree below 15
pub doubles : (a : ℕ) → a < 2 ^ 15 → gf_mul 2 a ≡ 2 * a
doubles a h = shifts a h ∙ omega arith

pub is_product : IsProductModulo1100B gf_mul
is_product = record {
  left = λ a b c ha hb hc. (mul_left c).keeps a b;
  right = λ a b c ha hb hc. (mul_right a).keeps b c;
  associative = λ a b c ha hb hc. mul_assoc a b c;
  one = mul_one;
  doubles = doubles;
  reduces = reduces;
}

-- f on the low bits of two numbers
abbrev on_low : (ℕ → ℕ → ℕ) → ℕ → ℕ → ℕ
on_low f a b = f (a % 2 ^ 16) (b % 2 ^ 16)

low_left : (f : ℕ → ℕ → ℕ) → IsProductModulo1100B f → (b : ℕ) → IsLinear (λ a. on_low f a b)
low_left f is b = record { keeps = λ x y. ap (λ a. f a (b % 2 ^ 16)) (xor_mod x y 16) ∙ is.left (x % 2 ^ 16) (y % 2 ^ 16) (b % 2 ^ 16) (low x) (low y) (low b) }

low_right : (f : ℕ → ℕ → ℕ) → IsProductModulo1100B f → (a : ℕ) → IsLinear (on_low f a)
low_right f is a = record { keeps = λ x y. ap (f (a % 2 ^ 16)) (xor_mod x y 16) ∙ is.right (a % 2 ^ 16) (x % 2 ^ 16) (y % 2 ^ 16) (low a) (low x) (low y) }

-- f agrees with the field's product where the first factor is 2
at_two : (f : ℕ → ℕ → ℕ) → IsProductModulo1100B f → (a : ℕ) → a < 2 ^ 16 → on_low f 2 a ≡ gf_mul 2 a
at_two f is = linear_same (on_low f 2) (gf_mul 2) (low_right f is 2) (mul_right 2) 16 (λ i h. ⊎_elim (λ top. highest i top) (λ other. lower i (omega arith)) (cases_eq i 15))
  where
    highest : (i : ℕ) → i ≡ 15 → on_low f 2 (2 ^ i) ≡ gf_mul 2 (2 ^ i)
    highest i top = ap (λ i. f 2 (2 ^ i % 2 ^ 16)) top ∙ is.reduces ∙ sym (ap (λ i. gf_mul 2 (2 ^ i)) top ∙ reduces)

    lower : (i : ℕ) → i < 15 → on_low f 2 (2 ^ i) ≡ gf_mul 2 (2 ^ i)
    lower i h =
        let fits = pow-lt {i = i} {j = 15} h in
        ap (f 2) (low_is (2 ^ i) (omega arith)) ∙ is.doubles (2 ^ i) fits ∙ sym (doubles (2 ^ i) fits)

-- and where it is a power of x
at_power : (f : ℕ → ℕ → ℕ) → IsProductModulo1100B f → (i b : ℕ) → i < 16 → b < 2 ^ 16 → f (2 ^ i) b ≡ gf_mul (2 ^ i) b
at_power f is zero b h hb = is.one b hb ∙ sym (mul_one b hb)
at_power f is (suc i) b h hb =
    let fits = pow-lt {i = i} {j = 15} (omega arith) in
    let wide = pow-lt {i = i} {j = 16} (omega arith) in
    let below = mul_below (2 ^ i) b in
    let next : 2 * 2 ^ i ≡ 2 ^ suc i = omega (arith, pow-suc 2 i) in
    ap (λ a. f a b) (sym next ∙ sym (is.doubles (2 ^ i) fits)) ∙ is.associative 2 (2 ^ i) b (lit< tt) wide hb
    ∙ ap (f 2) (at_power f is i b (omega arith) hb ∙ sym (low_is (gf_mul (2 ^ i) b) below)) ∙ at_two f is (gf_mul (2 ^ i) b) below
    ∙ sym (mul_assoc 2 (2 ^ i) b) ∙ ap (λ a. gf_mul a b) (doubles (2 ^ i) fits ∙ next)

pub the_only : OnlyProduct
the_only = record { is_one = is_product; only = only }
  where
    only : (f : ℕ → ℕ → ℕ) → IsProductModulo1100B f → (a b : ℕ) → a < 2 ^ 16 → b < 2 ^ 16 → f a b ≡ gf_mul a b
    only f is a b ha hb =
        (λ j. f (sym (low_is a ha) j) (sym (low_is b hb) j))
        ∙ linear_same (λ a. on_low f a b) (λ a. gf_mul a b) (low_left f is b) (mul_left b) 16
        (λ i hi. (λ j. f (low_is (2 ^ i) (pow-lt {i = i} {j = 16} hi) j) (low_is b hb j)) ∙ at_power f is i b hi hb) a ha
