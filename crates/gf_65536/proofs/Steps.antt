-- What one turn of the power's loop does.
use Rattle.std.proofs.Common.{◌≡◌, ℕ, ◌+◌, ◌*◌, ◌/◌, ◌%◌, ◌^◌, ◌<◌, sym, ap, ◌∙◌, arith}
use Rattle.gf_65536.specs.Field.{product, gf_mul, gf_pow}
use Rattle.gf_65536.proofs.Product.{mul_comm, mul_assoc, mul_one}
use Rattle.gf_65536.proofs.Powers.{pow_add, pow_mul, pow_next, pow_zero, pow_below, factor, factor_is}

-- a power by the lowest bit of the exponent and the rest of it
pub power_by_halves : (a e : ℕ) → a < 2 ^ 16 → gf_pow a e ≡ gf_mul (factor (e % 2) a) (gf_pow (gf_mul a a) (e / 2))
power_by_halves a e h =
    let parts : e ≡ e % 2 + 2 * (e / 2) = omega arith in
    ap (gf_pow a) parts ∙ pow_add a (e % 2) (2 * (e / 2)) ∙ ap (λ x. gf_mul x (gf_pow a (2 * (e / 2)))) (sym (factor_is a (e % 2) h (omega arith)))
    ∙ ap (gf_mul (factor (e % 2) a)) (sym (pow_mul a 2 (e / 2)) ∙ ap (λ x. gf_pow x (e / 2)) square)
  where
    square : gf_pow a 2 ≡ gf_mul a a
    square = pow_next a 1 ∙ ap (gf_mul a) (pow_next a 0 ∙ ap (gf_mul a) (pow_zero a) ∙ mul_comm a 1 ∙ mul_one a h)

-- one turn of the power's loop
pub power_turn_odd : (product a e : ℕ) → a < 2 ^ 16 → e % 2 ≡ 1 → gf_mul (gf_mul product a) (gf_pow (gf_mul a a) (e / 2)) ≡ gf_mul product (gf_pow a e)
power_turn_odd product a e ha odd =
    mul_assoc product a (gf_pow (gf_mul a a) (e / 2))
    ∙ ap (gf_mul product) (ap (λ d. gf_mul (factor d a) (gf_pow (gf_mul a a) (e / 2))) (sym odd) ∙ sym (power_by_halves a e ha))

pub power_turn_even : (product a e : ℕ) → a < 2 ^ 16 → e % 2 ≡ 0 → gf_mul product (gf_pow (gf_mul a a) (e / 2)) ≡ gf_mul product (gf_pow a e)
power_turn_even product a e ha even =
    ap (gf_mul product)
    (sym (mul_one (gf_pow (gf_mul a a) (e / 2)) (pow_below _ (e / 2)))
    ∙ ap (λ d. gf_mul (factor d a) (gf_pow (gf_mul a a) (e / 2))) (sym even) ∙ sym (power_by_halves a e ha))
