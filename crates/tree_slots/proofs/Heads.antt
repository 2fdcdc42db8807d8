-- The heads of names.
use Rattle.std.proofs.Common.{◌≡◌, ℕ, zero, suc, ◌+◌, ◌*◌, ◌^◌, ◌<◌, ◌≤◌, List, [], ◌∷◌, get_or, arith, refl, sym, ap, ◌∙◌, inl, inr, mul-le-mul_right, suc-mul, mul_assoc, pow-suc}
use Rattle.std.proofs.Math.Nat.{pow-le-pow_right}
use Rattle.std.proofs.lemmas.Bool.{cases_lt}
use Rattle.std.specs.Cmp.{nat_cmp_is, nat_cmp_total}
use Rattle.std.specs.Ordering.{nat_cmp, ordering_reverse}
use Rattle.std.specs.declared.cmp.Ordering.TheVariants.{Less, Equal, Greater}
use Rattle.byte_fields.specs.Codec.{IsBytes}
use Rattle.tree_slots.specs.Arena.{name_cmp}
use Rattle.tree_slots.proofs.Slots.{names_total}
use Rattle.tree_slots.specs.Head.{head_bytes, name_head}

power_step : (n : ℕ) → 256 ^ suc n ≡ 256 ^ n * 256
power_step n = pow-suc 256 n

power_some : (n : ℕ) → 0 < 256 ^ n
power_some n = pow-le-pow_right {n = 256} (omega arith) {i = 0} {j = n} (omega arith)

pub fits_seven : (k : ℕ) → k ≤ 7 → 256 ^ k ≤ 256 ^ 7
fits_seven k small = pow-le-pow_right (omega arith) small

-- the head of n bytes is below the power of n
pub head_small : (n : ℕ) (name : List ℕ) → IsBytes name → name_head n name < 256 ^ n
head_small zero name bytes = omega arith
head_small (suc n) [] bytes = power_some (suc n)
head_small (suc n) (byte ∷ rest) bytes =
    let first : byte < 256 = bytes 0 in
    let small = head_small n rest (λ i. bytes (suc i)) in
    let most : byte * 256 ^ n ≤ 255 * 256 ^ n = mul-le-mul_right (256 ^ n) (omega arith) in
    omega (arith, power_step n, small, most)

-- one more byte stands behind those before it
pub head_next : (k : ℕ) (name : List ℕ) → name_head (suc k) name ≡ name_head k name * 256 + get_or name k 0
head_next zero [] = refl
head_next zero (byte ∷ rest) = omega arith
head_next (suc k) [] = refl
head_next (suc k) (byte ∷ rest) =
    let next = head_next k rest in
    let power : byte * 256 ^ suc k ≡ byte * 256 ^ k * 256 = ap (λ p. byte * p) (power_step k) ∙ sym (mul_assoc byte (256 ^ k) 256) in
    omega (arith, next, power)

-- names whose heads differ are in the order of their heads
pub lower_head : (n : ℕ) (a b : List ℕ) → IsBytes a → IsBytes b → name_head n a < name_head n b → name_cmp a b ≡ Less
lower_head zero a b left right less = absurd (omega arith)
lower_head (suc n) [] [] left right less = absurd (omega arith)
lower_head (suc n) [] (y ∷ ys) left right less = refl
lower_head (suc n) (x ∷ xs) [] left right less = absurd (omega arith)
lower_head (suc n) (x ∷ xs) (y ∷ ys) left right less = elim (cases_lt x y) [
  | inl below ↦
      let first = sym (nat_cmp_is x y Less below) in
      rw first refl
  | inr other ↦ elim (cases_lt y x) [
    | inl above ↦
        let small = head_small n ys (λ i. right (suc i)) in
        let step : suc y * 256 ^ n ≤ x * 256 ^ n = mul-le-mul_right (256 ^ n) above in
        let opened : suc y * 256 ^ n ≡ y * 256 ^ n + 256 ^ n = suc-mul y (256 ^ n) in
        absurd (omega (arith, less, small, step, opened))
    | inr same ↦
        let equal : x ≡ y = omega arith in
        let first = sym (nat_cmp_is x y Equal equal) in
        let share : x * 256 ^ n ≡ y * 256 ^ n = ap (λ b. b * 256 ^ n) equal in
        let rest = lower_head n xs ys (λ i. left (suc i)) (λ i. right (suc i)) (omega (arith, less, share)) in
        rw first rest
  ]
]

-- what the order of two heads that differ tells of the names
pub told_lower : (a b : List ℕ) → IsBytes a → IsBytes b → nat_cmp (name_head head_bytes a) (name_head head_bytes b) ≡ Less → name_cmp a b ≡ Less
told_lower a b left right told = lower_head head_bytes a b left right (below (name_head head_bytes a) (name_head head_bytes b) told)
  where
    below : (x y : ℕ) → nat_cmp x y ≡ Less → x < y
    below x y told = elim (cases_lt x y) [
      | inl less ↦ less
      | inr other ↦ elim (cases_lt y x) [
        | inl above ↦ let is = nat_cmp_is x y Greater above in cc
        | inr same ↦ let is = nat_cmp_is x y Equal (omega arith) in cc
      ]
    ]

pub told_higher : (a b : List ℕ) → IsBytes a → IsBytes b → nat_cmp (name_head head_bytes a) (name_head head_bytes b) ≡ Greater → name_cmp a b ≡ Greater
told_higher a b left right told =
    let turned : nat_cmp (name_head head_bytes b) (name_head head_bytes a) ≡ Less = nat_cmp_total.antisymm (name_head head_bytes b) (name_head head_bytes a) ∙ ap ordering_reverse told in
    names_total.antisymm a b ∙ ap ordering_reverse (told_lower b a right left turned)
