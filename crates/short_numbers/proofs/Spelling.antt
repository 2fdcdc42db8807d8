-- What is read was spelled so.
use Rattle.std.proofs.Common.{◌≡◌, ℕ, ◌+◌, ◌-◌, ◌*◌, ◌/◌, ◌%◌, ◌<◌, ◌≤◌, true, false, List, [], ◌∷◌, ◌++◌, get_or, refl, sym, subst, inl, inr, arith}
use Rattle.std.specs.Prelude.{Bool, IfSome, nat_lt, if◌then◌else◌}
use Rattle.std.proofs.lemmas.Bool.{cases_lt, lt-ltb, le-ltb}
use Rattle.short_numbers.specs.Limits.{max_number, two_from, three_from, four_from}
use Rattle.short_numbers.specs.Numbers.{number_spelled, first_number, number_of_two, number_of_three, number_of_four}
use Rattle.short_numbers.specs.Laws.{NumbersAreSpelledOnce}

-- the bytes are the spelling of the number, and the rest behind it
pub record Spells (bytes : List ℕ) (x : ℕ × List ℕ) : Type 0 where
  pub small : x.0 ≤ max_number
  pub here : bytes ≡ number_spelled x.0 ++ x.1

spells_one : (a : ℕ) (rest : List ℕ) → a < 192 → Spells (a ∷ rest) (a, rest)
spells_one a rest h =
    let t : nat_lt a 192 ≡ true = lt-ltb a 192 h in
    record { small = omega arith; here = rw t refl }

spells_two : (a b : ℕ) (rest : List ℕ) → 192 ≤ a → a < 224 → b < 256 → Spells (a ∷ b ∷ rest) (two_from + (a - 192) * 256 + b, rest)
spells_two a b rest from below hb =
    let n : ℕ = two_from + (a - 192) * 256 + b in
    let t1 : nat_lt (two_from + (a - 192) * 256 + b) two_from ≡ false = le-ltb (two_from + (a - 192) * 256 + b) two_from (omega arith) in
    let t2 : nat_lt (two_from + (a - 192) * 256 + b) three_from ≡ true = lt-ltb (two_from + (a - 192) * 256 + b) three_from (omega arith) in
    let high : 192 + ((two_from + (a - 192) * 256 + b) - two_from) / 256 ≡ a = omega arith in
    let low : ((two_from + (a - 192) * 256 + b) - two_from) % 256 ≡ b = omega arith in
    record { small = omega arith; here = rw (t1, t2, high, low) refl }

spells_three : (a b c : ℕ) (rest : List ℕ) → 224 ≤ a → a < 248 → b < 256 → c < 256
    → Spells (a ∷ b ∷ c ∷ rest) (three_from + ((a - 224) * 65536 + b * 256) + c, rest)
spells_three a b c rest from below hb hc =
    let n : ℕ = three_from + ((a - 224) * 65536 + b * 256) + c in
    let above : n - three_from ≡ (a - 224) * 65536 + b * 256 + c = omega arith in
    let t1 : nat_lt n two_from ≡ false = le-ltb n two_from (omega arith) in
    let t2 : nat_lt n three_from ≡ false = le-ltb n three_from (omega arith) in
    let t3 : nat_lt n four_from ≡ true = lt-ltb n four_from (omega arith) in
    let high : 224 + (n - three_from) / 65536 ≡ a = omega arith in
    let middle : (n - three_from) / 256 % 256 ≡ b = omega (arith, above) in
    let low : (n - three_from) % 256 ≡ c = omega (arith, above) in
    record { small = omega arith; here = rw (t1, t2, t3, high, middle, low) refl }

spells_four : (a b c d : ℕ) (rest : List ℕ) → 248 ≤ a → a < 256 → b < 256 → c < 256 → d < 256
    → Spells (a ∷ b ∷ c ∷ d ∷ rest) (four_from + ((a - 248) * 16777216 + b * 65536 + c * 256) + d, rest)
spells_four a b c d rest from below hb hc hd =
    let n : ℕ = four_from + ((a - 248) * 16777216 + b * 65536 + c * 256) + d in
    let above : n - four_from ≡ (a - 248) * 16777216 + b * 65536 + c * 256 + d = omega arith in
    let t1 : nat_lt n two_from ≡ false = le-ltb n two_from (omega arith) in
    let t2 : nat_lt n three_from ≡ false = le-ltb n three_from (omega arith) in
    let t3 : nat_lt n four_from ≡ false = le-ltb n four_from (omega arith) in
    let high : 248 + (n - four_from) / 16777216 ≡ a = omega arith in
    let second : (n - four_from) / 65536 % 256 ≡ b = omega (arith, above) in
    let third : (n - four_from) / 256 % 256 ≡ c = omega (arith, above) in
    let low : (n - four_from) % 256 ≡ d = omega (arith, above) in
    record { small = omega arith; here = rw (t1, t2, t3, high, second, third, low) refl }

-- each byte is one
abbrev pub AreBytes : List ℕ → Type 0
AreBytes bytes = (i : ℕ) → get_or bytes i 0 < 256

-- a test that is read one way or the other
module _ {A : Type 0} where
  chosen : (P : A → Type 0) (a n : ℕ) (x y : A) → (a < n → P x) → (n ≤ a → P y) → P (if nat_lt a n then x else y)
  chosen P a n x y below above =
      elim (cases_lt a n) [
        | inl h ↦
            let t : nat_lt a n ≡ true = lt-ltb a n h in
            subst (λ (b : Bool). P (if b then x else y)) (sym t) (below h)
        | inr h ↦
            let t : nat_lt a n ≡ false = le-ltb a n h in
            subst (λ (b : Bool). P (if b then x else y)) (sym t) (above h)
      ]

four_spelled : (a b c : ℕ) (bytes : List ℕ) → 248 ≤ a → AreBytes (a ∷ b ∷ c ∷ bytes) → IfSome (number_of_four a b c bytes) (Spells (a ∷ b ∷ c ∷ bytes))
four_spelled a b c [] from all = tt
four_spelled a b c (d ∷ rest) from all = spells_four a b c d rest from (all 0) (all 1) (all 2) (all 3)

three_spelled : (a b : ℕ) (bytes : List ℕ) → 224 ≤ a → AreBytes (a ∷ b ∷ bytes) → IfSome (number_of_three a b bytes) (Spells (a ∷ b ∷ bytes))
three_spelled a b [] from all = tt
three_spelled a b (c ∷ rest) from all =
    chosen (λ o. IfSome o (Spells (a ∷ b ∷ c ∷ rest))) a 248 _ _
    (λ below. spells_three a b c rest from below (all 1) (all 2))
    (λ more. four_spelled a b c rest more all)

two_spelled : (a : ℕ) (bytes : List ℕ) → 192 ≤ a → AreBytes (a ∷ bytes) → IfSome (number_of_two a bytes) (Spells (a ∷ bytes))
two_spelled a [] from all = tt
two_spelled a (b ∷ rest) from all =
    chosen (λ o. IfSome o (Spells (a ∷ b ∷ rest))) a 224 _ _
    (λ below. spells_two a b rest from below (all 1))
    (λ more. three_spelled a b rest more all)

spelled : (bytes : List ℕ) → AreBytes bytes → IfSome (first_number bytes) (Spells bytes)
spelled [] all = tt
spelled (a ∷ rest) all =
    chosen (λ o. IfSome o (Spells (a ∷ rest))) a 192 _ _ (λ below. spells_one a rest below) (λ more. two_spelled a rest more all)

pub all_are_spelled : NumbersAreSpelledOnce
all_are_spelled bytes n rest all read =
    let h : Spells bytes (n, rest) = subst (λ o. IfSome o (Spells bytes)) read (spelled bytes all) in
    (h.small, h.here)
