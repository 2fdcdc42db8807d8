-- One step of the division by the generator keeps a code word.
use Rattle.std.proofs.Common.{◌≡◌, ℕ, zero, suc, ◌+◌, ◌*◌, ◌/◌, ◌%◌, ◌<◌, ◌≤◌, ◌^◌, List, [], ◌∷◌, ◌++◌, length, get_or, map, eqb, refl, sym, ap, ◌∙◌, add-one, arith, lit<, subst, inl, inr, replicate}
use Rattle.std.proofs.lemmas.Bool.{eqb-true, cases_lt}
use Rattle.std.proofs.lemmas.Grind.{same_number_lists}
use Rattle.std.proofs.lemmas.List.{length-append, get_or-map, get_or_past}
use Rattle.std.proofs.lemmas.Nat.{xor_comm, xor_lt}
use Rattle.std.specs.Int.Bits.{bit_xor, xor_self, xor_zero_r, xor_assoc, xor_block}
use Rattle.gf_65536.specs.Field.{product, remainder, gf_mul, gf_pow}
use Rattle.gf_65536.proofs.Linear.{xor_swap}
use Rattle.gf_65536.proofs.Tests.{at_below}
use Rattle.gf_65536.proofs.Product.{mul_left, mul_right, mul_assoc, mul_comm, mul_one, mul_zero, mul_below}
use Rattle.gf_65536.proofs.Powers.{fast_pow, fast_is, pow_add, pow_zero, pow_below}
use Rattle.gf_65536.proofs.Inverse.{same_from_xor}
use Rattle.rs_parity.specs.CodeWord.{sum_at, IsCodeWord}
use Rattle.rs_parity.specs.Weight.{HasElements}
use Rattle.rs_parity.proofs.Sums.{sum_cons, sum-append, sum-push, sum-zip, sum-scaled, zip_sum, length-zip, get_or-zip}
use Rattle.rs_parity.specs.Inside.{generator, IsMultiple, IsMovedSum}

-- one step of the division by the generator: the remainder moves up by a place, and takes away a multiple of the generator
pub record IsStep (old new : List ℕ) (symbol : ℕ) : Type 0 where
  pub old_length : length old ≡ 32
  pub new_length : length new ≡ 32
  pub each : (k : ℕ) → k < 32 → get_or new k 0 ≡ bit_xor (get_or old (k + 1) 0) (gf_mul (bit_xor (get_or old 0 0) symbol) (get_or generator k 0))

-- the sum by Horner's rule, which the checker computes
unfoldable horner : ℕ → ℕ → List ℕ → ℕ
horner x total [] = gf_mul total 1
horner x total (w ∷ ws) = horner x (bit_xor (gf_mul total x) w) ws

horner_is : (j total : ℕ) (ws : List ℕ) → horner (gf_pow 2 j) total ws ≡ sum_at j (total ∷ ws)
unfolding horner sum_at
horner_is j total [] =
    let none : j * 0 ≡ 0 = omega arith in
    sym (xor_zero_r (gf_mul total (gf_pow 2 (j * 0))) ∙ ap (λ n. gf_mul total (gf_pow 2 n)) none ∙ ap (gf_mul total) (pow_zero 2))
horner_is j total (w ∷ ws) =
    let place = gf_pow 2 (j * length ws) in
    let more : gf_mul (gf_pow 2 j) place ≡ gf_pow 2 (j * suc (length ws)) = sym (pow_add 2 j (j * length ws)) ∙ ap (gf_pow 2) (next (length ws)) in
    horner_is j (bit_xor (gf_mul total (gf_pow 2 j)) w) ws
    ∙ ap (λ z. bit_xor z (sum_at j ws)) ((mul_left place).keeps (gf_mul total (gf_pow 2 j)) w)
    ∙ xor_assoc (gf_mul (gf_mul total (gf_pow 2 j)) place) (gf_mul w place) (sum_at j ws)
    ∙ ap (λ z. bit_xor z (bit_xor (gf_mul w place) (sum_at j ws))) (mul_assoc total (gf_pow 2 j) place ∙ ap (gf_mul total) more)
  where
    next : (n : ℕ) → j + j * n ≡ j * suc n
    next n = omega arith

-- the powers 1 to 32 of 2 are roots of the generator
roots : (j : ℕ) → 1 ≤ j → j ≤ 32 → sum_at j (1 ∷ generator) ≡ 0
unfolding fast_pow gf_mul product remainder horner
roots zero from to = absurd (omega arith)
roots (suc i) from to =
    sym (horner_is (suc i) 1 generator) ∙ ap (λ x. horner x 1 generator) (sym (fast_is 6 2 (suc i) (lit< tt) (omega arith)))
    ∙ eqb-true _ _ (at_below 32 (λ i. eqb (horner (fast_pow 6 2 (suc i)) 1 generator) 0) refl i (omega arith))

-- at a root the generator without its first power is that power
at_root : (j : ℕ) → 1 ≤ j → j ≤ 32 → sum_at j generator ≡ gf_pow 2 (j * 32)
at_root j from to =
    sym (same_from_xor (gf_pow 2 (j * 32)) (sum_at j generator) (ap (λ z. bit_xor z (sum_at j generator)) (sym (mul_one (gf_pow 2 (j * 32)) (pow_below 2 (j * 32)))) ∙ sym (sum_cons j 1 generator) ∙ roots j from to))

-- (p + q) + (t + (u + q)) is p + (u + t)
cancel : (p q t u : ℕ) → bit_xor (bit_xor p q) (bit_xor t (bit_xor u q)) ≡ bit_xor p (bit_xor u t)
cancel p q t u =
    xor_swap p q t (bit_xor u q)
    ∙ ap (bit_xor (bit_xor p t)) (xor_comm q (bit_xor u q) ∙ xor_assoc u q q ∙ ap (bit_xor u) (xor_self q) ∙ xor_zero_r u)
    ∙ xor_assoc p t u ∙ ap (bit_xor p) (xor_comm t u)

get_or_padded : (xs : List ℕ) (k : ℕ) → get_or (xs ++ 0 ∷ []) k 0 ≡ get_or xs k 0
get_or_padded [] zero = refl
get_or_padded [] (suc k) = refl
get_or_padded (x ∷ xs) zero = refl
get_or_padded (x ∷ xs) (suc k) = get_or_padded xs k

step_sizes : (x w : ℕ) (xs new : List ℕ) → IsStep (x ∷ xs) new w → length (xs ++ 0 ∷ []) ≡ length (map (gf_mul (bit_xor x w)) generator)
step_sizes x w xs new s = length-append xs (0 ∷ []) ∙ omega (arith, s.old_length)

step_list : (x w : ℕ) (xs new : List ℕ) → IsStep (x ∷ xs) new w → new ≡ zip_sum (xs ++ 0 ∷ []) (map (gf_mul (bit_xor x w)) generator)
step_list x w xs new s = same_number_lists new _ (s.new_length ∙ sym sizes) at
  where
    same : length (xs ++ 0 ∷ []) ≡ length (map (gf_mul (bit_xor x w)) generator)
    same = step_sizes x w xs new s

    sizes : length (zip_sum (xs ++ 0 ∷ []) (map (gf_mul (bit_xor x w)) generator)) ≡ 32
    sizes = length-zip _ _ same ∙ same

    at : (k : ℕ) → k < length new → get_or new k 0 ≡ get_or (zip_sum (xs ++ 0 ∷ []) (map (gf_mul (bit_xor x w)) generator)) k 0
    at k h =
        let below : k < 32 = omega (arith, s.new_length) in
        let next : get_or (x ∷ xs) (k + 1) 0 ≡ get_or xs k 0 = rw add-one in
        s.each k below ∙ (λ i. bit_xor ((next ∙ sym (get_or_padded xs k)) i) (sym (get_or-map (gf_mul (bit_xor x w)) generator k 0 0 below) i))
        ∙ sym (get_or-zip _ _ k same)

-- where the sums of front and old vanish, those of front with one more symbol and new do, too
step_sums : (front old new : List ℕ) (symbol : ℕ) → symbol < 2 ^ 16 → IsStep old new symbol → ((j : ℕ) → 1 ≤ j → j ≤ 32 → sum_at j (front ++ old) ≡ 0)
    → (j : ℕ) → 1 ≤ j → j ≤ 32 → sum_at j ((front ++ symbol ∷ []) ++ new) ≡ 0
step_sums front [] new w h s word j from to = absurd (omega (arith, s.old_length))
step_sums front (x ∷ xs) new w h s word j from to =
    sum-append j (front ++ w ∷ []) new
    ∙ (λ i. bit_xor (gf_mul (sum-push j front w h i) (gf_pow 2 (j * s.new_length i))) (remains i))
    ∙ ap (λ z. bit_xor z (bit_xor (gf_mul tail once) (bit_xor (gf_mul x all) (gf_mul w all)))) ((mul_left all).keeps (gf_mul head once) w)
    ∙ cancel (gf_mul (gf_mul head once) all) (gf_mul w all) (gf_mul tail once) (gf_mul x all)
    ∙ sym scaled ∙ ap (gf_mul once) whole ∙ mul_zero once
  where
    head : ℕ
    head = sum_at j front

    tail : ℕ
    tail = sum_at j xs

    once : ℕ
    once = gf_pow 2 j

    all : ℕ
    all = gf_pow 2 (j * 32)

    before : ℕ
    before = gf_pow 2 (j * 31)

    most : length xs ≡ 31
    most = omega (arith, s.old_length)

    whole : bit_xor (gf_mul head all) (bit_xor (gf_mul x before) tail) ≡ 0
    whole = (λ i. bit_xor (gf_mul head (gf_pow 2 (j * sym s.old_length i))) (first i)) ∙ sym (sum-append j front (x ∷ xs)) ∙ word j from to
      where
        first : bit_xor (gf_mul x before) tail ≡ sum_at j (x ∷ xs)
        first = ap (λ n. bit_xor (gf_mul x (gf_pow 2 (j * n))) tail) (sym most) ∙ sym (sum_cons j x xs)

    remains : sum_at j new ≡ bit_xor (gf_mul tail once) (bit_xor (gf_mul x all) (gf_mul w all))
    remains =
        ap (sum_at j) (step_list x w xs new s) ∙ sum-zip j _ _ (step_sizes x w xs new s)
        ∙ (λ i. bit_xor ((sum-push j xs 0 (lit< tt) ∙ xor_zero_r (gf_mul tail once)) i) (multiple i))
      where
        multiple : sum_at j (map (gf_mul (bit_xor x w)) generator) ≡ bit_xor (gf_mul x all) (gf_mul w all)
        multiple = sum-scaled j (bit_xor x w) generator ∙ ap (gf_mul (bit_xor x w)) (at_root j from to) ∙ (mul_left all).keeps x w

    scaled : gf_mul once (bit_xor (gf_mul head all) (bit_xor (gf_mul x before) tail)) ≡ bit_xor (gf_mul (gf_mul head once) all) (bit_xor (gf_mul x all) (gf_mul tail once))
    scaled = (mul_right once).keeps (gf_mul head all) (bit_xor (gf_mul x before) tail) ∙ (λ i. bit_xor (on_head i) (on_rest i))
      where
        on_head : gf_mul once (gf_mul head all) ≡ gf_mul (gf_mul head once) all
        on_head = sym (mul_assoc once head all) ∙ ap (λ z. gf_mul z all) (mul_comm once head)

        places : j + j * 31 ≡ j * 32
        places = omega arith

        on_first : gf_mul once (gf_mul x before) ≡ gf_mul x all
        on_first =
            sym (mul_assoc once x before) ∙ ap (λ z. gf_mul z before) (mul_comm once x) ∙ mul_assoc x once before
            ∙ ap (gf_mul x) (sym (pow_add 2 j (j * 31)) ∙ ap (gf_pow 2) places)

        on_rest : gf_mul once (bit_xor (gf_mul x before) tail) ≡ bit_xor (gf_mul x all) (gf_mul tail once)
        on_rest = (mul_right once).keeps (gf_mul x before) tail ∙ (λ i. bit_xor (on_first i) (mul_comm once tail i))

-- where front and old are a code word, front with one more symbol and new are, too
pub step_keeps : (front old new : List ℕ) (symbol : ℕ) → symbol < 2 ^ 16 → IsStep old new symbol → IsCodeWord (front ++ old) → IsCodeWord ((front ++ symbol ∷ []) ++ new)
step_keeps front old new symbol fits step word = record { vanishes = step_sums front old new symbol fits step word.vanishes }

-- a number is the sum of its high bits and its low byte
bytes_of : (f : ℕ) → bit_xor (f / 256 * 256) (f % 256 * 1) ≡ f
bytes_of f =
    (λ i. bit_xor (high (f / 256) i) (low (f % 256) i)) ∙ xor_block 8 (f / 256) 0 0 (f % 256) (lit< tt) (omega arith)
    ∙ ap (λ x. x * 256 + f % 256) (xor_zero_r (f / 256)) ∙ omega arith
  where
    high : (h : ℕ) → h * 256 ≡ h * 256 + 0
    high h = omega arith

    low : (n : ℕ) → n * 1 ≡ 0 * 256 + n
    low n = omega arith

-- two rows of multiples, by the factor's bytes, make one step of the division
pub rows_step : (old high low new : List ℕ) (symbol factor : ℕ) → length old ≡ 32 → factor ≡ bit_xor (get_or old 0 0) symbol
    → IsMultiple (factor / 256 * 256) high → IsMultiple (factor % 256 * 1) low → IsMovedSum old high low new → IsStep old new symbol
rows_step old high low new symbol factor size is high_rows low_rows moved = record { old_length = size; new_length = moved.length_is; each = at }
  where
    at : (k : ℕ) → k < 32 → get_or new k 0 ≡ bit_xor (get_or old (k + 1) 0) (gf_mul (bit_xor (get_or old 0 0) symbol) (get_or generator k 0))
    at k h =
        let g = get_or generator k 0 in
        moved.each k h ∙ xor_assoc (get_or old (k + 1) 0) (get_or high k 0) (get_or low k 0)
        ∙ ap (bit_xor (get_or old (k + 1) 0))
        ((λ i. bit_xor (high_rows.each k h i) (low_rows.each k h i)) ∙ sym ((mul_left g).keeps (factor / 256 * 256) (factor % 256 * 1))
        ∙ ap (λ x. gf_mul x g) (bytes_of factor ∙ is))

-- a step keeps elements of the field
pub step_elements : (old new : List ℕ) (symbol : ℕ) → IsStep old new symbol → HasElements old → HasElements new
step_elements old new symbol step elements k = elim (cases_lt k 32) [
  | inl below ↦ subst (λ z. z < 2 ^ 16) (sym (step.each k below)) (xor_lt 16 _ _ (elements (k + 1)) (mul_below _ _))
  | inr past ↦ subst (λ z. z < 2 ^ 16) (sym (get_or_past new k 0 (omega (arith, step.new_length)))) (lit< tt)
]

pub zeros_elements : (n : ℕ) → HasElements (replicate n 0)
zeros_elements zero k = lit< tt
zeros_elements (suc n) zero = lit< tt
zeros_elements (suc n) (suc k) = zeros_elements n k
