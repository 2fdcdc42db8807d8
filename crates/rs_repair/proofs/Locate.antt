-- A polynomial that annihilates the sums of a light word vanishes at each of its places that is not 0.
use Rattle.std.proofs.Common.{◌≡◌, ℕ, zero, suc, ◌-◌, ◌*◌, ◌<◌, ◌≤◌, ⊎_elim, List, [], ◌∷◌, length, get_or, refl, sym, ap, ◌∙◌, arith, lit<}
use Rattle.std.proofs.lemmas.Bool.{cases_eq}
use Rattle.std.specs.Int.Bits.{bit_xor, xor_zero_r}
use Rattle.gf_65536.specs.Field.{gf_mul, gf_pow}
use Rattle.gf_65536.proofs.Linear.{xor_swap}
use Rattle.gf_65536.proofs.Product.{mul_left, mul_right, mul_assoc, mul_comm, mul_below, mul_zero, zero_mul}
use Rattle.gf_65536.proofs.Powers.{pow_add}
use Rattle.rs_parity.specs.CodeWord.{sum_at}
use Rattle.rs_repair.specs.Inside.{value}
use Rattle.rs_parity.specs.Weight.{weight, HasElements}
use Rattle.rs_parity.proofs.Sums.{sum_cons, sum_nil}
use Rattle.rs_parity.proofs.Distance.{once_more, vanish, weight_zero, weight_more}

-- the sum of the coefficients' products with the word's sums at j, j + 1, ..
unfoldable pub annihilated : List ℕ → ℕ → List ℕ → ℕ
annihilated [] j ws = 0
annihilated (l ∷ ls) j ws = bit_xor (gf_mul l (sum_at j ws)) (annihilated ls (suc j) ws)

-- each symbol times the polynomial's value at its place's power
unfoldable pub scaled : List ℕ → List ℕ → List ℕ
scaled ls [] = []
scaled ls (w ∷ ws) = gf_mul w (value ls (gf_pow 2 (length ws))) ∷ scaled ls ws

length-scaled : (ls ws : List ℕ) → length (scaled ls ws) ≡ length ws
unfolding scaled
length-scaled ls [] = refl
length-scaled ls (w ∷ ws) = ap suc (length-scaled ls ws)

scaled_elements : (ls ws : List ℕ) → HasElements (scaled ls ws)
unfolding scaled
scaled_elements ls [] k = lit< tt
scaled_elements ls (w ∷ ws) zero = mul_below w (value ls (gf_pow 2 (length ws)))
scaled_elements ls (w ∷ ws) (suc k) = scaled_elements ls ws k

scaled_light : (ls ws : List ℕ) → weight (scaled ls ws) ≤ weight ws
unfolding scaled
scaled_light ls [] = omega arith
scaled_light ls (w ∷ ws) = ⊎_elim
    (λ e. omega (arith, weight_zero w ws e, weight_zero (gf_mul w v) (scaled ls ws) (ap (λ z. gf_mul z v) e ∙ zero_mul v), scaled_light ls ws))
    (λ some. omega (arith, weight_more w ws some, at_most (gf_mul w v) (scaled ls ws), scaled_light ls ws))
    (cases_eq w 0)
  where
    v : ℕ
    v = value ls (gf_pow 2 (length ws))

    at_most : (x : ℕ) (xs : List ℕ) → weight (x ∷ xs) ≤ suc (weight xs)
    at_most x xs = ⊎_elim (λ e. omega (arith, weight_zero x xs e)) (λ some. omega (arith, weight_more x xs some)) (cases_eq x 0)

-- the first symbol's part of the sums
annihilated_cons : (ls : List ℕ) (j w : ℕ) (ws : List ℕ)
    → annihilated ls j (w ∷ ws) ≡ bit_xor (gf_mul (gf_mul w (value ls (gf_pow 2 (length ws)))) (gf_pow 2 (j * length ws))) (annihilated ls j ws)
unfolding annihilated value
annihilated_cons [] j w ws = sym (ap (λ z. bit_xor (gf_mul z (gf_pow 2 (j * length ws))) 0) (mul_zero w) ∙ xor_zero_r (gf_mul 0 (gf_pow 2 (j * length ws))) ∙ zero_mul (gf_pow 2 (j * length ws)))
annihilated_cons (l ∷ ls) j w ws =
    (λ i. bit_xor (gf_mul l (sum_cons j w ws i)) (annihilated_cons ls (suc j) w ws i))
    ∙ ap (λ z. bit_xor z (bit_xor (gf_mul (gf_mul w v) q') (annihilated ls (suc j) ws))) ((mul_right l).keeps (gf_mul w q) (sum_at j ws))
    ∙ xor_swap (gf_mul l (gf_mul w q)) (gf_mul l (sum_at j ws)) (gf_mul (gf_mul w v) q') (annihilated ls (suc j) ws)
    ∙ ap (λ z. bit_xor z (bit_xor (gf_mul l (sum_at j ws)) (annihilated ls (suc j) ws))) (sym here)
  where
    x : ℕ
    x = gf_pow 2 (length ws)

    v : ℕ
    v = value ls x

    q : ℕ
    q = gf_pow 2 (j * length ws)

    q' : ℕ
    q' = gf_pow 2 (suc j * length ws)

    xq : gf_mul x q ≡ q'
    xq = sym (pow_add 2 (length ws) (j * length ws)) ∙ ap (gf_pow 2) (once_more j (length ws))

    here : gf_mul (gf_mul w (bit_xor l (gf_mul x v))) q ≡ bit_xor (gf_mul l (gf_mul w q)) (gf_mul (gf_mul w v) q')
    here =
        ap (λ z. gf_mul z q) ((mul_right w).keeps l (gf_mul x v)) ∙ (mul_left q).keeps (gf_mul w l) (gf_mul w (gf_mul x v))
        ∙ (λ i. bit_xor ((ap (λ z. gf_mul z q) (mul_comm w l) ∙ mul_assoc l w q) i)
        ((ap (λ z. gf_mul z q) (ap (gf_mul w) (mul_comm x v) ∙ sym (mul_assoc w v x)) ∙ mul_assoc (gf_mul w v) x q ∙ ap (gf_mul (gf_mul w v)) xq) i))

annihilated_nil : (ls : List ℕ) (j : ℕ) → annihilated ls j [] ≡ 0
unfolding annihilated
annihilated_nil [] j = refl
annihilated_nil (l ∷ ls) j = (λ i. bit_xor (gf_mul l (sum_nil j i)) (annihilated_nil ls (suc j) i)) ∙ ap (λ z. bit_xor z 0) (mul_zero l)

pub sum-scaled : (ls : List ℕ) (j : ℕ) (ws : List ℕ) → sum_at j (scaled ls ws) ≡ annihilated ls j ws
unfolding scaled
sum-scaled ls j [] = sum_nil j ∙ sym (annihilated_nil ls j)
sum-scaled ls j (w ∷ ws) =
    sum_cons j (gf_mul w (value ls (gf_pow 2 (length ws)))) (scaled ls ws)
    ∙ (λ i. bit_xor (gf_mul (gf_mul w (value ls (gf_pow 2 (length ws)))) (gf_pow 2 (j * length-scaled ls ws i))) (sum-scaled ls j ws i))
    ∙ sym (annihilated_cons ls j w ws)

-- where the polynomial annihilates the sums at 1 to m of a word with at most m symbols that are not 0, it vanishes at their places
pub locate : (ls ws : List ℕ) (m : ℕ) → HasElements ws → length ws ≤ 65535 → weight ws ≤ m → ((j : ℕ) → 1 ≤ j → j ≤ m → annihilated ls j ws ≡ 0) → weight (scaled ls ws) ≡ 0
locate ls ws m h short light zeros =
    vanish (length ws) m (scaled ls ws) (length-scaled ls ws) short (scaled_elements ls ws) (omega (arith, scaled_light ls ws)) (λ j from to. sum-scaled ls j ws ∙ zeros j from to)

pub get_or-scaled : (ls ws : List ℕ) (s : ℕ) → s < length ws → get_or (scaled ls ws) s 0 ≡ gf_mul (get_or ws s 0) (value ls (gf_pow 2 (length ws - 1 - s)))
unfolding scaled
get_or-scaled ls [] s h = absurd (omega arith)
get_or-scaled ls (w ∷ ws) zero h = let e : length ws ≡ suc (length ws) - 1 - 0 = omega arith in ap (λ n. gf_mul w (value ls (gf_pow 2 n))) e
get_or-scaled ls (w ∷ ws) (suc s) h =
    let e : length ws - 1 - s ≡ suc (length ws) - 1 - suc s = omega arith in
    get_or-scaled ls ws s (omega arith) ∙ ap (λ n. gf_mul (get_or ws s 0) (value ls (gf_pow 2 n))) e
