-- A monic polynomial has fewer roots than coefficients.
use Rattle.std.proofs.Common.{◌≡◌, ◌≢◌, ℕ, zero, suc, ◌-◌, ◌<◌, ◌≤◌, ◌^◌, List, [], ◌∷◌, length, get_or, map, take, refl, sym, ap, ◌∙◌, arith, lit<}
use Rattle.std.proofs.lemmas.List.{length-map}
use Rattle.std.proofs.lemmas.Nat.{xor_lt}
use Rattle.std.specs.Int.Bits.{bit_xor, xor_self, xor_zero_r, xor_assoc}
use Rattle.gf_65536.specs.Field.{gf_mul}
use Rattle.gf_65536.proofs.Linear.{xor_swap}
use Rattle.gf_65536.proofs.Product.{mul_left, mul_right, mul_assoc, mul_comm, mul_below, mul_zero}
use Rattle.gf_65536.proofs.Inverse.{same_from_xor, no_zero_divisors}
use Rattle.rs_parity.specs.Weight.{HasElements}
use Rattle.rs_repair.specs.Inside.{value}

-- the last coefficient, that of the highest power, is 1
abbrev pub IsMonic : List ℕ → Type 0
IsMonic [] = ⊥
IsMonic (l ∷ []) = l ≡ 1
IsMonic (l ∷ k ∷ ls) = IsMonic (k ∷ ls)

-- the numbers differ
abbrev pub AreDistinct : List ℕ → Type 0
AreDistinct [] = Unit {0}
AreDistinct (r ∷ rs) = ((k : ℕ) → k < length rs → get_or rs k 0 ≢ r) × AreDistinct rs

-- the sum of two polynomials
unfoldable pub plus : List ℕ → List ℕ → List ℕ
plus [] bs = bs
plus (a ∷ as') [] = a ∷ as'
plus (a ∷ as') (b ∷ bs) = bit_xor a b ∷ plus as' bs

length-plus : (a b : List ℕ) → length b ≤ length a → length (plus a b) ≡ length a
unfolding plus
length-plus [] [] h = refl
length-plus [] (y ∷ b) h = absurd (omega arith)
length-plus (x ∷ a) [] h = refl
length-plus (x ∷ a) (y ∷ b) h = ap suc (length-plus a b (omega arith))

pub plus_elements : (a b : List ℕ) → HasElements a → HasElements b → HasElements (plus a b)
unfolding plus
plus_elements [] b ha hb k = hb k
plus_elements (x ∷ a) [] ha hb k = ha k
plus_elements (x ∷ a) (y ∷ b) ha hb zero = xor_lt 16 x y (ha 0) (hb 0)
plus_elements (x ∷ a) (y ∷ b) ha hb (suc k) = plus_elements a b (λ i. ha (suc i)) (λ i. hb (suc i)) k

plus_monic : (a b : List ℕ) → IsMonic a → length b < length a → IsMonic (plus a b)
unfolding plus
plus_monic [] b m h = absurd m
plus_monic (x ∷ a) [] m h = m
plus_monic (x ∷ []) (y ∷ b) m h = absurd (omega arith)
plus_monic (x ∷ z ∷ a) (y ∷ []) m h = m
plus_monic (x ∷ z ∷ a) (y ∷ w ∷ b) m h = plus_monic (z ∷ a) (w ∷ b) m (omega arith)

value-plus : (a b : List ℕ) (x : ℕ) → value (plus a b) x ≡ bit_xor (value a x) (value b x)
unfolding plus value
value-plus [] b x = refl
value-plus (c ∷ a) [] x = sym (xor_zero_r (bit_xor c (gf_mul x (value a x))))
value-plus (c ∷ a) (d ∷ b) x =
    ap (bit_xor (bit_xor c d)) (ap (gf_mul x) (value-plus a b x) ∙ (mul_right x).keeps (value a x) (value b x)) ∙ xor_swap c d (gf_mul x (value a x)) (gf_mul x (value b x))

value-scaled : (r : ℕ) (a : List ℕ) (x : ℕ) → value (map (gf_mul r) a) x ≡ gf_mul r (value a x)
unfolding value
value-scaled r [] x = sym (mul_zero r)
value-scaled r (c ∷ a) x =
    ap (bit_xor (gf_mul r c)) (ap (gf_mul x) (value-scaled r a x) ∙ sym (mul_assoc x r (value a x)) ∙ ap (λ z. gf_mul z (value a x)) (mul_comm x r) ∙ mul_assoc r x (value a x))
    ∙ sym ((mul_right r).keeps c (gf_mul x (value a x)))

map_elements : (r : ℕ) (a : List ℕ) → HasElements (map (gf_mul r) a)
map_elements r [] k = lit< tt
map_elements r (c ∷ a) zero = mul_below r c
map_elements r (c ∷ a) (suc k) = map_elements r a k

pub value_below : (a : List ℕ) (x : ℕ) → HasElements a → value a x < 2 ^ 16
unfolding value
value_below [] x h = lit< tt
value_below (c ∷ a) x h = xor_lt 16 c (gf_mul x (value a x)) (h 0) (mul_below x (value a x))

-- the quotient by x + r
unfoldable quotient : ℕ → List ℕ → List ℕ
quotient r [] = []
quotient r (l ∷ ls) = plus ls (map (gf_mul r) (quotient r ls))

length-quotient : (r : ℕ) (ls : List ℕ) → length (quotient r ls) ≡ length ls - 1
unfolding quotient
length-quotient r [] = refl
length-quotient r (l ∷ ls) =
    let rest = length-map (quotient r ls) (gf_mul r) ∙ length-quotient r ls in
    length-plus ls (map (gf_mul r) (quotient r ls)) (omega (arith, rest)) ∙ omega arith

quotient_elements : (r : ℕ) (ls : List ℕ) → HasElements ls → HasElements (quotient r ls)
unfolding quotient
quotient_elements r [] h = h
quotient_elements r (l ∷ ls) h = plus_elements ls (map (gf_mul r) (quotient r ls)) (λ k. h (suc k)) (map_elements r (quotient r ls))

quotient_monic : (r l k : ℕ) (ls : List ℕ) → IsMonic (k ∷ ls) → IsMonic (quotient r (l ∷ k ∷ ls))
unfolding quotient
quotient_monic r l k ls m =
    plus_monic (k ∷ ls) (map (gf_mul r) (quotient r (k ∷ ls))) m (omega (arith, length-map (quotient r (k ∷ ls)) (gf_mul r), length-quotient r (k ∷ ls)))

value_step : (l x r vx vr vq : ℕ) → bit_xor vx vr ≡ gf_mul (bit_xor x r) vq
    → bit_xor (bit_xor l (gf_mul x vx)) (bit_xor l (gf_mul r vr)) ≡ gf_mul (bit_xor x r) (bit_xor vx (gf_mul r vq))
value_step l x r vx vr vq e =
    xor_swap l (gf_mul x vx) l (gf_mul r vr) ∙ ap (λ z. bit_xor z (bit_xor (gf_mul x vx) (gf_mul r vr))) (xor_self l)
    ∙ ap (bit_xor (gf_mul x vx)) (ap (gf_mul r) apart ∙ (mul_right r).keeps vx (gf_mul (bit_xor x r) vq))
    ∙ sym (xor_assoc (gf_mul x vx) (gf_mul r vx) (gf_mul r (gf_mul (bit_xor x r) vq)))
    ∙ (λ i. bit_xor (sym ((mul_left vx).keeps x r) i) (turn i))
    ∙ sym ((mul_right (bit_xor x r)).keeps vx (gf_mul r vq))
  where
    apart : vr ≡ bit_xor vx (gf_mul (bit_xor x r) vq)
    apart = ap (λ z. bit_xor z vr) (sym (xor_self vx)) ∙ xor_assoc vx vx vr ∙ ap (bit_xor vx) e

    turn : gf_mul r (gf_mul (bit_xor x r) vq) ≡ gf_mul (bit_xor x r) (gf_mul r vq)
    turn = sym (mul_assoc r (bit_xor x r) vq) ∙ ap (λ z. gf_mul z vq) (mul_comm r (bit_xor x r)) ∙ mul_assoc (bit_xor x r) r vq

-- the difference of two values, by the quotient
value-quotient : (ls : List ℕ) (x r : ℕ) → bit_xor (value ls x) (value ls r) ≡ gf_mul (bit_xor x r) (value (quotient r ls) x)
unfolding quotient value
value-quotient [] x r = sym (mul_zero (bit_xor x r))
value-quotient (l ∷ ls) x r = value_step l x r (value ls x) (value ls r) (value (quotient r ls) x) (value-quotient ls x r)
    ∙ ap (gf_mul (bit_xor x r)) (sym (value-plus ls (map (gf_mul r) (quotient r ls)) x ∙ ap (bit_xor (value ls x)) (value-scaled r (quotient r ls) x)))

pub few_roots : (rs ls : List ℕ) → IsMonic ls → HasElements ls → AreDistinct rs → HasElements rs → ((k : ℕ) → k < length rs → value ls (get_or rs k 0) ≡ 0) → length rs < length ls
unfolding value
few_roots rs [] m h d hr zeros = absurd m
few_roots [] (l ∷ ls) m h d hr zeros = omega arith
few_roots (r ∷ rs) (l ∷ []) m h d hr zeros = let one : ◌≡◌ {A = ℕ} 1 0 = sym m ∙ sym (ap (bit_xor l) (mul_zero r) ∙ xor_zero_r l) ∙ zeros 0 (omega arith) in absurd (omega arith)
few_roots (r ∷ rs) (l ∷ k ∷ ls) m h d hr zeros =
    let fewer = few_roots rs (quotient r (l ∷ k ∷ ls)) (quotient_monic r l k ls m) (quotient_elements r (l ∷ k ∷ ls) h) d.1 (λ i. hr (suc i))
    (λ i hi. no_zero_divisors (bit_xor (get_or rs i 0) r) (value (quotient r (l ∷ k ∷ ls)) (get_or rs i 0))
    (xor_lt 16 (get_or rs i 0) r (hr (suc i)) (hr 0)) (value_below (quotient r (l ∷ k ∷ ls)) (get_or rs i 0) (quotient_elements r (l ∷ k ∷ ls) h))
    (λ e. d.0 i hi (same_from_xor (get_or rs i 0) r e))
    (sym (value-quotient (l ∷ k ∷ ls) (get_or rs i 0) r) ∙ (λ t. bit_xor (zeros (suc i) (omega arith) t) (zeros 0 (omega arith) t)))) in
    omega (arith, fewer, length-quotient r (l ∷ k ∷ ls))

-- a row up to its top is monic, and has the row's values
pub row_monic : (d : ℕ) (row : List ℕ) → d < length row → get_or row d 0 ≡ 1 → IsMonic (take (suc d) row)
row_monic d [] h top = absurd (omega arith)
row_monic zero (l ∷ row) h top = top
row_monic (suc d) (l ∷ []) h top = absurd (omega arith)
row_monic (suc d) (l ∷ k ∷ row) h top = row_monic d (k ∷ row) (omega arith) top

pub value_zeros : (row : List ℕ) (x : ℕ) → ((k : ℕ) → get_or row k 0 ≡ 0) → value row x ≡ 0
unfolding value
value_zeros [] x none = refl
value_zeros (l ∷ row) x none = (λ i. bit_xor (none 0 i) (gf_mul x (value_zeros row x (λ k. none (suc k)) i))) ∙ mul_zero x

pub value-take : (d : ℕ) (row : List ℕ) (x : ℕ) → ((k : ℕ) → d < k → get_or row k 0 ≡ 0) → value (take (suc d) row) x ≡ value row x
unfolding value
value-take d [] x above = refl
value-take zero (l ∷ row) x above = ap (λ v. bit_xor l (gf_mul x v)) (sym (value_zeros row x (λ k. above (suc k) (omega arith))))
value-take (suc d) (l ∷ row) x above = ap (λ v. bit_xor l (gf_mul x v)) (value-take d row x (λ k h. above (suc k) (omega arith)))

pub take_elements : (n : ℕ) (row : List ℕ) → HasElements row → HasElements (take n row)
take_elements zero row h k = lit< tt
take_elements (suc n) [] h k = lit< tt
take_elements (suc n) (l ∷ row) h zero = h 0
take_elements (suc n) (l ∷ row) h (suc k) = take_elements n row (λ i. h (suc i)) k

pub distinct_from : (xs : List ℕ) → ((i j : ℕ) → i < j → j < length xs → get_or xs j 0 ≢ get_or xs i 0) → AreDistinct xs
distinct_from [] apart = tt
distinct_from (x ∷ xs) apart = (λ k h. apart 0 (suc k) (omega arith) (omega arith), distinct_from xs (λ i j l h. apart (suc i) (suc j) (omega arith) (omega arith)))
