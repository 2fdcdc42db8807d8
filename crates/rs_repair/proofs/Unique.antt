-- A block has at most one repair.
use Rattle.std.proofs.Common.{◌≡◌, ℕ, zero, suc, ◌+◌, ◌*◌, ◌≤◌, ⊎_elim, List, [], ◌∷◌, ◌++◌, length, get_or, drop, cond, eqb, refl, sym, ap, ◌∙◌, arith}
use Rattle.std.proofs.lemmas.Bool.{cases_eq, eq-eqb, ne_eqb}
use Rattle.std.proofs.lemmas.List.{length-append, append_cancel_right}
use Rattle.rs_parity.specs.CodeWord.{symbols}
use Rattle.rs_parity.specs.Weight.{differing, HasElements}
use Rattle.rs_parity.specs.Blocks.{IsParity}
use Rattle.rs_parity.proofs.Distance.{code_words_apart}
use Rattle.rs_parity.proofs.Symbols.{length-symbols, get_or-symbols}
use Rattle.byte_fields.specs.Codec.{IsBytes}
use Rattle.rs_repair.specs.Inside.{IsRepair}

-- 0 where the numbers are equal, and else 1
pub unequal : ℕ → ℕ → ℕ
unequal a b = cond (eqb a b) 0 1

unequal_triangle : (a b c : ℕ) → unequal b c ≤ unequal a b + unequal a c
unfolding unequal
unequal_triangle a b c =
    ⊎_elim
    (λ ab. ⊎_elim (λ ac. omega (arith, ap {B = ℕ} (λ t. cond t 0 1) (eq-eqb b c (sym ab ∙ ac)))) (λ ac. omega (arith, ap {B = ℕ} (λ t. cond t 0 1) (ne_eqb a c ac), at_most b c)) (cases_eq a c))
    (λ ab. omega (arith, ap {B = ℕ} (λ t. cond t 0 1) (ne_eqb a b ab), at_most b c))
    (cases_eq a b)
  where
    at_most : (x y : ℕ) → cond (eqb x y) 0 1 ≤ 1
    at_most x y = ⊎_elim (λ e. omega (arith, ap {B = ℕ} (λ t. cond t 0 1) (eq-eqb x y e))) (λ e. omega (arith, ap {B = ℕ} (λ t. cond t 0 1) (ne_eqb x y e))) (cases_eq x y)

differing_triangle : (a b c : List ℕ) → length a ≡ length b → length a ≡ length c → differing b c ≤ differing a b + differing a c
unfolding differing unequal
differing_triangle a [] c eb ec = omega arith
differing_triangle [] (y ∷ b) c eb ec = absurd (omega arith)
differing_triangle (x ∷ a) (y ∷ b) [] eb ec = absurd (omega arith)
differing_triangle (x ∷ a) (y ∷ b) (z ∷ c) eb ec = omega (arith, unequal_triangle x y z, differing_triangle a b c (omega arith) (omega arith))

differing_self : (p : List ℕ) → differing p p ≡ 0
unfolding differing
differing_self [] = refl
differing_self (x ∷ p) = omega (arith, ap {B = ℕ} (λ t. cond t 0 1) (eq-eqb x x refl), differing_self p)

pub differing-append : (a b p : List ℕ) → length a ≡ length b → differing (a ++ p) (b ++ p) ≡ differing a b
unfolding differing
differing-append [] [] p e = differing_self p
differing-append [] (y ∷ b) p e = absurd (omega arith)
differing-append (x ∷ a) [] p e = absurd (omega arith)
differing-append (x ∷ a) (y ∷ b) p e = ap (λ n. cond (eqb x y) 0 1 + n) (differing-append a b p (omega arith))

-- bytes of one length with one list of symbols are equal
symbols_same : (x y : List ℕ) → length x ≡ length y → IsBytes x → IsBytes y → symbols x ≡ symbols y → x ≡ y
unfolding symbols
symbols_same [] [] size hx hy e = refl
symbols_same [] (b ∷ y) size hx hy e = absurd (omega arith)
symbols_same (a ∷ x) [] size hx hy e = absurd (omega arith)
symbols_same (a ∷ []) (b ∷ []) size hx hy e = let same : a ≡ b = omega (arith, ap (λ s. get_or s 0 0) e) in ap (λ z. z ∷ []) same
symbols_same (a ∷ []) (b ∷ d ∷ y) size hx hy e = absurd (omega arith)
symbols_same (a ∷ c ∷ x) (b ∷ []) size hx hy e = absurd (omega arith)
symbols_same (a ∷ c ∷ x) (b ∷ d ∷ y) size hx hy e =
    let first = ap (λ s. get_or s 0 0) e in
    let high : a ≡ b = omega (arith, first, hx 0, hy 0, hx 1, hy 1) in
    let low : c ≡ d = omega (arith, first, hx 0, hy 0, hx 1, hy 1) in
    let rest = symbols_same x y (omega arith) (λ k. hx (suc (suc k))) (λ k. hy (suc (suc k))) (ap (drop 1) e) in
    λ i. high i ∷ low i ∷ rest i

same_symbols_length : (x y : List ℕ) → length x ≡ length y → length (symbols x) ≡ length (symbols y)
same_symbols_length x y e = omega (arith, length-symbols x, length-symbols y, e)

-- the symbols of bytes are elements
pub symbols_elements : (x : List ℕ) → IsBytes x → HasElements (symbols x)
symbols_elements x h k = omega (arith, get_or-symbols x k, h (2 * k), h (2 * k + 1))

pub elements-append : (a b : List ℕ) → HasElements a → HasElements b → HasElements (a ++ b)
elements-append [] b ha hb k = hb k
elements-append (x ∷ a) b ha hb zero = ha 0
elements-append (x ∷ a) b ha hb (suc k) = elements-append a b (λ i. ha (suc i)) hb k

pub one_repair_each : (block parity x y : List ℕ) → length block ≤ 131006 → IsBytes x → IsBytes y → IsRepair block parity x → IsRepair block parity y → x ≡ y
one_repair_each block parity x y short hx hy rx ry =
    symbols_same x y (rx.size ∙ sym ry.size) hx hy (append_cancel_right (symbols x) (symbols y) parity words)
  where
    long : length (symbols x) ≡ length (symbols y)
    long = same_symbols_length x y (rx.size ∙ sym ry.size)

    total : length (symbols x ++ parity) ≡ length (symbols y ++ parity)
    total = omega (arith, length-append (symbols x) parity, length-append (symbols y) parity, long)

    fits : length (symbols x ++ parity) ≤ 65535
    fits = omega (arith, length-append (symbols x) parity, length-symbols x, rx.size, rx.has_parity.check.size)

    close : differing (symbols x ++ parity) (symbols y ++ parity) ≤ 32
    close = omega (arith, differing-append (symbols x) (symbols y) parity long, differing_triangle (symbols block) (symbols x) (symbols y) (same_symbols_length block x (sym rx.size)) (same_symbols_length block y (sym ry.size)), rx.near, ry.near)

    elements : HasElements parity
    elements = rx.has_parity.check.elements

    words : symbols x ++ parity ≡ symbols y ++ parity
    words = code_words_apart _ _ total fits (elements-append (symbols x) parity (symbols_elements x hx) elements) (elements-append (symbols y) parity (symbols_elements y hy) elements) rx.has_parity.code_word ry.has_parity.code_word close

-- a block that has the parity is its own repair
pub whole_block : (block parity : List ℕ) → IsParity block parity → IsRepair block parity block
whole_block block parity has = record { size = refl; near = omega (arith, differing_self (symbols block)); has_parity = has }
