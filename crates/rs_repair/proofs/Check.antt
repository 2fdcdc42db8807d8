-- The steps of the loops that correct and compare blocks.
use Rattle.std.proofs.Common.{◌≡◌, ℕ, ◌+◌, ◌*◌, ◌/◌, ◌%◌, ◌<◌, ◌≤◌, Bool, true, false, eqb, ltb, cond, List, [], ◌∷◌, ◌++◌, length, get_or, take, drop, refl, sym, ap, ◌∙◌, arith, ltb-true, ltb-false}
use Rattle.std.proofs.lemmas.Grind.{same_number_lists}
use Rattle.std.proofs.lemmas.List.{take_more, take_all, drop_more, append_assoc}
use Rattle.std.specs.Int.Bits.{bit_xor, xor_self}
use Rattle.gf_65536.proofs.Inverse.{same_from_xor}
use Rattle.rs_parity.specs.CodeWord.{symbols}
use Rattle.rs_parity.specs.Weight.{differing}
use Rattle.rs_parity.proofs.Sums.{zip_sum, length-zip, get_or-zip}
use Rattle.rs_parity.proofs.Symbols.{get_or-symbols}
use Rattle.byte_fields.specs.Codec.{IsBytes}
use Rattle.rs_repair.specs.Inside.{symbol_bytes, IsDifference}

-- one symbol more in a comparison
pub differing_turn : (a b : List ℕ) (s : ℕ) → s < length a → s < length b → differing (drop s a) (drop s b) ≡ cond (eqb (get_or a s 0) (get_or b s 0)) 0 1 + differing (drop (s + 1) a) (drop (s + 1) b)
unfolding differing
differing_turn a b s ha hb = λ i. differing (drop_more a s 0 ha i) (drop_more b s 0 hb i)

pub differing_none : (b : List ℕ) → differing [] b ≡ 0
unfolding differing
differing_none b = refl

-- one symbol's bytes more
pub take_symbol : (x : List ℕ) (s symbol : ℕ) (whole : Bool) → IsBytes x → 2 * s < length x → symbol ≡ get_or (symbols x) s 0 → ltb (2 * s + 1) (length x) ≡ whole
    → take (2 * s) x ++ symbol_bytes whole symbol ≡ take (2 * (s + 1)) x
take_symbol x s symbol true h within is both =
    let next : 2 * s + 1 < length x = ltb-true (2 * s + 1) (length x) both in
    let high : symbol / 256 ≡ get_or x (2 * s) 0 = omega (arith, is, get_or-symbols x s, h (2 * s), h (2 * s + 1)) in
    let low : symbol % 256 ≡ get_or x (2 * s + 1) 0 = omega (arith, is, get_or-symbols x s, h (2 * s), h (2 * s + 1)) in
    let end : 2 * s + 1 + 1 ≡ 2 * (s + 1) = omega arith in
    (λ i. take (2 * s) x ++ high i ∷ low i ∷ []) ∙ sym (append_assoc (take (2 * s) x) (get_or x (2 * s) 0 ∷ []) (get_or x (2 * s + 1) 0 ∷ []))
    ∙ ap (λ t. t ++ get_or x (2 * s + 1) 0 ∷ []) (sym (take_more x (2 * s) 0 within)) ∙ sym (take_more x (2 * s + 1) 0 next) ∙ ap (λ n. take n x) end
take_symbol x s symbol false h within is alone =
    let past : length x ≤ 2 * s + 1 = ltb-false (2 * s + 1) (length x) alone in
    let high : symbol / 256 ≡ get_or x (2 * s) 0 = omega (arith, is, get_or-symbols x s, h (2 * s), h (2 * s + 1)) in
    ap (λ v. take (2 * s) x ++ v ∷ []) high ∙ sym (take_more x (2 * s) 0 within) ∙ take_all (2 * s + 1) x past ∙ sym (take_all (2 * (s + 1)) x (omega arith))

pub difference_is : (a b new : List ℕ) → IsDifference a b new → new ≡ zip_sum a b
difference_is a b new d =
    let same : length a ≡ length b = d.a_size ∙ sym d.b_size in
    same_number_lists new (zip_sum a b) (d.size ∙ sym (length-zip a b same ∙ d.a_size)) (λ k h. d.each k (omega (arith, d.size)) ∙ sym (get_or-zip a b k same))

-- the difference is zero exactly where the parities are equal
pub same_from_zero : (a b new : List ℕ) → IsDifference a b new → ((k : ℕ) → k < length new → get_or new k 0 ≡ 0) → a ≡ b
same_from_zero a b new d zero_at =
    same_number_lists a b (d.a_size ∙ sym d.b_size) (λ k h. same_from_xor (get_or a k 0) (get_or b k 0) (sym (d.each k (omega (arith, d.a_size))) ∙ zero_at k (omega (arith, d.a_size, d.size))))

pub zero_from_same : (a b new : List ℕ) → IsDifference a b new → a ≡ b → (k : ℕ) → k < length new → get_or new k 0 ≡ 0
zero_from_same a b new d same k h = d.each k (omega (arith, d.size)) ∙ ap (λ l. bit_xor (get_or a k 0) (get_or l k 0)) (sym same) ∙ xor_self (get_or a k 0)
