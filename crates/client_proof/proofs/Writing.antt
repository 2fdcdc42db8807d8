-- Roots as words, and back.
use Rattle.std.proofs.Common.{◌≡◌, ℕ, zero, suc, ◌+◌, ◌*◌, ◌/◌, ◌%◌, ◌<◌, ◌==◌, Bool, true, false, ◌&&◌, inl, inr, if◌then◌else◌, List, [], ◌∷◌, length, slice_index, Option, Some, None, unwrap_or, Result, Ok, Err, refl, sym, ap, ◌∙◌, arith}
use Rattle.std.proofs.lemmas.Bool.{and_parts, cases_lt, eqb-true}
use Rattle.std.specs.List.{list_all}
use Rattle.std.specs.Result.{result_ok, result_unwrap_or}
use Rattle.hex.specs.Hex.{IsBytes, decode_pairs, decode_sized, digit_or_error, hex_digit_value, encode_lower, encode_with, lower_digits, pair_value, value_at, ◌>>=◌}
use Rattle.hex.specs.declared.error.FromHexError.{FromHexError}
use Rattle.hex.proofs.HexLemmas.{decode_of-even, decode_pairs-ok, decode_sized-encode_lower, decode_sized-ok, decode_sized-twice}
use Rattle.client_proof.specs.Words.{is_lower_digit, root_of_word, RootsAreWritten}

-- ---- the table of digits

-- the digit of a value is a lower-case one
abbrev is_lower_at : ℕ → Bool
is_lower_at d = is_lower_digit (slice_index lower_digits d)

-- a lower-case digit is that of its value
abbrev is_written_back : ℕ → Bool
is_written_back c = if is_lower_digit c then slice_index lower_digits (unwrap_or (hex_digit_value c) 0) == c else true

-- the test of the numbers below n
abbrev all_below : (ℕ → Bool) → ℕ → Bool
all_below test zero = true
all_below test (suc n) = test n && all_below test n

below_at : (test : ℕ → Bool) (n k : ℕ) → all_below test n ≡ true → k < n → test k ≡ true
below_at test zero k holds lt = absurd (omega arith)
below_at test (suc n) k holds lt =
    let parts = and_parts (test n) (all_below test n) holds in
    elim (cases_lt k n) [
      | inl below ↦ below_at test n k parts.1 below
      | inr top ↦
          let e : k ≡ n = omega arith in
          rw e parts.0
    ]

lower_at : (d : ℕ) → d < 16 → is_lower_digit (slice_index lower_digits d) ≡ true
lower_at d lt = below_at is_lower_at 16 d refl lt

lower_small : (c : ℕ) → is_lower_digit c ≡ true → c < 103
lower_small c lower = grind (arith)

written_back : (c v : ℕ) → is_lower_digit c ≡ true → hex_digit_value c ≡ Some v → slice_index lower_digits v ≡ c
written_back c v lower value =
    let test : is_written_back c ≡ true = below_at is_written_back 103 c refl (lower_small c lower) in
    let here : (slice_index lower_digits (unwrap_or (hex_digit_value c) 0) == c) ≡ true = rw lower at test in
    let found : (slice_index lower_digits v == c) ≡ true = rw value at here in
    eqb-true (slice_index lower_digits v) c found

-- ---- digits that were written

digits_lower : (bytes : List ℕ) → IsBytes bytes → list_all is_lower_digit (encode_lower bytes) ≡ true
unfolding encode_with
digits_lower [] fits = refl
digits_lower (b ∷ rest) fits =
    let byte : b < 256 = fits 0 in
    let high = lower_at (b / 16) (omega arith) in
    let low = lower_at (b % 16) (omega arith) in
    rw (high, low) (digits_lower rest (λ k. fits (suc k)))

-- ---- digits that are read

-- what an `Ok` behind a step shows
step_ok : {A B : Type 0} (r : Result A FromHexError) (f : A → Result B FromHexError) (y : B) → (r >>= f) ≡ Ok y → (x : A) × (r ≡ Ok x) × (f x ≡ Ok y)
step_ok (Ok x) f y h = (x, refl, h)
step_ok (Err e) f y h = cc h

digit_read : (c i : ℕ) (o : Option ℕ) (v : ℕ) → digit_or_error c i o ≡ Ok v → o ≡ Some v
digit_read c i (Some w) v h = ap Some (ap (λ (r : Result ℕ FromHexError). result_unwrap_or r 0) h)
digit_read c i None v h = cc h

digit_small : (c v : ℕ) → hex_digit_value c ≡ Some v → v < 16
digit_small c v h = grind (arith)

read_back : (i : ℕ) (word bytes : List ℕ) → list_all is_lower_digit word ≡ true → decode_pairs i word ≡ Ok bytes → word ≡ encode_lower bytes
unfolding decode_pairs encode_with
read_back i [] bytes lower h =
    let e : [] ≡ bytes = ap (λ (r : Result (List ℕ) FromHexError). result_unwrap_or r []) h in
    ap encode_lower e
read_back i (a ∷ []) bytes lower h = cc h
read_back i (a ∷ b ∷ rest) bytes lower h =
    let first = and_parts (is_lower_digit a) (list_all is_lower_digit (b ∷ rest)) lower in
    let second = and_parts (is_lower_digit b) (list_all is_lower_digit rest) first.1 in
    let p0 = step_ok (pair_value a b i) _ bytes h in
    let p1 = step_ok (value_at a i) _ p0.0 p0.1 in
    let p2 = step_ok (value_at b (i + 1)) _ p0.0 p1.2 in
    let p3 = step_ok (decode_pairs (i + 2) rest) _ bytes p0.2 in
    let behind = read_back (i + 2) rest p3.0 second.1 p3.1 in
    let e : p0.0 ∷ p3.0 ≡ bytes = ap (λ (r : Result (List ℕ) FromHexError). result_unwrap_or r []) p3.2 in
    let va = digit_read a i (hex_digit_value a) p1.0 p1.1 in
    let vb = digit_read b (i + 1) (hex_digit_value b) p2.0 p2.1 in
    let byte : p1.0 * 16 + p2.0 ≡ p0.0 = ap (λ (r : Result ℕ FromHexError). result_unwrap_or r 0) p2.2 in
    let sa = digit_small a p1.0 va in
    let sb = digit_small b p2.0 vb in
    let high : p0.0 / 16 ≡ p1.0 = omega arith in
    let low : p0.0 % 16 ≡ p2.0 = omega arith in
    let wa : slice_index lower_digits (p0.0 / 16) ≡ a = ap (slice_index lower_digits) high ∙ written_back a p1.0 first.0 va in
    let wb : slice_index lower_digits (p0.0 % 16) ≡ b = ap (slice_index lower_digits) low ∙ written_back b p2.0 second.0 vb in
    ap (λ (l : List ℕ). a ∷ b ∷ l) behind ∙ ap (λ (x : ℕ). x ∷ b ∷ encode_lower p3.0) (sym wa)
    ∙ ap (λ (x : ℕ). slice_index lower_digits (p0.0 / 16) ∷ x ∷ encode_lower p3.0) (sym wb) ∙ ap encode_lower e

-- ---- both ways

-- what is chosen where a test holds
pub picked : (test : Bool) (o : Option (List ℕ)) → test ≡ true → (if test then o else None) ≡ o
picked true o holds = refl
picked false o holds = cc holds

-- what a value of a choice shows
chosen : (test : Bool) (o : Option (List ℕ)) (root : List ℕ) → (if test then o else None) ≡ Some root → (test ≡ true) × (o ≡ Some root)
chosen true o root h = (refl, h)
chosen false o root h = cc h

ok_is : (r : Result (List ℕ) FromHexError) (root : List ℕ) → result_ok r ≡ Some root → r ≡ Ok root
ok_is (Ok x) root h = ap Ok (ap (λ (o : Option (List ℕ)). unwrap_or o []) h)
ok_is (Err e) root h = cc h

told : (word root : List ℕ) → root_of_word word ≡ Some root → IsBytes root × (length root ≡ 32) × (word ≡ encode_lower root)
told word root h =
    let both = chosen (list_all is_lower_digit word) (result_ok (decode_sized word 32)) root h in
    let read = ok_is (decode_sized word 32) root both.1 in
    let long = decode_sized-ok word 32 root read in
    let pairs : decode_pairs 0 word ≡ Ok root = sym (decode_of-even word (omega arith)) ∙ sym (decode_sized-twice word 32 long) ∙ read in
    let shape = decode_pairs-ok 0 word root pairs in
    let size = shape.1 in
    (shape.2, omega (arith, size, long), read_back 0 word root both.0 pairs)

written : (word root : List ℕ) → IsBytes root × (length root ≡ 32) × (word ≡ encode_lower root) → root_of_word word ≡ Some root
written word root is =
    let lower : list_all is_lower_digit word ≡ true = ap (list_all is_lower_digit) is.2 ∙ digits_lower root is.0 in
    let read : decode_sized word 32 ≡ Ok root = ap (λ (w : List ℕ). decode_sized w 32) is.2 ∙ decode_sized-encode_lower root 32 is.1 is.0 in
    picked (list_all is_lower_digit word) (result_ok (decode_sized word 32)) lower ∙ ap result_ok read

pub roots_written : RootsAreWritten
roots_written word root = (told word root, written word root)
