-- What is torn is the front of a record.
use Rattle.std.proofs.Common.{◌≡◌, ℕ, zero, suc, ◌+◌, ◌-◌, ◌^◌, ◌<◌, ◌≤◌, false, List, ◌++◌, length, take, drop, replicate, Ok, refl, sym, ap, subst, ◌∙◌, arith, inl, inr, append_assoc, length-append, length-take, length-drop}
use Rattle.std.specs.Int.{w32, from_be_bytes}
use Rattle.std.proofs.lemmas.Bool.{true≢false, cases_lt}
use Rattle.std.proofs.lemmas.List.{drop-drop, take-append-drop, length-replicate}
use Rattle.byte_fields.specs.Field.{digits, span_at, number_at}
use Rattle.byte_fields.specs.Codec.{Stands, IsBytes}
use Rattle.byte_fields.specs.Records.{framed, frame_at, is_torn, IsTornOf, OnlyFrontsAreTorn}
use Rattle.byte_fields.proofs.Facts.{le_holds, bytes_taken, bytes_dropped, bytes_appended}
use Rattle.byte_fields.proofs.Codec.{wide32, u32_codec}

zeros_are_bytes : (n : ℕ) → IsBytes (replicate n 0)
zeros_are_bytes zero i = omega arith
zeros_are_bytes (suc n) zero = omega arith
zeros_are_bytes (suc n) (suc i) = zeros_are_bytes n i

-- four bytes are the digits of a number
digits_back : (four : List ℕ) → length four ≡ 4 → IsBytes four → digits w32 (from_be_bytes w32 four) ≡ four
unfolding digits
digits_back four len fits = wide32.back four len fits

-- a text of so many bytes that begins with what is left behind its number
frame_is : (four text : List ℕ) (n : ℕ) → digits w32 n ≡ four → length text ≡ n → framed text ≡ four ++ text
frame_is four text n back len = ap (λ (k : ℕ). digits w32 k ++ text) len ∙ ap (λ (t : List ℕ). t ++ text) back

-- fewer than four bytes are left
torn_number : (bytes : List ℕ) (at : ℕ) → IsBytes bytes → at ≤ length bytes → length (drop at bytes) < 4 → IsTornOf bytes at
torn_number bytes at fits le few =
    let left = drop at bytes in
    let zeros = replicate (4 - length left) 0 in
    let four = left ++ zeros in
    let many = length-replicate {A = ℕ} (4 - length left) 0 in
    let len : length four ≡ 4 = omega (arith, length-append left zeros, many, few) in
    let four_fits : IsBytes four = bytes_appended left zeros (bytes_dropped at bytes fits) (zeros_are_bytes (4 - length left)) in
    let n = from_be_bytes w32 four in
    let text = replicate n 0 in
    let small : length text < 2 ^ 32 = subst (λ (k : ℕ). k < 2 ^ 32) (sym (length-replicate {A = ℕ} n 0)) (wide32.below four four_fits) in
    let some : 0 < length (zeros ++ text) = omega (arith, length-append zeros text, many, few) in
    (text, zeros ++ text, small, some, frame_is four text n (digits_back four len four_fits) (length-replicate {A = ℕ} n 0) ∙ append_assoc left zeros text)

-- fewer than the number tells
torn_text : (bytes : List ℕ) (at n : ℕ) → 4 ≤ length (drop at bytes) → n < 2 ^ 32 → digits w32 n ≡ take 4 (drop at bytes) → length (drop at bytes) < 4 + n → IsTornOf bytes at
torn_text bytes at n enough below back few =
    let left = drop at bytes in
    let zeros = replicate (4 + n - length left) 0 in
    let text = drop 4 left ++ zeros in
    let many = length-replicate {A = ℕ} (4 + n - length left) 0 in
    let len : length text ≡ n = omega (arith, length-append (drop 4 left) zeros, length-drop 4 left, many, enough, few) in
    let whole : take 4 left ++ (drop 4 left ++ zeros) ≡ left ++ zeros = sym (append_assoc (take 4 left) (drop 4 left) zeros) ∙ ap (λ (t : List ℕ). t ++ zeros) (take-append-drop 4 left) in
    (text, zeros, subst (λ (k : ℕ). k < 2 ^ 32) (sym len) below, omega (arith, many, few), frame_is (take 4 left) text n back len ∙ whole)

-- where the number and its bytes are there, nothing is torn
there_is_not_torn : (bytes : List ℕ) (at n : ℕ) → number_at w32 bytes at ≡ Ok (n, at + 4) → at + 4 + n ≤ length bytes → is_torn bytes at ≡ false
unfolding is_torn frame_at span_at
there_is_not_torn bytes at n e le = rw (e, le_holds (at + 4 + n) (length bytes) le) refl

pub only_fronts : OnlyFrontsAreTorn
only_fronts bytes at fits le is =
    let left = drop at bytes in
    let len : length left ≡ length bytes - at = length-drop at bytes in
    elim (cases_lt (length left) 4) [
      | inl few ↦ torn_number bytes at fits le few
      | inr enough ↦
          let four = take 4 left in
          let four_fits : IsBytes four = bytes_taken 4 left (bytes_dropped at bytes fits) in
          let four_len : length four ≡ 4 = omega (arith, length-take 4 left, enough) in
          let n = from_be_bytes w32 four in
          let back = digits_back four four_len four_fits in
          let below = wide32.below four four_fits in
          let stands : Stands bytes at four (at + 4) = record {
            here = sym (take-append-drop 4 left) ∙ ap (λ (rest : List ℕ). four ++ rest) (drop-drop 4 at bytes);
            next_is = omega (arith, four_len);
            within = omega (arith, len, enough);
          } in
          let read = u32_codec.again bytes at n (at + 4) (subst (λ (t : List ℕ). Stands bytes at t (at + 4)) (sym back) stands) below in
          elim (cases_lt (length bytes) (at + 4 + n)) [
            | inl few ↦ torn_text bytes at n enough below back (omega (arith, len, few, le))
            | inr there ↦ absurd (true≢false (sym is ∙ there_is_not_torn bytes at n read there))
          ]
    ]
