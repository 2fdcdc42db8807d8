-- A number, and the digits that are printed of it.
use Rattle.std.proofs.Common.{◌≡◌, ◌<◌, ◌≤◌, ◌^◌, ℕ, List, [], ◌∷◌, length, get_or, None, Some, Result, Ok, Bool, true, false, ◌&&◌, nat_le, decimal, if◌then◌else◌, refl, sym, ◌∙◌, ap, subst, arith, rules}
use Rattle.std.specs.Result.{OkIff}
use Rattle.std.specs.Str.{bytes_eq}
use Rattle.std.specs.Str.Parse.{digits_value, ParsesUnsigned, AllDigits}
use Rattle.std.proofs.lemmas.Slice.Eq.{bytes_eq-Decides}
use Rattle.std.proofs.lemmas.Str.Parse.{IsNumeralModel, numerals_by_value, parse_plain, digit_at}
use Rattle.std.proofs.lemmas.Fmt.{decimal-digits_value, digits_value-decimal, digits_decimal, decimal_nonempty, first_decimal, parse-decimal}
use Rattle.byte_fields.proofs.Facts.{and_of, and_holds, le_of, le_holds}
use Rattle.program_words.specs.Numbers.{printed_number, number_printed}
use Rattle.program_words.specs.Inside.{begins_as_number}

own : IsNumeralModel (AllDigits 10) (digits_value 10)
own = numerals_by_value (AllDigits 10) (search rules)

given : (test : Bool) (m n : ℕ) → (if test then Some m else None) ≡ Some n → (test ≡ true) × (m ≡ n)
given true m n h = (refl, cc h)
given false m n h = absurd (cc h)

where_true : (test : Bool) (m : ℕ) → test ≡ true → (if test then Some m else None) ≡ Some m
where_true true m h = refl
where_true false m h = absurd (cc h)

where_false : (test : Bool) (m : ℕ) → (test ≡ true → ⊥) → (if test then Some m else None) ≡ None
where_false true m h = absurd (h refl)
where_false false m h = refl

-- a number from 1, below the end of its type
module _ (low high : ℕ) (fits : high < 2 ^ 64) where
  -- whether this is a number within the bounds that is printed so
  abbrev is_printed : ℕ → List ℕ → Bool
  is_printed n word = nat_le low n && nat_le n high && bytes_eq word (decimal n)

  tests_hold : (n : ℕ) (word : List ℕ) → is_printed n word ≡ true → (low ≤ n) × (n ≤ high) × (word ≡ decimal n)
  tests_hold n word h =
      let outer = and_of (nat_le low n && nat_le n high) (bytes_eq word (decimal n)) h in
      let inner = and_of (nat_le low n) (nat_le n high) outer.0 in
      (le_of low n inner.0, le_of n high inner.1, (bytes_eq-Decides word (decimal n)).0 outer.1)

  -- a number is printed as its word
  pub is_as_printed : (word : List ℕ) (n : ℕ) → printed_number low high word ≡ Some n → (low ≤ n) × (n ≤ high) × (word ≡ decimal n)
  is_as_printed word n h =
      let found : (is_printed (digits_value 10 word) word ≡ true) × (digits_value 10 word ≡ n) = given (is_printed (digits_value 10 word) word) (digits_value 10 word) n h in
      tests_hold n word (subst (λ (m : ℕ). is_printed m word ≡ true) found.1 found.0)

  -- what is printed of a number is its word
  pub is_number : (word : List ℕ) (n : ℕ) → low ≤ n → n ≤ high → word ≡ decimal n → printed_number low high word ≡ Some n
  is_number word n from to is =
      let value : digits_value 10 word ≡ n = ap (digits_value 10) is ∙ digits_value-decimal own n (omega arith) in
      ap (λ (m : ℕ). number_printed low high m word) value
      ∙ where_true (is_printed n word) n (and_holds (nat_le low n && nat_le n high) (bytes_eq word (decimal n)) (and_holds (nat_le low n) (nat_le n high) (le_holds low n from) (le_holds n high to)) ((bytes_eq-Decides word (decimal n)).1 is))

  -- a word that is printed of no number within the bounds is none
  is_none : (word : List ℕ) → ((n : ℕ) → low ≤ n → n ≤ high → word ≡ decimal n → ⊥) → printed_number low high word ≡ None
  is_none word none =
      where_false (is_printed (digits_value 10 word) word) (digits_value 10 word)
      (λ h. let is : (low ≤ digits_value 10 word) × (digits_value 10 word ≤ high) × (word ≡ decimal (digits_value 10 word)) = tests_hold (digits_value 10 word) word h in
      none (digits_value 10 word) is.0 is.1 is.2)

  module _ (some : 1 ≤ low) where
    -- a number begins with a digit from 1 to 9
    first_digit : (word : List ℕ) (n : ℕ) → low ≤ n → n ≤ high → word ≡ decimal n → (0 < length word) × (49 ≤ get_or word 0 0) × (get_or word 0 0 ≤ 57)
    first_digit word n from to is =
        let small : n < 2 ^ 64 = omega arith in
        let long : 0 < length (decimal n) = decimal_nonempty n small in
        let first : 48 < get_or (decimal n) 0 0 = first_decimal n (omega arith) small in
        let range = digit_at (decimal n) 0 (digits_decimal own n small) long in
        subst (λ (w : List ℕ). (0 < length w) × (49 ≤ get_or w 0 0) × (get_or w 0 0 ≤ 57)) (sym is) (long, omega arith, omega (arith, range))

    -- what `parse` reads of a word that begins with a digit from 1 to 9
    pub parsed : {E : Type 0} (word : List ℕ) (n : ℕ) (result : Result ℕ E) → result ≡ Ok n → ParsesUnsigned 32 10 word result → 49 ≤ get_or word 0 0 → 0 < length word → low ≤ n → n ≤ high → printed_number low high word ≡ Some n
    parsed {E} word n result is parses first long from to =
        let plain : OkIff result (AllDigits 10 word × (0 < length word) × (digits_value 10 word < 2 ^ 32)) (digits_value 10 word) = parse_plain own 32 word result parses (λ plus. absurd (omega arith)) in
        let facts : (AllDigits 10 word × (0 < length word) × (digits_value 10 word < 2 ^ 32)) × (n ≡ digits_value 10 word) =
        subst (λ (r : Result ℕ E). OkIff r (AllDigits 10 word × (0 < length word) × (digits_value 10 word < 2 ^ 32)) (digits_value 10 word)) is plain in
        let value : n ≡ digits_value 10 word = facts.1 in
        let printed : decimal (digits_value 10 word) ≡ word = decimal-digits_value own word facts.0.0 long (λ zero. absurd (omega arith)) (omega arith) in
        is_number word n from to (sym printed ∙ ap decimal (sym value))

    -- what `parse` reads of a number within the bounds
    pub not_parsed : {E : Type 0} (word : List ℕ) (result : Result ℕ E) → high < 2 ^ 32 → ParsesUnsigned 32 10 word result → ((n : ℕ) → low ≤ n → n ≤ high → result ≡ Ok n → ⊥) → printed_number low high word ≡ None
    not_parsed word result within parses none = is_none word (λ n from to is. none n from to (parse-decimal 32 n word result (omega arith) (omega arith) is parses))

    -- a word that begins otherwise is no number
    pub begins_otherwise : (word : List ℕ) → begins_as_number word ≡ false → printed_number low high word ≡ None
    begins_otherwise [] other = is_none [] (λ n from to is. let first = first_digit [] n from to is in absurd (omega (arith, first.0)))
    begins_otherwise (byte ∷ bytes) other =
        is_none (byte ∷ bytes)
        (λ n from to is.
        let first : (0 < length (byte ∷ bytes)) × (49 ≤ byte) × (byte ≤ 57) = first_digit (byte ∷ bytes) n from to is in
        let test : begins_as_number (byte ∷ bytes) ≡ true = and_holds (nat_le 49 byte) (nat_le byte 57) (le_holds 49 byte first.1) (le_holds byte 57 first.2) in
        absurd (cc (other, test)))

pub begins_so : (word : List ℕ) → begins_as_number word ≡ true → (49 ≤ get_or word 0 0) × (0 < length word)
begins_so [] is = absurd (cc is)
begins_so (byte ∷ bytes) is = (le_of 49 byte (and_of (nat_le 49 byte) (nat_le byte 57) is).0, omega arith)
