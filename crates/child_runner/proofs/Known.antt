-- The name that a run is given is known as one.
use Rattle.std.proofs.Common.{◌≡◌, ℕ, zero, suc, ◌+◌, ◌*◌, ◌/◌, ◌%◌, ◌<◌, ◌≤◌, ◌^◌, Bool, true, false, not, ◌&&◌, ◌==◌, List, [], ◌∷◌, ◌++◌, length, take, drop, refl, ap, ◌∙◌, arith, true≢false, if◌then◌else◌, length-append}
use Rattle.std.specs.Prelude.{decimal, get_or, nat_le}
use Rattle.std.specs.Fmt.{digit_glyph}
use Rattle.std.specs.List.{list_all, flat_map, AllByRecursion}
use Rattle.std.specs.Str.{bytes_eq}
use Rattle.std.specs.Str.Parse.{AllDigits}
use Rattle.std.proofs.lemmas.List.{take_at, drop_at, length-take-le}
use Rattle.std.proofs.lemmas.Str.Parse.{digit_from_value}
use Rattle.std.proofs.lemmas.Fmt.{first_decimal, decimal_is_IsNumeral}
use Rattle.child_runner.specs.Names.{hex, numbered_suffix, folder_name, is_digit, is_hex, is_number, is_numbered, is_print_and_number, is_folder_name, named_bytes, front}

hex_digit : (n : ℕ) → n < 16 → is_hex (digit_glyph false n) ≡ true
hex_digit n small = grind arith

hex_digits : (bytes : List ℕ) → AllByRecursion (λ b. b < 256) bytes → list_all is_hex (flat_map hex bytes) ≡ true
hex_digits [] fits = refl
hex_digits (b ∷ bytes) fits =
    let below : b < 256 = fits.0 in
    ap (λ x. x && (is_hex (digit_glyph false (b % 16)) && list_all is_hex (flat_map hex bytes))) (hex_digit (b / 16) (omega (arith, below)))
    ∙ ap (λ x. x && list_all is_hex (flat_map hex bytes)) (hex_digit (b % 16) (omega arith))
    ∙ hex_digits bytes fits.1

two_each : (bytes : List ℕ) → length (flat_map hex bytes) ≡ 2 * length bytes
two_each [] = refl
two_each (b ∷ bytes) = let rest = two_each bytes in omega (arith, rest)

fits_front : (n : ℕ) (bytes : List ℕ) → AllByRecursion (λ b. b < 256) bytes → AllByRecursion (λ b. b < 256) (take n bytes)
fits_front zero [] fits = tt
fits_front (suc n) [] fits = tt
fits_front zero (b ∷ bytes) fits = tt
fits_front (suc n) (b ∷ bytes) fits = (fits.0, fits_front n bytes fits.1)

digit : (c : ℕ) → 48 ≤ c → c ≤ 57 → is_digit c ≡ true
digit c low high = grind arith

digits_pass : (ds : List ℕ) → AllDigits 10 ds → list_all is_digit ds ≡ true
digits_pass [] d = refl
digits_pass (c ∷ cs) d =
    let range = digit_from_value c d.0 in
    ap (λ x. x && list_all is_digit cs) (digit c (omega (arith, range)) (omega (arith, range))) ∙ digits_pass cs d.1

not_zero : (c : ℕ) → 48 < c → not (c == 48) ≡ true
not_zero c above = grind arith

number_passes : (ds : List ℕ) → AllDigits 10 ds → 0 < length ds → 48 < get_or ds 0 0 → is_number ds ≡ true
number_passes [] d some first = absurd (omega arith)
number_passes (c ∷ cs) d some first = ap (λ x. x && list_all is_digit (c ∷ cs)) (not_zero c first) ∙ digits_pass (c ∷ cs) d

positive : (n : ℕ) → (n == 0) ≡ false → 0 < n
positive zero e = absurd (true≢false e)
positive (suc n) e = omega arith

numbered_passes : (n : ℕ) → n < 2 ^ 32 → is_numbered (numbered_suffix n) ≡ true
numbered_passes n small = by (n == 0) refl
  where
    by : (b : Bool) → (n == 0) ≡ b → is_numbered (if b then [] else 45 ∷ decimal n) ≡ true
    by true e = refl
    by false e =
        let some : 0 < n = positive n e in
        let numeral = (decimal_is_IsNumeral n (omega (arith, small))).0 in
        number_passes (decimal n) numeral.1 numeral.0 (first_decimal n some (omega (arith, small)))

pub le_true : (m n : ℕ) → m ≤ n → nat_le m n ≡ true
le_true m n le = grind arith

-- the front of a print, its digits
abbrev print_digits : List ℕ → List ℕ
print_digits print = flat_map hex (take named_bytes print)

sixteen : (print : List ℕ) → named_bytes ≤ length print → length (print_digits print) ≡ 16
sixteen print long =
    let twice = two_each (take named_bytes print) in
    let eight = length-take-le named_bytes print long in
    omega (arith, twice, eight, long)

behind : (print : List ℕ) (number : ℕ) → AllByRecursion (λ b. b < 256) print → named_bytes ≤ length print → number < 2 ^ 32
    → is_print_and_number (print_digits print ++ numbered_suffix number) ≡ true
behind print number fits long small =
    let digits = print_digits print in
    let rest = numbered_suffix number in
    let count : length digits ≡ 16 = sixteen print long in
    let both = length-append digits rest in
    let enough : nat_le 16 (length (digits ++ rest)) ≡ true = le_true 16 (length (digits ++ rest)) (omega (arith, both, count)) in
    ap (λ x. x && (list_all is_hex (take 16 (digits ++ rest)) && is_numbered (drop 16 (digits ++ rest)))) enough
    ∙ ap (λ x. list_all is_hex x && is_numbered (drop 16 (digits ++ rest))) (take_at digits rest 16 count)
    ∙ ap (λ x. x && is_numbered (drop 16 (digits ++ rest))) (hex_digits (take named_bytes print) (fits_front named_bytes print fits))
    ∙ ap is_numbered (drop_at digits rest 16 count)
    ∙ numbered_passes number small

pub name_known : (print : List ℕ) (number : ℕ) → AllByRecursion (λ b. b < 256) print → named_bytes ≤ length print → number < 2 ^ 32
    → is_folder_name (folder_name print number) ≡ true
name_known print number fits long small =
    let rest = print_digits print ++ numbered_suffix number in
    let enough : nat_le 4 (length (front ++ rest)) ≡ true = le_true 4 (length (front ++ rest)) (omega arith) in
    ap (λ x. x && (bytes_eq (take 4 (front ++ rest)) front && is_print_and_number (drop 4 (front ++ rest)))) enough
    ∙ ap (λ x. bytes_eq x front && is_print_and_number (drop 4 (front ++ rest))) (take_at front rest 4 refl)
    ∙ ap is_print_and_number (drop_at front rest 4 refl)
    ∙ behind print number fits long small
