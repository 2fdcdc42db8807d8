-- Numbers as words.
use Rattle.std.specs.Prelude.{◌≡◌, ◌↔◌, ◌≤◌, ◌<◌, ◌^◌, decimal, ℕ, ◌&&◌, List, Option, None, Some, if◌then◌else◌, nat_le}
use Rattle.std.specs.Str.{bytes_eq}
use Rattle.std.specs.Str.Parse.{digits_value}

-- this number, where it lies between the two and the word is what is printed of it
abbrev pub number_printed : ℕ → ℕ → ℕ → List ℕ → Option ℕ
number_printed low high n word = if nat_le low n && nat_le n high && bytes_eq word (decimal n) then Some n else None

-- the number that the word's digits write
abbrev pub printed_number : ℕ → ℕ → List ℕ → Option ℕ
printed_number low high word = number_printed low high (digits_value 10 word) word

-- ---- law

-- a word gives a number exactly where it is one between the two as it is printed
abbrev pub NumbersArePrinted : Type 0
NumbersArePrinted = (low high n : ℕ) (word : List ℕ) → high < 2 ^ 64 → (printed_number low high word ≡ Some n)
    ↔ ((low ≤ n) × (n ≤ high) × (word ≡ decimal n))
