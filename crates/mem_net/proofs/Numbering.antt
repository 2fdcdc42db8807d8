-- A word that prints a number is text.
use Rattle.std.proofs.Common.{◌≡◌, ◌≤◌, ℕ, List, None, Some, Bool, true, false, ◌&&◌, nat_le, decimal, if◌then◌else◌, refl, sym, subst, arith}
use Rattle.std.specs.Str.{bytes_eq, IsUtf8}
use Rattle.std.specs.Str.Parse.{digits_value}
use Rattle.std.proofs.lemmas.Slice.Eq.{bytes_eq-Decides}
use Rattle.std.proofs.lemmas.Str.{IsUtf8-from_ascii}
use Rattle.std.proofs.lemmas.Fmt.{IsAscii-decimal}
use Rattle.byte_fields.proofs.Facts.{and_of, le_of}
use Rattle.program_words.specs.Numbers.{printed_number}
use Rattle.mem_net.specs.Limits.{max_job}

-- what is no text prints none
pub unprinted : (word : List ℕ) → (IsUtf8 word → ⊥) → printed_number 1 max_job word ≡ None
unprinted word other = by (nat_le 1 n && nat_le n max_job && bytes_eq word (decimal n)) refl
  where
    n : ℕ
    n = digits_value 10 word

    by : (test : Bool) → (nat_le 1 n && nat_le n max_job && bytes_eq word (decimal n)) ≡ test → (if test then Some n else None) ≡ None
    by true is =
        let outer = and_of (nat_le 1 n && nat_le n max_job) (bytes_eq word (decimal n)) is in
        let inner = and_of (nat_le 1 n) (nat_le n max_job) outer.0 in
        let small : n ≤ 1000 = le_of n max_job inner.1 in
        let same : word ≡ decimal n = (bytes_eq-Decides word (decimal n)).0 outer.1 in
        absurd (other (subst IsUtf8 (sym same) (IsUtf8-from_ascii (decimal n) (IsAscii-decimal n (omega (arith, small))))))
    by false is = refl
