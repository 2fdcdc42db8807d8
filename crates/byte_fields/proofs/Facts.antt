-- Small facts on numbers, tests, options, lists and bytes, for this crate and those above it.
use Rattle.std.proofs.Common.{◌≡◌, ℕ, zero, suc, ◌+◌, ◌-◌, ◌%◌, ◌<◌, ◌≤◌, Bool, true, false, not, ◌&&◌, ◌||◌, cond, List, [], ◌∷◌, ◌++◌, length, take, drop, inl, inr, refl, sym, ap, subst, ◌∙◌, arith, length-take}
use Rattle.std.specs.Prelude.{nat_lt, nat_le, ◌==◌, sum, Option, Some, None}
use Rattle.std.specs.Int.{w16, w32, w64}
use Rattle.std.specs.List.{filter, flat_map, AllByRecursion}
use Rattle.std.specs.Option.{option_map, option_or}
use Rattle.std.specs.Ordering.{is_eq}
use Rattle.std.specs.declared.cmp.Ordering.{Ordering}
use Rattle.std.specs.declared.cmp.Ordering.TheVariants.{Less, Equal, Greater}
use Rattle.std.proofs.lemmas.Bool.{true≢false, cases_lt, lt-ltb, le-ltb, ltb-true, ltb-false, le-leb, lt-leb, leb-true, leb-false, eq-eqb, ne_eqb, eqb-true, not-true, not-false, and_from, and_parts, or_parts, or_right}
use Rattle.std.proofs.lemmas.List.{drop-take, get_or-drop, get_or-take, get_or_past, get_or_append_left, get_or-append_right}
use Rattle.std.proofs.lemmas.List.Concat.{flat_map-cons}
use Rattle.std.proofs.lemmas.List.Sums.{sum_by-cons}
use Rattle.std.proofs.lemmas.Nat.{mod_below}
use Rattle.std.proofs.Math.Seq.{take-append-add}
use Rattle.byte_fields.specs.Field.{Reader, digits, limited}
use Rattle.byte_fields.specs.Codec.{Stands, IsBytes}
use Rattle.byte_fields.specs.Broken.{IsRefused}

-- ---- tests of numbers

pub lt_holds : (a b : ℕ) → a < b → nat_lt a b ≡ true
lt_holds = lt-ltb

pub lt_fails : (a b : ℕ) → b ≤ a → nat_lt a b ≡ false
lt_fails = le-ltb

pub lt_of : (a b : ℕ) → nat_lt a b ≡ true → a < b
lt_of = ltb-true

pub not_lt_of : (a b : ℕ) → nat_lt a b ≡ false → b ≤ a
not_lt_of = ltb-false

pub le_holds : (a b : ℕ) → a ≤ b → nat_le a b ≡ true
le_holds = le-leb

pub le_fails : (a b : ℕ) → b < a → nat_le a b ≡ false
le_fails = lt-leb

pub le_of : (a b : ℕ) → nat_le a b ≡ true → a ≤ b
le_of = leb-true

pub not_le_of : (a b : ℕ) → nat_le a b ≡ false → b < a
not_le_of = leb-false

pub eq_holds : (a b : ℕ) → a ≡ b → (a == b) ≡ true
eq_holds = eq-eqb

pub eq_fails : (a b : ℕ) → (a ≡ b → ⊥) → (a == b) ≡ false
eq_fails = ne_eqb

pub eq_itself : (a : ℕ) → (a == a) ≡ true
eq_itself a = eq-eqb a a refl

pub eq_of : (a b : ℕ) → (a == b) ≡ true → a ≡ b
eq_of = eqb-true

-- ---- tests

pub not_of : (b : Bool) → not b ≡ true → b ≡ false
not_of = not-true

pub not_false_of : (b : Bool) → not b ≡ false → b ≡ true
not_false_of = not-false

pub not_true : (b : Bool) → (b ≡ true → ⊥) → b ≡ false
not_true true never = absurd (never refl)
not_true false never = refl

pub and_holds : (a b : Bool) → a ≡ true → b ≡ true → (a && b) ≡ true
and_holds = and_from

pub and_of : (a b : Bool) → (a && b) ≡ true → (a ≡ true) × (b ≡ true)
and_of = and_parts

pub or_false_of : (a b : Bool) → (a || b) ≡ false → (a ≡ false) × (b ≡ false)
or_false_of = or_parts

pub or_false : (b : Bool) → (b || false) ≡ b
or_false true = refl
or_false false = refl

pub or_true : (a b : Bool) → b ≡ true → (a || b) ≡ true
or_true = or_right

-- ---- orderings and options

pub tie_is_equal : (o : Ordering) → is_eq o ≡ true → o ≡ Equal
tie_is_equal Equal e = refl
tie_is_equal Less e = absurd (true≢false (sym e))
tie_is_equal Greater e = absurd (true≢false (sym e))

pub none_mapped : {A B : Type 0} (f : A → B) (o : Option A) → option_map f o ≡ None → o ≡ None
none_mapped f None e = refl
none_mapped f (Some x) e = absurd cc

pub none_behind : {A : Type 0} (o : Option A) → option_or o None ≡ o
none_behind None = refl
none_behind (Some x) = refl

-- ---- lists

pub filter_length : {A : Type 0} (keep : A → Bool) (xs : List A) → length (filter keep xs) ≤ length xs
filter_length keep [] = omega arith
filter_length keep (x ∷ xs) =
    elim (keep x) as (λ kept. length (cond kept (x ∷ filter keep xs) (filter keep xs)) ≤ length (x ∷ xs)) [
      | true ↦ omega (arith, filter_length keep xs)
      | false ↦ omega (arith, filter_length keep xs)
    ]

pub sum_more : (n : ℕ) (ns : List ℕ) → sum (n ∷ ns) ≡ n + sum ns
sum_more n ns = sum_by-cons (λ (m : ℕ). m) n ns

-- ---- bytes

pub two_bytes : (n : ℕ) → length (digits w16 n) ≡ 2
unfolding digits
two_bytes n = refl

pub four_bytes : (n : ℕ) → length (digits w32 n) ≡ 4
unfolding digits
four_bytes n = refl

pub eight_bytes : (n : ℕ) → length (digits w64 n) ≡ 8
unfolding digits
eight_bytes n = refl

pub bytes_taken : (count : ℕ) (bytes : List ℕ) → IsBytes bytes → IsBytes (take count bytes)
bytes_taken count bytes fits i =
    elim (cases_lt i count) [
      | inl lt ↦ rw (get_or-take count bytes i 0 lt) (fits i)
      | inr le ↦ rw (get_or_past (take count bytes) i 0 (omega (arith, length-take count bytes))) (omega arith)
    ]

pub bytes_dropped : (count : ℕ) (bytes : List ℕ) → IsBytes bytes → IsBytes (drop count bytes)
bytes_dropped count bytes fits i = rw get_or-drop (fits (count + i))

pub bytes_appended : (front back : List ℕ) → IsBytes front → IsBytes back → IsBytes (front ++ back)
bytes_appended front back fits fits' i =
    elim (cases_lt i (length front)) [
      | inl lt ↦ rw (get_or_append_left front back 0 i lt) (fits i)
      | inr le ↦ rw (get_or-append_right front back (length front) i 0 refl le) (fits' (i - length front))
    ]

pub no_bytes : IsBytes []
no_bytes i = omega arith

pub byte_before : (b : ℕ) (bytes : List ℕ) → b < 256 → IsBytes bytes → IsBytes (b ∷ bytes)
byte_before b bytes low fits zero = low
byte_before b bytes low fits (suc i) = fits i

-- what is spelled in bytes item by item is bytes
pub bytes_of_each : {A : Type 0} {Fits : A → Type 0} (spelling : A → List ℕ) → ((x : A) → Fits x → IsBytes (spelling x)) → (xs : List A) → AllByRecursion Fits xs → IsBytes (flat_map spelling xs)
bytes_of_each spelling each [] fits = no_bytes
bytes_of_each spelling each (x ∷ xs) fits =
    subst IsBytes (sym (flat_map-cons spelling x xs)) (bytes_appended (spelling x) (flat_map spelling xs) (each x fits.0) (bytes_of_each spelling each xs fits.1))

-- each is a byte
each_byte : (bytes : List ℕ) → AllByRecursion (λ b. b < 256) bytes → IsBytes bytes
each_byte [] fits i = omega arith
each_byte (b ∷ bytes) fits zero = fits.0
each_byte (b ∷ bytes) fits (suc i) = each_byte bytes fits.1 i

low_byte : (n : ℕ) → n % 256 < 256
low_byte n = mod_below n 256 (omega arith)

pub two_are_bytes : (n : ℕ) → IsBytes (digits w16 n)
unfolding digits
two_are_bytes n = each_byte (digits w16 n) (low_byte _, (low_byte _, tt))

pub four_are_bytes : (n : ℕ) → IsBytes (digits w32 n)
unfolding digits
four_are_bytes n = each_byte (digits w32 n) (low_byte _, (low_byte _, (low_byte _, (low_byte _, tt))))

pub eight_are_bytes : (n : ℕ) → IsBytes (digits w64 n)
unfolding digits
eight_are_bytes n = each_byte (digits w64 n) (low_byte _, (low_byte _, (low_byte _, (low_byte _, (low_byte _, (low_byte _, (low_byte _, (low_byte _, tt))))))))

-- ---- what is refused within a limit

-- a text that stands in bytes stands in those of them that end behind it
pub stands_before : (bytes : List ℕ) (at : ℕ) (text : List ℕ) (next more : ℕ) → Stands bytes at text next → Stands (take (next + more) bytes) at text next
stands_before bytes at text next more stands =
    let end : next + more ≡ at + (length text + more) = omega (arith, stands.next_is) in
    record {
      here =
          ap (λ (n : ℕ). drop at (take n bytes)) end
          ∙ drop-take at (length text + more) bytes
          ∙ ap (take (length text + more)) stands.here
          ∙ take-append-add text (drop next bytes) more
          ∙ ap (λ (rest : List ℕ). text ++ rest) (sym (drop-take next more bytes));
      next_is = stands.next_is;
      within = omega (arith, length-take (next + more) bytes, stands.within);
    }

pub limited_refused : {A : Type 0} (room : ℕ) (read : Reader A) (text : List ℕ) (offset : ℕ) → length text ≤ room → IsRefused read text offset → IsRefused (limited room read) text offset
unfolding limited
limited_refused room read text offset le refused bytes at next stands =
    let end : next + (room - length text) ≡ at + room = omega (arith, stands.next_is, le) in
    refused (take (at + room) bytes) at next (subst (λ (n : ℕ). Stands (take n bytes) at text next) end (stands_before bytes at text next (room - length text) stands))
