-- Reading fields one after the other. A reader is given the bytes and a place. It answers the value there and the
-- place after it, or the place where the first faulty field begins.
use Rattle.std.specs.Prelude.{◌≡◌, ℕ, zero, suc, ◌+◌, nat_le, List, [], ◌∷◌, ◌++◌, length, take, drop, Bool, ◌==◌, Option, Some, None}
use Rattle.std.specs.Prelude.{IfSome, Result, Ok, Err, if◌then◌else◌}
use Rattle.std.specs.Int.{Width, w8, byte_len, from_be_bytes, to_be_bytes}
use Rattle.byte_fields.specs.declared.error.TakeError.{TakeError}
use Rattle.byte_fields.specs.declared.error.TakeError.TheVariants as errors

-- the bytes and a place, to a value and the place after it, or to the place of the first faulty field
abbrev pub Reader : Type 0 → Type 0
Reader A = List ℕ → ℕ → Result (A × ℕ) ℕ

-- the next step, unless a field was faulty
infixl 10 ◌>>=◌
abbrev pub ◌>>=◌ : {A B : Type 0} → Result A ℕ → (A → Result B ℕ) → Result B ℕ
(Ok x) >>= f = f x
(Err place) >>= f = Err place

-- A call answers exactly what is wanted, or that memory ran out. The wanted value is the view of the call's own, the
-- wanted refusal the cause that its error names; an error without a cause is want of memory.
abbrev pub Answers : {X A E F : Type 0} → (X → A) → (E → Option F) → Result X E → Result A F → Type 0
Answers view cause (Ok x) wanted = wanted ≡ Ok (view x)
Answers view cause (Err e) wanted = IfSome (cause e) (λ f. wanted ≡ Err f)

-- the place of the faulty field
abbrev pub place_of : TakeError → Option ℕ
place_of (errors.At place) = Some place
place_of errors.Memory = None

-- what a call returned is what reading gives, unless memory ran out
abbrev pub Gives : {A : Type 0} → Result A TakeError → Result A ℕ → Type 0
Gives = Answers (λ x. x) place_of

-- the same where the call lends what was read
abbrev pub Lends : {X A : Type 0} → (X → A) → Result X TakeError → Result A ℕ → Type 0
Lends view = Answers view place_of

-- the same of a call that failed
abbrev pub Fails : {A : Type 0} → TakeError → Result A ℕ → Type 0
Fails e read = IfSome (place_of e) (λ place. read ≡ Err place)

-- A call answers the place behind what it read, and what it read went into a state, which is now as told.
abbrev pub GivesInto : {S A : Type 0} → S → (A → S) → Result ℕ TakeError → Result (A × ℕ) ℕ → Type 0
GivesInto {S} {A} new told (Ok next) read = (x : A) × ((read ≡ Ok (x, next)) × (new ≡ told x))
GivesInto new told (Err e) read = Fails e read

-- so many bytes
unfoldable pub span_at : ℕ → Reader (List ℕ)
span_at count bytes at =
    if nat_le (at + count) (length bytes) then Ok (take count (drop at bytes), at + count) else Err at

-- The bytes of a number, the high ones first. It does not unfold by itself: goals then keep the word, in place of
-- one cell for each byte.
unfoldable pub digits : Width → ℕ → List ℕ
digits w n = to_be_bytes w n

-- a number of so many bytes
unfoldable pub number_at : Width → Reader ℕ
number_at w bytes at = do
  span ← span_at (byte_len w) bytes at
  Ok (from_be_bytes w span.0, span.1)

-- a value that keeps a rule; the rule is one of the field that begins here
unfoldable pub ruled : {A : Type 0} → (A → Bool) → Reader A → Reader A
ruled rule read bytes at = do
  x ← read bytes at
  if rule x.0 then Ok x else Err at

-- a value that was made of the field that begins here
abbrev pub made_at : {A E : Type 0} → ℕ → Result A E → ℕ → Result (A × ℕ) ℕ
made_at at (Ok x) next = Ok (x, next)
made_at at (Err e) next = Err at

-- what a field's bytes mean; bytes without a meaning are a fault of the field
unfoldable pub mapped : {A B E : Type 0} → (A → Result B E) → Reader A → Reader B
mapped meaning read bytes at = do
  x ← read bytes at
  made_at at (meaning x.0) x.1

-- a value that takes no field
abbrev pub none : {C : Type 0} → C → Reader C
none made bytes at = Ok (made, at)

-- the values that one, two and three fields make; each field is read by those before it
abbrev pub one : {A C : Type 0} → Reader A → (A → C) → Reader C
one first made bytes at = do
  x ← first bytes at
  Ok (made x.0, x.1)

abbrev pub two : {A B C : Type 0} → Reader A → (A → Reader B) → (A → B → C) → Reader C
two first second made bytes at = do
  x ← first bytes at
  y ← second x.0 bytes x.1
  Ok (made x.0 y.0, y.1)

abbrev pub three : {A B C D : Type 0} → Reader A → (A → Reader B) → (A → B → Reader C) → (A → B → C → D) → Reader D
three first second third made bytes at = do
  x ← first bytes at
  y ← second x.0 bytes x.1
  z ← third x.0 y.0 bytes y.1
  Ok (made x.0 y.0 z.0, z.1)

-- a value of so many bytes at most; a field that ends past them is faulty
unfoldable pub limited : {A : Type 0} → ℕ → Reader A → Reader A
limited room read bytes at = read (take (at + room) bytes) at

-- the reader beside a kind; the kind stands at place
abbrev pub of_kind : {A : Type 0} → List (ℕ × Reader A) → ℕ → ℕ → Reader A
of_kind [] place kind bytes at = Err place
of_kind (first ∷ others) place kind bytes at =
    if kind == first.0 then first.1 bytes at else of_kind others place kind bytes at

-- a kind, and what this kind asks for
abbrev pub tagged_at : {A : Type 0} → List (ℕ × Reader A) → Reader A
tagged_at kinds bytes at = do
  kind ← number_at w8 bytes at
  of_kind kinds at kind.0 bytes kind.1

-- so many items one after the other; what was read before an item decides what is wanted of it
unfoldable pub each_at : {S A : Type 0} → (S → Reader A) → (S → A → S) → ℕ → S → Reader (List A)
each_at item after zero state bytes at = Ok ([], at)
each_at item after (suc n) state bytes at = do
  first ← item state bytes at
  others ← each_at item after n (after state first.0) bytes first.1
  Ok (first.0 ∷ others.0, others.1)

-- the state behind the items
abbrev pub passed : {S A : Type 0} → (S → A → S) → S → List A → S
passed after state [] = state
passed after state (x ∷ xs) = passed after (after state x) xs

-- each item fits what stands before it
abbrev pub EachFits : {S A : Type 0} → (S → A → Type 0) → (S → A → S) → S → List A → Type 0
EachFits Fits after state [] = Unit {0}
EachFits Fits after state (x ∷ xs) = Fits state x × EachFits Fits after (after state x) xs

-- a front of the spelling was appended, and the rest of it was not
pub record IsFront (old new spelling : List ℕ) : Type 0 where
  pub front : List ℕ
  pub rest : List ℕ
  pub parts : spelling ≡ front ++ rest
  pub appended : new ≡ old ++ front
