-- Records to the end of the bytes. Each stands behind the number of its bytes, and the last one may be torn.
use Rattle.std.specs.Prelude.{◌≡◌, ℕ, zero, suc, ◌+◌, ◌^◌, ◌<◌, ◌≤◌, ◌==◌, Bool, true, List, [], ◌∷◌, ◌++◌, length, take, drop, Ok, Err}
use Rattle.std.specs.Prelude.{is_err, if◌then◌else◌}
use Rattle.std.specs.Int.{w32}
use Rattle.std.specs.List.{flat_map}
use Rattle.byte_fields.specs.Field.{Reader, ◌>>=◌, digits, span_at, number_at, limited, passed, EachFits}
use Rattle.byte_fields.specs.Codec.{Stands, IsBytes, IsCodec}
use Rattle.byte_fields.specs.Broken.{IsRead, IsRefused}

-- a text behind the number of its bytes
abbrev pub framed : List ℕ → List ℕ
framed text = digits w32 (length text) ++ text

-- the number of a record's bytes, and these bytes
unfoldable pub frame_at : Reader (List ℕ)
frame_at bytes at = do
  size ← number_at w32 bytes at
  span_at size.0 bytes size.1

-- fewer than four bytes are left, or fewer than the number in them tells
unfoldable pub is_torn : List ℕ → ℕ → Bool
is_torn bytes at = is_err (frame_at bytes at)

-- a value behind the number of its bytes; what it reads past them, and a byte of them that it leaves, is faulty
unfoldable pub framed_at : {A : Type 0} → Reader A → Reader A
framed_at read bytes at = do
  size ← number_at w32 bytes at
  span ← span_at size.0 bytes size.1
  x ← read (take span.1 bytes) size.1
  if x.1 == span.1 then Ok x else Err x.1

-- the whole records from the place on, so many at most; a torn one ends them
unfoldable pub records_at : {S A : Type 0} → (S → Reader A) → (S → A → S) → ℕ → S → Reader (List A)
records_at item after zero state bytes at = Ok ([], at)
records_at item after (suc most) state bytes at =
    if is_torn bytes at then Ok ([], at)
    else (do
      first ← framed_at (item state) bytes at
      others ← records_at item after most (after state first.0) bytes first.1
      Ok (first.0 ∷ others.0, others.1))

-- the whole records from the place on, and where the torn one begins; there are no more records than bytes
abbrev pub until_end : {S A : Type 0} → (S → Reader A) → (S → A → S) → S → Reader (List A)
until_end item after state bytes = records_at item after (length bytes) state bytes

-- each record is read from its text, in the light of those before it, and has a length that four bytes tell
abbrev pub EachIsFramed : {S A : Type 0} → (S → Reader A) → (S → A → S) → (A → List ℕ) → S → List A → Type 0
EachIsFramed item after spelling = EachFits (λ state x. IsRead (item state) (spelling x) x × (length (spelling x) < 2 ^ 32)) after

-- the records one after the other
abbrev pub all_framed : {A : Type 0} → (A → List ℕ) → List A → List ℕ
all_framed spelling = flat_map (λ x. framed (spelling x))

-- whole records to the end of the bytes are all read
abbrev pub WholeRecordsAreRead : Type 0 → Type 0 → Type 0
WholeRecordsAreRead S A =
    (item : S → Reader A) (after : S → A → S) (spelling : A → List ℕ) (state : S) (xs : List A) (bytes : List ℕ) (at : ℕ)
    → EachIsFramed item after spelling state xs → Stands bytes at (all_framed spelling xs) (length bytes)
    → until_end item after state bytes at ≡ Ok (xs, length bytes)

-- where the bytes end inside a record, those before it are read, and the place is where it begins
abbrev pub TornRecordsAreLeft : Type 0 → Type 0 → Type 0
TornRecordsAreLeft S A =
    (item : S → Reader A) (after : S → A → S) (spelling : A → List ℕ) (state : S) (xs : List A) (text bytes : List ℕ) (at torn next end : ℕ)
    → EachIsFramed item after spelling state xs → Stands bytes at (all_framed spelling xs) torn
    → Stands bytes torn (framed text) next → length text < 2 ^ 32 → torn ≤ end → end < next
    → until_end item after state (take end bytes) at ≡ Ok (xs, torn)

-- nothing else is read: the records stand there one after the other, and what they leave is torn
abbrev pub OnlyRecordsAreRead : Type 0 → Type 0 → Type 0
OnlyRecordsAreRead S A = (item : S → Reader A) (after : S → A → S) (spelling : A → List ℕ)
    → ((state : S) → IsCodec (item state) spelling (λ x. IsRead (item state) (spelling x) x))
    → (state : S) (xs : List A) (bytes : List ℕ) (at torn : ℕ) → IsBytes bytes → at ≤ length bytes
    → until_end item after state bytes at ≡ Ok (xs, torn)
    → Stands bytes at (all_framed spelling xs) torn × EachIsFramed item after spelling state xs × (is_torn bytes torn ≡ true)

-- what is refused within the bytes of a whole record is refused there, behind the records before it
abbrev pub FaultyRecordsAreRefused : Type 0 → Type 0 → Type 0
FaultyRecordsAreRefused S A =
    (item : S → Reader A) (after : S → A → S) (spelling : A → List ℕ) (state : S) (before : List A) (text : List ℕ) (offset : ℕ)
    → EachIsFramed item after spelling state before → length text < 2 ^ 32
    → IsRefused (limited (length text) (item (passed after state before))) text offset
    → IsRefused (until_end item after state) (all_framed spelling before ++ framed text)
    (length (all_framed spelling before) + (4 + offset))

-- so is what a record leaves of its bytes
abbrev pub LeftBytesAreRefused : Type 0 → Type 0 → Type 0
LeftBytesAreRefused S A =
    (item : S → Reader A) (after : S → A → S) (spelling : A → List ℕ) (state : S) (before : List A) (text left : List ℕ) (x : A)
    → EachIsFramed item after spelling state before → length (text ++ left) < 2 ^ 32
    → IsRead (item (passed after state before)) text x → 0 < length left
    → IsRefused (until_end item after state) (all_framed spelling before ++ framed (text ++ left))
    (length (all_framed spelling before) + (4 + length text))

-- what is torn is the front of a record, and not the whole of it
abbrev pub IsTornOf : List ℕ → ℕ → Type 0
IsTornOf bytes at = (text : List ℕ) × (rest : List ℕ) × (length text < 2 ^ 32) × (0 < length rest) × (framed text ≡ drop at bytes ++ rest)

abbrev pub OnlyFrontsAreTorn : Type 0
OnlyFrontsAreTorn = (bytes : List ℕ) (at : ℕ) → IsBytes bytes → at ≤ length bytes → is_torn bytes at ≡ true → IsTornOf bytes at
