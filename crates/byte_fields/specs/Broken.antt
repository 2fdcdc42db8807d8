-- Values that break a rule: the field that is refused, whatever stands before and behind them.
use Rattle.std.specs.Prelude.{◌≡◌, ℕ, ◌+◌, ◌<◌, Bool, false, List, ◌++◌, length, Result, Ok, Err}
use Rattle.std.specs.List.{flat_map}
use Rattle.byte_fields.specs.Field.{Reader, ◌>>=◌, ruled, mapped, each_at, passed, EachFits}
use Rattle.byte_fields.specs.Codec.{Stands}

-- where the text stands, the value is read from it
abbrev pub IsRead : {A : Type 0} → Reader A → List ℕ → A → Type 0
IsRead read text x = (bytes : List ℕ) (at next : ℕ) → Stands bytes at text next → read bytes at ≡ Ok (x, next)

-- where the text stands, the first faulty field begins so many bytes behind its start
abbrev pub IsRefused : {A : Type 0} → Reader A → List ℕ → ℕ → Type 0
IsRefused read text offset = (bytes : List ℕ) (at next : ℕ) → Stands bytes at text next → read bytes at ≡ Err (at + offset)

-- each item is read from its spelling, in the light of those before it
abbrev pub EachIsRead : {S A : Type 0} → (S → Reader A) → (S → A → S) → (A → List ℕ) → S → List A → Type 0
EachIsRead item after spelling = EachFits (λ state x. IsRead (item state) (spelling x) x) after

-- a value that breaks the rule of its field is refused where it begins
abbrev pub RulesAreOfTheirField : Type 0 → Type 0
RulesAreOfTheirField A =
    (read : Reader A) (rule : A → Bool) (text : List ℕ) (x : A) → IsRead read text x → rule x ≡ false → IsRefused (ruled rule read) text 0

-- so is a value that means nothing
abbrev pub MeaningsAreOfTheirField : Type 0 → Type 0 → Type 0 → Type 0
MeaningsAreOfTheirField A B E = (read : Reader A) (meaning : A → Result B E) (text : List ℕ) (x : A) (cause : E)
    → IsRead read text x → meaning x ≡ Err cause → IsRefused (mapped meaning read) text 0

-- what is refused behind a value is refused as much later as the value is long
abbrev pub LaterFieldsAreRefusedLater : Type 0 → Type 0 → Type 0
LaterFieldsAreRefusedLater A B = (first : Reader A) (later : A → Reader B) (text more : List ℕ) (x : A) (offset : ℕ)
    → IsRead first text x → IsRefused (later x) more offset
    → IsRefused (λ bytes at. first bytes at >>= λ y. later y.0 bytes y.1) (text ++ more) (length text + offset)

-- what is refused as an item is refused behind the items before it
abbrev pub ItemsAreRefusedInTheirPlace : Type 0 → Type 0 → Type 0
ItemsAreRefusedInTheirPlace S A =
    (item : S → Reader A) (after : S → A → S) (spelling : A → List ℕ) (state : S) (before : List A) (count : ℕ) (text : List ℕ) (offset : ℕ)
    → EachIsRead item after spelling state before → length before < count → IsRefused (item (passed after state before)) text offset
    → IsRefused (each_at item after count state) (flat_map spelling before ++ text) (length (flat_map spelling before) + offset)
