-- What an object of the outside tells of its content, and what an answer of it means.
use Rattle.std.specs.Prelude.{◌≡◌, ℕ, ◌+◌, ◌-◌, ◌≤◌, ◌^◌, min, max, List, [], ◌++◌, length, take, drop, Option, None, Some, Result, Ok, Err}
use Rattle.std.specs.Prelude.{IsErrOf}

-- an object that tells its content before a call tells it after the call, too, and the call relates the two; one that tells none
-- goes on telling none
abbrev pub Told : {A : Type 0} → Option A → Option A → (A → A → Type 0) → Type 0
Told (Some old) (Some new) relation = relation old new
Told (Some old) None relation = ⊥
Told None new relation = new ≡ None

-- a count of faults rose by at least so many, or stands at the end of its type
abbrev pub RoseBy : ℕ → ℕ → ℕ → Type 0
RoseBy many before now = min (before + many) (2 ^ 64 - 1) ≤ now

-- a count of faults rose, or stands at the end of its type
abbrev pub Rose : ℕ → ℕ → Type 0
Rose before now = RoseBy 1 before now

-- a count after so many more, which stands still at the end of its type
abbrev pub raised : ℕ → ℕ → ℕ
raised many count = max count (min (count + many) (2 ^ 64 - 1))

-- a count rises by one where this is so, and nowhere else; so it never falls
pub record RisesWhere (is : Type 0) (before now : ℕ) : Type 0 where
  pub later : before ≤ now
  pub once : is → now ≡ raised 1 before
  pub never : (is → ⊥) → now ≡ before

-- the count of faults rises by one in a call that answers this fault, and in no other
abbrev pub CountsFault : {T E : Type 0} → E → ℕ → ℕ → Result T E → Type 0
CountsFault fault before now result = RisesWhere (IsErrOf result fault) before now

-- the count of faults never falls, and this fault is answered only where the count rose in the call
pub record HasCause {T E : Type 0} (fault : E) (before now : ℕ) (result : Result T E) : Type 0 where
  pub later : before ≤ now
  pub failed : IsErrOf result fault → Rose before now

-- a read takes the first bytes left into the front of the buffer, none only where none is left; a refused read takes nothing
abbrev pub Reads : {E : Type 0} → List ℕ → List ℕ → List ℕ → Result ℕ E → Type 0
Reads left rest buf (Ok count) =
    (count ≤ length left) × (take count buf ≡ take count left) × (rest ≡ drop count left) × (count ≡ 0 → left ≡ [])
Reads left rest buf (Err e) = rest ≡ left

-- a write adds the first bytes of the piece; a refused write adds nothing
abbrev pub Writes : {E : Type 0} → List ℕ → List ℕ → List ℕ → Result ℕ E → Type 0
Writes old new piece (Ok count) = new ≡ old ++ take count piece
Writes old new piece (Err e) = new ≡ old

-- a sink that tells its content has this text behind it
abbrev pub Adds : Option (List ℕ) → Option (List ℕ) → List ℕ → Type 0
Adds old new text = Told old new (λ before after. after ≡ before ++ text)

-- a source that tells its bytes gave this text from their front
abbrev pub Takes : Option (List ℕ) → Option (List ℕ) → List ℕ → Type 0
Takes left rest text = Told left rest (λ before after. before ≡ text ++ after)
