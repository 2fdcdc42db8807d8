-- A row of refusals that does not refuse.
use Rattle.std.proofs.Common.{◌≡◌, Bool, true, false, List, [], ◌∷◌, Option, Some, None, Ok, refl}
use Rattle.std.specs.List.{AllByRecursion}
use Rattle.file_paths.specs.Refusals.{when, unless_refused}

pub not_first : {T E : Type 0} (first : Option E) (rest : List (Option E)) (value after : T) → unless_refused (first ∷ rest) value ≡ Ok after → (first ≡ None) × (unless_refused rest value ≡ Ok after)
not_first None rest value after e = (refl, e)
not_first (Some refusal) rest value after e = absurd cc

pub none_refused : {T E : Type 0} (all : List (Option E)) (value after : T) → unless_refused all value ≡ Ok after → AllByRecursion (λ refusal. refusal ≡ None) all
none_refused [] value after e = tt
none_refused (None ∷ rest) value after e = (refl, none_refused rest value after e)
none_refused (Some refusal ∷ rest) value after e = absurd (cc)

-- what comes then is the value itself
pub value_unrefused : {T E : Type 0} (all : List (Option E)) (value after : T) → unless_refused all value ≡ Ok after → after ≡ value
value_unrefused [] value after e = cc
value_unrefused (None ∷ rest) value after e = value_unrefused rest value after e
value_unrefused (Some refusal ∷ rest) value after e = absurd (cc)

pub not_when : {E : Type 0} (b : Bool) (refusal : E) → when b refusal ≡ None → b ≡ false
not_when false refusal e = refl
not_when true refusal e = absurd cc
