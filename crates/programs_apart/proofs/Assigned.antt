-- One more variable as a word.
use Rattle.std.proofs.Common.{◌≡◌, ℕ, ◌+◌, ◌<◌, List, [], ◌∷◌, ◌++◌, length, take, map, Some, sym, ap, ◌∙◌}
use Rattle.std.specs.Prelude.{slice_get, Result, Ok, Err, OnOk}
use Rattle.std.proofs.lemmas.List.{take_more, append_assoc, map-append}
use Rattle.std.proofs.lemmas.Option.{get_or_from_slice_get}
use Rattle.programs_apart.specs.Starting.{assigned}

assigned_next : (before args after : List (List ℕ)) (variables : List (List ℕ × List ℕ)) (i : ℕ) (key value : List ℕ) → i < length variables
    → slice_get variables i ≡ Some (key, value) → before ≡ args ++ map assigned (take i variables)
    → after ≡ before ++ assigned (key, value) ∷ [] → after ≡ args ++ map assigned (take (i + 1) variables)
assigned_next before args after variables i key value within is said added =
    added ∙ ap (λ (front : List (List ℕ)). front ++ assigned (key, value) ∷ []) said
    ∙ append_assoc args (map assigned (take i variables)) (assigned (key, value) ∷ [])
    ∙ ap (λ (back : List (List ℕ)). args ++ back) (sym (map-append assigned (take i variables) ((key, value) ∷ [])))
    ∙ ap (λ (front : List (List ℕ × List ℕ)). args ++ map assigned front)
    (sym (take_more variables i (key, value) within ∙ ap (λ (p : List ℕ × List ℕ). take i variables ++ p ∷ []) (get_or_from_slice_get variables i (key, value) (key, value) is)))

-- the same of a call that may have been refused
pub assigned_more : {T E : Type 0} (result : Result T E) (before args after : List (List ℕ)) (variables : List (List ℕ × List ℕ)) (i : ℕ) (key value : List ℕ)
    → i < length variables → slice_get variables i ≡ Some (key, value) → before ≡ args ++ map assigned (take i variables)
    → OnOk result (after ≡ before ++ assigned (key, value) ∷ []) → OnOk result (after ≡ args ++ map assigned (take (i + 1) variables))
assigned_more (Ok done) before args after variables i key value within is said added = assigned_next before args after variables i key value within is said added
assigned_more (Err error) before args after variables i key value within is said added = tt
