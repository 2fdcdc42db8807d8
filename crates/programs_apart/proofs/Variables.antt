-- One more variable.
use Rattle.std.proofs.Common.{◌≡◌, ℕ, ◌+◌, ◌<◌, Bool, true, false, List, [], ◌∷◌, ◌++◌, length, take, Option, Some, None, option_map, refl, sym, ap, ◌∙◌, subst, if◌then◌else◌, true≢false}
use Rattle.std.specs.Prelude.{slice_get, Result, Ok, Err, OnOk}
use Rattle.std.specs.Str.{bytes_eq}
use Rattle.std.proofs.lemmas.List.{take_more}
use Rattle.std.proofs.lemmas.Option.{get_or_from_slice_get}
use Rattle.std.proofs.lemmas.List.Sums.{fold-append}
use Rattle.std.proofs.lemmas.Slice.Eq.{bytes_eq-Decides}
use Rattle.std.specs.Process.{command_var, SameOtherVars}
use Rattle.std.specs.declared.process.command.Command.{Command}
use Rattle.programs_apart.specs.Variables.{value_of, TellsVariables}

tells_more : {A : Type 0} (old new : Command A) (variables : List (List ℕ × List ℕ)) (key value : List ℕ) → TellsVariables old variables
    → command_var new key ≡ Some (Some value) → SameOtherVars old new key → TellsVariables new (variables ++ (key, value) ∷ [])
tells_more old new variables key value before set others name =
    by (bytes_eq key name) refl ∙ sym (ap (option_map Some) (fold-append (λ (found : Option (List ℕ)) (p : List ℕ × List ℕ). if bytes_eq p.0 name then Some p.1 else found) None variables ((key, value) ∷ [])))
  where
    by : (b : Bool) → bytes_eq key name ≡ b → command_var new name ≡ option_map Some (if b then Some value else value_of variables name)
    by true is = ap (command_var new) (sym ((bytes_eq-Decides key name).0 is)) ∙ set
    by false is = others name (λ same. true≢false (sym ((bytes_eq-Decides key name).1 (sym same)) ∙ is)) ∙ before name

tells_next : {A : Type 0} (old new : Command A) (variables : List (List ℕ × List ℕ)) (i : ℕ) (key value : List ℕ) → i < length variables
    → slice_get variables i ≡ Some (key, value) → TellsVariables old (take i variables)
    → command_var new key ≡ Some (Some value) → SameOtherVars old new key → TellsVariables new (take (i + 1) variables)
tells_next old new variables i key value within is before set others =
    subst (TellsVariables new) (sym (take_more variables i (key, value) within ∙ ap (λ (p : List ℕ × List ℕ). take i variables ++ p ∷ []) (get_or_from_slice_get variables i (key, value) (key, value) is)))
    (tells_more old new (take i variables) key value before set others)

-- the same of a call that may have been refused
pub tells_set : {A T E : Type 0} (result : Result T E) (old new : Command A) (variables : List (List ℕ × List ℕ)) (i : ℕ) (key value : List ℕ) → i < length variables
    → slice_get variables i ≡ Some (key, value) → TellsVariables old (take i variables)
    → OnOk result (command_var new key ≡ Some (Some value)) → OnOk result (SameOtherVars old new key) → OnOk result (TellsVariables new (take (i + 1) variables))
tells_set (Ok done) old new variables i key value within is before set others = tells_next old new variables i key value within is before set others
tells_set (Err error) old new variables i key value within is before set others = tt
