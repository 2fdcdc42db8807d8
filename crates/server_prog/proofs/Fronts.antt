-- What is read of a front.
use Rattle.std.proofs.Common.{◌≡◌, ◌++◌, ℕ, List, [], take, Option, None, Some, option_map, ap, ◌∙◌}
use Rattle.std.specs.Prelude.{IfSome}

-- what is read into nothing of a reader that is limited is a front of all that it has, where it tells that
pub known_front : (known : Option (List ℕ)) (limit : ℕ) (old bytes : List ℕ) → old ≡ []
    → IfSome (option_map (λ xs. take limit xs) known) (λ xs. bytes ≡ old ++ xs) → IfSome known (λ all. bytes ≡ take limit all)
known_front None limit old bytes none read = tt
known_front (Some all) limit old bytes none read = read ∙ ap (λ (front : List ℕ). front ++ take limit all) none
