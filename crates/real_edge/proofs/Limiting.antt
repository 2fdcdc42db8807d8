-- What is read of known bytes up to a limit.
use Rattle.std.proofs.Common.{◌≡◌, ◌∙◌, ℕ, List, [], ◌++◌, take, Option, None, Some, ap}
use Rattle.std.specs.Prelude.{IfSome, option_map}

pub known_front : (known : Option (List ℕ)) (limit : ℕ) (old bytes : List ℕ) → old ≡ []
    → IfSome (option_map (λ xs. take limit xs) known) (λ xs. bytes ≡ old ++ xs) → IfSome known (λ all. bytes ≡ take limit all)
known_front None limit old bytes none read = tt
known_front (Some all) limit old bytes none read = read ∙ ap (λ (front : List ℕ). front ++ take limit all) none
