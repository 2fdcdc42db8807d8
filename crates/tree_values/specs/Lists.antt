-- What is in a list, and lists in which no path stands twice.
use Rattle.std.specs.Prelude.{◌≡◌, ◌⊎◌, List, [], ◌∷◌}
use Rattle.file_paths.specs.Path.{FilePath}

-- it is one of the list
abbrev pub IsIn : {X : Type 0} → X → List X → Type 0
IsIn x [] = ⊥
IsIn x (y ∷ ys) = (x ≡ y) ⊎ IsIn x ys

-- no element equals a later one
abbrev pub NoneTwice : List FilePath → Type 0
NoneTwice [] = Unit {0}
NoneTwice (path ∷ paths) = (IsIn path paths → ⊥) × NoneTwice paths
