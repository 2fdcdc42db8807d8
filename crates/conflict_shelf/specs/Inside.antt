-- Words that only the contracts of private functions and the proofs cite.
use Rattle.std.specs.Prelude.{ℕ, List, [], ◌∷◌, map, Result}
use Rattle.std.specs.Option.{option_to_list}
use Rattle.file_paths.specs.Path.{FilePath}
use Rattle.tree_values.specs.declared.node.Effect.{Effect}
use Rattle.conflict_shelf.specs.declared.shelf.ShelfError.{ShelfError}
use Rattle.conflict_shelf.specs.Shelf.{put_of, set_aside, all_or_fault}

-- the effects that put into the folder what the effect with this index puts
abbrev pub shelved_effect : FilePath → ℕ → ℕ → Effect → Result (List Effect) ShelfError
shelved_effect folder seq index effect = all_or_fault (map (set_aside folder) (option_to_list (put_of seq index effect)))

-- one list more, unless nothing is in it
abbrev pub list_if_any : List Effect → List (List Effect)
list_if_any [] = []
list_if_any (effect ∷ effects) = (effect ∷ effects) ∷ []
