-- Words that only the contracts of private functions and the proofs cite.
use Rattle.std.specs.Prelude.{◌≡◌, List, [], ◌∷◌, ◌++◌}
use Rattle.tree_values.specs.declared.node.Row.{Row}
use Rattle.tree_values.specs.Tree.{Volume, undone, CanUndo}

-- one more undo, of the step from the old rows to the new
abbrev pub IsPushed : List (List Row) → List (List Row) → Volume → Volume → Type 0
IsPushed old new before after = (undo : List Row) × (new ≡ old ++ undo ∷ []) × (undone undo after ≡ before) × CanUndo undo after
