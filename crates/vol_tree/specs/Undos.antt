-- How several effects are undone.
use Rattle.std.specs.Prelude.{List, [], ◌∷◌, ⊤}
use Rattle.tree_values.specs.declared.node.Row.{Row}
use Rattle.tree_values.specs.Tree.{Volume, undone, CanUndo}

-- the rows once all is undone, the last first
abbrev pub undone_all : List (List Row) → Volume → Volume
undone_all [] rows = rows
undone_all (undo ∷ later) rows = undone undo (undone_all later rows)

-- each may be undone once all later ones are
abbrev pub CanUndoAll : List (List Row) → Volume → Type 0
CanUndoAll [] rows = ⊤
CanUndoAll (undo ∷ later) rows = CanUndoAll later rows × CanUndo undo (undone_all later rows)
