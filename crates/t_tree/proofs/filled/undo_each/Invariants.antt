use Rattle.vol_tree.specs.Undos.{CanUndoAll}
use Rattle.t_tree.proofs.filled.undo_each.Given as goal

abbrev pub invariant-loop : goal.invariant-loop
invariant-loop l = CanUndoAll l.undos.items l.tree
