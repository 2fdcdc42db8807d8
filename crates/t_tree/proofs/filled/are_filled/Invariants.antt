use Rattle.vol_tree.specs.Undos.{CanUndoAll}
use Rattle.t_tree.proofs.filled.are_filled.Given as goal

abbrev pub invariant-loop-path : goal.invariant-loop-path
invariant-loop-path l = CanUndoAll l.undos.items l.tree
