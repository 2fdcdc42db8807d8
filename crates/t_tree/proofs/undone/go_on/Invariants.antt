use Rattle.vol_tree.specs.Undos.{CanUndoAll}
use Rattle.t_tree.proofs.undone.go_on.Given as goal

abbrev pub invariant-loop : goal.invariant-loop
invariant-loop l = CanUndoAll l.undos.items l.tree
