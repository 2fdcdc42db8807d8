use Rattle.std.proofs.Common.{◌≡◌, length}
use Rattle.vol_tree.specs.Undos.{undone_all, CanUndoAll}
use Rattle.vol_tree.proofs.effects.undo_all.Given as goal

abbrev pub invariant-loop-undo : goal.invariant-loop-undo
invariant-loop-undo l = record {
  possible : CanUndoAll l.undos.items l.tree;
  same : undone_all l.undos.items l.tree ≡ undone_all l.initial.undos.items l.initial.tree;
}

abbrev pub decreases-loop-undo : goal.decreases-loop-undo
decreases-loop-undo l = length l.undos.items
