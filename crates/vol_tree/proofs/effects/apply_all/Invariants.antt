use Rattle.std.proofs.Common.{◌≡◌, take, Ok}
use Rattle.tree_values.specs.Effects.{apply_all}
use Rattle.std.specs.List.{AllByRecursion}
use Rattle.tree_values.specs.Tree.{IsLegalEffect}
use Rattle.vol_tree.specs.Undos.{undone_all, CanUndoAll}
use Rattle.vol_tree.proofs.effects.apply_all.Given as goal

abbrev pub invariant-loop-effect : goal.invariant-loop-effect
invariant-loop-effect l = record {
  applied : apply_all 0 (take l.effect-index l.effects) l.initial.tree ≡ Ok l.tree;
  same : undone_all l.undos.items l.tree ≡ l.initial.tree;
  possible : CanUndoAll l.undos.items l.tree;
  legal : AllByRecursion IsLegalEffect (take l.effect-index l.effects);
  counted : l.i ≡ l.effect-index;
}
