use Rattle.std.proofs.Common.{◌≡◌, take}
use Rattle.tree_values.specs.Tree.{IsTree, total_size}
use Rattle.tree_values.proofs.rows.first_bad.Given as goal

abbrev pub invariant-loop-i : goal.invariant-loop-i
invariant-loop-i l = record {
  tree : IsTree (take l.i l.rows);
  size : l.size ≡ total_size (take l.i l.rows);
}
