use Rattle.tree_values.proofs.Children.{first_named}
use Rattle.vol_tree.proofs.tree.first_child.Goals as goal

pub returns-clause-refusal : goal.returns-clause-refusal
returns-clause-refusal c =
    (first_named c.args.rows.now c.args.folder.now c.requires _ (rw c.arena.ensures at c.child.ensures)).0

pub returns-clause-path : goal.returns-clause-path
returns-clause-path c =
    (first_named c.args.rows.now c.args.folder.now c.requires _ (rw c.arena.ensures at c.child.ensures)).1
