use Rattle.vol_tree.proofs.Touching.{what_they_hold}
use Rattle.tree_laws.proofs.laws.trees_are_what_they_hold.Goals as goal

pub returns : goal.returns
returns c = what_they_hold
