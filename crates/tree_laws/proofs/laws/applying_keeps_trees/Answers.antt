use Rattle.vol_tree.proofs.Behind.{applied-tree}
use Rattle.vol_tree.proofs.Touching.{undoing_restores}
use Rattle.tree_laws.proofs.laws.applying_keeps_trees.Goals as goal

pub returns-clause-keeps : goal.returns-clause-keeps
returns-clause-keeps c = applied-tree

pub returns-clause-undoes : goal.returns-clause-undoes
returns-clause-undoes c = undoing_restores
