use Rattle.vol_tree.proofs.Behind.{applied-changes}
use Rattle.tree_laws.proofs.InTurn.{stopped, first_found}
use Rattle.tree_laws.proofs.laws.lists_are_applied_in_order.Goals as goal

pub returns-clause-applied : goal.returns-clause-applied
returns-clause-applied c = λ effects. applied-changes effects 0

pub returns-clause-refused : goal.returns-clause-refused
returns-clause-refused c = stopped

pub returns-clause-only : goal.returns-clause-only
returns-clause-only c = first_found
