use Rattle.tree_laws.proofs.Inside.{childless, bare_root}
use Rattle.tree_laws.proofs.laws.folders_alone_have_children.Goals as goal

pub returns-clause-children : goal.returns-clause-children
returns-clause-children c = childless

pub returns-clause-root : goal.returns-clause-root
returns-clause-root c = bare_root
