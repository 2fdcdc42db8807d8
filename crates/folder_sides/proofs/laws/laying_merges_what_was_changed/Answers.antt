use Rattle.folder_sides.proofs.Laid.{conflicts_told, are_a_tree, laid_is, none_lost, none_taken_back}
use Rattle.folder_sides.proofs.laws.laying_merges_what_was_changed.Goals as goal

pub returns-clause-told : goal.returns-clause-told
returns-clause-told c = conflicts_told

pub returns-clause-tree : goal.returns-clause-tree
returns-clause-tree c = are_a_tree

pub returns-clause-laid : goal.returns-clause-laid
returns-clause-laid c = laid_is

pub returns-clause-kept : goal.returns-clause-kept
returns-clause-kept c = none_lost

pub returns-clause-spared : goal.returns-clause-spared
returns-clause-spared c = none_taken_back
