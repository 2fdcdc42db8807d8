use Rattle.vol_tree.proofs.Behind.{IsBehind-refl, IsBehind-trans, IsBehind-after, IsBehind-changes, ahead_or_not, same_volume, ahead_where_refused}
use Rattle.tree_laws.proofs.laws.trees_behind.Goals as goal

pub returns-clause-order : goal.returns-clause-order
returns-clause-order c = (IsBehind-refl, IsBehind-trans)

pub returns-clause-forward : goal.returns-clause-forward
returns-clause-forward c = IsBehind-after

pub returns-clause-keeps : goal.returns-clause-keeps
returns-clause-keeps c = IsBehind-changes

pub returns-clause-ahead : goal.returns-clause-ahead
returns-clause-ahead c = ahead_or_not

pub returns-clause-same : goal.returns-clause-same
returns-clause-same c = same_volume

pub returns-clause-refused : goal.returns-clause-refused
returns-clause-refused c = ahead_where_refused
