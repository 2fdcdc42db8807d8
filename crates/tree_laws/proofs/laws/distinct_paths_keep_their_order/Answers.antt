use Rattle.tree_values.proofs.Distinct.{distinct_differ, in_distinct, distinct_in, distinct_order}
use Rattle.tree_laws.proofs.laws.distinct_paths_keep_their_order.Goals as goal

pub returns-clause-differ : goal.returns-clause-differ
returns-clause-differ c = distinct_differ

pub returns-clause-same : goal.returns-clause-same
returns-clause-same c = λ paths path. (in_distinct paths path, distinct_in paths path)

pub returns-clause-order : goal.returns-clause-order
returns-clause-order c = distinct_order
