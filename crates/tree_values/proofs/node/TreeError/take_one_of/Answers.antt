use Rattle.tree_values.proofs.FaultKinds.{number_is_told, number_is_untold}
use Rattle.tree_values.proofs.node.TreeError.take_one_of.Goals as goal

pub returns-then-not-contains : goal.returns-then-not-contains
returns-then-not-contains c = number_is_untold c.args.allowed.now c.args.bytes.now c.args.at c.in_ok-kind.kind c.in_ok-kind.start c.in_ok-kind.ensures cc

pub returns : goal.returns
returns c = rw (number_is_told c.args.allowed.now c.args.bytes.now c.args.at c.in_ok-kind.kind c.in_ok-kind.start c.in_ok-kind.ensures cc) c.fault_of_kind.ensures
