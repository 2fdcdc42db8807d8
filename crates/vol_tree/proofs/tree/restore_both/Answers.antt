use Rattle.std.proofs.Common.{ap, arith}
use Rattle.tree_values.specs.Tree.{node_size}
use Rattle.tree_slots.proofs.Counts.{restored_most}
use Rattle.vol_tree.proofs.tree.restore_both.Goals as goal

pub restore-requires-clause-small : goal.restore-requires-clause-small
restore-requires-clause-small c =
    omega (arith, restored_most c.args.rows.now c.args.first c.requires.tree.in_order, c.requires.tree.small, c.size_of-size.ensures.value, ap node_size c.as_ref.ensures.value, c.size_of-size.ensures.bound)
