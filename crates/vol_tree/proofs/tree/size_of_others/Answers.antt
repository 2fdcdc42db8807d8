use Rattle.tree_slots.proofs.Counts.{node_at_most}
use Rattle.vol_tree.proofs.tree.size_of_others.Goals as goal

pub overflow_sub-result : goal.overflow_sub-result
overflow_sub-result c =
    rw (c.size_of.ensures.value, c.requires.node.1, c.size.ensures) (node_at_most c.args.rows.now c.requires.node.0 c.requires.tree.in_order)
