use Rattle.std.proofs.Common.{◌∙◌}
use Rattle.tree_values.specs.declared.node.Effect.TheVariants.{Move}
use Rattle.vol_tree.proofs.Trees.{between_of, below_top, small_node}
use Rattle.tree_slots.proofs.Counts.{small_touch, few_touch}
use Rattle.vol_tree.proofs.tree.move_node.Goals as goal

pub touch-requires-clause-below_top : goal.touch-requires-clause-below_top
touch-requires-clause-below_top c =
    rw c.in_ok-copy.ensures (below_top (Move c.args.from.now c.args.to.now) _ c.requires.allowed).1.0

pub touch-requires-clause-small : goal.touch-requires-clause-small
touch-requires-clause-small c =
    let node = c.in_ok-node.ensures ∙ (rw c.names.ensures.names at c.node_in.ensures) in
    rw node (small_touch _ _ _ c.requires.tree.in_order c.requires.tree.small (small_node c.args.rows.now c.args.from.now c.requires.tree.each))

pub clear-first-requires-clause-there : goal.clear-first-requires-clause-there
clear-first-requires-clause-there c =
    let node = c.in_ok-node.ensures ∙ (rw c.names.ensures.names at c.node_in.ensures) in
    rw c.in_ok-from.ensures (between_of _ _ c.args.from.now _ _ _ c.requires.tree c.requires.allowed c.in_ok-second.ensures.ok c.in_ok-copy.ensures node).there

pub clear-first-requires-clause-below_top : goal.clear-first-requires-clause-below_top
clear-first-requires-clause-below_top c =
    let node = c.in_ok-node.ensures ∙ (rw c.names.ensures.names at c.node_in.ensures) in
    rw c.in_ok-from.ensures (between_of _ _ c.args.from.now _ _ _ c.requires.tree c.requires.allowed c.in_ok-second.ensures.ok c.in_ok-copy.ensures node).below

pub clear-first-requires-clause-few : goal.clear-first-requires-clause-few
clear-first-requires-clause-few c =
    rw c.in_ok-second.ensures.ok (few_touch _ _ _ c.requires.tree.in_order c.requires.tree.few)

pub returns-clause-kept : goal.returns-clause-kept
returns-clause-kept c =
    let node = c.in_ok-node.ensures ∙ (rw c.names.ensures.names at c.node_in.ensures) in
    let middle = between_of _ _ c.args.from.now _ _ _ c.requires.tree c.requires.allowed c.in_ok-second.ensures.ok c.in_ok-copy.ensures node in
    let first = (rw c.in_ok-from.ensures at c.clear-first.ensures.kept) ∙ middle.kept in
    let second = rw c.in_ok-copy.ensures at c.in_ok-second.ensures.kept in
    cc (first, second)
