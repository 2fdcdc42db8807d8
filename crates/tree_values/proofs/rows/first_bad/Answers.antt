use Rattle.std.proofs.Common.{◌≡◌, ◌+◌, true, false, take, sym, ap, arith}
use Rattle.tree_values.specs.Inside.{may_follow}
use Rattle.tree_values.specs.Tree.{IsTree, node_size, total_size}
use Rattle.tree_values.proofs.Appending.{next_is_tree, next_is_no_tree, size_of_next}
use Rattle.tree_values.proofs.rows.first_bad.Goals as goal

pub returns-then-not-follows-clause-some : goal.returns-then-not-follows-clause-some
returns-then-not-follows-clause-some c =
    let refused : may_follow (take c.loop-i.i c.args.rows.now) c.index-rows-i.result ≡ false = cc (c.split_at.ensures.front, c.follows.ensures.follows, c.if-not-follows.true) in
    (omega arith, c.loop-i.invariant.tree, next_is_no_tree c.args.rows.now c.loop-i.i c.index-rows-i.result (omega arith) c.index-rows-i.is refused)

next : (c : goal.After-size_of-size) → IsTree (take (c.loop-i.i + 1) c.args.rows.now)
next c =
    let follows : may_follow (take c.loop-i.i c.args.rows.now) c.index-rows-i.result ≡ true = cc (c.split_at.ensures.front, c.follows.ensures.follows, c.if-not-follows.false) in
    next_is_tree c.args.rows.now c.loop-i.i c.index-rows-i.result (omega arith) c.index-rows-i.is c.loop-i.invariant.tree (record { is_path = c.follows.ensures.path; version_fits = c.follows.ensures.version; bytes = c.follows.ensures.bytes }) follows

size : (c : goal.After-size_of-size) → total_size (take (c.loop-i.i + 1) c.args.rows.now) ≡ c.loop-i.size + c.size_of-size.result
size c = omega (arith, size_of_next c.args.rows.now c.loop-i.i c.index-rows-i.result (omega arith) c.index-rows-i.is, c.loop-i.invariant.size, c.size_of-size.ensures.value, ap node_size c.as_ref.ensures.value)

pub overflow_add-size : goal.overflow_add-size
overflow_add-size c = omega (arith, (next c).small, size c)

pub loop-i-preserved : goal.loop-i-preserved
loop-i-preserved c = record { tree = next c; size = sym (size c) }
