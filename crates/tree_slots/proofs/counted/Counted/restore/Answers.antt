use Rattle.std.proofs.Common.{refl, arith}
use Rattle.tree_slots.proofs.Counts.{counted_restored, counted_taken, node_within, size_restored}
use Rattle.tree_slots.proofs.counted.Counted.restore.Goals as goal

pub overflow_sub-self-then-kept-eq0 : goal.overflow_sub-self-then-kept-eq0
overflow_sub-self-then-kept-eq0 c =
    let node = rw c.names.ensures.names at c.find.ensures.node in
    rw (c.size_of-removed.ensures.value, node) (node_within c.self.inside.arena c.self.inside.count c.self.inside.size c.self.invariant c.args.kept.path)

pub overflow_sub-self-2 : goal.overflow_sub-self-2
overflow_sub-self-2 c =
    let node = rw c.names.ensures.names at c.find.ensures.node in
    rw (c.size_of-removed.ensures.value, node) (node_within c.self.inside.arena c.self.inside.count c.self.inside.size c.self.invariant c.args.kept.path)

pub invariant_of-self : goal.invariant_of-self
invariant_of-self c =
    let node = rw c.names.ensures.names at c.find.ensures.node in
    let there = rw (← c.self.view_is) at c.requires.there in
    rw (c.restore.ensures, c.size_of-removed.ensures.value, node)
    (counted_taken c.self.inside.arena c.self.inside.count c.self.inside.size c.self.invariant c.args.kept.path c.args.kept refl c.if-kept-eq0.true there)

pub invariant_of-self-2 : goal.invariant_of-self-2
invariant_of-self-2 c =
    let node = rw c.names.ensures.names at c.find.ensures.node in
    let there = rw (← c.self.view_is) at c.requires.there in
    rw (c.restore-2.ensures, c.size_of-removed.ensures.value, node, c.size_of.ensures.value, c.as_ref.ensures.value)
    (counted_restored c.self.inside.arena c.self.inside.count c.self.inside.size c.self.invariant c.args.kept.path c.args.kept refl c.if-kept-eq0.false there)

pub overflow_add-self : goal.overflow_add-self
overflow_add-self c =
    let node = rw c.names.ensures.names at c.find.ensures.node in
    let is = size_restored c.self.inside.arena c.self.inside.count c.self.inside.size c.args.kept c.self.invariant c.if-kept-eq0.false in
    let small = rw (← c.self.view_is) at c.requires.small in
    rw (c.size_of-removed.ensures.value, node, c.size_of.ensures.value, c.as_ref.ensures.value) (omega (arith, is, small))
