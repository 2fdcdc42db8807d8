use Rattle.std.proofs.Common.{arith}
use Rattle.tree_slots.proofs.Counts.{node_within, counted_touch, size_touch}
use Rattle.tree_slots.proofs.counted.Counted.touch.Goals as goal

pub overflow_sub-self : goal.overflow_sub-self
overflow_sub-self c =
    let bound = node_within c.self.inside.arena c.self.inside.count c.self.inside.size c.self.invariant c.args.path in
    rw (c.size_of.ensures.value, c.as_ref-2.ensures.value, c.in_ok-kept.ensures.kept) bound

pub overflow_add-self-2 : goal.overflow_add-self-2
overflow_add-self-2 c =
    let is = size_touch c.self.inside.arena c.self.inside.count c.self.inside.size c.self.invariant c.args.path c.args.node in
    let small = rw (← c.self.view_is) at c.requires.small in
    rw (c.size_of.ensures.value, c.as_ref-2.ensures.value, c.in_ok-kept.ensures.kept, c.size_of-added.ensures.value, c.as_ref.ensures.value) (omega (arith, is, small))

pub invariant_of-self-2 : goal.invariant_of-self-2
invariant_of-self-2 c =
    rw (c.in_ok-kept.ensures.ok, c.new_rows.ensures.value, c.size_of.ensures.value, c.as_ref-2.ensures.value, c.in_ok-kept.ensures.kept, c.size_of-added.ensures.value, c.as_ref.ensures.value)
    (counted_touch c.self.inside.arena c.self.inside.count c.self.inside.size c.self.invariant c.args.path c.args.node)
