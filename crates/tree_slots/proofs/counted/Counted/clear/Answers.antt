use Rattle.tree_slots.proofs.Counts.{node_within, counted_clear}
use Rattle.tree_slots.proofs.counted.Counted.clear.Goals as goal

pub overflow_sub-self : goal.overflow_sub-self
overflow_sub-self c =
    let bound = node_within c.self.inside.arena c.self.inside.count c.self.inside.size c.self.invariant c.args.path in
    rw (c.size_of.ensures.value, c.as_ref.ensures.value, c.touch_again-kept.ensures.kept) bound

pub invariant_of-self : goal.invariant_of-self
invariant_of-self c =
    rw (c.touch_again-kept.ensures.touched, c.new_rows.ensures.value, c.size_of.ensures.value, c.as_ref.ensures.value, c.touch_again-kept.ensures.kept)
    (counted_clear c.self.inside.arena c.self.inside.count c.self.inside.size c.self.invariant c.args.path)
