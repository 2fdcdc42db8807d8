use Rattle.tree_slots.proofs.Counts.{counted_more}
use Rattle.tree_slots.proofs.counted.Counted.insert.Goals as goal

pub invariant_of-self-2 : goal.invariant_of-self-2
invariant_of-self-2 c =
    let none = rw (← c.self.view_is) at c.requires.new in
    rw (c.in_ok-insert.ensures.ok, c.size_of-added.ensures.value, c.as_ref.ensures.value) (counted_more c.self.inside.arena c.self.inside.count c.self.inside.size c.args.row c.self.invariant c.requires.touched none)
