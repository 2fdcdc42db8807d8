use Rattle.tree_slots.proofs.Grown.{no_rows}
use Rattle.tree_slots.proofs.Used.{nothing_kept}
use Rattle.tree_slots.proofs.arena.Arena.new.Goals as goal

pub invariant_of-result : goal.invariant_of-result
invariant_of-result c = rw (c.new.ensures.items, c.new-2.ensures.items) (nothing_kept _)

pub returns : goal.returns
returns c = rw c.new.ensures.items no_rows
