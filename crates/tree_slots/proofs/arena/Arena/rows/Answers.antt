use Rattle.tree_slots.specs.Arena.{rows_of}
use Rattle.tree_slots.proofs.arena.Arena.rows.Goals as goal

pub returns : goal.returns
unfolding rows_of
returns c = rw (c.in_ok-add_rows.ensures, c.new-rows.ensures, c.deref.ensures.value, c.root.ensures) c.self.view_is
