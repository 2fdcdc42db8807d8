use Rattle.std.proofs.Common.{take, vec_capacity, Some}
use Rattle.tree_slots.specs.Arena.{IsEntered, IsPool, AreUsed}
use Rattle.tree_slots.proofs.arena.reach.Given as goal

abbrev pub invariant-loop-depth : goal.invariant-loop-depth
invariant-loop-depth l = record {
  entered : IsEntered l.fn.slots.items l.slots.items (take l.depth l.path) l.at;
  pool : IsPool l.slots.items l.free.items (vec_capacity l.free);
  used : AreUsed l.slots.items (Some l.at);
}
