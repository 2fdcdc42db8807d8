use Rattle.std.proofs.Common.{◌≡◌, ◌≤◌, length, take, vec_capacity}
use Rattle.tree_slots.specs.Arena.{rows_of, IsArena, IsPool, AreUsed, slot_of}
use Rattle.tree_slots.proofs.arena.prune.Given as goal

abbrev pub invariant-loop-depth : goal.invariant-loop-depth
invariant-loop-depth l = record {
  arena : IsArena l.slots.items;
  pool : IsPool l.slots.items l.free.items (vec_capacity l.free);
  used : AreUsed l.slots.items (slot_of l.slots.items 0 (take l.depth l.path));
  rows : rows_of l.slots.items ≡ rows_of l.fn.slots.items;
  within : l.depth ≤ length l.path;
}

abbrev pub decreases-loop-depth : goal.decreases-loop-depth
decreases-loop-depth l = l.depth
