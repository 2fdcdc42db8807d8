use Rattle.std.proofs.Common.{◌≡◌, ◌*◌, ◌≤◌, drop}
use Rattle.tree_slots.specs.Arena.{slot_of}
use Rattle.tree_slots.proofs.arena.descend.Given as goal

abbrev pub invariant-loop-name : goal.invariant-loop-name
invariant-loop-name l = record {
  below : slot_of l.slots l.at (drop l.name-index l.path) ≡ slot_of l.slots 0 l.path;
  few : l.compared ≤ 16 * l.name-index;
}
