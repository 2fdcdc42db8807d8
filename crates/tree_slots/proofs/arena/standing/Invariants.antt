use Rattle.std.proofs.Common.{◌≡◌, take}
use Rattle.tree_slots.specs.Arena.{standing, place}
use Rattle.tree_slots.proofs.arena.standing.Given as goal

abbrev pub invariant-loop-k : goal.invariant-loop-k
invariant-loop-k l = l.names ≡ standing l.slots (take l.k (place l.slots l.at).children)
