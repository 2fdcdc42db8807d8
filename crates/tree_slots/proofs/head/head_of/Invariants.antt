use Rattle.std.proofs.Common.{◌≡◌, ◌<◌, ◌^◌}
use Rattle.tree_slots.specs.Head.{name_head}
use Rattle.tree_slots.proofs.head.head_of.Given as goal

abbrev pub invariant-loop-k : goal.invariant-loop-k
invariant-loop-k l = record {
  first : l.head ≡ name_head l.k l.name;
  small : l.head < 256 ^ l.k;
}
