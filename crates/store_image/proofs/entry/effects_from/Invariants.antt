use Rattle.std.proofs.Common.{◌≡◌, ◌-◌}
use Rattle.byte_fields.specs.Field.{each_at}
use Rattle.byte_fields.proofs.Loop.{SoFar}
use Rattle.tree_values.specs.Effects.{changed_all}
use Rattle.store_image.specs.Reading.{growing_effect_at, grown}
use Rattle.store_image.proofs.entry.effects_from.Given as goal

abbrev pub invariant-loop : goal.invariant-loop
invariant-loop l = record {
  so_far : SoFar (growing_effect_at l.format) grown l.bytes (each_at (growing_effect_at l.format) grown l.count (record { tree = l.fn.tree; room = 33554432 }) l.bytes l.start) l.effects (l.count - l.counter) (record { tree = l.tree; room = l.room }) l.at;
  applied : l.tree ≡ changed_all l.effects l.fn.tree;
}
