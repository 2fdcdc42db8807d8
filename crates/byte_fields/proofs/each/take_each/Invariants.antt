use Rattle.std.proofs.Common.{◌≡◌, ◌-◌, length}
use Rattle.byte_fields.specs.Field.{each_at, passed}
use Rattle.byte_fields.proofs.Loop.{SoFar}
use Rattle.byte_fields.proofs.each.take_each.Given as goal

abbrev pub invariant-loop : goal.invariant-loop
invariant-loop g l = record {
  so_far : SoFar g.T.Item.item_at g.T.Item.after l.bytes (each_at g.T.Item.item_at g.T.Item.after l.count l.fn.state l.bytes l.start) l.items.items (l.count - l.counter) l.state l.at;
  as_many : length l.items.items ≡ l.counter;
  is : l.state ≡ passed g.T.Item.after l.fn.state l.items.items;
}
