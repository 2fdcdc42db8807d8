use Rattle.std.proofs.Common.{◌≡◌, ◌≤◌, ◌+◌, ◌-◌, length}
use Rattle.std.specs.List.{flat_map}
use Rattle.byte_fields.specs.Field.{each_at}
use Rattle.byte_fields.proofs.Loop.{SoFar}
use Rattle.mod_log.specs.Log.{entry, tree_of, IsLog}
use Rattle.store_image.specs.Reading.{next_entry_at, with_entry}
use Rattle.store_image.proofs.reading.entries_from.Given as goal

abbrev pub invariant-loop : goal.invariant-loop
invariant-loop l = record {
  so_far : SoFar (next_entry_at l.format) with_entry l.bytes (each_at (next_entry_at l.format) with_entry l.count l.fn.first l.bytes l.start) l.log.pending (l.count - l.counter) l.log l.at;
  acked : l.log.acked ≡ l.fn.first.acked;
  base : l.log.base ≡ l.fn.first.base;
  is_log : IsLog l.log;
  pending : length l.log.pending ≡ l.counter;
  size : l.at ≡ l.start + length (flat_map entry l.log.pending);
  within : l.at ≤ length l.bytes;
  ahead : l.ahead ≡ tree_of l.log;
}
