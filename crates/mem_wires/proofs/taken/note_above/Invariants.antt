use Rattle.std.proofs.Common.{◌≡◌, ◌+◌, ◌++◌, ◌≤◌, length, take, drop}
use Rattle.mem_wires.specs.Underway.{entries_above}
use Rattle.mem_wires.proofs.taken.note_above.Given as goal

abbrev pub invariant-loop-entry : goal.invariant-loop-entry
invariant-loop-entry l = record {
  numbered : l.at + length (drop l.entry-index l.entries) ≤ 18446744073709551616;
  noted : l.taken.items ++ entries_above l.client l.at (drop l.entry-index l.entries) l.last ≡ l.fn.taken.items ++ entries_above l.client l.number l.entries l.last;
  front : take (length l.fn.taken.items) l.taken.items ≡ l.fn.taken.items;
}
