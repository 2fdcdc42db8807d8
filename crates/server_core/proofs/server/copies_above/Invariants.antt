use Rattle.std.proofs.Common.{◌≡◌, ◌+◌, ◌++◌, ◌≤◌, length, drop}
use Rattle.server_core.specs.Inside.{effects_numbered_above}
use Rattle.server_core.proofs.server.copies_above.Given as goal

abbrev pub invariant-loop-entry : goal.invariant-loop-entry
invariant-loop-entry l = record {
  numbered : l.at + length (drop l.entry-index l.entries) ≤ 18446744073709551616;
  copied : l.copies.items ++ effects_numbered_above l.at (drop l.entry-index l.entries) l.last ≡ effects_numbered_above l.number l.entries l.last;
}
