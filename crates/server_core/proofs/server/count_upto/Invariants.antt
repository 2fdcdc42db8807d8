use Rattle.std.proofs.Common.{◌≡◌, ◌+◌, ◌≤◌, length, drop}
use Rattle.server_core.specs.Inside.{effects_between}
use Rattle.server_core.proofs.server.count_upto.Given as goal

abbrev pub invariant-loop-entry : goal.invariant-loop-entry
invariant-loop-entry l = record {
  numbered : l.at + length (drop l.entry-index l.entries) ≤ 18446744073709551616;
  counted : l.count + effects_between l.at (drop l.entry-index l.entries) l.above l.upto ≡ effects_between l.number l.entries l.above l.upto;
}
