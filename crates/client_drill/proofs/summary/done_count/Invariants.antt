use Rattle.std.specs.Prelude.{◌≡◌, ◌≤◌, length, take}
use Rattle.client_drill.specs.Drilled.{done_among}
use Rattle.client_drill.proofs.summary.done_count.Given as goal

abbrev pub invariant-loop-k : goal.invariant-loop-k
invariant-loop-k l = record {
  done : l.done.items ≡ done_among (take l.k l.net.wires.packets);
  within : l.k ≤ length l.net.wires.packets;
}
