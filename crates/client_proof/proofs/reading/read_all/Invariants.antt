use Rattle.std.proofs.Common.{◌≡◌, ◌≤◌, ◌-◌, length}
use Rattle.outside.specs.Outside.{Takes}
use Rattle.client_lines.specs.Limits.{max_input}
use Rattle.client_proof.proofs.reading.read_all.Given as goal

abbrev pub invariant-loop-end : goal.invariant-loop-end
invariant-loop-end g l = record {
  few : length l.bytes.items ≤ max_input;
  taken : Takes (g.I.Source.left l.fn.input) (g.I.Source.left l.input) l.bytes.items;
  same : g.I.Source.faults l.input ≡ g.I.Source.faults l.fn.input;
}

abbrev pub decreases-loop-end : goal.decreases-loop-end
decreases-loop-end g l = max_input - length l.bytes.items
