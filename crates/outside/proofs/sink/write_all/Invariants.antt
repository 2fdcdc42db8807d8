use Rattle.std.proofs.Common.{◌≡◌, length}
use Rattle.outside.proofs.Writing.{HasWritten}
use Rattle.outside.proofs.sink.write_all.Given as goal

abbrev pub invariant-loop-rest : goal.invariant-loop-rest
invariant-loop-rest g l = record {
  written : HasWritten (g.O.Sink.written l.fn.output) (g.O.Sink.written l.output) l.text l.rest;
  faults : g.O.Sink.faults l.output ≡ g.O.Sink.faults l.fn.output;
}

abbrev pub decreases-loop-rest : goal.decreases-loop-rest
decreases-loop-rest g l = length l.rest
