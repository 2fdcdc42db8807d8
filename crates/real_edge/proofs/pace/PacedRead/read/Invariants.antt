use Rattle.std.specs.Io.KnownBytes.{Keeps}
use Rattle.paced_talks.specs.Window.{LeadsOn}
use Rattle.real_edge.proofs.pace.PacedRead.read.Given as goal

abbrev pub invariant-loop : goal.invariant-loop
invariant-loop g l = record {
  bytes : Keeps (g.S.Read.remaining l.fn.self.stream) (g.S.Read.remaining l.self.stream);
  window : LeadsOn l.fn.self.window l.self.window;
}
