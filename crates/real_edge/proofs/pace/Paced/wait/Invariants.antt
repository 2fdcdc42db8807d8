use Rattle.std.specs.Prelude.{◌≡◌}
use Rattle.paced_talks.specs.Window.{waiting, StartsBy}
use Rattle.real_edge.proofs.pace.Paced.wait.Given as goal

abbrev pub invariant-loop : goal.invariant-loop
invariant-loop g l = record {
  stream : l.self.stream ≡ l.fn.self.stream;
  window : StartsBy (waiting l.seconds) l.self.window;
}
