use Rattle.std.proofs.Common.{◌≡◌}
use Rattle.surrogate_core.specs.Handling.{Idle}
use Rattle.surrogate_prog.specs.Serving.{outside_told}
use Rattle.surrogate_prog.proofs.serving.serve.Given as goal
use Rattle.surrogate_prog.proofs.SoFar.{SurrogateServesSoFar}

abbrev pub invariant-loop-take : goal.invariant-loop-take
invariant-loop-take g l = record {
  idle : l.surrogate.phase ≡ Idle;
  served :
      SurrogateServesSoFar l.route.server.now l.route.work.now l._take l.tally l.fn.surrogate.copy l.surrogate.copy (g.P.Port.tells l.fn.port) (g.P.Port.tells l.port)
      (outside_told (g.R.Runner.runs l.fn.runner) (g.R.Runner.faults l.fn.runner) (g.L.Link.tells l.fn.link)) (outside_told (g.R.Runner.runs l.runner) (g.R.Runner.faults l.runner) (g.L.Link.tells l.link));
}
