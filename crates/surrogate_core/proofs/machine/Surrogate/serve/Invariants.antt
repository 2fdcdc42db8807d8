use Rattle.std.proofs.Common.{◌≡◌, true}
use Rattle.surrogate_core.specs.Handling.{IsFitStep, is_fetching}
use Rattle.cmd_capture.specs.Runs.{telling, IsAskedAtMostOnce}
use Rattle.surrogate_core.specs.Inside.{ServingOf, asks_left}
use Rattle.surrogate_core.proofs.machine.Surrogate.serve.Given as goal

abbrev pub invariant-asking : goal.invariant-asking
invariant-asking g l = record {
  serving : ServingOf l.fn.server l.fn.work l.fn.self.copy l.fn.request (record { step = l.step; after = l.self })
      (telling (g.R.Runner.runs l.fn.runner) (g.R.Runner.faults l.fn.runner)) (telling (g.R.Runner.runs l.runner) (g.R.Runner.faults l.runner)) (g.L.Link.tells l.fn.link) (g.L.Link.tells l.link);
  sent : IsFitStep l.step;
  kept : g.L.Link.keeps l.fn.link l.link;
  asked : IsAskedAtMostOnce (g.R.Runner.calls l.fn.runner) (g.R.Runner.calls l.runner);
  unasked : is_fetching l.self.phase ≡ true → g.R.Runner.calls l.runner ≡ g.R.Runner.calls l.fn.runner;
}

abbrev pub decreases-asking : goal.decreases-asking
decreases-asking g l = asks_left l.self.phase
