use Rattle.std.proofs.Common.{◌-◌, ◌≤◌}
use Rattle.client_core.specs.Limits.{max_window}
use Rattle.client_core.specs.Inside.{ForEachClient}
use Rattle.client_core.proofs.Windows.{SoFar}
use Rattle.client_core.proofs.window.window_count.Given as goal

abbrev pub invariant-loop-count : goal.invariant-loop-count
invariant-loop-count l = record {
  few : l.count ≤ max_window;
  so_far : ForEachClient (λ client. SoFar client l.route l.log.pending l.count l.room);
}

abbrev pub decreases-loop-count : goal.decreases-loop-count
decreases-loop-count l = max_window - l.count
