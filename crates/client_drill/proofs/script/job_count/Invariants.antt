use Rattle.std.specs.Prelude.{◌≡◌, ◌<◌, ◌≤◌}
use Rattle.client_drill.specs.Drill.{number_at, jobs_upto}
use Rattle.client_drill.proofs.script.job_count.Given as goal

abbrev pub invariant-loop : goal.invariant-loop
invariant-loop l = record {
  value : l.x ≡ number_at l.seed l.counter;
  below : l.x < 65537;
  jobs : l.jobs ≡ jobs_upto l.seed l.counter;
  few : l.jobs ≤ l.counter;
}
