use Rattle.std.specs.Prelude.{◌≡◌, ◌++◌, ◌<◌, ◌≤◌}
use Rattle.shell_lang.specs.Lines.{with_ends}
use Rattle.client_drill.specs.Drill.{number_at, jobs_upto, lines_upto}
use Rattle.client_drill.proofs.script.put_steps.Given as goal

abbrev pub invariant-loop-i : goal.invariant-loop-i
invariant-loop-i l = record {
  value : l.x ≡ number_at l.seed l.i;
  below : l.x < 65537;
  jobs : l.jobs ≡ jobs_upto l.seed l.i;
  few : l.jobs ≤ l.i;
  text : l.script.items ≡ l.fn.script.items ++ with_ends (lines_upto l.seed l.i);
}
