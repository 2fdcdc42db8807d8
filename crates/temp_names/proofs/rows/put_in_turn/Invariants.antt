use Rattle.std.proofs.Common.{◌≡◌}
use Rattle.temp_names.specs.Rename.{with_job_rows}
use Rattle.temp_names.proofs.rows.put_in_turn.Given as goal

abbrev pub invariant-loop-new : goal.invariant-loop-new
invariant-loop-new l = l.all.items ≡ with_job_rows l.yielded l.fn.rows.items
