use Rattle.std.specs.Prelude.{◌≡◌, take}
use Rattle.child_runner.specs.Judging.{job_bytes}
use Rattle.child_runner.proofs.judging.bytes_of.Given as goal

abbrev pub invariant-loop-row : goal.invariant-loop-row
invariant-loop-row l = l.bytes ≡ job_bytes (take l.row-index l.rows)
