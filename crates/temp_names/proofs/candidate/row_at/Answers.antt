use Rattle.std.proofs.Common.{◌∙◌, List, sym, ap}
use Rattle.std.specs.Prelude.{slice_get}
use Rattle.cmd_capture.specs.declared.job.JobRow.{JobRow}
use Rattle.cmd_capture.specs.Rows.{is_job_row_at}
use Rattle.temp_names.proofs.Sorting.{first_passing}
use Rattle.temp_names.proofs.candidate.row_at.Goals as goal

pub returns : goal.returns
returns c =
    c.first.ensures.value ∙ ap (λ (ys : List JobRow). slice_get ys 0) c.rows_at.ensures ∙ sym (first_passing (is_job_row_at c.args.path.now) c.args.rows.now)
