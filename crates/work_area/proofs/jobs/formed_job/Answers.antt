use Rattle.std.proofs.lemmas.Result.{IfOk-weaker}
use Rattle.work_area.proofs.Forming.{job_rows_formed, job_fits}
use Rattle.work_area.proofs.jobs.formed_job.Goals as goal

pub returns-in-Ok-clause-rows : goal.returns-in-Ok-clause-rows
returns-in-Ok-clause-rows c =
    IfOk-weaker c.new.result _ _
    (λ job is. rw is (rw c.in_ok-rows.ensures.rows (job_rows_formed c.args.command.now c.args.tree.now c.in_ok-rows.ensures.tree)))
    c.new.ensures

pub returns-in-Ok-clause-fits : goal.returns-in-Ok-clause-fits
returns-in-Ok-clause-fits c =
    IfOk-weaker c.new.result _ _
    (λ job is. rw is (rw (c.in-Ok.ensures, c.in_ok-rows.ensures.rows)
    (job_fits c.args.command.now c.args.tree.now c.in_ok-rows.ensures.tree c.requires)))
    c.new.ensures
