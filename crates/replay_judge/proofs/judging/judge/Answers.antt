use Rattle.replay_judge.proofs.Places.{judged}
use Rattle.replay_judge.proofs.judging.judge.Goals as goal

pub returns-in-Ok : goal.returns-in-Ok
returns-in-Ok c =
    judged c.args.sketched.now c.args.job.now c.args.outcome.now c.in-Ok.rows
    (record { status = c.if-outcome-sketched.false; legal = c.in-Ok.ensures.legal; rows_are = c.in-Ok.ensures.rows })
    c.judge_rows.result c.judge_rows.ensures
