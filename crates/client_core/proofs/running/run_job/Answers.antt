use Rattle.std.proofs.Common.{sym, subst}
use Rattle.client_core.specs.declared.running.RunEnd.{RunEnd}
use Rattle.client_core.specs.Running.{RunsCommand}
use Rattle.client_core.specs.Inside.{ran}
use Rattle.cmd_capture.specs.Runs.{telling}
use Rattle.client_core.proofs.Runs.{given, given_faults, unrun}
use Rattle.client_core.proofs.running.run_job.Goals as goal

pub returns-in-Ok-clause-turn : goal.returns-in-Ok-clause-turn
returns-in-Ok-clause-turn g c =
    given c.args.work.now c.args.command c.args.log.now c.args.job.now c.requires.job (g.R.Runner.runs c.args.runner.now) (g.R.Runner.runs c.run.new.self)
    (g.R.Runner.faults c.args.runner.now) (g.R.Runner.faults c.run.new.self) c.in-Ok.outcome c.in-Ok.ensures.runs c.in-Ok.ensures.cause c.log_run-end.result c.log_run-end.new.log
    (c.log_run-end.ensures.ends c.args.work.now)

pub returns-in-Ok-clause-faults : goal.returns-in-Ok-clause-faults
returns-in-Ok-clause-faults g c =
    given_faults c.in-Ok.outcome (g.R.Runner.faults c.args.runner.now) (g.R.Runner.faults c.run.new.self) c.args.command c.args.log.now (ran c.args.work.now c.args.job.now c.in-Ok.outcome)
    c.log_run-end.result c.log_run-end.new.log c.in-Ok.ensures.cause (c.log_run-end.ensures.ends c.args.work.now)

pub returns-in-Err-clause-turn : goal.returns-in-Err-clause-turn
returns-in-Err-clause-turn g c =
    let old = telling (g.R.Runner.runs c.args.runner.now) (g.R.Runner.faults c.args.runner.now) in
    let new = telling (g.R.Runner.runs c.run.new.self) (g.R.Runner.faults c.run.new.self) in
    subst (λ (end : RunEnd). RunsCommand c.args.work.now c.args.command c.args.log.now end c.args.log.now old new) (sym c.unrun_end.ensures)
    (unrun c.args.work.now c.args.command c.args.log.now c.args.job.now c.requires.job (g.R.Runner.runs c.args.runner.now) (g.R.Runner.runs c.run.new.self)
    (g.R.Runner.faults c.args.runner.now) (g.R.Runner.faults c.run.new.self) c.in-Err.error c.in-Err.ensures.runs c.in-Err.ensures.cause)
