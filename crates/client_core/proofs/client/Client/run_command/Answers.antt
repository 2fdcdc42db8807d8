use Rattle.std.proofs.Common.{◌≡◌, ◌≢◌, Err, sym, subst}
use Rattle.tree_values.specs.Tree.{Volume}
use Rattle.cmd_capture.specs.Runs.{RunnerTelling, telling}
use Rattle.work_area.specs.declared.jobs.JobError.TheVariants.{Memory}
use Rattle.work_area.specs.Jobs.{job_of}
use Rattle.mod_log.specs.Log.{tree_of}
use Rattle.client_core.specs.Client.{Client}
use Rattle.client_core.specs.declared.running.RunEnd.{RunEnd}
use Rattle.client_core.specs.Running.{RunsCommand}
use Rattle.client_core.specs.Keeping.{IsReady}
use Rattle.client_core.proofs.Runs.{jobless, ran_ready}
use Rattle.client_core.proofs.client.Client.run_command.Goals as goal

pub returns-in-Err-clause-turn : goal.returns-in-Err-clause-turn
returns-in-Err-clause-turn g c =
    let work = c.args.work.now in
    let before = c.self.inside.log in
    let fault = c.in-Err.fault in
    let runner : RunnerTelling = telling (g.R.Runner.runs c.args.runner.now) (g.R.Runner.faults c.args.runner.now) in
    let why : fault ≢ Memory → job_of (tree_of before) c.args.command ≡ Err fault =
    λ other. subst (λ (tree : Volume). job_of tree c.args.command ≡ Err fault) c.tree-tree.ensures.tree (c.in-Err.ensures.err other) in
    subst (λ (self : Client). RunsCommand work c.args.command self.log c.jobless_end.result self.log runner runner) c.self.view_is
    (subst (λ (end : RunEnd). RunsCommand work c.args.command before end before runner runner) (sym c.jobless_end.ensures) (jobless work c.args.command before fault runner why))

pub returns-clause-ready : goal.returns-clause-ready
returns-clause-ready g c = λ images name ready.
    ran_ready c.args.command c.self.inside.log c.run_job-end.new.log c.args.work.now c.run_job-end.result _ _ c.run_job-end.ensures.turn name c.self.inside.number c.self.inside.journal images
    (subst (IsReady images name) (sym c.self.view_is) ready)
