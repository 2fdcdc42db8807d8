use Rattle.std.proofs.Common.{◌≡◌, ◌≢◌, Ok, Err, refl, ap, subst}
use Rattle.file_paths.specs.Path.{FilePath}
use Rattle.cmd_capture.specs.declared.capturing.CaptureError.TheVariants.{Memory}
use Rattle.cmd_capture.specs.Capture.{capture}
use Rattle.cmd_capture.specs.Runs.{telling}
use Rattle.client_session.specs.Session.{Sitting, state_of, capture_answer}
use Rattle.client_core.specs.Noting.{KeepsLogged}
use Rattle.client_core.proofs.Noting.{keeps_same}
use Rattle.client_session.proofs.Turning.{uncounted, or_memory_unfaulty}
use Rattle.client_session.proofs.Commanding.{capture_given, whatever}
use Rattle.client_session.proofs.session.Session.run.Goals as goal

pub returns-in-Ok-clause-runs : goal.returns-in-Ok-clause-runs
returns-in-Ok-clause-runs g c =
    let words = c.args.words.now in
    c.run_command.ensures.runs words (subst (λ (folder : FilePath). capture words folder ≡ Ok c.in-Ok.command) (ap (λ (s : Sitting). s.folder) c.self.view_is) c.in-Ok.ensures.ok)

pub returns-in-Err-clause-runs : goal.returns-in-Err-clause-runs
returns-in-Err-clause-runs g c =
    let words = c.args.words.now in
    let p = telling (g.R.Runner.runs c.args.runner.now) (g.R.Runner.faults c.args.runner.now) in
    capture_given c.args.route.now words (state_of c.args.self.now) (g.K.Keeper.images c.args.keeper.now) c.requires.0 p c.in-Err.refusal c.capture_answer.result
    (subst (λ (folder : FilePath). c.in-Err.refusal ≢ Memory → capture words folder ≡ Err c.in-Err.refusal) (ap (λ (s : Sitting). s.folder) c.self.view_is) c.in-Err.ensures.err) c.capture_answer.ensures

pub returns-in-Err-clause-records : goal.returns-in-Err-clause-records
returns-in-Err-clause-records g c =
    let name = c.args.route.now.image in
    let i = g.K.Keeper.images c.args.keeper.now in
    let client = c.args.self.now.client in
    whatever c.capture_answer.result (KeepsLogged name client client i i) (keeps_same name client i)

pub returns-in-Err-clause-keeper : goal.returns-in-Err-clause-keeper
returns-in-Err-clause-keeper g c =
    let p = g.K.Keeper.faults c.args.keeper.now in
    uncounted c.capture_answer.result p p refl (or_memory_unfaulty (capture_answer c.in-Err.refusal) c.capture_answer.result c.capture_answer.ensures)
