use Rattle.std.proofs.Common.{◌≡◌, false, ℕ, List, Option, None, Some, Result, Ok, Err, IfOk, refl, sym, ◌∙◌, ap, subst}
use Rattle.std.proofs.lemmas.Result.{err_from_is_err_and}
use Rattle.file_paths.specs.declared.path.PathError.{PathError}
use Rattle.tree_values.specs.declared.node.Effect.{Effect}
use Rattle.shell_lang.specs.declared.line.Line.{Line}
use Rattle.shell_lang.specs.declared.line.Line.TheVariants.{Empty, Put, Make, Remove, Move, Cat, List as Ls, Enter, Run, Status, Sync, Pull, Quit}
use Rattle.shell_lang.specs.declared.line.LineError.{LineError}
use Rattle.shell_lang.specs.declared.answer.LineAnswer.{LineAnswer}
use Rattle.shell_lang.specs.declared.answer.LineAnswer.TheVariants.{Refused}
use Rattle.shell_lang.specs.declared.answer.Fault.TheVariants as faults
use Rattle.mod_log.specs.Log.{tree_of}
use Rattle.client_core.specs.Keeping.{IsKeptReady}
use Rattle.client_core.specs.Noting.{KeepsLogged}
use Rattle.client_core.specs.Client.{Client}
use Rattle.client_core.proofs.Noting.{keeps_same}
use Rattle.client_session.specs.declared.stop.LineStop.{LineStop}
use Rattle.client_session.specs.declared.stop.LineStop.TheVariants as stops
use Rattle.client_session.specs.Session.{state_of, put_effect, make_effect, remove_effect, move_effect, has_pulled}
use Rattle.client_session.specs.Looking.{cat_answer, list_answer}
use Rattle.cmd_capture.specs.Runs.{telling}
use Rattle.client_session.specs.Doing.{beside, WentDoing, LineEnds, LineNoting}
use Rattle.client_session.specs.Inside.{LogsOrRefuses}
use Rattle.client_session.specs.Causes.{HasLineCause, asks_to_run}
use Rattle.client_session.proofs.Turning.{line_world, quietly_caused, tells_quietly, silent_quietly, told_quietly, breaks_quietly, enter_quietly, status_quietly, as_told, told_holds, told_counts}
use Rattle.client_session.proofs.Commanding.{run_went, run_caused}
use Rattle.client_session.proofs.Recorded.{unless_pulled, IsNoSync, noting_line, pull_told_records, logs_went, logs_caused}
use Rattle.client_session.proofs.session.Session.answer.Goals as goal

pub returns-in-Err-clause-did : goal.returns-in-Err-clause-did
returns-in-Err-clause-did g c =
    let s = state_of c.args.self.now in
    let route = c.args.route.now in
    let i = g.K.Keeper.images c.args.keeper.now in
    let t = beside (g.L.Link.tells c.args.link.now) (telling (g.R.Runner.runs c.args.runner.now) (g.R.Runner.faults c.args.runner.now)) in
    let name = c.args.route.now.image in
    let client = c.args.self.now.client in
    noting_line route c.args.self.now c.args.self.now c.args.line (subst IsNoSync (sym c.in-Err.is) tt) i i (Ok (Some (Refused (faults.Line c.in-Err.refusal)))) t t
    (line_world route i s c.args.line (Err c.in-Err.refusal) (Ok (Some (Refused (faults.Line c.in-Err.refusal)))) s i t c.in-Err.is
    (tells_quietly route.image i s c.requires.0 (Err c.in-Err.refusal) (Some (Refused (faults.Line c.in-Err.refusal))) (λ r. (refl, refl, refl))))
    (unless_pulled c.args.line (Ok (Some (Refused (faults.Line c.in-Err.refusal)))) (KeepsLogged name client client i i) (keeps_same name client i))

pub returns-in-Err-clause-cause : goal.returns-in-Err-clause-cause
returns-in-Err-clause-cause g c =
    let s = state_of c.args.self.now in
    let route = c.args.route.now in
    let i = g.K.Keeper.images c.args.keeper.now in
    let t = beside (g.L.Link.tells c.args.link.now) (telling (g.R.Runner.runs c.args.runner.now) (g.R.Runner.faults c.args.runner.now)) in
    subst (λ (l : Result Line LineError). HasLineCause route s l (Ok (Some (Refused (faults.Line c.in-Err.refusal)))) s t t (g.K.Keeper.faults c.args.keeper.now) (g.K.Keeper.faults c.args.keeper.now)) (sym c.in-Err.is)
    (quietly_caused route i s (Err c.in-Err.refusal) (Ok (Some (Refused (faults.Line c.in-Err.refusal)))) s i (tells_quietly route.image i s c.requires.0 (Err c.in-Err.refusal) (Some (Refused (faults.Line c.in-Err.refusal))) (λ r. (refl, refl, refl))) t)

pub returns-in-Ok-Put-clause-did : goal.returns-in-Ok-Put-clause-did
returns-in-Ok-Put-clause-did g c =
    let s = state_of c.args.self.now in
    let route = c.args.route.now in
    let i = g.K.Keeper.images c.args.keeper.now in
    let j = g.K.Keeper.images c.put.new.keeper in
    let t = beside (g.L.Link.tells c.args.link.now) (telling (g.R.Runner.runs c.args.runner.now) (g.R.Runner.faults c.args.runner.now)) in
    let line : Result Line LineError = Ok (Put c.in-Ok-Put.path c.in-Ok-Put.text) in
    let named : Result Effect PathError = put_effect s.folder c.in-Ok-Put.path c.in-Ok-Put.text in
    let is : c.args.line ≡ line = c.in-Ok-Put.is ∙ ap Ok c.in-Ok-Put.field-0-is in
    let same = as_told c.put.result c.map.result c.map.ensures.cases in
    let logs = subst (λ (n : List ℕ). LogsOrRefuses n named s c.put.result (state_of c.put.new.self) i j) c.bytes-image.ensures.value c.put.ensures.logs in
    logs_went route c.args.self.now c.put.new.self c.args.line line is named c.put.result c.map.result i j (λ r answer trace turn. turn) logs same tt
    (subst (λ (n : List ℕ). IfOk c.put.result (λ answer. KeepsLogged n c.args.self.now.client c.put.new.self.client i j)) c.bytes-image.ensures.value c.put.ensures.records) t

pub returns-in-Ok-Put-clause-cause : goal.returns-in-Ok-Put-clause-cause
returns-in-Ok-Put-clause-cause g c =
    let s = state_of c.args.self.now in
    let route = c.args.route.now in
    let i = g.K.Keeper.images c.args.keeper.now in
    let j = g.K.Keeper.images c.put.new.keeper in
    let t = beside (g.L.Link.tells c.args.link.now) (telling (g.R.Runner.runs c.args.runner.now) (g.R.Runner.faults c.args.runner.now)) in
    let line : Result Line LineError = Ok (Put c.in-Ok-Put.path c.in-Ok-Put.text) in
    let named : Result Effect PathError = put_effect s.folder c.in-Ok-Put.path c.in-Ok-Put.text in
    let is : c.args.line ≡ line = c.in-Ok-Put.is ∙ ap Ok c.in-Ok-Put.field-0-is in
    let same = as_told c.put.result c.map.result c.map.ensures.cases in
    let logs = subst (λ (n : List ℕ). LogsOrRefuses n named s c.put.result (state_of c.put.new.self) i j) c.bytes-image.ensures.value c.put.ensures.logs in
    subst (λ (l : Result Line LineError). HasLineCause route s l c.map.result (state_of c.put.new.self) t t (g.K.Keeper.faults c.args.keeper.now) (g.K.Keeper.faults c.put.new.keeper)) (sym is)
    (logs_caused route c.args.self.now c.put.new.self c.args.line line is named c.put.result c.map.result i j (λ r answer trace turn. turn) logs same t)

pub put-requires : goal.put-requires
put-requires g c = subst (λ (n : List ℕ). IsKeptReady (g.K.Keeper.images c.args.keeper.now) n c.args.self.now.client) (sym c.bytes-image.ensures.value) c.requires

pub returns-in-Ok-Put-clause-kept : goal.returns-in-Ok-Put-clause-kept
returns-in-Ok-Put-clause-kept g c =
    let j = g.K.Keeper.images c.put.new.keeper in
    told_holds c.put.result c.map.result (IsKeptReady j c.args.route.now.image c.put.new.self.client) (as_told c.put.result c.map.result c.map.ensures.cases)
    (subst (λ (n : List ℕ). IfOk c.put.result (λ answer. IsKeptReady j n c.put.new.self.client)) c.bytes-image.ensures.value c.put.ensures.kept)

pub returns-in-Ok-Put-clause-keeper : goal.returns-in-Ok-Put-clause-keeper
returns-in-Ok-Put-clause-keeper g c =
    told_counts (g.K.Keeper.faults c.args.keeper.now) (g.K.Keeper.faults c.put.new.keeper) c.put.result c.map.result (as_told c.put.result c.map.result c.map.ensures.cases) c.put.ensures.keeper

pub returns-in-Ok-Make-clause-did : goal.returns-in-Ok-Make-clause-did
returns-in-Ok-Make-clause-did g c =
    let s = state_of c.args.self.now in
    let route = c.args.route.now in
    let i = g.K.Keeper.images c.args.keeper.now in
    let j = g.K.Keeper.images c.make.new.keeper in
    let t = beside (g.L.Link.tells c.args.link.now) (telling (g.R.Runner.runs c.args.runner.now) (g.R.Runner.faults c.args.runner.now)) in
    let line : Result Line LineError = Ok (Make c.in-Ok-Make.path) in
    let named : Result Effect PathError = make_effect s.folder c.in-Ok-Make.path in
    let is : c.args.line ≡ line = c.in-Ok-Make.is ∙ ap Ok c.in-Ok-Make.field-0-is in
    let same = as_told c.make.result c.map-in-Ok-Make.result c.map-in-Ok-Make.ensures.cases in
    let logs = subst (λ (n : List ℕ). LogsOrRefuses n named s c.make.result (state_of c.make.new.self) i j) c.bytes-image.ensures.value c.make.ensures.logs in
    logs_went route c.args.self.now c.make.new.self c.args.line line is named c.make.result c.map-in-Ok-Make.result i j (λ r answer trace turn. turn) logs same tt
    (subst (λ (n : List ℕ). IfOk c.make.result (λ answer. KeepsLogged n c.args.self.now.client c.make.new.self.client i j)) c.bytes-image.ensures.value c.make.ensures.records) t

pub returns-in-Ok-Make-clause-cause : goal.returns-in-Ok-Make-clause-cause
returns-in-Ok-Make-clause-cause g c =
    let s = state_of c.args.self.now in
    let route = c.args.route.now in
    let i = g.K.Keeper.images c.args.keeper.now in
    let j = g.K.Keeper.images c.make.new.keeper in
    let t = beside (g.L.Link.tells c.args.link.now) (telling (g.R.Runner.runs c.args.runner.now) (g.R.Runner.faults c.args.runner.now)) in
    let line : Result Line LineError = Ok (Make c.in-Ok-Make.path) in
    let named : Result Effect PathError = make_effect s.folder c.in-Ok-Make.path in
    let is : c.args.line ≡ line = c.in-Ok-Make.is ∙ ap Ok c.in-Ok-Make.field-0-is in
    let same = as_told c.make.result c.map-in-Ok-Make.result c.map-in-Ok-Make.ensures.cases in
    let logs = subst (λ (n : List ℕ). LogsOrRefuses n named s c.make.result (state_of c.make.new.self) i j) c.bytes-image.ensures.value c.make.ensures.logs in
    subst (λ (l : Result Line LineError). HasLineCause route s l c.map-in-Ok-Make.result (state_of c.make.new.self) t t (g.K.Keeper.faults c.args.keeper.now) (g.K.Keeper.faults c.make.new.keeper)) (sym is)
    (logs_caused route c.args.self.now c.make.new.self c.args.line line is named c.make.result c.map-in-Ok-Make.result i j (λ r answer trace turn. turn) logs same t)

pub make-requires : goal.make-requires
make-requires g c = subst (λ (n : List ℕ). IsKeptReady (g.K.Keeper.images c.args.keeper.now) n c.args.self.now.client) (sym c.bytes-image.ensures.value) c.requires

pub returns-in-Ok-Make-clause-kept : goal.returns-in-Ok-Make-clause-kept
returns-in-Ok-Make-clause-kept g c =
    let j = g.K.Keeper.images c.make.new.keeper in
    told_holds c.make.result c.map-in-Ok-Make.result (IsKeptReady j c.args.route.now.image c.make.new.self.client) (as_told c.make.result c.map-in-Ok-Make.result c.map-in-Ok-Make.ensures.cases)
    (subst (λ (n : List ℕ). IfOk c.make.result (λ answer. IsKeptReady j n c.make.new.self.client)) c.bytes-image.ensures.value c.make.ensures.kept)

pub returns-in-Ok-Make-clause-keeper : goal.returns-in-Ok-Make-clause-keeper
returns-in-Ok-Make-clause-keeper g c =
    told_counts (g.K.Keeper.faults c.args.keeper.now) (g.K.Keeper.faults c.make.new.keeper) c.make.result c.map-in-Ok-Make.result (as_told c.make.result c.map-in-Ok-Make.result c.map-in-Ok-Make.ensures.cases) c.make.ensures.keeper

pub returns-in-Ok-Remove-clause-did : goal.returns-in-Ok-Remove-clause-did
returns-in-Ok-Remove-clause-did g c =
    let s = state_of c.args.self.now in
    let route = c.args.route.now in
    let i = g.K.Keeper.images c.args.keeper.now in
    let j = g.K.Keeper.images c.remove.new.keeper in
    let t = beside (g.L.Link.tells c.args.link.now) (telling (g.R.Runner.runs c.args.runner.now) (g.R.Runner.faults c.args.runner.now)) in
    let line : Result Line LineError = Ok (Remove c.in-Ok-Remove.path) in
    let named : Result Effect PathError = remove_effect s.folder c.in-Ok-Remove.path in
    let is : c.args.line ≡ line = c.in-Ok-Remove.is ∙ ap Ok c.in-Ok-Remove.field-0-is in
    let same = as_told c.remove.result c.map-in-Ok-Remove.result c.map-in-Ok-Remove.ensures.cases in
    let logs = subst (λ (n : List ℕ). LogsOrRefuses n named s c.remove.result (state_of c.remove.new.self) i j) c.bytes-image.ensures.value c.remove.ensures.logs in
    logs_went route c.args.self.now c.remove.new.self c.args.line line is named c.remove.result c.map-in-Ok-Remove.result i j (λ r answer trace turn. turn) logs same tt
    (subst (λ (n : List ℕ). IfOk c.remove.result (λ answer. KeepsLogged n c.args.self.now.client c.remove.new.self.client i j)) c.bytes-image.ensures.value c.remove.ensures.records) t

pub returns-in-Ok-Remove-clause-cause : goal.returns-in-Ok-Remove-clause-cause
returns-in-Ok-Remove-clause-cause g c =
    let s = state_of c.args.self.now in
    let route = c.args.route.now in
    let i = g.K.Keeper.images c.args.keeper.now in
    let j = g.K.Keeper.images c.remove.new.keeper in
    let t = beside (g.L.Link.tells c.args.link.now) (telling (g.R.Runner.runs c.args.runner.now) (g.R.Runner.faults c.args.runner.now)) in
    let line : Result Line LineError = Ok (Remove c.in-Ok-Remove.path) in
    let named : Result Effect PathError = remove_effect s.folder c.in-Ok-Remove.path in
    let is : c.args.line ≡ line = c.in-Ok-Remove.is ∙ ap Ok c.in-Ok-Remove.field-0-is in
    let same = as_told c.remove.result c.map-in-Ok-Remove.result c.map-in-Ok-Remove.ensures.cases in
    let logs = subst (λ (n : List ℕ). LogsOrRefuses n named s c.remove.result (state_of c.remove.new.self) i j) c.bytes-image.ensures.value c.remove.ensures.logs in
    subst (λ (l : Result Line LineError). HasLineCause route s l c.map-in-Ok-Remove.result (state_of c.remove.new.self) t t (g.K.Keeper.faults c.args.keeper.now) (g.K.Keeper.faults c.remove.new.keeper)) (sym is)
    (logs_caused route c.args.self.now c.remove.new.self c.args.line line is named c.remove.result c.map-in-Ok-Remove.result i j (λ r answer trace turn. turn) logs same t)

pub remove-requires : goal.remove-requires
remove-requires g c = subst (λ (n : List ℕ). IsKeptReady (g.K.Keeper.images c.args.keeper.now) n c.args.self.now.client) (sym c.bytes-image.ensures.value) c.requires

pub returns-in-Ok-Remove-clause-kept : goal.returns-in-Ok-Remove-clause-kept
returns-in-Ok-Remove-clause-kept g c =
    let j = g.K.Keeper.images c.remove.new.keeper in
    told_holds c.remove.result c.map-in-Ok-Remove.result (IsKeptReady j c.args.route.now.image c.remove.new.self.client) (as_told c.remove.result c.map-in-Ok-Remove.result c.map-in-Ok-Remove.ensures.cases)
    (subst (λ (n : List ℕ). IfOk c.remove.result (λ answer. IsKeptReady j n c.remove.new.self.client)) c.bytes-image.ensures.value c.remove.ensures.kept)

pub returns-in-Ok-Remove-clause-keeper : goal.returns-in-Ok-Remove-clause-keeper
returns-in-Ok-Remove-clause-keeper g c =
    told_counts (g.K.Keeper.faults c.args.keeper.now) (g.K.Keeper.faults c.remove.new.keeper) c.remove.result c.map-in-Ok-Remove.result (as_told c.remove.result c.map-in-Ok-Remove.result c.map-in-Ok-Remove.ensures.cases) c.remove.ensures.keeper

pub returns-in-Ok-Move-clause-did : goal.returns-in-Ok-Move-clause-did
returns-in-Ok-Move-clause-did g c =
    let s = state_of c.args.self.now in
    let route = c.args.route.now in
    let i = g.K.Keeper.images c.args.keeper.now in
    let j = g.K.Keeper.images c.relocate.new.keeper in
    let t = beside (g.L.Link.tells c.args.link.now) (telling (g.R.Runner.runs c.args.runner.now) (g.R.Runner.faults c.args.runner.now)) in
    let line : Result Line LineError = Ok (Move c.in-Ok-Move.from c.in-Ok-Move.to) in
    let named : Result Effect PathError = move_effect s.folder c.in-Ok-Move.from c.in-Ok-Move.to in
    let is : c.args.line ≡ line = c.in-Ok-Move.is ∙ ap Ok c.in-Ok-Move.field-0-is in
    let same = as_told c.relocate.result c.map-in-Ok-Move.result c.map-in-Ok-Move.ensures.cases in
    let logs = subst (λ (n : List ℕ). LogsOrRefuses n named s c.relocate.result (state_of c.relocate.new.self) i j) c.bytes-image.ensures.value c.relocate.ensures.logs in
    logs_went route c.args.self.now c.relocate.new.self c.args.line line is named c.relocate.result c.map-in-Ok-Move.result i j (λ r answer trace turn. turn) logs same tt
    (subst (λ (n : List ℕ). IfOk c.relocate.result (λ answer. KeepsLogged n c.args.self.now.client c.relocate.new.self.client i j)) c.bytes-image.ensures.value c.relocate.ensures.records) t

pub returns-in-Ok-Move-clause-cause : goal.returns-in-Ok-Move-clause-cause
returns-in-Ok-Move-clause-cause g c =
    let s = state_of c.args.self.now in
    let route = c.args.route.now in
    let i = g.K.Keeper.images c.args.keeper.now in
    let j = g.K.Keeper.images c.relocate.new.keeper in
    let t = beside (g.L.Link.tells c.args.link.now) (telling (g.R.Runner.runs c.args.runner.now) (g.R.Runner.faults c.args.runner.now)) in
    let line : Result Line LineError = Ok (Move c.in-Ok-Move.from c.in-Ok-Move.to) in
    let named : Result Effect PathError = move_effect s.folder c.in-Ok-Move.from c.in-Ok-Move.to in
    let is : c.args.line ≡ line = c.in-Ok-Move.is ∙ ap Ok c.in-Ok-Move.field-0-is in
    let same = as_told c.relocate.result c.map-in-Ok-Move.result c.map-in-Ok-Move.ensures.cases in
    let logs = subst (λ (n : List ℕ). LogsOrRefuses n named s c.relocate.result (state_of c.relocate.new.self) i j) c.bytes-image.ensures.value c.relocate.ensures.logs in
    subst (λ (l : Result Line LineError). HasLineCause route s l c.map-in-Ok-Move.result (state_of c.relocate.new.self) t t (g.K.Keeper.faults c.args.keeper.now) (g.K.Keeper.faults c.relocate.new.keeper)) (sym is)
    (logs_caused route c.args.self.now c.relocate.new.self c.args.line line is named c.relocate.result c.map-in-Ok-Move.result i j (λ r answer trace turn. turn) logs same t)

pub relocate-requires : goal.relocate-requires
relocate-requires g c = subst (λ (n : List ℕ). IsKeptReady (g.K.Keeper.images c.args.keeper.now) n c.args.self.now.client) (sym c.bytes-image.ensures.value) c.requires

pub returns-in-Ok-Move-clause-kept : goal.returns-in-Ok-Move-clause-kept
returns-in-Ok-Move-clause-kept g c =
    let j = g.K.Keeper.images c.relocate.new.keeper in
    told_holds c.relocate.result c.map-in-Ok-Move.result (IsKeptReady j c.args.route.now.image c.relocate.new.self.client) (as_told c.relocate.result c.map-in-Ok-Move.result c.map-in-Ok-Move.ensures.cases)
    (subst (λ (n : List ℕ). IfOk c.relocate.result (λ answer. IsKeptReady j n c.relocate.new.self.client)) c.bytes-image.ensures.value c.relocate.ensures.kept)

pub returns-in-Ok-Move-clause-keeper : goal.returns-in-Ok-Move-clause-keeper
returns-in-Ok-Move-clause-keeper g c =
    told_counts (g.K.Keeper.faults c.args.keeper.now) (g.K.Keeper.faults c.relocate.new.keeper) c.relocate.result c.map-in-Ok-Move.result (as_told c.relocate.result c.map-in-Ok-Move.result c.map-in-Ok-Move.ensures.cases) c.relocate.ensures.keeper

pub returns-in-Ok-Status-clause-did : goal.returns-in-Ok-Status-clause-did
returns-in-Ok-Status-clause-did g c =
    let s = state_of c.args.self.now in
    let route = c.args.route.now in
    let i = g.K.Keeper.images c.args.keeper.now in
    let t = beside (g.L.Link.tells c.args.link.now) (telling (g.R.Runner.runs c.args.runner.now) (g.R.Runner.faults c.args.runner.now)) in
    let name = c.args.route.now.image in
    let client = c.args.self.now.client in
    noting_line route c.args.self.now c.args.self.now c.args.line (subst IsNoSync (sym (c.in-Ok-Status.is ∙ ap Ok c.in-Ok-Status.field-0-is)) tt) i i (Ok (Some c.status.result)) t t
    (line_world route i s c.args.line (Ok Status) (Ok (Some c.status.result)) s i t (c.in-Ok-Status.is ∙ ap Ok c.in-Ok-Status.field-0-is)
    (status_quietly route.image i s c.requires.0 c.status.result c.status.ensures))
    (unless_pulled c.args.line (Ok (Some c.status.result)) (KeepsLogged name client client i i) (keeps_same name client i))

pub returns-in-Ok-Status-clause-cause : goal.returns-in-Ok-Status-clause-cause
returns-in-Ok-Status-clause-cause g c =
    let s = state_of c.args.self.now in
    let route = c.args.route.now in
    let i = g.K.Keeper.images c.args.keeper.now in
    let t = beside (g.L.Link.tells c.args.link.now) (telling (g.R.Runner.runs c.args.runner.now) (g.R.Runner.faults c.args.runner.now)) in
    subst (λ (l : Result Line LineError). HasLineCause route s l (Ok (Some c.status.result)) s t t (g.K.Keeper.faults c.args.keeper.now) (g.K.Keeper.faults c.args.keeper.now)) (sym (c.in-Ok-Status.is ∙ ap Ok c.in-Ok-Status.field-0-is))
    (quietly_caused route i s (Ok Status) (Ok (Some c.status.result)) s i (status_quietly route.image i s c.requires.0 c.status.result c.status.ensures) t)

pub returns-in-Ok-Empty-clause-did : goal.returns-in-Ok-Empty-clause-did
returns-in-Ok-Empty-clause-did g c =
    let s = state_of c.args.self.now in
    let route = c.args.route.now in
    let i = g.K.Keeper.images c.args.keeper.now in
    let t = beside (g.L.Link.tells c.args.link.now) (telling (g.R.Runner.runs c.args.runner.now) (g.R.Runner.faults c.args.runner.now)) in
    let name = c.args.route.now.image in
    let client = c.args.self.now.client in
    noting_line route c.args.self.now c.args.self.now c.args.line (subst IsNoSync (sym (c.in-Ok-Empty.is ∙ ap Ok c.in-Ok-Empty.field-0-is)) tt) i i (Ok None) t t
    (line_world route i s c.args.line (Ok Empty) (Ok None) s i t (c.in-Ok-Empty.is ∙ ap Ok c.in-Ok-Empty.field-0-is)
    (silent_quietly route.image i s c.requires.0 (Ok Empty) (λ r. (refl, refl, refl))))
    (unless_pulled c.args.line (Ok None) (KeepsLogged name client client i i) (keeps_same name client i))

pub returns-in-Ok-Empty-clause-cause : goal.returns-in-Ok-Empty-clause-cause
returns-in-Ok-Empty-clause-cause g c =
    let s = state_of c.args.self.now in
    let route = c.args.route.now in
    let i = g.K.Keeper.images c.args.keeper.now in
    let t = beside (g.L.Link.tells c.args.link.now) (telling (g.R.Runner.runs c.args.runner.now) (g.R.Runner.faults c.args.runner.now)) in
    subst (λ (l : Result Line LineError). HasLineCause route s l (Ok None) s t t (g.K.Keeper.faults c.args.keeper.now) (g.K.Keeper.faults c.args.keeper.now)) (sym (c.in-Ok-Empty.is ∙ ap Ok c.in-Ok-Empty.field-0-is))
    (quietly_caused route i s (Ok Empty) (Ok None) s i (silent_quietly route.image i s c.requires.0 (Ok Empty) (λ r. (refl, refl, refl))) t)

pub returns-in-Ok-Quit-clause-did : goal.returns-in-Ok-Quit-clause-did
returns-in-Ok-Quit-clause-did g c =
    let s = state_of c.args.self.now in
    let route = c.args.route.now in
    let i = g.K.Keeper.images c.args.keeper.now in
    let t = beside (g.L.Link.tells c.args.link.now) (telling (g.R.Runner.runs c.args.runner.now) (g.R.Runner.faults c.args.runner.now)) in
    let name = c.args.route.now.image in
    let client = c.args.self.now.client in
    noting_line route c.args.self.now c.args.self.now c.args.line (subst IsNoSync (sym (c.in-Ok-Quit.is ∙ ap Ok c.in-Ok-Quit.field-0-is)) tt) i i (Ok None) t t
    (line_world route i s c.args.line (Ok Quit) (Ok None) s i t (c.in-Ok-Quit.is ∙ ap Ok c.in-Ok-Quit.field-0-is)
    (silent_quietly route.image i s c.requires.0 (Ok Quit) (λ r. (refl, refl, refl))))
    (unless_pulled c.args.line (Ok None) (KeepsLogged name client client i i) (keeps_same name client i))

pub returns-in-Ok-Quit-clause-cause : goal.returns-in-Ok-Quit-clause-cause
returns-in-Ok-Quit-clause-cause g c =
    let s = state_of c.args.self.now in
    let route = c.args.route.now in
    let i = g.K.Keeper.images c.args.keeper.now in
    let t = beside (g.L.Link.tells c.args.link.now) (telling (g.R.Runner.runs c.args.runner.now) (g.R.Runner.faults c.args.runner.now)) in
    subst (λ (l : Result Line LineError). HasLineCause route s l (Ok None) s t t (g.K.Keeper.faults c.args.keeper.now) (g.K.Keeper.faults c.args.keeper.now)) (sym (c.in-Ok-Quit.is ∙ ap Ok c.in-Ok-Quit.field-0-is))
    (quietly_caused route i s (Ok Quit) (Ok None) s i (silent_quietly route.image i s c.requires.0 (Ok Quit) (λ r. (refl, refl, refl))) t)

pub returns-in-Ok-Run-clause-did : goal.returns-in-Ok-Run-clause-did
returns-in-Ok-Run-clause-did g c =
    let s = state_of c.args.self.now in
    let route = c.args.route.now in
    let i = g.K.Keeper.images c.args.keeper.now in
    let j = g.K.Keeper.images c.run.new.keeper in
    let p = telling (g.R.Runner.runs c.args.runner.now) (g.R.Runner.faults c.args.runner.now) in
    let q = telling (g.R.Runner.runs c.run.new.runner) (g.R.Runner.faults c.run.new.runner) in
    let t = g.L.Link.tells c.args.link.now in
    let line : Result Line LineError = Ok (Run c.in-Ok-Run.words) in
    let is : c.args.line ≡ line = c.in-Ok-Run.is ∙ ap Ok c.in-Ok-Run.field-0-is in
    let same = as_told c.run.result c.map-in-Ok-Run.result c.map-in-Ok-Run.ensures.cases in
    let records = KeepsLogged route.image c.args.self.now.client c.run.new.self.client i j in
    noting_line route c.args.self.now c.run.new.self c.args.line (subst IsNoSync (sym is) tt) i j c.map-in-Ok-Run.result (beside t p) (beside t q)
    (subst (λ (l : Result Line LineError). WentDoing route (LineEnds route s l c.map-in-Ok-Run.result (state_of c.run.new.self)) s (state_of c.run.new.self) i j (beside t p) (beside t q)) (sym is)
    (subst (λ (r : Result (Option LineAnswer) LineStop). WentDoing route (LineEnds route s line r (state_of c.run.new.self)) s (state_of c.run.new.self) i j (beside t p) (beside t q)) (sym same)
    (run_went route c.in-Ok-Run.words s (state_of c.run.new.self) c.run.result i j p q c.run.ensures.runs t)))
    (unless_pulled c.args.line c.map-in-Ok-Run.result records (told_holds c.run.result c.map-in-Ok-Run.result records same c.run.ensures.records))

pub returns-in-Ok-Run-clause-cause : goal.returns-in-Ok-Run-clause-cause
returns-in-Ok-Run-clause-cause g c =
    let s = state_of c.args.self.now in
    let route = c.args.route.now in
    let i = g.K.Keeper.images c.args.keeper.now in
    let j = g.K.Keeper.images c.run.new.keeper in
    let p = telling (g.R.Runner.runs c.args.runner.now) (g.R.Runner.faults c.args.runner.now) in
    let q = telling (g.R.Runner.runs c.run.new.runner) (g.R.Runner.faults c.run.new.runner) in
    let t = g.L.Link.tells c.args.link.now in
    let line : Result Line LineError = Ok (Run c.in-Ok-Run.words) in
    let is : c.args.line ≡ line = c.in-Ok-Run.is ∙ ap Ok c.in-Ok-Run.field-0-is in
    let same = as_told c.run.result c.map-in-Ok-Run.result c.map-in-Ok-Run.ensures.cases in
    subst (λ (l : Result Line LineError). HasLineCause route s l c.map-in-Ok-Run.result (state_of c.run.new.self) (beside t p) (beside t q) (g.K.Keeper.faults c.args.keeper.now) (g.K.Keeper.faults c.run.new.keeper)) (sym is)
    (subst (λ (r : Result (Option LineAnswer) LineStop). HasLineCause route s line r (state_of c.run.new.self) (beside t p) (beside t q) (g.K.Keeper.faults c.args.keeper.now) (g.K.Keeper.faults c.run.new.keeper)) (sym same)
    (run_caused route c.in-Ok-Run.words s (state_of c.run.new.self) c.run.result i j p q c.run.ensures.runs t))

pub returns-in-Ok-Run-clause-kept : goal.returns-in-Ok-Run-clause-kept
returns-in-Ok-Run-clause-kept g c =
    told_holds c.run.result c.map-in-Ok-Run.result (IsKeptReady (g.K.Keeper.images c.run.new.keeper) c.args.route.now.image c.run.new.self.client) (as_told c.run.result c.map-in-Ok-Run.result c.map-in-Ok-Run.ensures.cases) c.run.ensures.kept

pub returns-in-Ok-Run-clause-keeper : goal.returns-in-Ok-Run-clause-keeper
returns-in-Ok-Run-clause-keeper g c =
    told_counts (g.K.Keeper.faults c.args.keeper.now) (g.K.Keeper.faults c.run.new.keeper) c.run.result c.map-in-Ok-Run.result (as_told c.run.result c.map-in-Ok-Run.result c.map-in-Ok-Run.ensures.cases) c.run.ensures.keeper

pub returns-in-Ok-Run-clause-runner : goal.returns-in-Ok-Run-clause-runner
returns-in-Ok-Run-clause-runner g c = λ no. absurd (cc (sym (ap asks_to_run (c.in-Ok-Run.is ∙ ap Ok c.in-Ok-Run.field-0-is)) ∙ no))

pub returns-in-Ok-Sync-clause-did : goal.returns-in-Ok-Sync-clause-did
returns-in-Ok-Sync-clause-did g c =
    let s = state_of c.args.self.now in
    let route = c.args.route.now in
    let i = g.K.Keeper.images c.args.keeper.now in
    let j = g.K.Keeper.images c.sync.new.keeper in
    let ran = telling (g.R.Runner.runs c.args.runner.now) (g.R.Runner.faults c.args.runner.now) in
    let t = beside (g.L.Link.tells c.args.link.now) ran in
    let u = beside (g.L.Link.tells c.sync.new.link) ran in
    let line : Result Line LineError = Ok Sync in
    let is : c.args.line ≡ line = c.in-Ok-Sync.is ∙ ap Ok c.in-Ok-Sync.field-0-is in
    let same = as_told c.sync.result c.map-in-Ok-Sync.result c.map-in-Ok-Sync.ensures.cases in
    subst (λ (l : Result Line LineError). WentDoing route (LineNoting route c.args.self.now l c.map-in-Ok-Sync.result c.sync.new.self i j) s (state_of c.sync.new.self) i j t u) (sym is)
    (subst (λ (r : Result (Option LineAnswer) LineStop). WentDoing route (LineNoting route c.args.self.now line r c.sync.new.self i j) s (state_of c.sync.new.self) i j t u) (sym same) (c.sync.ensures.did ran))

pub returns-in-Ok-Sync-clause-cause : goal.returns-in-Ok-Sync-clause-cause
returns-in-Ok-Sync-clause-cause g c =
    let s = state_of c.args.self.now in
    let route = c.args.route.now in
    let i = g.K.Keeper.images c.args.keeper.now in
    let j = g.K.Keeper.images c.sync.new.keeper in
    let ran = telling (g.R.Runner.runs c.args.runner.now) (g.R.Runner.faults c.args.runner.now) in
    let t = beside (g.L.Link.tells c.args.link.now) ran in
    let u = beside (g.L.Link.tells c.sync.new.link) ran in
    let line : Result Line LineError = Ok Sync in
    let is : c.args.line ≡ line = c.in-Ok-Sync.is ∙ ap Ok c.in-Ok-Sync.field-0-is in
    let same = as_told c.sync.result c.map-in-Ok-Sync.result c.map-in-Ok-Sync.ensures.cases in
    let p = g.K.Keeper.faults c.args.keeper.now in
    let q = g.K.Keeper.faults c.sync.new.keeper in
    subst (λ (l : Result Line LineError). HasLineCause route s l c.map-in-Ok-Sync.result (state_of c.sync.new.self) t u p q) (sym is)
    (subst (λ (r : Result (Option LineAnswer) LineStop). HasLineCause route s line r (state_of c.sync.new.self) t u p q) (sym same) (c.sync.ensures.cause ran))

pub returns-in-Ok-Sync-clause-kept : goal.returns-in-Ok-Sync-clause-kept
returns-in-Ok-Sync-clause-kept g c =
    told_holds c.sync.result c.map-in-Ok-Sync.result (IsKeptReady (g.K.Keeper.images c.sync.new.keeper) c.args.route.now.image c.sync.new.self.client) (as_told c.sync.result c.map-in-Ok-Sync.result c.map-in-Ok-Sync.ensures.cases) c.sync.ensures.kept

pub returns-in-Ok-Sync-clause-keeper : goal.returns-in-Ok-Sync-clause-keeper
returns-in-Ok-Sync-clause-keeper g c =
    told_counts (g.K.Keeper.faults c.args.keeper.now) (g.K.Keeper.faults c.sync.new.keeper) c.sync.result c.map-in-Ok-Sync.result (as_told c.sync.result c.map-in-Ok-Sync.result c.map-in-Ok-Sync.ensures.cases) c.sync.ensures.keeper

pub returns-in-Ok-Pull-clause-did : goal.returns-in-Ok-Pull-clause-did
returns-in-Ok-Pull-clause-did g c =
    let s = state_of c.args.self.now in
    let route = c.args.route.now in
    let i = g.K.Keeper.images c.args.keeper.now in
    let j = g.K.Keeper.images c.pull.new.keeper in
    let ran = telling (g.R.Runner.runs c.args.runner.now) (g.R.Runner.faults c.args.runner.now) in
    let t = beside (g.L.Link.tells c.args.link.now) ran in
    let u = beside (g.L.Link.tells c.pull.new.link) ran in
    let line : Result Line LineError = Ok Pull in
    let is : c.args.line ≡ line = c.in-Ok-Pull.is ∙ ap Ok c.in-Ok-Pull.field-0-is in
    let same = as_told c.pull.result c.map-in-Ok-Pull.result c.map-in-Ok-Pull.ensures.cases in
    let records = KeepsLogged route.image c.args.self.now.client c.pull.new.self.client i j in
    noting_line route c.args.self.now c.pull.new.self c.args.line (subst IsNoSync (sym is) tt) i j c.map-in-Ok-Pull.result t u
    (subst (λ (l : Result Line LineError). WentDoing route (LineEnds route s l c.map-in-Ok-Pull.result (state_of c.pull.new.self)) s (state_of c.pull.new.self) i j t u) (sym is)
    (subst (λ (r : Result (Option LineAnswer) LineStop). WentDoing route (LineEnds route s line r (state_of c.pull.new.self)) s (state_of c.pull.new.self) i j t u) (sym same) (c.pull.ensures.did ran)))
    (subst (λ (l : Result Line LineError). IfOk c.map-in-Ok-Pull.result (λ answer. has_pulled l answer ≡ false → records)) (sym is) (pull_told_records c.pull.result c.map-in-Ok-Pull.result records same c.pull.ensures.records))

pub returns-in-Ok-Pull-clause-cause : goal.returns-in-Ok-Pull-clause-cause
returns-in-Ok-Pull-clause-cause g c =
    let s = state_of c.args.self.now in
    let route = c.args.route.now in
    let i = g.K.Keeper.images c.args.keeper.now in
    let j = g.K.Keeper.images c.pull.new.keeper in
    let ran = telling (g.R.Runner.runs c.args.runner.now) (g.R.Runner.faults c.args.runner.now) in
    let t = beside (g.L.Link.tells c.args.link.now) ran in
    let u = beside (g.L.Link.tells c.pull.new.link) ran in
    let line : Result Line LineError = Ok Pull in
    let is : c.args.line ≡ line = c.in-Ok-Pull.is ∙ ap Ok c.in-Ok-Pull.field-0-is in
    let same = as_told c.pull.result c.map-in-Ok-Pull.result c.map-in-Ok-Pull.ensures.cases in
    let p = g.K.Keeper.faults c.args.keeper.now in
    let q = g.K.Keeper.faults c.pull.new.keeper in
    subst (λ (l : Result Line LineError). HasLineCause route s l c.map-in-Ok-Pull.result (state_of c.pull.new.self) t u p q) (sym is)
    (subst (λ (r : Result (Option LineAnswer) LineStop). HasLineCause route s line r (state_of c.pull.new.self) t u p q) (sym same) (c.pull.ensures.cause ran))

pub returns-in-Ok-Pull-clause-kept : goal.returns-in-Ok-Pull-clause-kept
returns-in-Ok-Pull-clause-kept g c =
    told_holds c.pull.result c.map-in-Ok-Pull.result (IsKeptReady (g.K.Keeper.images c.pull.new.keeper) c.args.route.now.image c.pull.new.self.client) (as_told c.pull.result c.map-in-Ok-Pull.result c.map-in-Ok-Pull.ensures.cases) c.pull.ensures.kept

pub returns-in-Ok-Pull-clause-keeper : goal.returns-in-Ok-Pull-clause-keeper
returns-in-Ok-Pull-clause-keeper g c =
    told_counts (g.K.Keeper.faults c.args.keeper.now) (g.K.Keeper.faults c.pull.new.keeper) c.pull.result c.map-in-Ok-Pull.result (as_told c.pull.result c.map-in-Ok-Pull.result c.map-in-Ok-Pull.ensures.cases) c.pull.ensures.keeper

-- ---- lines that keep nothing

pub returns-in_ok-cat-in-Ok-Cat-clause-did : goal.returns-in_ok-cat-in-Ok-Cat-clause-did
returns-in_ok-cat-in-Ok-Cat-clause-did g c =
    let s = state_of c.args.self.now in
    let route = c.args.route.now in
    let i = g.K.Keeper.images c.args.keeper.now in
    let t = beside (g.L.Link.tells c.args.link.now) (telling (g.R.Runner.runs c.args.runner.now) (g.R.Runner.faults c.args.runner.now)) in
    let line : Result Line LineError = Ok (Cat c.in-Ok-Cat.path) in
    let is : c.args.line ≡ line = c.in-Ok-Cat.is ∙ ap Ok c.in-Ok-Cat.field-0-is in
    let answer = c.in_ok-cat-in-Ok-Cat.field-0 in
    noting_line route c.args.self.now c.args.self.now c.args.line (subst IsNoSync (sym is) tt) i i (Ok (Some answer)) t t
    (line_world route i s c.args.line line (Ok (Some answer)) s i t is (told_quietly route.image i s c.requires.0 line (Some (cat_answer (tree_of s.client.log) s.folder c.in-Ok-Cat.path)) (Ok (Some answer)) (λ r. (refl, refl, refl)) (ap Some c.in_ok-cat-in-Ok-Cat.ensures)))
    (unless_pulled c.args.line (Ok (Some answer)) (KeepsLogged route.image c.args.self.now.client c.args.self.now.client i i) (keeps_same route.image c.args.self.now.client i))

pub returns-in_err-cat-in-Ok-Cat-clause-did : goal.returns-in_err-cat-in-Ok-Cat-clause-did
returns-in_err-cat-in-Ok-Cat-clause-did g c =
    let s = state_of c.args.self.now in
    let route = c.args.route.now in
    let i = g.K.Keeper.images c.args.keeper.now in
    let t = beside (g.L.Link.tells c.args.link.now) (telling (g.R.Runner.runs c.args.runner.now) (g.R.Runner.faults c.args.runner.now)) in
    let line : Result Line LineError = Ok (Cat c.in-Ok-Cat.path) in
    let is : c.args.line ≡ line = c.in-Ok-Cat.is ∙ ap Ok c.in-Ok-Cat.field-0-is in
    let p = err_from_is_err_and c.from_residual.result c.from_residual.ensures.1 in
    rw (p.1, p.2) (noting_line route c.args.self.now c.args.self.now c.args.line (subst IsNoSync (sym is) tt) i i (Err stops.Memory) t t
    (line_world route i s c.args.line line (Err stops.Memory) s i t is (breaks_quietly route.image i s c.requires.0 line stops.Memory)) tt)

pub returns-in_err-cat-in-Ok-Cat-clause-cause : goal.returns-in_err-cat-in-Ok-Cat-clause-cause
returns-in_err-cat-in-Ok-Cat-clause-cause g c =
    let s = state_of c.args.self.now in
    let route = c.args.route.now in
    let i = g.K.Keeper.images c.args.keeper.now in
    let t = beside (g.L.Link.tells c.args.link.now) (telling (g.R.Runner.runs c.args.runner.now) (g.R.Runner.faults c.args.runner.now)) in
    let line : Result Line LineError = Ok (Cat c.in-Ok-Cat.path) in
    let is : c.args.line ≡ line = c.in-Ok-Cat.is ∙ ap Ok c.in-Ok-Cat.field-0-is in
    let p = err_from_is_err_and c.from_residual.result c.from_residual.ensures.1 in
    rw (p.1, p.2) (subst (λ (l : Result Line LineError). HasLineCause route s l (Err stops.Memory) s t t (g.K.Keeper.faults c.args.keeper.now) (g.K.Keeper.faults c.args.keeper.now)) (sym is)
    (quietly_caused route i s line (Err stops.Memory) s i (breaks_quietly route.image i s c.requires.0 line stops.Memory) t))

pub returns-in_ok-list-in-Ok-List-clause-did : goal.returns-in_ok-list-in-Ok-List-clause-did
returns-in_ok-list-in-Ok-List-clause-did g c =
    let s = state_of c.args.self.now in
    let route = c.args.route.now in
    let i = g.K.Keeper.images c.args.keeper.now in
    let t = beside (g.L.Link.tells c.args.link.now) (telling (g.R.Runner.runs c.args.runner.now) (g.R.Runner.faults c.args.runner.now)) in
    let line : Result Line LineError = Ok (Ls c.in-Ok-List.path) in
    let is : c.args.line ≡ line = c.in-Ok-List.is ∙ ap Ok c.in-Ok-List.field-0-is in
    let answer = c.in_ok-list-in-Ok-List.field-0 in
    noting_line route c.args.self.now c.args.self.now c.args.line (subst IsNoSync (sym is) tt) i i (Ok (Some answer)) t t
    (line_world route i s c.args.line line (Ok (Some answer)) s i t is (told_quietly route.image i s c.requires.0 line (Some (list_answer (tree_of s.client.log) s.folder c.in-Ok-List.path)) (Ok (Some answer)) (λ r. (refl, refl, refl)) (ap Some (subst (λ (word : Option (List ℕ)). answer ≡ list_answer (tree_of s.client.log) s.folder word) c.as_ref.ensures.value c.in_ok-list-in-Ok-List.ensures))))
    (unless_pulled c.args.line (Ok (Some answer)) (KeepsLogged route.image c.args.self.now.client c.args.self.now.client i i) (keeps_same route.image c.args.self.now.client i))

pub returns-in_err-list-in-Ok-List-clause-did : goal.returns-in_err-list-in-Ok-List-clause-did
returns-in_err-list-in-Ok-List-clause-did g c =
    let s = state_of c.args.self.now in
    let route = c.args.route.now in
    let i = g.K.Keeper.images c.args.keeper.now in
    let t = beside (g.L.Link.tells c.args.link.now) (telling (g.R.Runner.runs c.args.runner.now) (g.R.Runner.faults c.args.runner.now)) in
    let line : Result Line LineError = Ok (Ls c.in-Ok-List.path) in
    let is : c.args.line ≡ line = c.in-Ok-List.is ∙ ap Ok c.in-Ok-List.field-0-is in
    let p = err_from_is_err_and c.from_residual-in_err-list-in-Ok-List.result c.from_residual-in_err-list-in-Ok-List.ensures.1 in
    rw (p.1, p.2) (noting_line route c.args.self.now c.args.self.now c.args.line (subst IsNoSync (sym is) tt) i i (Err stops.Memory) t t
    (line_world route i s c.args.line line (Err stops.Memory) s i t is (breaks_quietly route.image i s c.requires.0 line stops.Memory)) tt)

pub returns-in_err-list-in-Ok-List-clause-cause : goal.returns-in_err-list-in-Ok-List-clause-cause
returns-in_err-list-in-Ok-List-clause-cause g c =
    let s = state_of c.args.self.now in
    let route = c.args.route.now in
    let i = g.K.Keeper.images c.args.keeper.now in
    let t = beside (g.L.Link.tells c.args.link.now) (telling (g.R.Runner.runs c.args.runner.now) (g.R.Runner.faults c.args.runner.now)) in
    let line : Result Line LineError = Ok (Ls c.in-Ok-List.path) in
    let is : c.args.line ≡ line = c.in-Ok-List.is ∙ ap Ok c.in-Ok-List.field-0-is in
    let p = err_from_is_err_and c.from_residual-in_err-list-in-Ok-List.result c.from_residual-in_err-list-in-Ok-List.ensures.1 in
    rw (p.1, p.2) (subst (λ (l : Result Line LineError). HasLineCause route s l (Err stops.Memory) s t t (g.K.Keeper.faults c.args.keeper.now) (g.K.Keeper.faults c.args.keeper.now)) (sym is)
    (quietly_caused route i s line (Err stops.Memory) s i (breaks_quietly route.image i s c.requires.0 line stops.Memory) t))

pub returns-in_ok-enter-in-Ok-Enter-clause-did : goal.returns-in_ok-enter-in-Ok-Enter-clause-did
returns-in_ok-enter-in-Ok-Enter-clause-did g c =
    let s = state_of c.args.self.now in
    let route = c.args.route.now in
    let i = g.K.Keeper.images c.args.keeper.now in
    let t = beside (g.L.Link.tells c.args.link.now) (telling (g.R.Runner.runs c.args.runner.now) (g.R.Runner.faults c.args.runner.now)) in
    let line : Result Line LineError = Ok (Enter c.in-Ok-Enter.path) in
    let is : c.args.line ≡ line = c.in-Ok-Enter.is ∙ ap Ok c.in-Ok-Enter.field-0-is in
    let answer = c.in_ok-enter-in-Ok-Enter.field-0 in
    noting_line route c.args.self.now c.enter.new.self c.args.line (subst IsNoSync (sym is) tt) i i (Ok (Some answer)) t t
    (line_world route i s c.args.line line (Ok (Some answer)) (state_of c.enter.new.self) i t is (enter_quietly route.image i s c.requires.0 (state_of c.enter.new.self) c.in-Ok-Enter.path (Ok (Some answer)) (ap Some c.in_ok-enter-in-Ok-Enter.ensures.ok) c.in_ok-enter-in-Ok-Enter.ensures.folder tt))
    (unless_pulled c.args.line (Ok (Some answer)) (KeepsLogged route.image c.args.self.now.client c.enter.new.self.client i i) (subst (λ (after : Client). KeepsLogged route.image c.args.self.now.client after i i) (sym c.enter.ensures.client) (keeps_same route.image c.args.self.now.client i)))

pub returns-in_err-enter-in-Ok-Enter-clause-did : goal.returns-in_err-enter-in-Ok-Enter-clause-did
returns-in_err-enter-in-Ok-Enter-clause-did g c =
    let s = state_of c.args.self.now in
    let route = c.args.route.now in
    let i = g.K.Keeper.images c.args.keeper.now in
    let t = beside (g.L.Link.tells c.args.link.now) (telling (g.R.Runner.runs c.args.runner.now) (g.R.Runner.faults c.args.runner.now)) in
    let line : Result Line LineError = Ok (Enter c.in-Ok-Enter.path) in
    let is : c.args.line ≡ line = c.in-Ok-Enter.is ∙ ap Ok c.in-Ok-Enter.field-0-is in
    let p = err_from_is_err_and c.from_residual-in_err-enter-in-Ok-Enter.result c.from_residual-in_err-enter-in-Ok-Enter.ensures.1 in
    rw (p.1, p.2) (noting_line route c.args.self.now c.enter.new.self c.args.line (subst IsNoSync (sym is) tt) i i (Err stops.Memory) t t
    (line_world route i s c.args.line line (Err stops.Memory) (state_of c.enter.new.self) i t is (enter_quietly route.image i s c.requires.0 (state_of c.enter.new.self) c.in-Ok-Enter.path (Err stops.Memory) tt tt (ap state_of c.in_err-enter-in-Ok-Enter.ensures.err))) tt)

pub returns-in_err-enter-in-Ok-Enter-clause-cause : goal.returns-in_err-enter-in-Ok-Enter-clause-cause
returns-in_err-enter-in-Ok-Enter-clause-cause g c =
    let s = state_of c.args.self.now in
    let route = c.args.route.now in
    let i = g.K.Keeper.images c.args.keeper.now in
    let t = beside (g.L.Link.tells c.args.link.now) (telling (g.R.Runner.runs c.args.runner.now) (g.R.Runner.faults c.args.runner.now)) in
    let line : Result Line LineError = Ok (Enter c.in-Ok-Enter.path) in
    let is : c.args.line ≡ line = c.in-Ok-Enter.is ∙ ap Ok c.in-Ok-Enter.field-0-is in
    let p = err_from_is_err_and c.from_residual-in_err-enter-in-Ok-Enter.result c.from_residual-in_err-enter-in-Ok-Enter.ensures.1 in
    rw (p.1, p.2) (subst (λ (l : Result Line LineError). HasLineCause route s l (Err stops.Memory) (state_of c.enter.new.self) t t (g.K.Keeper.faults c.args.keeper.now) (g.K.Keeper.faults c.args.keeper.now)) (sym is)
    (quietly_caused route i s line (Err stops.Memory) (state_of c.enter.new.self) i (enter_quietly route.image i s c.requires.0 (state_of c.enter.new.self) c.in-Ok-Enter.path (Err stops.Memory) tt tt (ap state_of c.in_err-enter-in-Ok-Enter.ensures.err)) t))
