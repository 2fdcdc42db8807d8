use Rattle.std.proofs.Common.{◌≡◌, ℕ, List, true, false, Ok, Err, refl, sym, ◌∙◌, ap, subst}
use Rattle.outside.specs.Outside.{Told, CountsFault}
use Rattle.outside.specs.declared.errors.KeepError.{KeepError}
use Rattle.client_core.specs.Client.{Client}
use Rattle.cmd_capture.specs.Runs.{telling}
use Rattle.client_core.specs.Running.{RunsCommand, has_logged}
use Rattle.client_core.specs.Keeping.{IsKept, IsReady, IsKeptReady, KeepsNext}
use Rattle.client_core.specs.Journal.{next_notes}
use Rattle.client_core.proofs.Journal.{KeepsLog, next_keeps}
use Rattle.client_core.specs.Noting.{KeepsLogged}
use Rattle.client_core.proofs.Noting.{keeps_same, keeps_logged}
use Rattle.client_core.proofs.Runs.{ran_one, ran_logged}
use Rattle.client_session.specs.Session.{SessionState, Sitting, state_of, run_answer}
use Rattle.client_session.specs.declared.stop.LineStop.{LineStop}
use Rattle.client_session.specs.declared.stop.LineStop.TheVariants as stops
use Rattle.client_session.specs.Inside.{RunsMade}
use Rattle.client_session.proofs.Turning.{kept_ok, kept_still, seen_same, uncounted, or_memory_unfaulty, stop_counts, kept_counts}
use Rattle.client_session.proofs.Commanding.{run_given, run_kept, run_unkept, whatever}
use Rattle.client_session.proofs.session.Session.run_command.Goals as goal

pub returns-then-not-has_logged-clause-runs : goal.returns-then-not-has_logged-clause-runs
returns-then-not-has_logged-clause-runs g c =
    let route = c.args.route.now in
    let command = c.args.command in
    let i = g.K.Keeper.images c.args.keeper.now in
    let p = telling (g.R.Runner.runs c.args.runner.now) (g.R.Runner.faults c.args.runner.now) in
    let q = telling (g.R.Runner.runs c.run_command-end.new.runner) (g.R.Runner.faults c.run_command-end.new.runner) in
    let before : SessionState = state_of (record { client = c.self.inside.client; folder = c.self.inside.folder }) in
    let after : SessionState = state_of (record { client = c.run_command-end.new.self; folder = c.self.inside.folder }) in
    let end = c.run_command-end.result in
    let keeps : IsKept i route.image before.client.number before.client.log = subst (λ (s : Sitting). IsKept i route.image s.client.number s.client.log) (sym c.self.view_is) c.requires.kept.0 in
    let did : RunsCommand route.work command before.client.log end after.client.log p q = subst (λ (work : List ℕ). RunsCommand work command before.client.log end after.client.log p q) c.bytes.ensures.value c.run_command-end.ensures.turn in
    let none : has_logged end ≡ false = sym c.has_logged.ensures ∙ c.if-not-has_logged.true in
    subst (λ (s : Sitting). RunsMade route command (state_of s) c.run_answer.result after i i p q) c.self.view_is
    (run_given route command before after c.run_command-end.ensures.number refl end i p q keeps did c.run_command-end.ensures.log c.run_answer.result c.run_answer.ensures
    (ap (λ (client : Client). client.log) (c.run_command-end.ensures.unchanged none)))

pub returns-in-Err-clause-runs : goal.returns-in-Err-clause-runs
returns-in-Err-clause-runs g c =
    let route = c.args.route.now in
    let command = c.args.command in
    let i = g.K.Keeper.images c.args.keeper.now in
    let j = g.K.Keeper.images c.keep.new.keeper in
    let p = telling (g.R.Runner.runs c.args.runner.now) (g.R.Runner.faults c.args.runner.now) in
    let q = telling (g.R.Runner.runs c.run_command-end.new.runner) (g.R.Runner.faults c.run_command-end.new.runner) in
    let before : SessionState = state_of (record { client = c.self.inside.client; folder = c.self.inside.folder }) in
    let after : SessionState = state_of (record { client = c.run_command-end.new.self; folder = c.self.inside.folder }) in
    let end = c.run_command-end.result in
    let refused = c.in-Err.refused in
    let stop = c.from.result in
    let keeps : IsKept i route.image before.client.number before.client.log = subst (λ (s : Sitting). IsKept i route.image s.client.number s.client.log) (sym c.self.view_is) c.requires.kept.0 in
    let did : RunsCommand route.work command before.client.log end after.client.log p q = subst (λ (work : List ℕ). RunsCommand work command before.client.log end after.client.log p q) c.bytes.ensures.value c.run_command-end.ensures.turn in
    let some : has_logged end ≡ true = sym c.has_logged.ensures ∙ c.if-not-has_logged.false in
    let kept : IsKeptReady i route.image c.self.inside.client = subst (λ (s : Sitting). IsKeptReady i route.image s.client) (sym c.self.view_is) c.requires.kept in
    let one = ran_one command before.client.log after.client.log route.work end p q did route.image before.client.number c.self.inside.client.journal c.run_command-end.new.self.journal c.run_command-end.ensures.journal i kept in
    let save : Told i j (KeepsLog {E = KeepError} route.image before.client.number after.client.log (Err refused)) =
    subst (λ (n : ℕ). Told i j (KeepsLog {E = KeepError} route.image n after.client.log (Err refused))) c.run_command-end.ensures.number
    (next_keeps {E = KeepError} route.image after.client.number after.client.log (next_notes c.run_command-end.new.self.journal false after.client.log) (Err refused) i j one
    (subst (λ (name : List ℕ). Told i j (KeepsNext {E = KeepError} name after.client.number after.client.log (next_notes c.run_command-end.new.self.journal false after.client.log) (Err refused))) c.bytes-2.ensures.value c.in-Err.ensures.kept)) in
    subst (λ (now : SessionState). RunsMade route command (state_of c.args.self.now) (Err stop) now i j p q) (seen_same c.run_command-end.new.self c.keep.new.self c.self.inside.folder c.keep.ensures.number c.keep.ensures.log)
    (subst (λ (s : Sitting). RunsMade route command (state_of s) (Err stop) after i j p q) c.self.view_is
    (run_unkept route command before after c.run_command-end.ensures.number refl end i p q keeps did c.run_command-end.ensures.log some j refused stop save))

pub returns-clause-runs : goal.returns-clause-runs
returns-clause-runs g c =
    let route = c.args.route.now in
    let command = c.args.command in
    let i = g.K.Keeper.images c.args.keeper.now in
    let j = g.K.Keeper.images c.keep.new.keeper in
    let p = telling (g.R.Runner.runs c.args.runner.now) (g.R.Runner.faults c.args.runner.now) in
    let q = telling (g.R.Runner.runs c.run_command-end.new.runner) (g.R.Runner.faults c.run_command-end.new.runner) in
    let before : SessionState = state_of (record { client = c.self.inside.client; folder = c.self.inside.folder }) in
    let after : SessionState = state_of (record { client = c.run_command-end.new.self; folder = c.self.inside.folder }) in
    let end = c.run_command-end.result in
    let done = c.in_default.field-0 in
    let keeps : IsKept i route.image before.client.number before.client.log = subst (λ (s : Sitting). IsKept i route.image s.client.number s.client.log) (sym c.self.view_is) c.requires.kept.0 in
    let did : RunsCommand route.work command before.client.log end after.client.log p q = subst (λ (work : List ℕ). RunsCommand work command before.client.log end after.client.log p q) c.bytes.ensures.value c.run_command-end.ensures.turn in
    let some : has_logged end ≡ true = sym c.has_logged.ensures ∙ c.if-not-has_logged.false in
    let kept : IsKeptReady i route.image c.self.inside.client = subst (λ (s : Sitting). IsKeptReady i route.image s.client) (sym c.self.view_is) c.requires.kept in
    let one = ran_one command before.client.log after.client.log route.work end p q did route.image before.client.number c.self.inside.client.journal c.run_command-end.new.self.journal c.run_command-end.ensures.journal i kept in
    let save : Told i j (KeepsLog {E = KeepError} route.image before.client.number after.client.log (Ok done)) =
    subst (λ (n : ℕ). Told i j (KeepsLog {E = KeepError} route.image n after.client.log (Ok done))) c.run_command-end.ensures.number
    (next_keeps {E = KeepError} route.image after.client.number after.client.log (next_notes c.run_command-end.new.self.journal false after.client.log) (Ok done) i j one
    (subst (λ (name : List ℕ). Told i j (KeepsNext {E = KeepError} name after.client.number after.client.log (next_notes c.run_command-end.new.self.journal false after.client.log) (Ok done))) c.bytes-2.ensures.value c.in_default.ensures.kept)) in
    subst (λ (now : SessionState). RunsMade route command (state_of c.args.self.now) c.run_answer-2.result now i j p q) (seen_same c.run_command-end.new.self c.keep.new.self c.self.inside.folder c.keep.ensures.number c.keep.ensures.log)
    (subst (λ (s : Sitting). RunsMade route command (state_of s) c.run_answer-2.result after i j p q) c.self.view_is
    (run_kept route command before after c.run_command-end.ensures.number refl end i p q keeps did c.run_command-end.ensures.log some j done c.run_answer-2.result c.run_answer-2.ensures save))

pub returns-clause-kept : goal.returns-clause-kept
returns-clause-kept g c =
    let route = c.args.route.now in
    let i = g.K.Keeper.images c.args.keeper.now in
    let j = g.K.Keeper.images c.keep.new.keeper in
    let p = telling (g.R.Runner.runs c.args.runner.now) (g.R.Runner.faults c.args.runner.now) in
    let q = telling (g.R.Runner.runs c.run_command-end.new.runner) (g.R.Runner.faults c.run_command-end.new.runner) in
    let before = c.self.inside.client in
    let after = c.run_command-end.new.self in
    let end = c.run_command-end.result in
    let done = c.in_default.field-0 in
    let did : RunsCommand route.work c.args.command before.log end after.log p q = subst (λ (work : List ℕ). RunsCommand work c.args.command before.log end after.log p q) c.bytes.ensures.value c.run_command-end.ensures.turn in
    let kept : IsKeptReady i route.image before = subst (λ (s : Sitting). IsKeptReady i route.image s.client) (sym c.self.view_is) c.requires.kept in
    let one = ran_one c.args.command before.log after.log route.work end p q did route.image before.number before.journal after.journal c.run_command-end.ensures.journal i kept in
    let told : Told i j (KeepsNext {E = KeepError} route.image after.number after.log (next_notes after.journal false after.log) (Ok done)) =
    subst (λ (name : List ℕ). Told i j (KeepsNext {E = KeepError} name after.number after.log (next_notes after.journal false after.log) (Ok done))) c.bytes-2.ensures.value c.in_default.ensures.kept in
    let save = next_keeps {E = KeepError} route.image after.number after.log (next_notes after.journal false after.log) (Ok done) i j one told in
    whatever c.run_answer-2.result (IsKeptReady j route.image c.keep.new.self)
    (kept_still route.image after c.keep.new.self j c.keep.ensures.number c.keep.ensures.log (kept_ok route.image after.number after.log i j done save)
    (subst (λ (name : List ℕ). IsReady j name c.keep.new.self) c.bytes-2.ensures.value c.keep.ensures.ready))

pub keep-requires : goal.keep-requires
keep-requires g c =
    let route = c.args.route.now in
    let i = g.K.Keeper.images c.args.keeper.now in
    let kept : IsKeptReady i route.image c.self.inside.client = subst (λ (s : Sitting). IsKeptReady i route.image s.client) (sym c.self.view_is) c.requires.kept in
    subst (λ (name : List ℕ). IsReady i name c.run_command-end.new.self) (sym c.bytes-2.ensures.value) (c.run_command-end.ensures.ready i route.image kept.1)

pub returns-then-not-has_logged-clause-kept : goal.returns-then-not-has_logged-clause-kept
returns-then-not-has_logged-clause-kept g c =
    let route = c.args.route.now in
    let i = g.K.Keeper.images c.args.keeper.now in
    let end = c.run_command-end.result in
    let none : has_logged end ≡ false = sym c.has_logged.ensures ∙ c.if-not-has_logged.true in
    whatever c.run_answer.result (IsKeptReady i route.image c.run_command-end.new.self)
    (subst (IsKeptReady i route.image) (sym (c.run_command-end.ensures.unchanged none)) (subst (λ (s : Sitting). IsKeptReady i route.image s.client) (sym c.self.view_is) c.requires.kept))

-- ---- what is kept record by record

pub returns-then-not-has_logged-clause-records : goal.returns-then-not-has_logged-clause-records
returns-then-not-has_logged-clause-records g c =
    let name = c.args.route.now.image in
    let i = g.K.Keeper.images c.args.keeper.now in
    let before = c.self.inside.client in
    let none : has_logged c.run_command-end.result ≡ false = sym c.has_logged.ensures ∙ c.if-not-has_logged.true in
    whatever c.run_answer.result (KeepsLogged name c.args.self.now.client c.run_command-end.new.self i i)
    (subst (λ (s : Sitting). KeepsLogged name s.client c.run_command-end.new.self i i) c.self.view_is
    (subst (λ (client : Client). KeepsLogged name before client i i) (sym (c.run_command-end.ensures.unchanged none)) (keeps_same name before i)))

pub returns-clause-records : goal.returns-clause-records
returns-clause-records g c =
    let route = c.args.route.now in
    let name = route.image in
    let i = g.K.Keeper.images c.args.keeper.now in
    let j = g.K.Keeper.images c.keep.new.keeper in
    let p = telling (g.R.Runner.runs c.args.runner.now) (g.R.Runner.faults c.args.runner.now) in
    let q = telling (g.R.Runner.runs c.run_command-end.new.runner) (g.R.Runner.faults c.run_command-end.new.runner) in
    let before = c.self.inside.client in
    let after = c.run_command-end.new.self in
    let end = c.run_command-end.result in
    let done = c.in_default.field-0 in
    let did : RunsCommand route.work c.args.command before.log end after.log p q = subst (λ (work : List ℕ). RunsCommand work c.args.command before.log end after.log p q) c.bytes.ensures.value c.run_command-end.ensures.turn in
    let some : has_logged end ≡ true = sym c.has_logged.ensures ∙ c.if-not-has_logged.false in
    let logged = ran_logged c.args.command before.log after.log route.work end p q did some in
    let kept : IsKeptReady i name before = subst (λ (s : Sitting). IsKeptReady i name s.client) (sym c.self.view_is) c.requires.kept in
    let told : Told i j (KeepsNext {E = KeepError} name after.number after.log (next_notes after.journal false after.log) (Ok done)) =
    subst (λ (n : List ℕ). Told i j (KeepsNext {E = KeepError} n after.number after.log (next_notes after.journal false after.log) (Ok done))) c.bytes-2.ensures.value c.in_default.ensures.kept in
    whatever c.run_answer-2.result (KeepsLogged name c.args.self.now.client c.keep.new.self i j)
    (subst (λ (s : Sitting). KeepsLogged name s.client c.keep.new.self i j) c.self.view_is
    (keeps_logged name before after c.keep.new.self done i j logged.0 c.run_command-end.ensures.number logged.1 c.run_command-end.ensures.journal c.keep.ensures.number c.keep.ensures.log c.in_default.ensures.journal kept told))

-- ---- the keeper's faults

pub returns-then-not-has_logged-clause-keeper : goal.returns-then-not-has_logged-clause-keeper
returns-then-not-has_logged-clause-keeper g c =
    let p = g.K.Keeper.faults c.args.keeper.now in
    uncounted c.run_answer.result p p refl (or_memory_unfaulty (run_answer c.run_command-end.result) c.run_answer.result c.run_answer.ensures)

pub returns-in-Err-clause-keeper : goal.returns-in-Err-clause-keeper
returns-in-Err-clause-keeper g c =
    let p = g.K.Keeper.faults c.args.keeper.now in
    let q = g.K.Keeper.faults c.keep.new.keeper in
    subst (λ (stop : LineStop). CountsFault stops.Keeper p q (Err stop)) (sym c.from.ensures) (stop_counts p q c.in-Err.refused c.in-Err.ensures.cause)

pub returns-clause-keeper : goal.returns-clause-keeper
returns-clause-keeper g c =
    let p = g.K.Keeper.faults c.args.keeper.now in
    let q = g.K.Keeper.faults c.keep.new.keeper in
    uncounted c.run_answer-2.result p q (kept_counts p q c.in_default.field-0 c.in_default.ensures.cause) (or_memory_unfaulty (run_answer c.run_command-end.result) c.run_answer-2.result c.run_answer-2.ensures)
