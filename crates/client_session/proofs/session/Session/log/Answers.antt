use Rattle.std.proofs.Common.{ℕ, false, [], ◌∷◌, None, Ok, Err, refl, sym, ap, subst}
use Rattle.outside.specs.Outside.{Told, CountsFault}
use Rattle.outside.specs.declared.errors.KeepError.{KeepError}
use Rattle.client_core.specs.Keeping.{IsKept, IsKeptReady}
use Rattle.client_core.specs.Journal.{next_notes}
use Rattle.client_core.proofs.Journal.{KeepsLog, next_keeps}
use Rattle.client_core.specs.Client.{Client}
use Rattle.client_core.specs.Noting.{KeepsLogged}
use Rattle.client_core.proofs.Locals.{appended-is, local_one}
use Rattle.client_core.proofs.Noting.{keeps_same, keeps_logged}
use Rattle.shell_lang.specs.declared.answer.LineAnswer.TheVariants.{Logged}
use Rattle.client_session.specs.Session.{SessionState, Sitting, seen, state_of, local_answer, word_answer}
use Rattle.client_session.specs.declared.stop.LineStop.{LineStop}
use Rattle.client_session.specs.declared.stop.LineStop.TheVariants as stops
use Rattle.client_session.specs.Inside.{LogsMade}
use Rattle.mod_log.specs.Append.{next_entry}
use Rattle.client_session.proofs.Commanding.{whatever}
use Rattle.client_session.proofs.Turning.{word_given, refusal_given, logged_kept, logged_unkept, kept_ok, kept_still, seen_same, uncounted, or_memory_unfaulty, stop_counts, kept_counts}
use Rattle.client_session.proofs.session.Session.log.Goals as goal

pub returns-in-Err-clause-logs : goal.returns-in-Err-clause-logs
returns-in-Err-clause-logs g c =
    word_given c.args.image.now (g.K.Keeper.images c.args.keeper.now) (state_of c.args.self.now) c.requires.0 c.args.made c.in-Err.refusal c.word_answer.result c.in-Err.is c.word_answer.ensures

pub returns-in-Err-local-clause-logs : goal.returns-in-Err-local-clause-logs
returns-in-Err-local-clause-logs g c =
    let name = c.args.image.now in
    let i = g.K.Keeper.images c.args.keeper.now in
    let before : SessionState = state_of (record { client = c.self.inside.client; folder = c.self.inside.folder }) in
    let after : SessionState = state_of (record { client = c.local.new.self; folder = c.self.inside.folder }) in
    let keeps : IsKept i name before.client.number before.client.log = subst (λ (s : Sitting). IsKept i name s.client.number s.client.log) (sym c.self.view_is) c.requires.0 in
    subst (λ (s : Sitting). LogsMade name c.args.made (state_of s) c.local_refusal.result after i i) c.self.view_is
    (refusal_given name i before keeps c.in-Ok.effect after c.local.ensures.number refl c.args.made c.in-Err-local.refusal c.local_refusal.result c.in-Ok.is c.local_refusal.ensures
    c.in-Err-local.ensures.err (ap seen c.in-Err-local.ensures.unchanged) c.local.ensures.log)

pub returns-in-Err-keep-clause-logs : goal.returns-in-Err-keep-clause-logs
returns-in-Err-keep-clause-logs g c =
    let name = c.args.image.now in
    let i = g.K.Keeper.images c.args.keeper.now in
    let j = g.K.Keeper.images c.keep.new.keeper in
    let before : SessionState = state_of (record { client = c.self.inside.client; folder = c.self.inside.folder }) in
    let after : SessionState = state_of (record { client = c.local.new.self; folder = c.self.inside.folder }) in
    let keeps : IsKept i name before.client.number before.client.log = subst (λ (s : Sitting). IsKept i name s.client.number s.client.log) (sym c.self.view_is) c.requires.0 in
    let refused = c.in-Err-keep.refused in
    let stop = c.from.result in
    let kept : IsKeptReady i name c.self.inside.client = subst (λ (s : Sitting). IsKeptReady i name s.client) (sym c.self.view_is) c.requires in
    let one = local_one (c.in-Ok.effect ∷ []) before.client.log after.client.log c.in-Ok-local.ensures.ok name before.client.number c.self.inside.client.journal c.local.new.self.journal c.local.ensures.journal i kept in
    let save : Told i j (KeepsLog {E = KeepError} name before.client.number after.client.log (Err refused)) =
    subst (λ (n : ℕ). Told i j (KeepsLog {E = KeepError} name n after.client.log (Err refused))) c.local.ensures.number
    (next_keeps {E = KeepError} name after.client.number after.client.log (next_notes c.local.new.self.journal false after.client.log) (Err refused) i j one c.in-Err-keep.ensures.kept) in
    subst (λ (now : SessionState). LogsMade name c.args.made (state_of c.args.self.now) (Err stop) now i j) (seen_same c.local.new.self c.keep.new.self c.self.inside.folder c.keep.ensures.number c.keep.ensures.log)
    (subst (λ (s : Sitting). LogsMade name c.args.made (state_of s) (Err stop) after i j) c.self.view_is
    (logged_unkept name i before keeps c.in-Ok.effect after c.local.ensures.number refl c.in-Ok-local.seq j c.in-Ok-local.ensures.ok c.in-Ok-local.ensures.seq c.local.ensures.log c.args.made refused stop c.in-Ok.is save))

pub returns-clause-logs : goal.returns-clause-logs
returns-clause-logs g c =
    let name = c.args.image.now in
    let i = g.K.Keeper.images c.args.keeper.now in
    let j = g.K.Keeper.images c.keep.new.keeper in
    let before : SessionState = state_of (record { client = c.self.inside.client; folder = c.self.inside.folder }) in
    let after : SessionState = state_of (record { client = c.local.new.self; folder = c.self.inside.folder }) in
    let keeps : IsKept i name before.client.number before.client.log = subst (λ (s : Sitting). IsKept i name s.client.number s.client.log) (sym c.self.view_is) c.requires.0 in
    let done = c.in_default.field-0 in
    let kept : IsKeptReady i name c.self.inside.client = subst (λ (s : Sitting). IsKeptReady i name s.client) (sym c.self.view_is) c.requires in
    let one = local_one (c.in-Ok.effect ∷ []) before.client.log after.client.log c.in-Ok-local.ensures.ok name before.client.number c.self.inside.client.journal c.local.new.self.journal c.local.ensures.journal i kept in
    let save : Told i j (KeepsLog {E = KeepError} name before.client.number after.client.log (Ok done)) =
    subst (λ (n : ℕ). Told i j (KeepsLog {E = KeepError} name n after.client.log (Ok done))) c.local.ensures.number
    (next_keeps {E = KeepError} name after.client.number after.client.log (next_notes c.local.new.self.journal false after.client.log) (Ok done) i j one c.in_default.ensures.kept) in
    subst (λ (now : SessionState). LogsMade name c.args.made (state_of c.args.self.now) (Ok (Logged c.in-Ok-local.seq)) now i j) (seen_same c.local.new.self c.keep.new.self c.self.inside.folder c.keep.ensures.number c.keep.ensures.log)
    (subst (λ (s : Sitting). LogsMade name c.args.made (state_of s) (Ok (Logged c.in-Ok-local.seq)) after i j) c.self.view_is
    (logged_kept name i before keeps c.in-Ok.effect after c.local.ensures.number refl c.in-Ok-local.seq j c.in-Ok-local.ensures.ok c.in-Ok-local.ensures.seq c.local.ensures.log c.args.made done c.in-Ok.is save))

pub returns-clause-kept : goal.returns-clause-kept
returns-clause-kept g c =
    let name = c.args.image.now in
    let i = g.K.Keeper.images c.args.keeper.now in
    let j = g.K.Keeper.images c.keep.new.keeper in
    let after = c.local.new.self in
    let kept : IsKeptReady i name c.self.inside.client = subst (λ (s : Sitting). IsKeptReady i name s.client) (sym c.self.view_is) c.requires in
    let one = local_one (c.in-Ok.effect ∷ []) c.self.inside.client.log after.log c.in-Ok-local.ensures.ok name c.self.inside.client.number c.self.inside.client.journal after.journal c.local.ensures.journal i kept in
    let save = next_keeps {E = KeepError} name after.number after.log (next_notes after.journal false after.log) (Ok c.in_default.field-0) i j one c.in_default.ensures.kept in
    kept_still name after c.keep.new.self j c.keep.ensures.number c.keep.ensures.log (kept_ok name after.number after.log i j c.in_default.field-0 save) c.keep.ensures.ready

pub keep-requires : goal.keep-requires
keep-requires g c =
    let name = c.args.image.now in
    let i = g.K.Keeper.images c.args.keeper.now in
    let kept : IsKeptReady i name c.self.inside.client = subst (λ (s : Sitting). IsKeptReady i name s.client) (sym c.self.view_is) c.requires in
    c.local.ensures.ready i name kept.1

-- ---- what is kept record by record

pub returns-in-Err-clause-records : goal.returns-in-Err-clause-records
returns-in-Err-clause-records g c =
    let name = c.args.image.now in
    let i = g.K.Keeper.images c.args.keeper.now in
    let client = c.args.self.now.client in
    whatever c.word_answer.result (KeepsLogged name client client i i) (keeps_same name client i)

pub returns-in-Err-local-clause-records : goal.returns-in-Err-local-clause-records
returns-in-Err-local-clause-records g c =
    let name = c.args.image.now in
    let i = g.K.Keeper.images c.args.keeper.now in
    let before = c.self.inside.client in
    whatever c.local_refusal.result (KeepsLogged name c.args.self.now.client c.local.new.self i i)
    (subst (λ (s : Sitting). KeepsLogged name s.client c.local.new.self i i) c.self.view_is
    (subst (λ (client : Client). KeepsLogged name before client i i) (sym c.in-Err-local.ensures.unchanged) (keeps_same name before i)))

pub returns-clause-records : goal.returns-clause-records
returns-clause-records g c =
    let name = c.args.image.now in
    let i = g.K.Keeper.images c.args.keeper.now in
    let j = g.K.Keeper.images c.keep.new.keeper in
    let before = c.self.inside.client in
    let effects = c.in-Ok.effect ∷ [] in
    let kept : IsKeptReady i name before = subst (λ (s : Sitting). IsKeptReady i name s.client) (sym c.self.view_is) c.requires in
    subst (λ (s : Sitting). KeepsLogged name s.client c.keep.new.self i j) c.self.view_is
    (keeps_logged name before c.local.new.self c.keep.new.self c.in_default.field-0 i j (next_entry None effects before.log) c.local.ensures.number
    (sym (appended-is None effects before.log c.local.new.self.log c.in-Ok-local.ensures.ok)) c.local.ensures.journal c.keep.ensures.number c.keep.ensures.log c.in_default.ensures.journal kept c.in_default.ensures.kept)

-- ---- the keeper's faults

pub returns-in-Err-clause-keeper : goal.returns-in-Err-clause-keeper
returns-in-Err-clause-keeper g c =
    let p = g.K.Keeper.faults c.args.keeper.now in
    uncounted c.word_answer.result p p refl (or_memory_unfaulty (word_answer c.in-Err.refusal) c.word_answer.result c.word_answer.ensures)

pub returns-in-Err-local-clause-keeper : goal.returns-in-Err-local-clause-keeper
returns-in-Err-local-clause-keeper g c =
    let p = g.K.Keeper.faults c.args.keeper.now in
    uncounted c.local_refusal.result p p refl (or_memory_unfaulty (local_answer (Err c.in-Err-local.refusal)) c.local_refusal.result c.local_refusal.ensures)

pub returns-in-Err-keep-clause-keeper : goal.returns-in-Err-keep-clause-keeper
returns-in-Err-keep-clause-keeper g c =
    let p = g.K.Keeper.faults c.args.keeper.now in
    let q = g.K.Keeper.faults c.keep.new.keeper in
    subst (λ (stop : LineStop). CountsFault stops.Keeper p q (Err stop)) (sym c.from.ensures) (stop_counts p q c.in-Err-keep.refused c.in-Err-keep.ensures.cause)

pub returns-clause-keeper : goal.returns-clause-keeper
returns-clause-keeper g c =
    let p = g.K.Keeper.faults c.args.keeper.now in
    let q = g.K.Keeper.faults c.keep.new.keeper in
    uncounted (Ok (Logged c.in-Ok-local.seq)) p q (kept_counts p q c.in_default.field-0 c.in_default.ensures.cause) (λ is. absurd (cc (is)))
