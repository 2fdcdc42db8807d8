use Rattle.std.proofs.Common.{ℕ, Ok, IfOk, refl, sym, subst}
use Rattle.client_core.specs.Keeping.{IsKept, IsReady}
use Rattle.shell_lang.specs.declared.line.Line.TheVariants.{Sync}
use Rattle.client_session.specs.Session.{SessionState, Sitting, state_of}
use Rattle.client_session.specs.Doing.{beside, WentDoing, LineNoting}
use Rattle.client_session.specs.Causes.{HasLineCause}
use Rattle.client_session.specs.Stops.{told}
use Rattle.client_session.proofs.Turning.{sync_went, sync_cause, sync_kept, both_ok, sync_counts}
use Rattle.client_session.proofs.session.Session.sync.Goals as goal

pub returns-clause-did : goal.returns-clause-did
returns-clause-did g c =
    let route = c.args.route.now in
    let before : Sitting = record { client = c.self.inside.client; folder = c.self.inside.folder } in
    let after : Sitting = record { client = c.sync.new.self; folder = c.self.inside.folder } in
    let i = g.K.Keeper.images c.args.keeper.now in
    let j = g.K.Keeper.images c.sync.new.keeper in
    let t = g.L.Link.tells c.args.link.now in
    let u = g.L.Link.tells c.sync.new.link in
    let r = c.sync_answer.result in
    λ runner.
    subst (λ (s : Sitting). WentDoing route (LineNoting route s (Ok Sync) (told r) after i j) (state_of s) (state_of after) i j (beside t runner) (beside u runner)) c.self.view_is
    (sync_went route before after i j t u c.sync.ensures.number refl c.sync.result r c.sync_answer.ensures c.sync.ensures.did runner)

pub returns-clause-cause : goal.returns-clause-cause
returns-clause-cause g c =
    let route = c.args.route.now in
    let before : SessionState = state_of (record { client = c.self.inside.client; folder = c.self.inside.folder }) in
    let after : SessionState = state_of (record { client = c.sync.new.self; folder = c.self.inside.folder }) in
    let t = g.L.Link.tells c.args.link.now in
    let u = g.L.Link.tells c.sync.new.link in
    let p = g.K.Keeper.faults c.args.keeper.now in
    let q = g.K.Keeper.faults c.sync.new.keeper in
    let r = c.sync_answer.result in
    λ runner.
    subst (λ (s : Sitting). HasLineCause route (state_of s) (Ok Sync) (told r) after (beside t runner) (beside u runner) p q) c.self.view_is
    (sync_cause route before after t u p q c.sync.ensures.number refl c.sync.ensures.log c.sync.result r c.sync_answer.ensures
    c.sync.ensures.cause runner)

pub returns-clause-kept : goal.returns-clause-kept
returns-clause-kept g c =
    let image = c.args.route.now.image in
    let before = c.self.inside.client in
    let after = c.sync.new.self in
    let i = g.K.Keeper.images c.args.keeper.now in
    let j = g.K.Keeper.images c.sync.new.keeper in
    let r = c.sync_answer.result in
    both_ok r (IsKept j image after.number after.log) (IsReady j image after)
    (subst (λ (n : ℕ). IfOk r (λ answer. IsKept j image n after.log)) (sym c.sync.ensures.number)
    (sync_kept image before.number before.log after.log c.sync.result i j r c.sync_answer.ensures c.sync.ensures.keeps))
    c.sync.ensures.ready

pub returns-clause-keeper : goal.returns-clause-keeper
returns-clause-keeper g c =
    sync_counts (g.K.Keeper.faults c.args.keeper.now) (g.K.Keeper.faults c.sync.new.keeper) c.sync.result c.sync_answer.result c.sync_answer.ensures c.sync.ensures.faults
