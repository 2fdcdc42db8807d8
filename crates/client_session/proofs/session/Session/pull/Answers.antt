use Rattle.std.proofs.Common.{◌≡◌, false, ℕ, Some, Ok, IfOk, refl, sym, subst}
use Rattle.client_core.specs.Keeping.{IsKept, IsReady}
use Rattle.client_core.specs.Noting.{KeepsLogged}
use Rattle.shell_lang.specs.declared.line.Line.TheVariants.{Pull}
use Rattle.client_session.specs.Session.{SessionState, Sitting, state_of, has_pulled}
use Rattle.client_session.specs.Doing.{beside, WentDoing, LineEnds}
use Rattle.client_session.specs.Causes.{HasLineCause}
use Rattle.client_session.specs.Stops.{told}
use Rattle.client_session.proofs.Turning.{pull_went, pull_cause, pull_kept, both_ok, pull_counts}
use Rattle.client_session.proofs.Recorded.{pull_records}
use Rattle.client_session.proofs.session.Session.pull.Goals as goal

pub returns-clause-did : goal.returns-clause-did
returns-clause-did g c =
    let route = c.args.route.now in
    let before : SessionState = state_of (record { client = c.self.inside.client; folder = c.self.inside.folder }) in
    let after : SessionState = state_of (record { client = c.pull.new.self; folder = c.self.inside.folder }) in
    let i = g.K.Keeper.images c.args.keeper.now in
    let j = g.K.Keeper.images c.pull.new.keeper in
    let t = g.L.Link.tells c.args.link.now in
    let u = g.L.Link.tells c.pull.new.link in
    let r = c.pull_answer.result in
    λ runner.
    subst (λ (s : Sitting). WentDoing route (LineEnds route (state_of s) (Ok Pull) (told r) after) (state_of s) after i j (beside t runner) (beside u runner)) c.self.view_is
    (pull_went route before after i j t u c.pull.ensures.number refl c.pull.result r c.pull_answer.ensures c.pull.ensures.did runner)

pub returns-clause-cause : goal.returns-clause-cause
returns-clause-cause g c =
    let route = c.args.route.now in
    let before : SessionState = state_of (record { client = c.self.inside.client; folder = c.self.inside.folder }) in
    let after : SessionState = state_of (record { client = c.pull.new.self; folder = c.self.inside.folder }) in
    let t = g.L.Link.tells c.args.link.now in
    let u = g.L.Link.tells c.pull.new.link in
    let p = g.K.Keeper.faults c.args.keeper.now in
    let q = g.K.Keeper.faults c.pull.new.keeper in
    let r = c.pull_answer.result in
    λ runner.
    subst (λ (s : Sitting). HasLineCause route (state_of s) (Ok Pull) (told r) after (beside t runner) (beside u runner) p q) c.self.view_is
    (pull_cause route before after t u p q c.pull.ensures.number refl c.pull.result r c.pull_answer.ensures
    c.pull.ensures.cause runner)

pub returns-clause-kept : goal.returns-clause-kept
returns-clause-kept g c =
    let image = c.args.route.now.image in
    let before = c.self.inside.client in
    let after = c.pull.new.self in
    let i = g.K.Keeper.images c.args.keeper.now in
    let j = g.K.Keeper.images c.pull.new.keeper in
    let r = c.pull_answer.result in
    both_ok r (IsKept j image after.number after.log) (IsReady j image after)
    (subst (λ (n : ℕ). IfOk r (λ answer. IsKept j image n after.log)) (sym c.pull.ensures.number)
    (pull_kept image before.number before.log after.log c.pull.result i j r c.pull_answer.ensures c.pull.ensures.keeps))
    c.pull.ensures.ready

pub returns-clause-keeper : goal.returns-clause-keeper
returns-clause-keeper g c =
    pull_counts (g.K.Keeper.faults c.args.keeper.now) (g.K.Keeper.faults c.pull.new.keeper) c.pull.result c.pull_answer.result c.pull_answer.ensures c.pull.ensures.faults

pub returns-clause-records : goal.returns-clause-records
returns-clause-records g c =
    let image = c.args.route.now.image in
    let after = c.pull.new.self in
    let i = g.K.Keeper.images c.args.keeper.now in
    let j = g.K.Keeper.images c.pull.new.keeper in
    let r = c.pull_answer.result in
    subst (λ (s : Sitting). IfOk r (λ answer. has_pulled (Ok Pull) (Some answer) ≡ false → KeepsLogged image s.client after i j)) c.self.view_is
    (pull_records r image c.self.inside.client after i j c.pull.result c.pull_answer.ensures c.pull.ensures.unchanged)
