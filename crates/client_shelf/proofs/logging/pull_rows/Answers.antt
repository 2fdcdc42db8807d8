use Rattle.std.proofs.Common.{ℕ, is_some, Option, Result, sym, subst}
use Rattle.client_core.specs.declared.pulling.PullEnd.{PullEnd}
use Rattle.client_core.specs.declared.route.Route.{Route}
use Rattle.client_core.specs.Keeping.{IsKept}
use Rattle.client_core.specs.Pulling.{PullEnds}
use Rattle.client_core.specs.Goes.{Went}
use Rattle.client_core.specs.Causes.{HasPullCause, PullKeeps, PullWrites}
use Rattle.client_shelf.specs.declared.ends.Ending.{Ending}
use Rattle.client_shelf.specs.declared.ends.ShelvingStop.{ShelvingStop}
use Rattle.client_shelf.specs.Shelving.{Shelving, said, new_route}
use Rattle.client_shelf.specs.Inside.{PullsTo}
use Rattle.client_shelf.proofs.Kept.{changes_pulled}
use Rattle.client_shelf.proofs.Pulled.{pull_unbegun, pull_went}
use Rattle.client_shelf.proofs.logging.pull_rows.Goals as goal

pub returns-in-Err-clause-did : goal.returns-in-Err-clause-did
returns-in-Err-clause-did g c =
    let asked : Shelving = said c.args.asked.now in
    let i = g.K.Keeper.images c.args.keeper.now in
    let start = c.args.client.now.log in
    pull_unbegun asked start c.requires.unused i (g.L.Link.tells c.args.link.now) (subst (λ (n : ℕ). IsKept i asked.new_image n start) c.requires.number c.requires.kept.0)

pub returns-in-Ok-clause-did : goal.returns-in-Ok-clause-did
returns-in-Ok-clause-did g c =
    let asked : Shelving = said c.args.asked.now in
    let number = c.args.client.now.number in
    let start = c.args.client.now.log in
    let after = c.pull-end.new.self.log in
    let end : PullEnd = c.pull-end.result in
    let i = g.K.Keeper.images c.args.keeper.now in
    let j = g.K.Keeper.images c.pull-end.new.keeper in
    let t = g.L.Link.tells c.args.link.now in
    let u = g.L.Link.tells c.pull-end.new.link in
    let p = g.K.Keeper.faults c.args.keeper.now in
    let q = g.K.Keeper.faults c.pull-end.new.keeper in
    let routed = subst (λ (r : Route). Went number (is_some r.surrogate) r.image (PullEnds number r start end after) start after i j t u) c.in-Ok.ensures c.pull-end.ensures.did in
    let went = subst (λ (n : ℕ). Went n (is_some (new_route asked).surrogate) asked.new_image (PullEnds n (new_route asked) start end after) start after i j t u) c.requires.number routed in
    let written = subst (λ (r : Route). PullWrites r.image number start end after i j) c.in-Ok.ensures c.pull-end.ensures.writes in
    let writes = subst (λ (n : ℕ). PullWrites asked.new_image n start end after i j) c.requires.number written in
    subst (λ (r : Result (Option Ending) ShelvingStop). PullsTo asked start after r (record { images = i; link = t }) (record { images = j; link = u })) (sym c.ended.ensures)
    (pull_went asked start after c.requires.unused i j t u end went (λ whole none. (c.pull-end.ensures.unchanged whole none).1)
    (λ count is. let cause = subst (λ (e : PullEnd). HasPullCause e start after t.troubles u.troubles p q) is c.pull-end.ensures.cause in cause.0 c.requires.unused.1) writes)

pub returns-in-Ok-clause-others : goal.returns-in-Ok-clause-others
returns-in-Ok-clause-others g c =
    let client = c.args.client.now in
    let after = c.pull-end.new.self.log in
    let end : PullEnd = c.pull-end.result in
    let i = g.K.Keeper.images c.args.keeper.now in
    let j = g.K.Keeper.images c.pull-end.new.keeper in
    changes_pulled (said c.args.asked.now).new_image client.number client.log end after i j
    (subst (λ (r : Route). PullKeeps r.image client.number client.log end after i j) c.in-Ok.ensures c.pull-end.ensures.keeps)
