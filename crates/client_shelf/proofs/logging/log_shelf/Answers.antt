use Rattle.std.proofs.Common.{◌∙◌, ℕ, Option, Ok, subst}
use Rattle.client_shelf.specs.declared.ends.Ending.{Ending}
use Rattle.client_shelf.specs.Shelving.{Shelving, said}
use Rattle.client_shelf.specs.Inside.{PullsTo, KeepsAll}
use Rattle.client_shelf.proofs.Ended.{logged_so}
use Rattle.client_shelf.proofs.logging.log_shelf.Goals as goal

pub returns-in-Ok-None-clause-did : goal.returns-in-Ok-None-clause-did
returns-in-Ok-None-clause-did g c =
    let asked : Shelving = said c.args.asked.now in
    let start = c.args.client.now.log in
    let log = c.pull_rows.new.client.log in
    let i = g.K.Keeper.images c.args.keeper.now in
    let j = g.K.Keeper.images c.pull_rows.new.keeper in
    let k = g.K.Keeper.images c.keep_all.new.keeper in
    let t = g.L.Link.tells c.args.link.now in
    let u = g.L.Link.tells c.pull_rows.new.link in
    let rows = subst (λ (o : Option Ending). PullsTo asked start log (Ok o) (record { images = i; link = t }) (record { images = j; link = u })) c.in-Ok-None.field-0-is c.in-Ok-None.ensures.did in
    let keeps = subst (λ (n : ℕ). KeepsAll n asked.new_image c.args.lists.now log c.keep_all.result j k) (c.pull_rows.ensures.number ∙ c.requires.number) c.keep_all.ensures.did in
    logged_so asked start log c.args.lists.now c.requires.fit i j k t u c.keep_all.result rows keeps
