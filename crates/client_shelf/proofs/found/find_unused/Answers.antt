use Rattle.std.proofs.Common.{sym, subst}
use Rattle.client_shelf.specs.Shelving.{IsUnused}
use Rattle.client_shelf.specs.Inside.{Finds}
use Rattle.client_shelf.proofs.Finding.{is_used}
use Rattle.client_shelf.proofs.found.find_unused.Goals as goal

pub returns-else-is_unused-clause-ok : goal.returns-else-is_unused-clause-ok
returns-else-is_unused-clause-ok g c =
    let images = g.K.Keeper.images c.args.keeper.now in
    let found = subst (Finds images c.args.name.now c.args.number) c.in-Ok-Some.field-0-is c.in-Ok-Some.ensures.ok in
    is_used images c.args.name.now c.args.number c.in-Ok-Some.client.log found.2
    (λ unused. let is = c.is_unused.ensures.1 (subst IsUnused (sym c.log.ensures.log) unused) in absurd (cc))
