use Rattle.std.proofs.Common.{Option, sym, subst}
use Rattle.client_core.specs.declared.keeping.Journal.{Journal}
use Rattle.client_core.specs.Inside.{IsCountedBy}
use Rattle.client_core.proofs.Journal.{saved_counted}
use Rattle.client_core.proofs.keeping.save_log.Goals as goal

pub returns-clause-counted : goal.returns-clause-counted
returns-clause-counted g c =
    let j = g.K.Keeper.images c.save_image-kept.new.keeper in
    subst (λ (now : Option Journal). IsCountedBy j c.args.name.now now) (sym c.journal_with.ensures)
    (saved_counted c.args.name.now c.args.client c.args.log.now c.save_image-kept.result (g.K.Keeper.images c.args.keeper.now) j c.save_image-kept.ensures.kept)
