use Rattle.std.proofs.Common.{false, sym, subst}
use Rattle.client_core.specs.Journal.{next_notes}
use Rattle.client_core.specs.Keeping.{IsReady}
use Rattle.client_core.proofs.Journal.{JournalIsCurrent, may_keep, next_current, current_ready, ready_counted}
use Rattle.client_core.proofs.client.Client.keep.Goals as goal

pub keep_log-requires-clause-ready : goal.keep_log-requires-clause-ready
keep_log-requires-clause-ready g c =
    let name = c.args.name.now in
    let i = g.K.Keeper.images c.args.keeper.now in
    may_keep name c.self.inside.number c.self.inside.log c.acked-acked.ensures.log c.self.inside.journal i (subst (IsReady i name) (sym c.self.view_is) c.requires)

pub keep_log-requires-clause-counted : goal.keep_log-requires-clause-counted
keep_log-requires-clause-counted g c =
    let name = c.args.name.now in
    let i = g.K.Keeper.images c.args.keeper.now in
    ready_counted name c.self.inside.number c.self.inside.log c.self.inside.journal i (subst (IsReady i name) (sym c.self.view_is) c.requires)

pub returns-clause-ready : goal.returns-clause-ready
returns-clause-ready g c =
    let name = c.args.name.now in
    let number = c.self.inside.number in
    let log = c.self.inside.log in
    let journal = c.self.inside.journal in
    let i = g.K.Keeper.images c.args.keeper.now in
    let l = g.K.Keeper.images c.keep_log.new.keeper in
    let r = c.keep_log.result in
    current_ready name number log c.keep_log.new.journal l
    (subst (JournalIsCurrent l name number log) (sym c.keep_log.ensures.journal) (next_current name number log journal (next_notes journal false log) r i l c.keep_log.ensures.kept)) c.keep_log.ensures.counted
