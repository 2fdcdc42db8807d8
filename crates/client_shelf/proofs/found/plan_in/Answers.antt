use Rattle.std.proofs.Common.{arith}
use Rattle.client_shelf.proofs.Finding.{planned_shelf}
use Rattle.client_shelf.proofs.found.plan_in.Goals as goal

pub returns-in-Ok : goal.returns-in-Ok
returns-in-Ok c =
    planned_shelf c.args.folder.now c.args.log.now c.in-Ok.shelf c.requires c.pending.ensures.log
    (λ none. omega (arith, c.if-pending-eq0.false, c.pending.ensures.count, none)) c.in-Ok.ensures.ok
