use Rattle.client_shelf.proofs.Finding.{planned_read}
use Rattle.client_shelf.proofs.found.plan.Goals as goal

pub returns-in-Ok : goal.returns-in-Ok
returns-in-Ok c = planned_read c.args.folder.now c.in-Ok.folder c.args.log.now.pending c.plan_in-planned.result c.in-Ok.ensures.ok c.plan_in-planned.ensures
