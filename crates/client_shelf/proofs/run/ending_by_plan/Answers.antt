use Rattle.std.proofs.Common.{ℕ, subst}
use Rattle.client_core.specs.Keeping.{IsKept}
use Rattle.client_shelf.specs.Shelving.{Shelving, said}
use Rattle.client_shelf.specs.Inside.{PlansSo}
use Rattle.client_shelf.proofs.Whole.{planned_ends}
use Rattle.client_shelf.proofs.run.ending_by_plan.Goals as goal

pub returns-in-Ok-Err-clause-did : goal.returns-in-Ok-Err-clause-did
returns-in-Ok-Err-clause-did g c =
    let asked : Shelving = said c.args.asked.now in
    let i = g.K.Keeper.images c.args.keeper.now in
    let start = c.args.client.log in
    planned_ends asked (record { images = i; link = g.L.Link.tells c.args.link.now }) c.args.stuck.now start c.in-Ok-Err.ending c.requires.stuck
    (subst (λ (n : ℕ). IsKept i asked.new_image n start) c.requires.number c.requires.kept) c.requires.unused
    (subst (PlansSo asked.folder c.args.stuck.now.pending) c.in-Ok-Err.field-0-is c.in-Ok-Err.ensures)
