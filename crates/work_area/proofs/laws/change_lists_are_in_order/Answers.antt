use Rattle.work_area.proofs.Ordered.{ordered}
use Rattle.work_area.proofs.laws.change_lists_are_in_order.Goals as goal

pub returns : goal.returns
returns c = ordered
