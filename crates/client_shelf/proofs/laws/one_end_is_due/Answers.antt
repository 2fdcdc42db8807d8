use Rattle.client_shelf.proofs.Due.{one_end_is_due}
use Rattle.client_shelf.proofs.laws.one_end_is_due.Goals as goal

pub returns : goal.returns
returns c = one_end_is_due
