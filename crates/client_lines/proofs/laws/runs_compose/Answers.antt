use Rattle.client_lines.proofs.Composing.{runs_compose, stores_never_collide}
use Rattle.client_lines.proofs.RunningLeaves.{leaves, goes_on}
use Rattle.client_lines.proofs.laws.runs_compose.Goals as goal

pub returns : goal.returns
returns c = record { two = runs_compose; stores = stores_never_collide; many = λ client ships entries asks start log kept old new now runs none. (leaves client ships entries asks start log kept old new now runs none, goes_on client ships entries asks start log kept old new now runs none) }
