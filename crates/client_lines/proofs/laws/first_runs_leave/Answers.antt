use Rattle.client_lines.proofs.FirstRuns.{first_runs_leave, first_runs_go_on, first_stores_never_collide}
use Rattle.client_lines.proofs.laws.first_runs_leave.Goals as goal

pub returns : goal.returns
returns c = record { leave = first_runs_leave; go_on = first_runs_go_on; stores = first_stores_never_collide }
