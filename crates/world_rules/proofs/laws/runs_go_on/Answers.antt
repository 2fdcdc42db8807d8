use Rattle.world_rules.proofs.Runs.{runs_then, runs_without}
use Rattle.world_rules.proofs.Restarts.{restart_runs, alone_runs}
use Rattle.world_rules.proofs.laws.runs_go_on.Goals as goal

pub returns-clause-joined : goal.returns-clause-joined
returns-clause-joined c = runs_then

pub returns-clause-restarted : goal.returns-clause-restarted
returns-clause-restarted c = restart_runs

pub returns-clause-alone : goal.returns-clause-alone
returns-clause-alone c = alone_runs

pub returns-clause-surrogate : goal.returns-clause-surrogate
returns-clause-surrogate c = runs_without
