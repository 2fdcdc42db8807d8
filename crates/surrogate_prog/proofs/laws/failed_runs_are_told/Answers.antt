use Rattle.surrogate_prog.proofs.Unrun.{failed_runs_are_told}
use Rattle.surrogate_prog.proofs.laws.failed_runs_are_told.Goals as goal

pub returns : goal.returns
returns c = failed_runs_are_told
