use Rattle.client_session.proofs.Counted.{unrun_lines_are_counted, lines_run_once}
use Rattle.client_session.proofs.laws.unrun_lines_are_counted.Goals as goal

pub returns-clause-unrun : goal.returns-clause-unrun
returns-clause-unrun c = unrun_lines_are_counted

pub returns-clause-once : goal.returns-clause-once
returns-clause-once c = lines_run_once
