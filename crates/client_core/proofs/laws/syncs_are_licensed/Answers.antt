use Rattle.client_core.proofs.Licensing.{syncs_licensed, done_costs, unanswered_failed}
use Rattle.client_core.proofs.laws.syncs_are_licensed.Goals as goal

pub returns-clause-licensed : goal.returns-clause-licensed
returns-clause-licensed c = syncs_licensed

pub returns-clause-done : goal.returns-clause-done
returns-clause-done c = done_costs

pub returns-clause-unanswered : goal.returns-clause-unanswered
returns-clause-unanswered c = unanswered_failed
