use Rattle.client_core.proofs.Truths.{sync_behind, sync_true, pull_met_last, calm_complete}
use Rattle.client_core.proofs.laws.ends_are_true.Goals as goal

pub returns-clause-behind : goal.returns-clause-behind
returns-clause-behind c = sync_behind

pub returns-clause-refused : goal.returns-clause-refused
returns-clause-refused c = sync_true

pub returns-clause-pulled : goal.returns-clause-pulled
returns-clause-pulled c = pull_met_last

pub returns-clause-complete : goal.returns-clause-complete
returns-clause-complete c = calm_complete
