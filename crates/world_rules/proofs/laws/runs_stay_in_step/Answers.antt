use Rattle.world_rules.proofs.Runs.{both_in_step, restarts, new_in_step, moved_runs}
use Rattle.world_rules.proofs.Events.{relayed_in_step}
use Rattle.world_rules.proofs.Operations.{operated_before, never_collides}
use Rattle.world_rules.proofs.Sending.{pending_valid, operation_valid, sent_valid, fronts_may}
use Rattle.world_rules.proofs.laws.runs_stay_in_step.Goals as goal

pub returns-clause-runs : goal.returns-clause-runs
returns-clause-runs c = both_in_step

pub returns-clause-relays : goal.returns-clause-relays
returns-clause-relays c = λ client log world message now may none. relayed_in_step client log world message now may.0 may.1 none

pub returns-clause-operations : goal.returns-clause-operations
returns-clause-operations c = operated_before

pub returns-clause-apart : goal.returns-clause-apart
returns-clause-apart c = never_collides

pub returns-clause-restarts : goal.returns-clause-restarts
returns-clause-restarts c = restarts

pub returns-clause-beginning : goal.returns-clause-beginning
returns-clause-beginning c = new_in_step

pub returns-clause-asking : goal.returns-clause-asking
returns-clause-asking c = moved_runs

pub returns-clause-fronts : goal.returns-clause-fronts
returns-clause-fronts c = fronts_may

pub returns-clause-valid : goal.returns-clause-valid
returns-clause-valid c = sent_valid

pub returns-clause-stores : goal.returns-clause-stores
returns-clause-stores c = pending_valid

pub returns-clause-shipping : goal.returns-clause-shipping
returns-clause-shipping c = operation_valid
