use Rattle.replay_judge.proofs.Agreed.{all_fill}
use Rattle.surrogate_core.proofs.Copies.{asks_the_server, breaking_asks_the_server}
use Rattle.surrogate_core.proofs.Once.{handlings_run_once, broken_handlings_run_once}
use Rattle.surrogate_core.specs.Handling.{answering}
use Rattle.surrogate_core.proofs.laws.handlings_are_of_their_operation.Goals as goal

pub returns-clause-asks : goal.returns-clause-asks
returns-clause-asks c = λ server work copy after client sketched runs asks reply ask handling among.
    asks_the_server all_fill client sketched copy server work runs asks (answering after reply) handling ask among

pub returns-clause-runs : goal.returns-clause-runs
returns-clause-runs c = handlings_run_once

pub returns-clause-broken_asks : goal.returns-clause-broken_asks
returns-clause-broken_asks c = λ server work copy after client sketched runs asks ask breaks among.
    breaking_asks_the_server all_fill client sketched copy server work runs asks after breaks ask among

pub returns-clause-broken_runs : goal.returns-clause-broken_runs
returns-clause-broken_runs c = broken_handlings_run_once
