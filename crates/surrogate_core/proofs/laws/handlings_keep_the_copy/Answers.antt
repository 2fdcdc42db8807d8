use Rattle.replay_judge.proofs.Agreed.{all_fill}
use Rattle.surrogate_core.proofs.Copies.{keeps_the_copy, breaking_keeps_the_copy}
use Rattle.surrogate_core.proofs.laws.handlings_keep_the_copy.Goals as goal

pub returns-clause-answered : goal.returns-clause-answered
returns-clause-answered c = λ server work copy after client sketched runs asks reply handling.
    keeps_the_copy all_fill client sketched copy server work runs asks reply after handling

pub returns-clause-broken : goal.returns-clause-broken
returns-clause-broken c = λ server work copy after client sketched runs asks breaks.
    breaking_keeps_the_copy all_fill client sketched copy server work runs asks after breaks
