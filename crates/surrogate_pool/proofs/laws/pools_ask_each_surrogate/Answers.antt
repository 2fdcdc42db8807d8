use Rattle.surrogate_pool.proofs.Passing.{refusals_are_of_all, failures_are_of_all, done_is_passed_on}
use Rattle.surrogate_pool.proofs.laws.pools_ask_each_surrogate.Goals as goal

pub returns : goal.returns
returns c = record { refusals = refusals_are_of_all; failures = failures_are_of_all; done = done_is_passed_on }
