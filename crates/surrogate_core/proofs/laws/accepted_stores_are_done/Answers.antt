use Rattle.replay_judge.proofs.Agreed.{all_fill}
use Rattle.surrogate_core.proofs.Done.{accepted_handlings}
use Rattle.surrogate_core.proofs.laws.accepted_stores_are_done.Goals as goal

pub returns : goal.returns
returns c = accepted_handlings all_fill
