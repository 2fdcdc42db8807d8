use Rattle.replay_judge.proofs.Agreed.{all_fill}
use Rattle.surrogate_core.proofs.Done.{refused_handlings}
use Rattle.surrogate_core.proofs.laws.refused_stores_are_declined.Goals as goal

pub returns : goal.returns
returns c = refused_handlings all_fill
