use Rattle.replay_judge.proofs.Agreed.{all_fill}
use Rattle.replay_judge.proofs.laws.agreements_fill.Goals as goal

pub returns : goal.returns
returns c = all_fill
