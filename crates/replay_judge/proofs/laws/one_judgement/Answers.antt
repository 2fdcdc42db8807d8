use Rattle.replay_judge.proofs.Verdicts.{one_judgement_whole}
use Rattle.replay_judge.proofs.laws.one_judgement.Goals as goal

pub returns : goal.returns
returns c = one_judgement_whole
