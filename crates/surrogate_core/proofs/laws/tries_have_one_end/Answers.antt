use Rattle.replay_judge.proofs.Verdicts.{one_judgement_whole}
use Rattle.surrogate_core.proofs.Done.{unprepared_tries, unrun_tries, judged_tries}
use Rattle.surrogate_core.proofs.laws.tries_have_one_end.Goals as goal

pub returns-clause-unprepared : goal.returns-clause-unprepared
returns-clause-unprepared c = unprepared_tries

pub returns-clause-unrun : goal.returns-clause-unrun
returns-clause-unrun c = unrun_tries

pub returns-clause-judged : goal.returns-clause-judged
returns-clause-judged c = judged_tries one_judgement_whole
