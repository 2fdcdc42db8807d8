use Rattle.std.proofs.lemmas.Result.{IfOk-weaker}
use Rattle.paced_talks.proofs.answering.Answering.step.Goals as goal

pub returns-in-Err-clause-ended : goal.returns-in-Err-clause-ended
returns-in-Err-clause-ended g c = IfOk-weaker c.passing.result _ _ (λ step never ended. absurd (never ended)) c.passing.ensures
