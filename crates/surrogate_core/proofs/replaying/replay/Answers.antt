use Rattle.std.proofs.Common.{subst}
use Rattle.replay_judge.specs.declared.verdict.Verdict.{Verdict}
use Rattle.replay_judge.specs.Judgement.{IsJudgement}
use Rattle.surrogate_core.proofs.Faults.{agreed_fit}
use Rattle.surrogate_core.proofs.replaying.replay.Goals as goal

pub take-requires-clause-effects : goal.take-requires-clause-effects
take-requires-clause-effects c =
    let judged = subst (λ (v : Verdict). IsJudgement c.args.sketched.now c.args.job.now c.args.outcome.now v) c.in-Ok-Agree.field-0-is c.in-Ok-Agree.ensures in
    agreed_fit c.requires.valid.0 c.args.sketched.now c.args.job.now c.args.outcome.now c.in-Ok-Agree.effects c.requires.valid.1 judged
