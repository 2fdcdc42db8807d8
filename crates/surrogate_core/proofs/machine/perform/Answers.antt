use Rattle.std.proofs.Common.{Some, ap}
use Rattle.surrogate_core.specs.declared.step.NextStep.{NextStep}
use Rattle.surrogate_core.specs.declared.machine.Stage.TheVariants.{Idle}
use Rattle.surrogate_core.specs.Serving.{failed_step}
use Rattle.surrogate_core.specs.Inside.{reaction_of}
use Rattle.surrogate_core.proofs.Faults.{store_valid}
use Rattle.surrogate_core.proofs.Trying.{ran_once, ran_refused, failed_tries, ran_tries}
use Rattle.surrogate_core.proofs.machine.perform.Goals as goal

pub conclude-requires-clause-store : goal.conclude-requires-clause-store
conclude-requires-clause-store g c =
    store_valid c.args.client c.args.sketched c.args.copy.now c.replay-replayed.new.copy c.args.job c.in-Ok.outcome c.in-Ok-replayed.held c.requires.valid c.in-Ok-replayed.ensures.ok

pub returns-in-Ok-replayed-clause-ok : goal.returns-in-Ok-replayed-clause-ok
returns-in-Ok-replayed-clause-ok g c = λ pulled.
    let told = ran_once c.args.work.now c.args.job _ _ _ _ c.in-Ok.outcome c.in-Ok.ensures.runs c.in-Ok.ensures.cause in
    ran_tries pulled c.args.copy.now c.args.client c.args.sketched c.args.work.now c.args.job c.requires.job _ _ c.in-Ok.outcome c.replay-replayed.new.copy
    c.in-Ok-replayed.held c.conclude.result.0 c.conclude.result.1 c.in-Ok-replayed.ensures.ok c.conclude.ensures.held c.conclude.ensures.none_failed told

pub returns-in-Err-replayed-clause-err : goal.returns-in-Err-replayed-clause-err
returns-in-Err-replayed-clause-err g c =
    record { ran = Some c.in-Ok.outcome; told = ran_once c.args.work.now c.args.job _ _ _ _ c.in-Ok.outcome c.in-Ok.ensures.runs c.in-Ok.ensures.cause }

pub returns-in-Failed-clause-ok : goal.returns-in-Failed-clause-ok
returns-in-Failed-clause-ok g c = λ pulled.
    failed_tries pulled c.args.copy.now c.args.client c.args.sketched c.args.work.now c.args.job c.requires.job _ _ (reaction_of c.declined.result Idle c.args.copy.now)
    (ap (λ (step : NextStep). reaction_of step Idle c.args.copy.now) c.declined.ensures.step) (ap failed_step c.declined.ensures.step)
    (ran_refused c.args.work.now c.args.job _ _ _ _ c.in-Err.error c.in-Failed.is c.in-Err.ensures.runs c.in-Err.ensures.cause)
