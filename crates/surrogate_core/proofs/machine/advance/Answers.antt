use Rattle.std.proofs.Common.{◌∙◌, sym}
use Rattle.std.proofs.lemmas.Result.{IfOk-weaker}
use Rattle.surrogate_core.specs.Inside.{reaction_of}
use Rattle.surrogate_core.proofs.Trying.{lacking_tries}
use Rattle.surrogate_core.proofs.machine.advance.Goals as goal

pub returns-in-Ok-Err-clause-ok : goal.returns-in-Ok-Err-clause-ok
returns-in-Ok-Err-clause-ok g c =
    lacking_tries c.args.pulled c.args.copy.now c.args.client c.args.sketched c.args.work.now c.in-Ok-Err.cause (reaction_of c.without_job.result.0 c.without_job.result.1 c.args.copy.now) _
    (sym c.in-Ok-Err.ensures.job ∙ c.in-Ok-Err.field-0-is) (c.without_job.ensures.came c.args.copy.now) c.without_job.ensures.none_failed

pub returns-in-Ok-Ok-clause-ok : goal.returns-in-Ok-Ok-clause-ok
returns-in-Ok-Ok-clause-ok g c = IfOk-weaker c.perform.result _ _ (λ x steps. steps c.args.pulled) c.perform.ensures.ok
