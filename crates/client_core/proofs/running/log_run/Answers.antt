use Rattle.std.proofs.Common.{[], refl, sym, ◌∙◌}
use Rattle.client_core.specs.Inside.{ran}
use Rattle.client_core.proofs.running.log_run.Goals as goal

pub log_changes-requires-clause-some : goal.log_changes-requires-clause-some
log_changes-requires-clause-some c = λ none.
    let to_log = c.in-Ok.ensures [] in
    to_log.0.some (sym to_log.1 ∙ none)

pub returns-in-Ok-clause-ends : goal.returns-in-Ok-clause-ends
returns-in-Ok-clause-ends c = λ work.
    let to_log = c.in-Ok.ensures work in
    c.log_changes.ensures.ends (ran work c.args.job.now c.args.outcome.now) refl refl to_log.0 to_log.1
