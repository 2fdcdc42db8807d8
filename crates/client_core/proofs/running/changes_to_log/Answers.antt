use Rattle.std.proofs.Common.{refl, sym}
use Rattle.client_core.specs.Inside.{ran}
use Rattle.client_core.proofs.running.changes_to_log.Goals as goal

pub returns-in-None : goal.returns-in-None
returns-in-None c = λ work.
    let unlogged = c.in-None.ensures (ran work c.args.job.now c.args.outcome.now) refl refl (sym c.in-Ok.ensures.ok) in
    (record { legal = c.in-Ok.ensures.legal; some = unlogged.0; clear = unlogged.1 }, c.in-Ok.ensures.ok)
