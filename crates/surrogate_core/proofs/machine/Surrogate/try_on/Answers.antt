use Rattle.surrogate_core.proofs.Trying.{starved_still}
use Rattle.surrogate_core.proofs.Calls.{still_unfetched}
use Rattle.surrogate_core.proofs.machine.Surrogate.try_on.Goals as goal

pub returns-in-Err-clause-steps : goal.returns-in-Err-clause-steps
returns-in-Err-clause-steps g c =
    starved_still c.args.pulled c.args.client c.args.sketched c.args.work.now c.args.self.now c.self.inside.state c.self.inside.copy c.advance.new.copy c.declined.result _ _
    c.self.view_is c.requires.idle c.in-Err.ensures.unchanged c.declined.ensures.step c.in-Err.ensures.err

pub returns-in-Err-clause-unasked : goal.returns-in-Err-clause-unasked
returns-in-Err-clause-unasked g c =
    still_unfetched c.self.inside.state c.self.inside.copy c.advance.new.copy c.args.self.now _ _ c.self.view_is c.requires.idle c.in-Err.ensures.unchanged
