use Rattle.std.proofs.Common.{sym}
use Rattle.surrogate_core.proofs.Trying.{snapshot_starved}
use Rattle.surrogate_core.proofs.machine.Surrogate.on_snapshot.Goals as goal

pub returns-in-Err-clause-steps : goal.returns-in-Err-clause-steps
returns-in-Err-clause-steps g c =
    snapshot_starved c.args.client c.args.sketched c.args.self.now c.args.reply c.in-Some.rows c.args.work.now c.declined.result _ c.requires.idle (sym c.in-Some.ensures) c.declined.ensures.step
