use Rattle.world_rules.proofs.Replying.{accepted_taken, done_taken, no_gap, stale_ahead, refused_ahead, fresh_newer}
use Rattle.world_rules.proofs.Runs.{pulled_last}
use Rattle.world_rules.proofs.laws.replies_are_true.Goals as goal

pub returns-clause-accepted : goal.returns-clause-accepted
returns-clause-accepted c = accepted_taken

pub returns-clause-done : goal.returns-clause-done
returns-clause-done c = done_taken

pub returns-clause-gap : goal.returns-clause-gap
returns-clause-gap c = no_gap

pub returns-clause-stale : goal.returns-clause-stale
returns-clause-stale c = stale_ahead

pub returns-clause-refused : goal.returns-clause-refused
returns-clause-refused c = refused_ahead

pub returns-clause-number : goal.returns-clause-number
returns-clause-number c = pulled_last

pub returns-clause-fresh : goal.returns-clause-fresh
returns-clause-fresh c = fresh_newer
