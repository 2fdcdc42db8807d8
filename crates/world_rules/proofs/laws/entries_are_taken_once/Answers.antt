use Rattle.world_rules.proofs.Runs.{entries_in_order, pending_later, lone_entries}
use Rattle.world_rules.proofs.laws.entries_are_taken_once.Goals as goal

pub returns-clause-order : goal.returns-clause-order
returns-clause-order c = entries_in_order

pub returns-clause-pending : goal.returns-clause-pending
returns-clause-pending c = pending_later

pub returns-clause-alone : goal.returns-clause-alone
returns-clause-alone c = lone_entries
