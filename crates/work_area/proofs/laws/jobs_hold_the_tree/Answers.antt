use Rattle.work_area.proofs.Holding.{hold}
use Rattle.work_area.proofs.Forming.{formed}
use Rattle.work_area.proofs.laws.jobs_hold_the_tree.Goals as goal

pub returns-clause-rows : goal.returns-clause-rows
returns-clause-rows c = formed

pub returns-clause-nodes : goal.returns-clause-nodes
returns-clause-nodes c = hold
