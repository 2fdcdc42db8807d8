use Rattle.work_area.proofs.Applying.{leads, leaves, nothing}
use Rattle.work_area.proofs.laws.change_lists_lead_to_what_is_left.Goals as goal

pub returns-clause-leads : goal.returns-clause-leads
returns-clause-leads c = leads

pub returns-clause-leaves : goal.returns-clause-leaves
returns-clause-leaves c = leaves

pub returns-clause-nothing : goal.returns-clause-nothing
returns-clause-nothing c = nothing
