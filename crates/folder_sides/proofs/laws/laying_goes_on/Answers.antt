use Rattle.folder_sides.proofs.Stepping.{steps_lead}
use Rattle.folder_sides.proofs.GoingOn.{lays_go_on}
use Rattle.folder_sides.proofs.laws.laying_goes_on.Goals as goal

pub returns-clause-leads : goal.returns-clause-leads
returns-clause-leads c = steps_lead

pub returns-clause-goes_on : goal.returns-clause-goes_on
returns-clause-goes_on c = lays_go_on
