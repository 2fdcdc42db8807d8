use Rattle.client_drill.proofs.Fating.{drills_begin_by_rule}
use Rattle.client_drill.proofs.laws.drills_begin_by_rule.Goals as goal

pub returns : goal.returns
returns c = drills_begin_by_rule
