use Rattle.work_area.proofs.Sparing.{spared}
use Rattle.work_area.proofs.laws.no_clash_spares_the_rest.Goals as goal

pub returns : goal.returns
returns c = spared
