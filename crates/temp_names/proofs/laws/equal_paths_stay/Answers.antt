use Rattle.temp_names.proofs.Paired.{equal_stay}
use Rattle.temp_names.proofs.laws.equal_paths_stay.Goals as goal

pub returns : goal.returns
returns c = equal_stay
