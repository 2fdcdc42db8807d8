use Rattle.temp_names.proofs.Once.{one_to_one}
use Rattle.temp_names.proofs.laws.renamings_are_one_to_one.Goals as goal

pub returns : goal.returns
returns c = one_to_one
