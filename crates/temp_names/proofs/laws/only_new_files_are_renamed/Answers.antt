use Rattle.temp_names.proofs.Paired.{only_new}
use Rattle.temp_names.proofs.laws.only_new_files_are_renamed.Goals as goal

pub returns : goal.returns
returns c = only_new
