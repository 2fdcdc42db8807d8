use Rattle.temp_names.proofs.Paired.{within_groups}
use Rattle.temp_names.proofs.laws.groups_keep_their_names.Goals as goal

pub returns : goal.returns
returns c = within_groups
