use Rattle.store_image.proofs.Appended.{records_are_appended}
use Rattle.store_image.proofs.laws.records_are_appended.Goals as goal

pub returns : goal.returns
returns c = records_are_appended
