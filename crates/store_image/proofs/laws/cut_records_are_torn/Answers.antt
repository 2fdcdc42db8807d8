use Rattle.store_image.proofs.Appended.{cut_records_are_torn}
use Rattle.store_image.proofs.laws.cut_records_are_torn.Goals as goal

pub returns : goal.returns
returns c = cut_records_are_torn
