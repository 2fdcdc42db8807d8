use Rattle.store_parcels.proofs.Sounds.{stores_are_named, prints_are_one}
use Rattle.store_parcels.proofs.laws.parcels_are_true.Goals as goal

pub returns : goal.returns
returns c = record { stores = stores_are_named; prints = prints_are_one }
