use Rattle.store_parcels.proofs.Sounds.{parcels_have_no_kind, frames_stay}
use Rattle.store_parcels.proofs.laws.parcels_are_apart.Goals as goal

pub returns : goal.returns
returns c = record { kind = parcels_have_no_kind; frames = frames_stay }
