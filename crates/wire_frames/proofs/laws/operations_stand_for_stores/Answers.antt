use Rattle.wire_frames.proofs.Standing.{filled_stores, sketched_stores}
use Rattle.wire_frames.proofs.laws.operations_stand_for_stores.Goals as goal

pub returns : goal.returns
returns c = record { filled = filled_stores; sketched = sketched_stores }
