use Rattle.rs_parity.proofs.Cut.{broken_sketches}
use Rattle.rs_parity.proofs.laws.broken_sketches_are_refused_at_their_field.Goals as goal

pub returns : goal.returns
returns c = broken_sketches
