use Rattle.rs_parity.proofs.Cut.{sketch_cut}
use Rattle.rs_parity.proofs.laws.sketches_end_with_their_bytes.Goals as goal

pub returns : goal.returns
returns c = sketch_cut
