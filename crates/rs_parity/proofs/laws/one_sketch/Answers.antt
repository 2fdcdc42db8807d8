use Rattle.rs_parity.proofs.Unique.{one_sketch_each}
use Rattle.rs_parity.proofs.laws.one_sketch.Goals as goal

pub returns : goal.returns
returns c = one_sketch_each
