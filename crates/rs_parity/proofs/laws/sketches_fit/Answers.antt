use Rattle.rs_parity.proofs.Spelled.{sketches_fit_each}
use Rattle.rs_parity.proofs.laws.sketches_fit.Goals as goal

pub returns : goal.returns
returns c = sketches_fit_each
