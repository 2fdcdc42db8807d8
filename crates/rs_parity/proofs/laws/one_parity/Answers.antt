use Rattle.rs_parity.proofs.Unique.{one_parity_each}
use Rattle.rs_parity.proofs.laws.one_parity.Goals as goal

pub returns : goal.returns
returns c = one_parity_each
