use Rattle.rs_parity.proofs.Spelled.{one_spelling_each}
use Rattle.rs_parity.proofs.laws.one_spelling.Goals as goal

pub returns : goal.returns
returns c = one_spelling_each
