use Rattle.tree_proof.proofs.Proved.{proofs_taken}
use Rattle.tree_proof.proofs.laws.proofs_are_taken.Goals as goal

pub returns : goal.returns
returns c = proofs_taken
