use Rattle.tree_proof.proofs.Pairs.{tops_of_pairs}
use Rattle.tree_proof.proofs.laws.tops_are_of_pairs.Goals as goal

pub returns : goal.returns
returns c = tops_of_pairs
