use Rattle.std.proofs.Common.{length}
use Rattle.tree_proof.proofs.checking.+wrong_among.Given as goal

abbrev pub decreases-wrong_among : goal.decreases-wrong_among
decreases-wrong_among l = length l.leaves.now
