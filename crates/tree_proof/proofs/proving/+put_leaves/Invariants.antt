use Rattle.std.proofs.Common.{length}
use Rattle.tree_proof.proofs.proving.+put_leaves.Given as goal

abbrev pub decreases-put_leaves : goal.decreases-put_leaves
decreases-put_leaves l = length l.rows.now
