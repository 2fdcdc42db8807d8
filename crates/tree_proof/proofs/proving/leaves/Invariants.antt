use Rattle.std.proofs.Common.{◌≡◌, take}
use Rattle.tree_proof.specs.Trees.{leaves}
use Rattle.tree_proof.proofs.proving.leaves.Given as goal

abbrev pub invariant-loop-row : goal.invariant-loop-row
invariant-loop-row l = l.digests.items ≡ leaves (take l.row-index l.rows)
