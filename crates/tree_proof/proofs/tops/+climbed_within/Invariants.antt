use Rattle.tree_proof.proofs.tops.+climbed_within.Given as goal

abbrev pub decreases-climbed_within : goal.decreases-climbed_within
decreases-climbed_within l = l.levels
