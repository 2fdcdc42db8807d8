use Rattle.tree_proof.proofs.tops.+way_within.Given as goal

abbrev pub decreases-way_within : goal.decreases-way_within
decreases-way_within l = l.levels
