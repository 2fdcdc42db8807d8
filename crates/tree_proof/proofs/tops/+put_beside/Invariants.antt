use Rattle.tree_proof.proofs.tops.+put_beside.Given as goal

abbrev pub decreases-put_beside : goal.decreases-put_beside
decreases-put_beside l = l.levels
