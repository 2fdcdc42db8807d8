use Rattle.temp_names.proofs.pairs.renaming.Goals as goal

pub returns : goal.returns
returns c = rw c.rows.ensures at c.renaming_of.ensures
