use Rattle.temp_names.proofs.pairs.renaming_of.Goals as goal

pub returns : goal.returns
returns c =
    rw c.as_slice-4.ensures.items at
    (rw c.as_slice-3.ensures.items at (rw c.as_slice-2.ensures.items at (rw c.as_slice.ensures.items at c.pairs_of.ensures)))
