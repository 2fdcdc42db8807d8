use Rattle.temp_names.proofs.Legal.{rows_stay_legal}
use Rattle.temp_names.proofs.laws.renamed_rows_are_legal.Goals as goal

pub returns : goal.returns
returns c = rows_stay_legal
