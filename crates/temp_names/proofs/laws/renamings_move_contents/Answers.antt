use Rattle.temp_names.proofs.Legal.{contents_move}
use Rattle.temp_names.proofs.laws.renamings_move_contents.Goals as goal

pub returns : goal.returns
returns c = contents_move
