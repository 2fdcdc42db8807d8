use Rattle.shell_lang.proofs.Cutting.{pieces_are_cut_alike}
use Rattle.shell_lang.proofs.laws.inputs_are_cut_alike_in_pieces.Goals as goal

pub returns : goal.returns
returns c = pieces_are_cut_alike
