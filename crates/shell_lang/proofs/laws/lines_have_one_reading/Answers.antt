use Rattle.shell_lang.proofs.Spelled.{one_reading}
use Rattle.shell_lang.proofs.laws.lines_have_one_reading.Goals as goal

pub returns : goal.returns
returns c = one_reading
