use Rattle.shell_lang.proofs.Quitting.{only_quit_quits}
use Rattle.shell_lang.proofs.laws.only_quit_quits.Goals as goal

pub returns : goal.returns
returns c = only_quit_quits
