use Rattle.cmd_capture.proofs.Captured.{captured_fits}
use Rattle.cmd_capture.proofs.laws.captured_commands_have_a_spelling.Goals as goal

pub returns : goal.returns
returns c = captured_fits
