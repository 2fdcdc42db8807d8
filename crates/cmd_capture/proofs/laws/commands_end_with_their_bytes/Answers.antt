use Rattle.cmd_capture.proofs.Cutting.{command_cut, job_row_cut, job_cut}
use Rattle.cmd_capture.proofs.laws.commands_end_with_their_bytes.Goals as goal

pub returns-clause-commands : goal.returns-clause-commands
returns-clause-commands c = command_cut

pub returns-clause-rows : goal.returns-clause-rows
returns-clause-rows c = job_row_cut

pub returns-clause-jobs : goal.returns-clause-jobs
returns-clause-jobs c = job_cut
