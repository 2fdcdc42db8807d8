use Rattle.cmd_capture.proofs.Codec.{command_codec, job_row_codec, job_codec}
use Rattle.cmd_capture.proofs.laws.commands_are_spelled_once.Goals as goal

pub returns-clause-commands : goal.returns-clause-commands
returns-clause-commands c = command_codec

pub returns-clause-rows : goal.returns-clause-rows
returns-clause-rows c = job_row_codec

pub returns-clause-jobs : goal.returns-clause-jobs
returns-clause-jobs c = job_codec
