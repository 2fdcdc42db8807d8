-- A job as contracts see it.
use Rattle.std.specs.Prelude.{List}
use Rattle.cmd_capture.specs.declared.command.Command.{Command}
use Rattle.cmd_capture.specs.declared.job.JobRow.{JobRow}

-- a command with the rows that it starts on
pub record Job : Type 0 where
  pub command : Command
  pub rows : List JobRow
