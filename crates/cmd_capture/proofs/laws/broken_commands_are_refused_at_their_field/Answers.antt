use Rattle.cmd_capture.proofs.Breaking.{broken_parts, broken_lists, broken_commands, long_refused, broken_job_rows, broken_jobs}
use Rattle.cmd_capture.proofs.laws.broken_commands_are_refused_at_their_field.Goals as goal

pub returns : goal.returns
returns c =
    record {
      parts = broken_parts;
      lists = broken_lists;
      commands = broken_commands;
      long = long_refused;
      rows = broken_job_rows;
      jobs = broken_jobs;
    }
