use Rattle.std.specs.Prelude.{◌++◌, take, length}
use Rattle.std.specs.List.{flat_map}
use Rattle.std.specs.Int.{w32}
use Rattle.byte_fields.specs.Field.{digits}
use Rattle.sha2.specs.Hashers.{Holds256}
use Rattle.cmd_capture.specs.Spelling.{command, job_row}
use Rattle.cmd_capture.proofs.job.print_of.Given as goal

-- the hasher holds the command, the count and the rows that were seen
abbrev pub invariant-loop-row : goal.invariant-loop-row
invariant-loop-row l =
    Holds256 l.hasher (command l.command ++ (digits w32 (length l.rows) ++ flat_map job_row (take l.row-index l.rows)))
