use Rattle.std.proofs.Common.{◌-◌, []}
use Rattle.byte_fields.specs.Field.{each_at}
use Rattle.cmd_capture.specs.Reading.{variable_at, with_pair}
use Rattle.byte_fields.proofs.Loop.{SoFar}
use Rattle.cmd_capture.proofs.taking.variables_from.Given as goal

abbrev pub invariant-loop : goal.invariant-loop
invariant-loop l =
    SoFar variable_at with_pair l.bytes (each_at variable_at with_pair l.count [] l.bytes l.start) l.env (l.count - l.counter) l.env l.at
