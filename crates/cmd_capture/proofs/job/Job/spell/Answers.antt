use Rattle.std.proofs.Common.{◌++◌, length}
use Rattle.std.specs.Int.{w32}
use Rattle.std.specs.List.{flat_map}
use Rattle.byte_fields.specs.Field.{digits}
use Rattle.byte_fields.proofs.Fronts.{front_first, front_second, on_error}
use Rattle.cmd_capture.specs.Spelling.{command, job_row}
use Rattle.cmd_capture.proofs.job.Job.spell.Goals as goal

pub returns-in_err-spell-clause-err : goal.returns-in_err-spell-clause-err
returns-in_err-spell-clause-err c =
    let job = c.args.value.now in
    on_error c.from_residual.result
    (front_first c.args.out.now.items c.spell.new.out.items (command job.command) (digits w32 (length job.rows) ++ flat_map job_row job.rows)
    (rw c.command.ensures at c.in_err-spell.ensures.err))

pub returns-in_err-put_rows-clause-err : goal.returns-in_err-put_rows-clause-err
returns-in_err-put_rows-clause-err c =
    let job = c.args.value.now in
    on_error c.from_residual-in_err-put_rows.result
    (front_second c.args.out.now.items c.spell.new.out.items c.put_rows.new.out.items (command job.command)
    (digits w32 (length job.rows) ++ flat_map job_row job.rows)
    (rw c.command.ensures at c.in_ok-spell.ensures.ok)
    (rw (c.as_slice.ensures.items, c.rows.ensures) at c.in_err-put_rows.ensures.err))
