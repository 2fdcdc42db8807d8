use Rattle.std.proofs.Common.{◌++◌, length}
use Rattle.std.specs.Int.{w32}
use Rattle.std.specs.List.{flat_map}
use Rattle.byte_fields.specs.Field.{digits}
use Rattle.byte_fields.proofs.Fronts.{front_none, front_second, on_error}
use Rattle.cmd_capture.specs.Spelling.{job_row}
use Rattle.cmd_capture.proofs.spelling.put_rows.Goals as goal

pub returns-in_err-put_count32-clause-err : goal.returns-in_err-put_count32-clause-err
returns-in_err-put_count32-clause-err c =
    let rows = c.args.rows.now in
    on_error c.from_residual.result
    (front_none c.args.out.now.items c.put_count32.new.out.items (digits w32 (length rows) ++ flat_map job_row rows)
    c.in_err-put_count32.ensures.err)

pub returns-in_err-put_each-clause-err : goal.returns-in_err-put_each-clause-err
returns-in_err-put_each-clause-err c =
    let rows = c.args.rows.now in
    on_error c.from_residual-in_err-put_each.result
    (front_second c.args.out.now.items c.put_count32.new.out.items c.put_each.new.out.items (digits w32 (length rows))
    (flat_map job_row rows) c.in_ok-put_count32.ensures.ok c.in_err-put_each.ensures.err)
