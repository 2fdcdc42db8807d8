use Rattle.byte_fields.proofs.Fronts.{front_first, front_second, on_error}
use Rattle.file_paths.specs.Spelling.{content}
use Rattle.cmd_capture.proofs.environment.put_variable.Goals as goal

pub returns-in_err-put_text-clause-err : goal.returns-in_err-put_text-clause-err
returns-in_err-put_text-clause-err c =
    on_error c.from_residual.result
    (front_first c.args.out.now.items c.put_text.new.out.items (content c.args.key.now) (content c.args.value.now)
    (rw c.bytes.ensures.value at c.in_err-put_text.ensures.err))

pub returns-in_err-put_text-2-clause-err : goal.returns-in_err-put_text-2-clause-err
returns-in_err-put_text-2-clause-err c =
    on_error c.from_residual-in_err-put_text-2.result
    (front_second c.args.out.now.items c.put_text.new.out.items c.put_text-2.new.out.items (content c.args.key.now)
    (content c.args.value.now) (rw c.bytes.ensures.value at c.in_ok-put_text.ensures.ok)
    (rw c.bytes-2.ensures.value at c.in_err-put_text-2.ensures.err))
