use Rattle.byte_fields.proofs.Fronts.{front_at, on_error}
use Rattle.file_paths.specs.Spelling.{content}
use Rattle.cmd_capture.proofs.spelling.put_all_texts.Goals as goal

pub returns-in_err-put_text-clause-err : goal.returns-in_err-put_text-clause-err
returns-in_err-put_text-clause-err c =
    on_error c.from_residual.result
    (front_at content c.args.out.now.items c.loop-text.out.items c.put_text.new.out.items c.args.texts.now c.loop-text.text-index
    c.text-item.result c.loop-text-test.true c.text-item.is c.loop-text.invariant (rw c.bytes.ensures.value at c.in_err-put_text.ensures.err))
