use Rattle.byte_fields.proofs.Fronts.{front_at, on_error}
use Rattle.cmd_capture.specs.Spelling.{template}
use Rattle.cmd_capture.proofs.spelling.put_all_templates.Goals as goal

pub returns-in_err-put_template-clause-err : goal.returns-in_err-put_template-clause-err
returns-in_err-put_template-clause-err c =
    on_error c.from_residual.result
    (front_at template c.args.out.now.items c.loop-template.out.items c.put_template.new.out.items c.args.templates.now c.loop-template.template-index
    c.template-item.result c.loop-template-test.true c.template-item.is c.loop-template.invariant (rw c.bytes.ensures.value at c.in_err-put_template.ensures.err))
