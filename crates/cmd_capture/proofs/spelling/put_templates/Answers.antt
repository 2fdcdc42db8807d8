use Rattle.std.proofs.Common.{length}
use Rattle.std.specs.Int.{w16}
use Rattle.std.specs.List.{flat_map}
use Rattle.byte_fields.specs.Field.{digits}
use Rattle.byte_fields.proofs.Fronts.{front_none, front_second, on_error}
use Rattle.cmd_capture.specs.Spelling.{counted, template}
use Rattle.cmd_capture.proofs.spelling.put_templates.Goals as goal

pub returns-in_err-put_count16-clause-err : goal.returns-in_err-put_count16-clause-err
returns-in_err-put_count16-clause-err c =
    on_error c.from_residual.result
    (front_none c.args.out.now.items c.put_count16.new.out.items (counted template c.args.templates.now) c.in_err-put_count16.ensures.err)

pub returns-in_err-put_all_templates-clause-err : goal.returns-in_err-put_all_templates-clause-err
returns-in_err-put_all_templates-clause-err c =
    on_error c.from_residual-in_err-put_all_templates.result
    (front_second c.args.out.now.items c.put_count16.new.out.items c.put_all_templates.new.out.items (digits w16 (length c.args.templates.now))
    (flat_map template c.args.templates.now) c.in_ok-put_count16.ensures.ok c.in_err-put_all_templates.ensures.err)
