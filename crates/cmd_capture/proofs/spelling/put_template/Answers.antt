use Rattle.std.proofs.Common.{◌≡◌, length, ◌∙◌}
use Rattle.std.specs.Int.{w8}
use Rattle.byte_fields.specs.Field.{digits}
use Rattle.byte_fields.proofs.Fronts.{front_none, front_before, on_error}
use Rattle.cmd_capture.specs.Spelling.{template}
use Rattle.cmd_capture.proofs.spelling.put_template.Goals as goal

pub returns-in_err-put_count8-clause-err : goal.returns-in_err-put_count8-clause-err
returns-in_err-put_count8-clause-err c =
    on_error c.from_residual.result
    (front_none c.args.out.now.items c.put_count8.new.out.items (template c.args.bytes.now) c.in_err-put_count8.ensures.err)

pub returns-in_err-extend_from_slice-clause-err : goal.returns-in_err-extend_from_slice-clause-err
returns-in_err-extend_from_slice-clause-err c =
    let same : c.extend_from_slice.new.self.items ≡ c.put_count8.new.out.items = cc (c.in_err-extend_from_slice.ensures.items) in
    on_error c.from_residual-in_err-extend_from_slice.result
    (front_before c.args.out.now.items c.extend_from_slice.new.self.items (digits w8 (length c.args.bytes.now)) c.args.bytes.now
    (same ∙ c.in_ok-put_count8.ensures.ok))
