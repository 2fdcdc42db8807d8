use Rattle.std.proofs.lemmas.Result.{err_from_is_err_and}
use Rattle.cmd_capture.proofs.Halves.{start_fails, setting_fails, both_read}
use Rattle.cmd_capture.proofs.taking.parts_at.Goals as goal

pub returns-in_err-start : goal.returns-in_err-start
returns-in_err-start c =
    let p = err_from_is_err_and c.from_residual.result c.from_residual.ensures.1 in
    rw (p.1, p.2) (start_fails c.args.bytes.now c.args.at c.in_err-start.field-0.0 c.in_err-start.ensures)

pub returns-in_err-setting : goal.returns-in_err-setting
returns-in_err-setting c =
    let p = err_from_is_err_and c.from_residual-in_err-setting.result c.from_residual-in_err-setting.ensures.1 in
    rw (p.1, p.2)
    (setting_fails c.args.bytes.now c.args.at c.in_ok-start.start c.in_ok-start.middle c.in_ok-start.ensures c.in_err-setting.field-0.0
    c.in_err-setting.ensures)

pub returns : goal.returns
returns c =
    rw c.joined.ensures
    (both_read c.args.bytes.now c.args.at c.in_ok-start.start c.in_ok-start.middle c.in_ok-start.ensures c.in_ok-setting.setting
    c.in_ok-setting.next c.in_ok-setting.ensures)
