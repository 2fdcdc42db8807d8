use Rattle.std.proofs.Common.{◌≡◌, None, position, rules}
use Rattle.cmd_capture.specs.Capture.{is_unknown}
use Rattle.cmd_capture.proofs.Captured.{text_refused}
use Rattle.cmd_capture.proofs.capturing.captured.Goals as goal

pub returns-in-Err-clause-err : goal.returns-in-Err-clause-err
returns-in-Err-clause-err c =
    λ _.
    let parts = rw c.as_slice.ensures.items at c.split_at_dashes.ensures in
    let known : position is_unknown c.split_at_dashes.result.0.now ≡ None = search rules in
    text_refused c.args.words.now c.args.cwd.now c.split_at_dashes.result.0.now c.split_at_dashes.result.1.now c.in-Some.program.now
    c.in-Some.args.now c.in-Err.refusal parts.options parts.program c.in-Some.ensures.cases.0 known c.in_ok-inputs.ensures.good
    c.in-Err.ensures
