use Rattle.std.proofs.Common.{◌∙◌, sym, ap, option_map, Some}
use Rattle.byte_fields.specs.Numbers.{as_u32}
use Rattle.cmd_capture.specs.declared.capturing.CaptureError.TheVariants.{BadInput}
use Rattle.cmd_capture.specs.Capture.{holds_behind, in_mark, is_bad_path, input_of}
use Rattle.file_paths.proofs.Loops.{filter_map_more, position_here, position_later}
use Rattle.cmd_capture.proofs.capturing.inputs_of.Goals as goal

pub returns-in-Err-clause-bad : goal.returns-in-Err-clause-bad
returns-in-Err-clause-bad c = λ other.
    let bad = rw (c.bytes.ensures.value, c.index-options-i.is) at c.in-Err.ensures.bad (c.bad_input.ensures.cause other) in
    let here =
    position_here
    (holds_behind in_mark
    (is_bad_path c.args.cwd.now)) c.args.options.now c.loop-i.i c.index-options-i.result c.loop-i-test.true c.loop-i.invariant.0 bad in
    ap (option_map (λ i. BadInput (as_u32 i))) here ∙ ap (λ e. Some e) (sym (c.bad_input.ensures.place other))

pub loop-i-preserved : goal.loop-i-preserved
loop-i-preserved c =
    let good = rw (c.bytes.ensures.value, c.index-options-i.is) at c.in-Ok.ensures.good in
    let more = filter_map_more
    (input_of c.args.cwd.now) c.args.options.now c.loop-i.i c.index-options-i.result c.loop-i-test.true c.index-options-i.is in (
      position_later
          (holds_behind in_mark
          (is_bad_path c.args.cwd.now)) c.args.options.now c.loop-i.i c.index-options-i.result c.loop-i-test.true c.loop-i.invariant.0 good,
      rw (c.in_ok-push_found-in-Ok.ensures.ok, c.loop-i.invariant.1, c.in-Ok.ensures.path, c.bytes.ensures.value) (sym more),
    )
