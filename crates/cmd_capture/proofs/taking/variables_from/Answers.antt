use Rattle.std.proofs.Common.{◌∙◌}
use Rattle.std.proofs.lemmas.Result.{err_from_is_err_and}
use Rattle.cmd_capture.specs.Reading.{variable_at, with_pair}
use Rattle.byte_fields.proofs.Loop.{goes_on, breaks_off, is_done}
use Rattle.cmd_capture.proofs.Pairs.{new_key_is_last}
use Rattle.cmd_capture.proofs.taking.variables_from.Goals as goal

pub returns-in_err-key : goal.returns-in_err-key
returns-in_err-key c =
    let p = err_from_is_err_and c.from_residual.result c.from_residual.ensures.1 in
    rw (p.1, p.2)
    (breaks_off variable_at with_pair c.args.bytes.now _ c.in_err-key.field-0.0 c.loop.env c.args.count c.loop.counter c.loop.env c.loop.at
    c.loop-test.true c.in_err-key.ensures.exact c.loop.invariant)

pub loop-preserved : goal.loop-preserved
loop-preserved c =
    let last = c.in_ok-set.ensures.set ∙ new_key_is_last c.loop.env c.in_ok-key.key c.in_ok-key.value c.in_ok-key.ensures.new in
    let step =
    goes_on variable_at with_pair c.args.bytes.now _ c.loop.env c.args.count c.loop.counter c.loop.env c.loop.at
    (c.in_ok-key.key, c.in_ok-key.value) c.in_ok-key.next c.loop-test.true c.in_ok-key.ensures.exact c.loop.invariant in
    rw last step

pub returns : goal.returns
returns c =
    is_done variable_at with_pair c.args.bytes.now _ c.loop.env c.args.count c.loop.counter c.loop.env c.loop.at c.loop-test.false
    c.loop.invariant
