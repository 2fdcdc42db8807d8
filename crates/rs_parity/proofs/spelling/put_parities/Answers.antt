use Rattle.std.proofs.Common.{[]}
use Rattle.byte_fields.proofs.Fronts.{front_index, on_error}
use Rattle.rs_parity.specs.Spelling.{parity_spelling}
use Rattle.rs_parity.proofs.spelling.put_parities.Goals as goal

pub returns-in_err-put_parity-clause-err : goal.returns-in_err-put_parity-clause-err
returns-in_err-put_parity-clause-err c =
    on_error c.from_residual.result
    (front_index parity_spelling c.args.out.now.items c.loop-parity.out.items c.put_parity.new.out.items c.args.parities.now c.loop-parity.parity-index [] c.loop-parity-test.true c.loop-parity.invariant c.in_err-put_parity.ensures.err)
