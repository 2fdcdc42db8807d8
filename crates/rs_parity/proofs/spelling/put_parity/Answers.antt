use Rattle.std.proofs.Common.{arith}
use Rattle.std.specs.Int.{w16}
use Rattle.byte_fields.specs.Field.{digits}
use Rattle.byte_fields.proofs.Fronts.{front_none, front_index, on_error}
use Rattle.rs_parity.specs.Spelling.{parity_spelling}
use Rattle.rs_parity.proofs.spelling.put_parity.Goals as goal

pub returns-in_err-put_u16-clause-err : goal.returns-in_err-put_u16-clause-err
unfolding parity_spelling
returns-in_err-put_u16-clause-err c =
    on_error c.from_residual.result
    (front_index (digits w16) c.args.out.now.items c.loop-symbol.out.items c.put_u16.new.out.items c.args.parity.now c.loop-symbol.symbol-index 0 (omega (arith, c.told-parity, c.loop-symbol-test.true)) c.loop-symbol.invariant (front_none _ _ _ c.in_err-put_u16.ensures.err))
