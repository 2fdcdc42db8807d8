use Rattle.byte_fields.proofs.Fronts.{front_at, on_error}
use Rattle.byte_fields.proofs.each.put_each.Goals as goal

pub returns-in_err-put-clause-err : goal.returns-in_err-put-clause-err
returns-in_err-put-clause-err g c =
    on_error c.from_residual.result
    (front_at g.T.Spelled.spelling c.args.out.now.items c.loop-item.out.items c.put.new.out.items c.args.items.now c.loop-item.item-index c.item-item.result c.loop-item-test.true c.item-item.is c.loop-item.invariant c.in_err-put.ensures.err)
