use Rattle.std.proofs.lemmas.Result.{err_from_is_err_and}
use Rattle.byte_fields.proofs.Loop.{gathers_on, gathers_off, all_gathered}
use Rattle.byte_fields.proofs.each.take_all.Goals as goal

pub returns-in_err-at : goal.returns-in_err-at
returns-in_err-at g c =
    let p = err_from_is_err_and c.from_residual.result c.from_residual.ensures.1 in
    rw (p.1, p.2) (gathers_off g.S.Taken.item_at g.S.Taken.after c.args.bytes.now _ c.in_err-at.field-0.0 c.args.state.now c.args.count c.loop.counter c.loop.state c.loop.at c.loop-test.true c.in_err-at.ensures c.loop.invariant)

pub loop-preserved : goal.loop-preserved
loop-preserved g c = gathers_on g.S.Taken.item_at g.S.Taken.after c.args.bytes.now _ c.args.state.now c.args.count c.loop.counter c.loop.state c.loop.at _ _ c.loop-test.true c.in_ok-at.ensures c.loop.invariant

pub returns : goal.returns
returns g c = all_gathered g.S.Taken.item_at g.S.Taken.after c.args.bytes.now _ c.args.state.now c.args.count c.loop.counter c.loop.state c.loop.at c.loop-test.false c.loop.invariant
