use Rattle.std.proofs.Common.{◌∷◌, [], arith, length-append, sym, ap, ◌∙◌}
use Rattle.std.proofs.lemmas.Result.{err_from_is_err_and}
use Rattle.byte_fields.proofs.Loop.{goes_on, breaks_off, is_done, passed_one}
use Rattle.byte_fields.proofs.each.take_each.Goals as goal

pub returns-in_err-item-clause-exact : goal.returns-in_err-item-clause-exact
returns-in_err-item-clause-exact g c =
    let p = err_from_is_err_and c.from_residual.result c.from_residual.ensures.1 in
    rw (p.1, p.2) (breaks_off g.T.Item.item_at g.T.Item.after c.args.bytes.now _ c.in_err-item.field-0.0 c.loop.items.items c.args.count c.loop.counter c.loop.state c.loop.at c.loop-test.true c.in_err-item.ensures.read c.loop.invariant.so_far)

pub loop-preserved : goal.loop-preserved
loop-preserved g c =
    let step = goes_on g.T.Item.item_at g.T.Item.after c.args.bytes.now _ c.loop.items.items c.args.count c.loop.counter c.loop.state c.loop.at c.in_ok-item.item c.in_ok-item.next c.loop-test.true c.in_ok-item.ensures.read c.loop.invariant.so_far in
    record {
      so_far = rw (c.in_ok-push.ensures.items, c.in_ok-item.ensures.state) step;
      is = rw c.in_ok-push.ensures.items (c.in_ok-item.ensures.state ∙ ap (λ s. g.T.Item.after s c.in_ok-item.item) c.loop.invariant.is ∙ sym (passed_one g.T.Item.after c.args.state.now c.loop.items.items c.in_ok-item.item));
      as_many = rw c.in_ok-push.ensures.items (omega (arith, c.loop.invariant.as_many, length-append c.loop.items.items (c.in_ok-item.item ∷ [])));
    }

pub returns-clause-exact : goal.returns-clause-exact
returns-clause-exact g c = is_done g.T.Item.item_at g.T.Item.after c.args.bytes.now _ c.loop.items.items c.args.count c.loop.counter c.loop.state c.loop.at c.loop-test.false c.loop.invariant.so_far
