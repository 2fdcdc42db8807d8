use Rattle.std.proofs.Common.{◌≡◌, ◌∙◌, true, false, sym}
use Rattle.std.proofs.lemmas.Result.{err_from_is_err_and}
use Rattle.byte_fields.proofs.Loop.{records_go_on, records_break_off, records_are_taken}
use Rattle.byte_fields.proofs.records.take_until_end.Goals as goal

pub returns-in_err-at : goal.returns-in_err-at
returns-in_err-at g c =
    let p = err_from_is_err_and c.from_residual.result c.from_residual.ensures.1 in
    let test : c.is_torn.result ≡ false = cc c.loop-alloc-test.true in
    rw (p.1, p.2)
    (records_break_off g.S.Taken.item_at g.S.Taken.after c.args.bytes.now _ c.in_err-at.field-0.0 c.args.state.now c.loop-alloc.state c.loop-alloc.at (sym c.is_torn.ensures.torn ∙ test) (c.is_torn.ensures.left test) c.in_err-at.ensures.into c.loop-alloc.invariant)

pub loop-alloc-preserved : goal.loop-alloc-preserved
loop-alloc-preserved g c =
    let test : c.is_torn.result ≡ false = cc c.loop-alloc-test.true in
    records_go_on g.S.Taken.item_at g.S.Taken.after c.args.bytes.now _ c.args.state.now c.loop-alloc.state c.loop-alloc.at _ _ (sym c.is_torn.ensures.torn ∙ test) (c.is_torn.ensures.left test) c.in_ok-at.ensures.further c.in_ok-at.ensures.into c.loop-alloc.invariant

pub returns : goal.returns
returns g c =
    let test : c.is_torn.result ≡ true = cc c.loop-alloc-test.false in
    records_are_taken g.S.Taken.item_at g.S.Taken.after c.args.bytes.now _ c.args.state.now c.loop-alloc.state c.loop-alloc.at (sym c.is_torn.ensures.torn ∙ test) c.loop-alloc.invariant
