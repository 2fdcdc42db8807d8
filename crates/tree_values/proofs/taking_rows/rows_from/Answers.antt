use Rattle.std.proofs.Common.{◌≡◌, [], sym, ap, subst, ◌∙◌}
use Rattle.std.proofs.lemmas.Result.{err_from_is_err_and}
use Rattle.byte_fields.specs.Field.{Fails}
use Rattle.tree_values.specs.Inside.{Begun}
use Rattle.tree_values.proofs.RowsTaken.{begun_passed, begun_read}
use Rattle.tree_values.proofs.taking_rows.rows_from.Goals as goal

pub returns-in_err-next : goal.returns-in_err-next
returns-in_err-next c =
    let p = err_from_is_err_and c.from_residual.result c.from_residual.ensures.1 in
    let fails = rw c.new.ensures at c.in_err-next.ensures in
    rw (p.1, p.2) (subst (Fails c.in_err-next.field-0.0) (begun_read c.args.format c.args.count [] c.args.bytes.now c.args.start) fails)

pub returns : goal.returns
returns c =
    let read = rw c.new.ensures at c.in_ok-next.ensures in
    let same : c.into_rows.result ≡ read.0 = c.into_rows.ensures ∙ ap (λ (b : Begun). b.rows) (read.1.1 ∙ begun_passed c.args.format [] read.0) in
    rw same (sym (begun_read c.args.format c.args.count [] c.args.bytes.now c.args.start) ∙ read.1.0)
