use Rattle.std.proofs.Common.{◌≡◌, ◌∙◌, sym, Some, subst}
use Rattle.cmd_capture.specs.Rows.{next_row, AreJobRows}
use Rattle.work_area.proofs.Filters.{legal_turn, next_may_follow, next_is_read, read_is_path}
use Rattle.work_area.proofs.JobRows.{one_more_row}
use Rattle.work_area.proofs.rows.rows_of.Goals as goal

pub loop-i-preserved : goal.loop-i-preserved
loop-i-preserved c =
    let next : next_row c.loop-i.rows c.row-item.result ≡ Some c.in-Some.row =
    rw c.as_slice.ensures.items at (sym c.in_ok-row.ensures ∙ c.in-Some.is) in
    let turn =
    legal_turn c.args.raw.now c.loop-i.rows c.loop-i.i c.row-item.result c.in-Some.row
    (rw c.as_slice-row-items.ensures.items at c.loop-i-test.true) (rw c.as_slice-row-items.ensures.items at c.row-item.is)
    c.loop-i.invariant.0 c.loop-i.invariant.1 next in
    let are =
    one_more_row c.loop-i.rows c.in-Some.row c.loop-i.invariant.2
    (read_is_path c.row-item.result c.in-Some.row
    (next_is_read c.loop-i.rows c.row-item.result c.in-Some.row next)) (next_may_follow c.loop-i.rows c.row-item.result c.in-Some.row next)
    in
    (c.in_ok-push-in-Some.ensures.ok ∙ turn.0, turn.1, subst AreJobRows (sym c.in_ok-push-in-Some.ensures.ok) are)
