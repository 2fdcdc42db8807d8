use Rattle.std.proofs.Common.{◌++◌, sym}
use Rattle.folder_sides.specs.Merging.{is_left}
use Rattle.folder_sides.proofs.Lists.{filter_more}
use Rattle.folder_sides.proofs.merging.rows_left.Goals as goal

pub loop-row-preserved : goal.loop-row-preserved
loop-row-preserved c =
    let items = c.as_slice-row-items.ensures.items in
    let more =
    filter_more (λ row. is_left c.args.sides.now row.path) c.args.sides.now.here c.loop-row.row-index c.row-item.result (rw items at c.loop-row-test.true)
    (rw items at c.row-item.is) in
    rw (c.in_ok-push_found.ensures.ok, c.loop-row.invariant, c.in_ok-row_if.ensures, c.is_left.ensures) (sym more)
