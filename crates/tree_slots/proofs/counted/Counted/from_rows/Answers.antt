use Rattle.tree_slots.proofs.Listing.{can_follow}
use Rattle.tree_slots.proofs.counted.Counted.from_rows.Goals as goal

pub insert-requires-clause-new : goal.insert-requires-clause-new
insert-requires-clause-new c =
    let next = can_follow c.args.rows.now c.loop-row.row-index c.row-item.result c.requires c.loop-row-test.true c.row-item.is in
    rw (c.loop-row.invariant, c.in_ok-copy.ensures) next.new

pub loop-row-preserved : goal.loop-row-preserved
loop-row-preserved c =
    let next = can_follow c.args.rows.now c.loop-row.row-index c.row-item.result c.requires c.loop-row-test.true c.row-item.is in
    rw (c.in_ok-insert.ensures.ok, c.loop-row.invariant, c.in_ok-copy.ensures) next.more
