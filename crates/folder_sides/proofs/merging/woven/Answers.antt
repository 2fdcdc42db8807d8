use Rattle.std.proofs.Common.{◌≡◌, sym, subst}
use Rattle.std.specs.Ordering.{is_gt}
use Rattle.file_paths.specs.Path.{path_cmp}
use Rattle.cmd_capture.specs.Rows.{JobRowsAreInOrder}
use Rattle.folder_sides.proofs.Lists.{woven_turn, order_filter}
use Rattle.folder_sides.proofs.merging.woven.Goals as goal

pub loop-row-preserved : goal.loop-row-preserved
loop-row-preserved c =
    let high = c.in_ok-rest.ensures.rest in (
      woven_turn c.loop-row.made c.in-Some.more.now c.loop-row.rest.now _ c.push_below.new.rows c.push.new.self c.in_ok-rest.rest.now c.loop-row.left.now
          c.in-Some.row.now c.in_ok-copy.field-0 c.loop-row.invariant.0 c.in-Some.ensures.cases.0 c.in_ok-rest.ensures.rows high c.in_ok-push.ensures.ok
          c.in_ok-copy.ensures,
      subst JobRowsAreInOrder (sym high)
          (order_filter (λ other. is_gt (path_cmp other.path c.in-Some.row.now.path)) c.loop-row.rest.now c.loop-row.invariant.1),
    )
