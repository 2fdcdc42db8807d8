use Rattle.folder_sides.specs.Taking.{is_left_out}
use Rattle.folder_sides.proofs.Lists.{order_filter, if_rows}
use Rattle.folder_sides.proofs.Takes.{standing_tree}
use Rattle.folder_sides.proofs.taking.standing.Goals as goal

pub woven-requires : goal.woven-requires
woven-requires c =
    rw (c.as_slice-2.ensures.items, c.in_ok-left_out.ensures)
    (order_filter (λ row. is_left_out c.args.sides.now row.path) c.args.sides.now.logged c.requires.logged.in_order)

pub returns-clause-rows : goal.returns-clause-rows
returns-clause-rows c =
    if_rows c.woven.result _ c.woven.ensures
    (rw (c.as_slice.ensures.items, c.as_slice-2.ensures.items, c.in_ok-here.ensures, c.in_ok-left_out.ensures)
    (standing_tree c.args.sides.now c.requires))
