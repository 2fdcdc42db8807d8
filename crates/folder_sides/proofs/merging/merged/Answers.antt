use Rattle.std.proofs.Common.{not}
use Rattle.folder_sides.specs.Merging.{is_left}
use Rattle.folder_sides.proofs.Lists.{order_filter, if_rows}
use Rattle.folder_sides.proofs.Laid.{conflicts_told}
use Rattle.folder_sides.proofs.Trees.{merged_tree}
use Rattle.folder_sides.proofs.merging.merged.Goals as goal

pub woven-requires : goal.woven-requires
woven-requires c =
    rw (c.as_slice-2.ensures.items, c.in_ok-laid.ensures)
    (order_filter (λ row. not (is_left c.args.sides.now row.path)) c.args.sides.now.logged c.requires.sides.logged.in_order)

pub returns-clause-rows : goal.returns-clause-rows
returns-clause-rows c =
    let sides = c.requires.sides in
    if_rows c.woven.result _ c.woven.ensures
    (rw (c.as_slice.ensures.items, c.as_slice-2.ensures.items, c.in_ok-left.ensures, c.in_ok-laid.ensures)
    (merged_tree c.args.sides.now sides (conflicts_told c.args.sides.now sides c.requires.none)))
