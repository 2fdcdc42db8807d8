use Rattle.std.proofs.Common.{◌++◌, ◌∙◌, sym, take, append_assoc}
use Rattle.std.specs.Option.{option_to_list}
use Rattle.std.specs.List.{filter_map}
use Rattle.file_paths.proofs.Loops.{filter_map_more}
use Rattle.folder_sides.specs.Sides.{conflict_at}
use Rattle.folder_sides.proofs.sides.conflicts.Goals as goal

pub loop-row-preserved : goal.loop-row-preserved
loop-row-preserved c =
    let items = c.as_slice-row-items.ensures.items in
    let more =
    filter_map_more (λ row. conflict_at c.args.sides.now row.path) c.args.sides.now.here c.loop-row.row-index c.row-item.result
    (rw items at c.loop-row-test.true) (rw items at c.row-item.is) in
    rw (c.in_ok-push_found.ensures.ok, c.loop-row.invariant, c.in_ok-conflict_at.ensures) (sym more)

pub loop-path-preserved : goal.loop-path-preserved
loop-path-preserved c =
    let items = c.as_slice-path-items.ensures.items in
    let more =
    filter_map_more (conflict_at c.args.sides.now) c.args.sides.now.beside c.loop-path.path-index c.path-item.result
    (rw items at c.loop-path-test.true) (rw items at c.path-item.is) in
    rw (c.in_ok-push_found-2.ensures.ok, c.loop-path.invariant, c.in_ok-conflict_at-2.ensures, more) (append_assoc (filter_map (λ row. conflict_at c.args.sides.now row.path) c.args.sides.now.here)
    (filter_map (conflict_at c.args.sides.now) (take c.loop-path.path-index c.args.sides.now.beside)) (option_to_list (conflict_at c.args.sides.now c.path-item.result)))
