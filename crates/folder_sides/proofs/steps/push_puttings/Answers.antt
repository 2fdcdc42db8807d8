use Rattle.std.proofs.Common.{◌++◌, ◌∙◌, take, sym, ap, append_assoc}
use Rattle.std.specs.List.{filter_map}
use Rattle.std.specs.Option.{option_to_list}
use Rattle.file_paths.proofs.Loops.{filter_map_more}
use Rattle.folder_sides.specs.Steps.{putting}
use Rattle.folder_sides.proofs.steps.push_puttings.Goals as goal

pub loop-row-preserved : goal.loop-row-preserved
loop-row-preserved c =
    let before = c.args.before.now in
    let front = filter_map (putting before) (take c.loop-row.row-index c.args.after.now) in
    let found = option_to_list (putting before c.row-item.result) in
    let more = filter_map_more (putting before) c.args.after.now c.loop-row.row-index c.row-item.result c.loop-row-test.true c.row-item.is in
    c.in_ok-push_found.ensures.ok ∙ ap (λ o. c.loop-row.steps ++ option_to_list o) c.in_ok-putting.ensures
    ∙ ap (λ l. l ++ found) c.loop-row.invariant ∙ append_assoc c.args.steps.now front found ∙ ap (λ l. c.args.steps.now ++ l) (sym more)
