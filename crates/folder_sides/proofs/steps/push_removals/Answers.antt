use Rattle.std.proofs.Common.{◌++◌, ◌∙◌, ap}
use Rattle.std.specs.Option.{option_to_list}
use Rattle.folder_sides.specs.Steps.{removal}
use Rattle.work_area.proofs.Filters.{from_the_back}
use Rattle.folder_sides.proofs.steps.push_removals.Goals as goal

pub loop-row-preserved : goal.loop-row-preserved
loop-row-preserved c =
    from_the_back
    (removal c.args.after.now) _ c.loop-row.steps c.push_found.new.self c.loop-row.rest.now c.in-Some.front.now c.in-Some.row.now
    c.loop-row.invariant c.in-Some.ensures.cases.0
    (c.in_ok-push_found.ensures.ok ∙ ap (λ o. c.loop-row.steps ++ option_to_list o) c.in_ok-removal.ensures)
