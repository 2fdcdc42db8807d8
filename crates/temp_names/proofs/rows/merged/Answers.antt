use Rattle.std.proofs.Common.{◌∙◌, ◌++◌, List, ap, subst, rules}
use Rattle.cmd_capture.specs.declared.job.JobRow.{JobRow}
use Rattle.temp_names.specs.Inside.{AreSorted, path_of_row}
use Rattle.temp_names.proofs.Sorting.{sorted_from_sort_by}
use Rattle.temp_names.proofs.Merging.{merged_is}
use Rattle.temp_names.proofs.rows.merged.Goals as goal

pub returns : goal.returns
returns c =
    merged_is c.args.more.items c.args.rows.items _ c.requires
    (subst (λ these. AreSorted path_of_row these c.sort_by.new.self.items)
    (c.in_ok-append.ensures.items ∙ ap (λ (ys : List JobRow). ys ++ c.args.rows.items) c.reverse.ensures.items)
    (sorted_from_sort_by path_of_row _ _ c.in_ok-sort_by.ensures.sorted c.sort_by.ensures.stable (λ a r f called. (search rules, search rules))))
