use Rattle.std.proofs.Common.{rules, subst}
use Rattle.temp_names.specs.Inside.{AreSorted, path_of_pair}
use Rattle.temp_names.proofs.Sorting.{sorted_from_sort_by}
use Rattle.temp_names.proofs.rows.sorted_pairs.Goals as goal

pub returns : goal.returns
returns c =
    subst (λ these. AreSorted path_of_pair these c.sort_by.new.self.items) c.in_ok-sorted.ensures
    (sorted_from_sort_by path_of_pair _ _ c.in_ok-sort_by.ensures.sorted c.sort_by.ensures.stable (λ a r f called. (search rules, search rules)))
