use Rattle.std.proofs.Common.{rules, subst}
use Rattle.temp_names.specs.Inside.{AreSorted, class_of}
use Rattle.temp_names.proofs.Sorting.{sorted_from_sort_by}
use Rattle.temp_names.proofs.classes.sorted_by_class.Goals as goal

pub returns : goal.returns
returns c =
    subst (λ these. AreSorted (class_of c.args.likeness) these c.sort_by.new.self.items) c.in_ok-sorted.ensures
    (sorted_from_sort_by (class_of c.args.likeness) _ _ c.in_ok-sort_by.ensures.sorted c.sort_by.ensures.stable (λ a r f called. (search rules, search rules)))
