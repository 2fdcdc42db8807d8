use Rattle.std.proofs.Common.{rules, ◌∙◌}
use Rattle.std.specs.Ordering.{is_lt, is_le}
use Rattle.std.proofs.lemmas.List.Sorted.{IsPartitionPoint-from_clause}
use Rattle.file_paths.specs.Path.{path_cmp}
use Rattle.temp_names.specs.Inside.{path_of_candidate}
use Rattle.temp_names.proofs.Sorting.{below_in_front, not_above_in_front, back_rises, tied_part}
use Rattle.temp_names.proofs.classes.candidates_at.Goals as goal

pub returns : goal.returns
returns c =
    let xs = c.args.sorted.now in
    let rest = c.split_at.result.1.now in
    let back = c.split_at.ensures.back in
    let few = c.partition_point-first.ensures.bound in
    let low =
    IsPartitionPoint-from_clause (λ d. is_lt (path_cmp (path_of_candidate d) c.args.path.now)) xs _ c.partition_point-first.ensures.partitioned
    (below_in_front path_of_candidate xs c.args.path.now c.requires) (λ a r f called. (search rules, search rules)) in
    let high =
    IsPartitionPoint-from_clause (λ d. is_le (path_cmp (path_of_candidate d) c.args.path.now)) rest _ c.partition_point-count.ensures.partitioned
    (not_above_in_front path_of_candidate rest c.args.path.now (back_rises path_of_candidate xs rest c.partition_point-first.result back few c.requires)) (λ a r f called. (search rules, search rules)) in
    c.split_at-2.ensures.front
    ∙ tied_part path_of_candidate xs rest c.args.path.now c.partition_point-first.result c.partition_point-count.result few back low high c.partition_point-count.ensures.bound
