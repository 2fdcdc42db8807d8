use Rattle.std.proofs.Common.{rules, filter, sym, subst}
use Rattle.std.specs.Ordering.{is_lt}
use Rattle.std.proofs.lemmas.List.Sorted.{IsPartitionPoint-from_clause}
use Rattle.file_paths.specs.Path.{path_cmp}
use Rattle.temp_names.specs.Renaming.{is_alike}
use Rattle.temp_names.specs.Inside.{Rises, path_of_candidate}
use Rattle.temp_names.proofs.Sorting.{below_in_front, rising_sorted}
use Rattle.temp_names.proofs.Both.{place_is_rank}
use Rattle.temp_names.proofs.pairs.rank.Goals as goal

pub returns : goal.returns
returns c =
    let like = c.alike-like.result.now in
    let class = filter (is_alike c.args.likeness c.args.c.now) c.args.clients.now in
    let rises = subst (Rises path_of_candidate) (sym c.alike-like.ensures) (rising_sorted path_of_candidate class c.requires.paths) in
    let parts =
    IsPartitionPoint-from_clause (λ d. is_lt (path_cmp (path_of_candidate d) c.args.c.now.path)) like _ c.partition_point.ensures.partitioned
    (below_in_front path_of_candidate like c.args.c.now.path rises) (λ a r f called. (search rules, search rules)) in
    place_is_rank c.args.likeness c.args.clients.now like c.args.c.now c.partition_point.result c.alike-like.ensures c.partition_point.ensures.bound parts
