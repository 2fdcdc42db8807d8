use Rattle.std.proofs.Common.{◌≡◌, filter}
use Rattle.std.specs.Ordering.{is_lt, is_gt}
use Rattle.file_paths.specs.Path.{path_cmp}
use Rattle.temp_names.proofs.candidate.with_candidate.Given as goal

abbrev pub invariant-loop-candidate : goal.invariant-loop-candidate
invariant-loop-candidate l = record {
  below : l.below.items ≡ filter (λ c. is_lt (path_cmp c.path l.new.path)) l.yielded;
  above : l.above.items ≡ filter (λ c. is_gt (path_cmp c.path l.new.path)) l.yielded;
}
