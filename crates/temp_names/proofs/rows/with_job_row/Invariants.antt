use Rattle.std.proofs.Common.{◌≡◌, filter}
use Rattle.std.specs.Prelude.{not}
use Rattle.std.specs.Ordering.{is_lt}
use Rattle.file_paths.specs.Path.{path_cmp}
use Rattle.temp_names.proofs.rows.with_job_row.Given as goal

abbrev pub invariant-loop-row : goal.invariant-loop-row
invariant-loop-row l = record {
  below : l.below.items ≡ filter (λ row. is_lt (path_cmp row.path l.new.path)) l.yielded;
  above : l.above.items ≡ filter (λ row. not (is_lt (path_cmp row.path l.new.path))) l.yielded;
}
