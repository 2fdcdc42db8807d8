-- Rows under their new paths.
use Rattle.std.specs.Prelude.{not, List, [], ◌∷◌, ◌++◌, Option, option_map, is_none, filter, find}
use Rattle.std.specs.List.{filter_map}
use Rattle.std.specs.Ordering.{is_lt}
use Rattle.file_paths.specs.Path.{FilePath, path_cmp, is_same_path}
use Rattle.cmd_capture.specs.declared.job.JobRow.{JobRow}
use Rattle.temp_names.specs.declared.pairs.Renamed.{Renamed}

-- the path that stands for this one, if another does
unfoldable pub new_path : List Renamed → FilePath → Option FilePath
new_path renaming path = option_map (λ r. r.to) (find (λ r. is_same_path r.from path) renaming)

abbrev pub row_under : FilePath → JobRow → JobRow
row_under path row = record { path = path; node = row.node }

abbrev pub unrenamed_rows : List Renamed → List JobRow → List JobRow
unrenamed_rows renaming rows = filter (λ row. is_none (new_path renaming row.path)) rows

abbrev pub renamed_rows : List Renamed → List JobRow → List JobRow
renamed_rows renaming rows = filter_map (λ row. option_map (λ to. row_under to row) (new_path renaming row.path)) rows

-- the rows, with one more at its place
abbrev pub with_job_row : JobRow → List JobRow → List JobRow
with_job_row new rows =
    filter (λ row. is_lt (path_cmp row.path new.path)) rows ++ new ∷ filter (λ row. not (is_lt (path_cmp row.path new.path))) rows

unfoldable pub with_job_rows : List JobRow → List JobRow → List JobRow
with_job_rows [] rows = rows
with_job_rows (new ∷ more) rows = with_job_rows more (with_job_row new rows)

-- each path that has a new one becomes it, and the rows are in path order again
abbrev pub rename : List Renamed → List JobRow → List JobRow
rename renaming rows = with_job_rows (renamed_rows renaming rows) (unrenamed_rows renaming rows)
