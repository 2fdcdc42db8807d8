-- Rows that a program cannot be given, since the system's paths are texts.
use Rattle.std.specs.Prelude.{ℕ, ◌==◌, Bool, not, List, [], ◌∷◌, ◌++◌, length, take, drop, position, Option, Some, None, unwrap_or, if◌then◌else◌}
use Rattle.std.specs.List.{filter, filter_map, slice_split}
use Rattle.std.specs.Ordering.{is_lt}
use Rattle.std.specs.Str.{is_utf8}
use Rattle.file_paths.specs.Path.{path_cmp, path_text}
use Rattle.cmd_capture.specs.declared.job.JobRow.{JobRow}
use Rattle.cmd_capture.specs.declared.job.RawRow.{RawRow}

-- a path that is no UTF-8 is withheld, and so are all below it
abbrev pub is_withheld : RawRow → Bool
is_withheld row = not (is_utf8 row.path)

-- those of the rows that a runner tells
abbrev pub withheld_in : List RawRow → List RawRow
withheld_in rows = filter is_withheld rows

-- those of the rows of a job, each under the text of its path
abbrev pub withheld_row : JobRow → Option RawRow
withheld_row row = if is_utf8 (path_text row.path) then None else Some (record { path = path_text row.path; node = row.node })

abbrev pub withheld_of : List JobRow → List RawRow
withheld_of rows = filter_map withheld_row rows

-- the names that a text joins by `/`
abbrev pub names_of : List ℕ → List (List ℕ)
names_of text = slice_split (λ b. b == 47) text

-- whether a row's path is not below that of the first, in path order
abbrev pub is_behind : RawRow → RawRow → Bool
is_behind first row = not (is_lt (path_cmp (names_of row.path) (names_of first.path)))

-- how many from the front are below the row
abbrev pub count_below : RawRow → List RawRow → ℕ
count_below row withheld = unwrap_or (position (is_behind row) withheld) (length withheld)

-- the rows that were read with those that were withheld, in path order: before each that was read stand those below it
abbrev pub told_back : List RawRow → List RawRow → List RawRow
told_back [] withheld = withheld
told_back (row ∷ rows) withheld =
    take (count_below row withheld) withheld ++ row ∷ told_back rows (drop (count_below row withheld) withheld)
