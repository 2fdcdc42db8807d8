-- Rows of a job: what stands at a path, and which lists of raw rows are legal.
use Rattle.std.specs.Prelude.{◌≡◌, ℕ, ◌<◌, Bool, true, false, not, ◌&&◌, ◌||◌, List, [], ◌∷◌, length, take, find, Option, Some, None}
use Rattle.std.specs.Prelude.{is_some, option_map, option_and_then, slice_get, if◌then◌else◌}
use Rattle.std.specs.List.{list_all, filter_map, AllByRecursion}
use Rattle.std.specs.Ordering.{is_lt}
use Rattle.std.specs.declared.cmp.Ordering.TheVariants.{Less}
use Rattle.file_paths.specs.Path.{FilePath, IsPath, path_of, path_cmp, is_same_path, folder_of}
use Rattle.tree_values.specs.Tree.{is_root, is_folder_node}
use Rattle.tree_values.specs.declared.node.Node.{Node}
use Rattle.cmd_capture.specs.Capture.{ok}
use Rattle.cmd_capture.specs.declared.job.JobRow.{JobRow}
use Rattle.cmd_capture.specs.declared.job.RawRow.{RawRow}

-- ---- what stands at a path

abbrev pub is_job_row_at : FilePath → JobRow → Bool
is_job_row_at path row = is_same_path row.path path

-- the node of a path; none where it has no row
abbrev pub node_in : List JobRow → FilePath → Option Node
node_in rows path = option_map (λ row. row.node) (find (is_job_row_at path) rows)

-- the root is always a folder
abbrev pub is_folder_in : List JobRow → FilePath → Bool
is_folder_in rows path = is_root path || is_folder_node (node_in rows path)

-- each row's path is above those before it
abbrev pub JobRowsAreInOrder : List JobRow → Type 0
JobRowsAreInOrder [] = Unit {0}
JobRowsAreInOrder (row ∷ rows) = AllByRecursion (λ next. path_cmp row.path next.path ≡ Less) rows × JobRowsAreInOrder rows

-- a path, and not the root
pub record IsJobRow (row : JobRow) : Type 0 where
  pub is_path : IsPath row.path
  pub below_root : is_root row.path ≡ false

-- the rows of a job, or of a legal outcome: in order, each in a folder of theirs or in the root
pub record AreJobRows (rows : List JobRow) : Type 0 where
  pub in_order : JobRowsAreInOrder rows
  pub each : AllByRecursion IsJobRow rows
  pub in_folders : (path : FilePath) → is_some (node_in rows path) ≡ true → is_folder_in rows (folder_of path) ≡ true

-- ---- legal rows

-- whether the row may stand behind these: not the root, above them all, and in one of their folders or in the root
abbrev pub may_follow_rows : List JobRow → JobRow → Bool
may_follow_rows rows row =
    not (is_root row.path)
    && (list_all (λ before. is_lt (path_cmp before.path row.path)) rows
    && is_folder_in rows (folder_of row.path))

-- the row whose path the text spells
abbrev pub read_row : RawRow → Option JobRow
read_row raw = option_map (λ path. record { path = path; node = raw.node }) (ok (path_of raw.path))

abbrev pub read_rows : List RawRow → List JobRow
read_rows raws = filter_map read_row raws

-- the row, where its text spells a path that may stand behind these rows
abbrev pub next_row : List JobRow → RawRow → Option JobRow
next_row before raw = option_and_then (λ row. if may_follow_rows before row then Some row else None) (read_row raw)

-- whether the raw row with this index may stand behind those before it
abbrev pub is_legal_at : List RawRow → ℕ → Bool
is_legal_at raws i = is_some (option_and_then (next_row (read_rows (take i raws))) (slice_get raws i))

-- each raw row may stand behind those before it
abbrev pub AreLegal : List RawRow → Type 0
AreLegal raws = (i : ℕ) → i < length raws → is_legal_at raws i ≡ true

-- the raw row with this index is the first that may not
pub record IsFirstOdd (raws : List RawRow) (i : ℕ) : Type 0 where
  pub within : i < length raws
  pub odd : is_legal_at raws i ≡ false
  pub first : (k : ℕ) → k < i → is_legal_at raws k ≡ true
