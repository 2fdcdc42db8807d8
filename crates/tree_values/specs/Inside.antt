-- Words that only the contracts of private functions and the proofs cite.
use Rattle.std.specs.Prelude.{◌≡◌, ℕ, suc, ◌+◌, ◌<◌, ◌≤◌, Bool, ◌||◌, ◌&&◌, not, nat_lt, nat_le, cond, List, [], ◌∷◌, ◌++◌, length, take}
use Rattle.std.specs.Prelude.{drop, slice_get, slice_index_or, None, is_some}
use Rattle.std.specs.List.{list_all, list_any}
use Rattle.std.specs.Str.{bytes_eq}
use Rattle.std.specs.Cmp.Lexicographic.{pointwise}
use Rattle.std.specs.Ordering.{is_lt}
use Rattle.file_paths.specs.Path.{FilePath, path_cmp, is_same_path, folder_of}
use Rattle.file_paths.specs.Limits.{max_file}
use Rattle.tree_values.specs.Limits.{max_rows, max_files}
use Rattle.tree_values.specs.declared.node.Row.{Row}
use Rattle.byte_fields.specs.Field.{Reader}
use Rattle.tree_values.specs.declared.format.Format.{Format}
use Rattle.tree_values.specs.Reading.{room_beside, next_row_at, with_next}
use Rattle.tree_values.specs.Tree.{Volume, AreInOrder, row_at, rows_below, rows_above, is_root, is_folder, node_size, total_size}

-- whether it is the row of the path
abbrev pub is_at : FilePath → Row → Bool
is_at path row = is_same_path row.path path

-- the row of the path is that with index i
pub record StandsAt (rows : Volume) (path : FilePath) (i : ℕ) : Type 0 where
  pub within : i < length rows
  pub at : (d : Row) → (slice_index_or rows i d).path ≡ path
  pub row : row_at rows path ≡ slice_get rows i
  pub below : rows_below rows path ≡ take i rows
  pub above : rows_above rows path ≡ drop (suc i) rows

-- the path has no row, and its place is before index i
pub record BelongsAt (rows : Volume) (path : FilePath) (i : ℕ) : Type 0 where
  pub within : i ≤ length rows
  pub row : row_at rows path ≡ None
  pub below : rows_below rows path ≡ take i rows
  pub above : rows_above rows path ≡ drop i rows

-- whether these rows are a tree with one more row, where they are a tree without it
abbrev pub may_follow : Volume → Row → Bool
may_follow rows row =
    list_all (λ before. is_lt (path_cmp before.path row.path)) rows
    && (not (is_root row.path) && (nat_le 1 row.version && (nat_le (node_size row.node) max_file
    && ((not (is_some row.node) || is_folder rows (folder_of row.path))
    && (nat_lt (length rows) max_rows && nat_le (total_size rows + node_size row.node) max_files)))))

-- the paths, with this one behind them unless it is among them
abbrev pub add_new : List FilePath → FilePath → List FilePath
add_new known path = cond (list_any (pointwise bytes_eq path) known) known (known ++ path ∷ [])

-- the rows are in order, and leave so much room for contents
pub record LeaveRoom (rows : Volume) (room : ℕ) : Type 0 where
  pub in_order : AreInOrder rows
  pub left : room ≡ room_beside rows

-- rows, and the format of those that follow
pub record Begun : Type 0 where
  pub format : Format
  pub rows : Volume

-- the row that follows
abbrev pub begun_row_at : Begun → Reader Row
begun_row_at begun = next_row_at begun.format begun.rows

-- the rows with one more behind them
abbrev pub with_begun : Begun → Row → Begun
with_begun begun row = record { format = begun.format; rows = with_next begun.rows row }
