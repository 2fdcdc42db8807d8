-- A tree is a list of rows in the order of their paths: what it is at a path, its rules, and how an effect changes it.
use Rattle.std.specs.Prelude.{◌≡◌, ℕ, ◌+◌, ◌-◌, ◌^◌, ◌<◌, ◌≤◌, Bool, true, false, ◌||◌, ◌&&◌, not, ◌==◌, nat_lt, nat_le, List, [], ◌∷◌}
use Rattle.std.specs.Prelude.{◌++◌, length, take, filter, find, map, sum_by, ⊤, Option, Some, None, is_some, option_map, option_and_then}
use Rattle.std.specs.Prelude.{unwrap_or, Result, IsTrue, if◌then◌else◌}
use Rattle.std.specs.List.{AllByRecursion}
use Rattle.std.specs.declared.cmp.Ordering.TheVariants.{Less}
use Rattle.std.specs.Ordering.{is_lt, is_gt}
use Rattle.byte_fields.specs.Codec.{IsBytes}
use Rattle.file_paths.specs.Path.{FilePath, IsPath, path_cmp, is_same_path, folder_of, last_name}
use Rattle.file_paths.specs.Limits.{max_file}
use Rattle.tree_values.specs.Limits.{max_rows, max_files}
use Rattle.file_paths.specs.Refusals.{when, unless_refused}
use Rattle.tree_values.specs.declared.node.Node.{Node}
use Rattle.tree_values.specs.declared.node.Node.TheVariants.{Folder, File}
use Rattle.tree_values.specs.declared.node.Row.{Row}
use Rattle.tree_values.specs.declared.node.Effect.{Effect}
use Rattle.tree_values.specs.declared.node.Effect.TheVariants.{Make, Put, Remove, Move, Mode}
use Rattle.tree_values.specs.declared.node.TreeError.{TreeError}
use Rattle.tree_values.specs.declared.node.TreeError.TheVariants.{RootFixed, NoParent, Exists, Missing, IsFolder, NotEmpty, RowsFull}
use Rattle.tree_values.specs.declared.node.TreeError.TheVariants.{FileTooLarge, TreeFull, VersionTop}
use Rattle.tree_values.specs.declared.rows.RowsError.{RowsError}
use Rattle.tree_values.specs.declared.rows.RowsError.TheVariants.{BadRow, Memory}

-- a tree, as contracts see it: its rows in the order of their paths
abbrev pub Volume : Type 0
Volume = List Row

-- ---- what stands at a path

-- the row of a path
abbrev pub row_at : Volume → FilePath → Option Row
row_at rows path = find (λ row. is_same_path row.path path) rows

-- how many applied effects touched the path
abbrev pub version_at : Volume → FilePath → ℕ
version_at rows path = unwrap_or (option_map (λ row. row.version) (row_at rows path)) 0

-- what stands at the path; nothing where it has no row
abbrev pub node_at : Volume → FilePath → Option Node
node_at rows path = option_and_then (λ row. row.node) (row_at rows path)

-- whether a folder stands there
abbrev pub is_folder_node : Option Node → Bool
is_folder_node None = false
is_folder_node (Some Folder) = true
is_folder_node (Some (File content exec)) = false

-- the path of no name
abbrev pub is_root : FilePath → Bool
is_root [] = true
is_root (name ∷ names) = false

-- the root is always a folder
abbrev pub is_folder : Volume → FilePath → Bool
is_folder rows path = is_root path || is_folder_node (node_at rows path)

-- how many bytes a node has
abbrev pub node_size : Option Node → ℕ
node_size None = 0
node_size (Some Folder) = 0
node_size (Some (File content exec)) = length content

-- the content of a file; no bytes where there is none
abbrev pub file_bytes : Option Node → List ℕ
file_bytes None = []
file_bytes (Some Folder) = []
file_bytes (Some (File content exec)) = content

-- whether a file that may be run stands there
abbrev pub is_exec : Option Node → Bool
is_exec None = false
is_exec (Some Folder) = false
is_exec (Some (File content exec)) = exec

-- the bytes of all files
abbrev pub total_size : Volume → ℕ
total_size rows = sum_by (λ row. node_size row.node) rows

-- whether the row has a node, in this folder
abbrev pub is_child : FilePath → Row → Bool
is_child path row = is_some row.node && is_same_path (folder_of row.path) path

-- the names of what stands in a folder
abbrev pub children : Volume → FilePath → List (List ℕ)
children rows path = map (λ row. last_name row.path) (filter (is_child path) rows)

-- ---- the rules

-- each row's path is above those before it
abbrev pub AreInOrder : Volume → Type 0
AreInOrder [] = ⊤
AreInOrder (row ∷ rows) = AllByRecursion (λ next. path_cmp row.path next.path ≡ Less) rows × AreInOrder rows

-- a path that is not the root, touched at least once and fewer than 2 ^ 64 times, and no file that is too large or has
-- other numbers than bytes
pub record IsRow (row : Row) : Type 0 where
  pub is_path : IsPath row.path
  pub below_root : is_root row.path ≡ false
  pub touched : 1 ≤ row.version
  pub version_fits : row.version < 2 ^ 64
  pub small : node_size row.node ≤ max_file
  pub bytes : IsBytes (file_bytes row.node)

-- rows in order, each of them sound, in folders and within the limits
pub record IsTree (rows : Volume) : Type 0 where
  pub in_order : AreInOrder rows
  pub each : AllByRecursion IsRow rows
  -- what has a node stands in a folder
  pub in_folders : (path : FilePath) → IsTrue (is_some (node_at rows path)) → IsTrue (is_folder rows (folder_of path))
  pub few : length rows ≤ max_rows
  pub small : total_size rows ≤ max_files

-- ---- changes of one row

-- the rows whose paths are below this one
abbrev pub rows_below : Volume → FilePath → Volume
rows_below rows path = filter (λ row. is_lt (path_cmp row.path path)) rows

-- the rows whose paths are above this one
abbrev pub rows_above : Volume → FilePath → Volume
rows_above rows path = filter (λ row. is_gt (path_cmp row.path path)) rows

-- the rows, with this one at its place
abbrev pub with_row : Volume → Row → Volume
with_row rows new = rows_below rows new.path ++ new ∷ rows_above rows new.path

-- the rows but the one of this path
abbrev pub without_row : Volume → FilePath → Volume
without_row rows path = rows_below rows path ++ rows_above rows path

-- the rows once an effect has given the path this node
abbrev pub touched : Volume → FilePath → Option Node → Volume
touched rows path node = with_row rows (record { path = path; version = version_at rows path + 1; node = node })

-- ---- effects

-- a path without a row, where there is room for no more
abbrev pub has_no_room : Volume → FilePath → Bool
has_no_room rows path = not (is_some (row_at rows path)) && nat_le max_rows (length rows)

-- whether the path was touched as often as 64 bits count
abbrev pub is_at_top : Volume → FilePath → Bool
is_at_top rows path = version_at rows path == 18446744073709551615

-- the bytes of all files, once the path has this content
abbrev pub size_with : Volume → FilePath → List ℕ → ℕ
size_with rows path content = total_size rows - node_size (node_at rows path) + length content

-- why an effect is refused, in the order in which it is tried
abbrev pub refusals : Effect → Volume → List (Option TreeError)
refusals (Make p) rows =
    when (is_root p) RootFixed
    ∷ when (not (is_folder rows (folder_of p))) (NoParent (folder_of p))
    ∷ when (is_some (node_at rows p)) (Exists p)
    ∷ when (has_no_room rows p) (RowsFull max_rows)
    ∷ when (is_at_top rows p) (VersionTop p)
    ∷ []
refusals (Put p content) rows =
    when (is_root p) RootFixed
    ∷ when (not (is_folder rows (folder_of p))) (NoParent (folder_of p))
    ∷ when (is_folder rows p) (IsFolder p)
    ∷ when (has_no_room rows p) (RowsFull max_rows)
    ∷ when (nat_lt max_file (length content)) (FileTooLarge (length content))
    ∷ when (nat_lt max_files (size_with rows p content)) (TreeFull (size_with rows p content))
    ∷ when (is_at_top rows p) (VersionTop p)
    ∷ []
refusals (Remove p) rows =
    when (is_root p) RootFixed
    ∷ when (not (is_some (node_at rows p))) (Missing p)
    ∷ option_map (λ child. NotEmpty p child.path) (find (is_child p) rows)
    ∷ when (is_at_top rows p) (VersionTop p)
    ∷ []
refusals (Move p q) rows =
    when (is_root p || is_root q) RootFixed
    ∷ when (not (is_folder rows (folder_of q))) (NoParent (folder_of q))
    ∷ when (is_some (node_at rows q)) (Exists q)
    ∷ when (not (is_some (node_at rows p))) (Missing p)
    ∷ when (is_folder rows p) (IsFolder p)
    ∷ when (has_no_room rows q) (RowsFull max_rows)
    ∷ when (is_at_top rows p) (VersionTop p)
    ∷ when (is_at_top rows q) (VersionTop q)
    ∷ []
refusals (Mode p exec) rows =
    when (is_root p) RootFixed
    ∷ when (not (is_some (node_at rows p))) (Missing p)
    ∷ when (is_folder rows p) (IsFolder p)
    ∷ when (is_at_top rows p) (VersionTop p)
    ∷ []

-- what a file is once this content is written to it: it may be run as before, and a new one may not
abbrev pub with_content : Option Node → List ℕ → Node
with_content old content = File content (is_exec old)

-- what stands there once a file may be run or not
abbrev pub with_mode : Bool → Option Node → Option Node
with_mode exec None = None
with_mode exec (Some Folder) = Some Folder
with_mode exec (Some (File content old)) = Some (File content exec)

-- the rows after an effect that is not refused
abbrev pub changed : Effect → Volume → Volume
changed (Make p) rows = touched rows p (Some Folder)
changed (Put p content) rows = touched rows p (Some (with_content (node_at rows p) content))
changed (Remove p) rows = touched rows p None
changed (Move p q) rows = touched (touched rows q (node_at rows p)) p None
changed (Mode p exec) rows = touched rows p (with_mode exec (node_at rows p))

-- the first refusal, or else the new rows
abbrev pub apply : Effect → Volume → Result (Volume) TreeError
apply effect rows = unless_refused (refusals effect rows) (changed effect rows)

-- the paths that an effect touches
abbrev pub touched_paths : Effect → List FilePath
touched_paths (Make p) = p ∷ []
touched_paths (Put p content) = p ∷ []
touched_paths (Remove p) = p ∷ []
touched_paths (Move p q) = p ∷ q ∷ []
touched_paths (Mode p exec) = p ∷ []

-- each path of the effect is one, and its content is bytes
abbrev pub IsLegalEffect : Effect → Type 0
IsLegalEffect (Make p) = IsPath p
IsLegalEffect (Put p content) = IsPath p × IsBytes content
IsLegalEffect (Remove p) = IsPath p
IsLegalEffect (Move p q) = IsPath p × IsPath q
IsLegalEffect (Mode p exec) = IsPath p

-- ---- undoing

-- what stands at a path, as a row that has version 0 where the rows have none
abbrev pub kept_row : Volume → FilePath → Row
kept_row rows path = record { path = path; version = version_at rows path; node = node_at rows path }

-- what is kept of an effect: its touched paths, before it
abbrev pub kept_rows : Effect → Volume → List Row
kept_rows effect rows = map (kept_row rows) (touched_paths effect)

-- the rows with a kept row put back
abbrev pub restored : Volume → Row → Volume
restored rows kept = (if kept.version == 0 then without_row rows kept.path else with_row rows kept)

-- the rows with all kept rows put back
abbrev pub undone : List Row → Volume → Volume
undone [] rows = rows
undone (kept ∷ more) rows = undone more (restored rows kept)

-- what may be put back: each kept row's path has a row then, and the last rows are a tree
abbrev pub CanUndo : List Row → Volume → Type 0
CanUndo [] rows = IsTree rows
CanUndo (kept ∷ more) rows = IsTrue (is_some (row_at rows kept.path)) × CanUndo more (restored rows kept)

-- ---- trees of given rows

-- the refused row is the first with which the rows up to it are no tree
abbrev pub IsRowsRefusal : Volume → RowsError → Type 0
IsRowsRefusal rows (BadRow i) = (i < length rows) × IsTree (take i rows) × (IsTree (take (i + 1) rows) → ⊥)
IsRowsRefusal rows Memory = ⊤
