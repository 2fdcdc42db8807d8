-- Rows of a job with one more behind them.
use Rattle.std.proofs.Common.{◌≡◌, Bool, true, false, ◌||◌, not, List, [], ◌∷◌, ◌++◌, Option, Some, None, is_some}
use Rattle.std.proofs.Common.{refl, sym, ap, ◌∙◌, subst, true≢false}
use Rattle.std.specs.List.{list_all, AllByRecursion}
use Rattle.std.specs.Cmp.{first_so, second_so}
use Rattle.std.specs.Ordering.{is_lt}
use Rattle.std.specs.declared.cmp.Ordering.TheVariants.{Less, Equal}
use Rattle.file_paths.specs.Path.{FilePath, IsPath, path_cmp, folder_of}
use Rattle.tree_values.specs.Tree.{is_root, is_folder_node}
use Rattle.tree_values.specs.declared.node.Node.{Node}
use Rattle.byte_fields.proofs.Facts.{not_of}
use Rattle.file_paths.proofs.Order.{is_less, same_place, tied_path}
use Rattle.cmd_capture.specs.declared.job.JobRow.{JobRow}
use Rattle.cmd_capture.specs.Rows.{is_job_row_at, node_in, is_folder_in, JobRowsAreInOrder, IsJobRow, AreJobRows, may_follow_rows}

pub all_push : {X : Type 0} (P : X → Type 0) (xs : List X) (x : X) → AllByRecursion P xs → P x → AllByRecursion P (xs ++ x ∷ [])
all_push P [] x all one = (one, tt)
all_push P (y ∷ ys) x all one = (all.0, all_push P ys x all.1 one)

order_push : (rows : List JobRow) (row : JobRow) → JobRowsAreInOrder rows
    → list_all (λ before. is_lt (path_cmp before.path row.path)) rows ≡ true → JobRowsAreInOrder (rows ++ row ∷ [])
order_push [] row order above = (tt, tt)
order_push (r ∷ rows) row order above = (
  all_push (λ next. path_cmp r.path next.path ≡ Less) rows row order.0
      (is_less (path_cmp r.path row.path) (first_so _ _ above)),
  order_push rows row order.1 (second_so
      (is_lt (path_cmp r.path row.path)) _ above),
)

-- what is found in the front is found
found_front : (rows more : List JobRow) (path : FilePath) (n : Node) → node_in rows path ≡ Some n → node_in (rows ++ more) path ≡ Some n
found_front [] more path n e = absurd cc
found_front (r ∷ rows) more path n e = by (is_job_row_at path r) refl (found_front rows more path n)
  where
    by : (b : Bool) → is_job_row_at path r ≡ b → (node_in rows path ≡ Some n → node_in (rows ++ more) path ≡ Some n)
        → node_in ((r ∷ rows) ++ more) path ≡ Some n
    by true h more' = let here : node_in (r ∷ rows) path ≡ Some r.node = rw h refl in rw h (sym here ∙ e)
    by false h more' = let there : node_in (r ∷ rows) path ≡ node_in rows path = rw h refl in rw h (more' (sym there ∙ e))

found_back : (rows more : List JobRow) (path : FilePath) → node_in rows path ≡ None → node_in (rows ++ more) path ≡ node_in more path
found_back [] more path e = refl
found_back (r ∷ rows) more path e = by (is_job_row_at path r) refl (found_back rows more path)
  where
    by : (b : Bool) → is_job_row_at path r ≡ b
        → (node_in rows path ≡ None → node_in (rows ++ more) path ≡ node_in more path)
        → node_in ((r ∷ rows) ++ more) path ≡ node_in more path
    by true h more' = let here : node_in (r ∷ rows) path ≡ Some r.node = rw h refl in absurd (true≢false (ap is_some (sym here ∙ e)))
    by false h more' = let there : node_in (r ∷ rows) path ≡ node_in rows path = rw h refl in rw h (more' (sym there ∙ e))

folder_stays : (rows more : List JobRow) (path : FilePath) → is_folder_in rows path ≡ true → is_folder_in (rows ++ more) path ≡ true
folder_stays rows more path h = by (is_root path) (node_in rows path) refl refl h
  where
    by : (root : Bool) (o : Option Node) → is_root path ≡ root → node_in rows path ≡ o
        → (root || is_folder_node o) ≡ true → is_folder_in (rows ++ more) path ≡ true
    by true o er eo t = rw er refl
    by false None er eo t = absurd (true≢false (sym t))
    by false (Some n) er eo t = rw (er, found_front rows more path n eo) t

pub one_more_row : (rows : List JobRow) (row : JobRow) → AreJobRows rows → IsPath row.path
    → may_follow_rows rows row ≡ true → AreJobRows (rows ++ row ∷ [])
one_more_row rows row are is may =
    let below = first_so (not (is_root row.path)) _ may in
    let rest = second_so (not (is_root row.path)) _ may in
    let above = first_so (list_all (λ before. is_lt (path_cmp before.path row.path)) rows) _ rest in
    let folder = second_so (list_all (λ before. is_lt (path_cmp before.path row.path)) rows) _ rest in
    record {
      in_order = order_push rows row are.in_order above;
      each = all_push IsJobRow rows row are.each (record { is_path = is; below_root = not_of (is_root row.path) below });
      in_folders = λ path some. by path (node_in rows path) refl some folder;
    }
  where
    here : (path : FilePath) (b : Bool) → is_job_row_at path row ≡ b → is_some (node_in (row ∷ []) path) ≡ true
        → is_folder_in rows (folder_of row.path) ≡ true → is_folder_in (rows ++ row ∷ []) (folder_of path) ≡ true
    here path true h some folder =
        folder_stays rows (row ∷ []) (folder_of path)
        (subst (λ p. is_folder_in rows (folder_of p) ≡ true) (tied_path row.path path h) folder)
    here path false h some folder =
        let none : is_some (node_in (row ∷ []) path) ≡ false = rw h refl in absurd (true≢false (sym some ∙ none))

    by : (path : FilePath) (o : Option Node) → node_in rows path ≡ o
        → is_some (node_in (rows ++ row ∷ []) path) ≡ true → is_folder_in rows (folder_of row.path) ≡ true
        → is_folder_in (rows ++ row ∷ []) (folder_of path) ≡ true
    by path (Some n) e some folder = folder_stays rows (row ∷ []) (folder_of path) (are.in_folders path (ap is_some e))
    by path None e some folder = here path (is_job_row_at path row) refl (sym (ap is_some (found_back rows (row ∷ []) path e)) ∙ some) folder

-- ---- no path is in two rows

abbrev pub AreDistinct : List JobRow → Type 0
AreDistinct [] = Unit {0}
AreDistinct (row ∷ rows) = AllByRecursion (λ other. is_job_row_at row.path other ≡ false) rows × AreDistinct rows

apart : (p : FilePath) (row : JobRow) (b : Bool) → is_job_row_at p row ≡ b → path_cmp p row.path ≡ Less → is_job_row_at p row ≡ false
apart p row false e less = e
apart p row true e less =
    let equal : path_cmp p row.path ≡ Equal = ap (path_cmp p) (tied_path row.path p e) ∙ same_place p in
    absurd (true≢false (ap is_lt (sym less ∙ equal)))

pub are_distinct : (rows : List JobRow) → JobRowsAreInOrder rows → AreDistinct rows
are_distinct [] order = tt
are_distinct (row ∷ rows) order = (behind rows order.0, are_distinct rows order.1)
  where
    behind : (xs : List JobRow) → AllByRecursion (λ next. path_cmp row.path next.path ≡ Less) xs
        → AllByRecursion (λ other. is_job_row_at row.path other ≡ false) xs
    behind [] all = tt
    behind (x ∷ xs) all = (apart row.path x (is_job_row_at row.path x) refl all.0, behind xs all.1)
