-- A tree with one more row behind it.
use Rattle.std.proofs.Common.{◌≡◌, ℕ, ◌+◌, ◌<◌, Bool, true, false, ◌||◌, not, List, [], ◌∷◌, ◌++◌, length, find, Option, Some, None, IsTrue, is_some, arith, refl, sym, ap, ◌∙◌, subst, true≢false, length-append, cond, take, get_or}
use Rattle.std.proofs.lemmas.List.{take_more}
use Rattle.std.specs.Prelude.{nat_lt, nat_le, ◌^◌}
use Rattle.std.specs.List.{AllByRecursion, list_all}
use Rattle.std.specs.Option.{option_or, option_and_then}
use Rattle.std.specs.Cmp.{first_so, second_so}
use Rattle.std.specs.Cmp.Derive.{both_true}
use Rattle.std.proofs.lemmas.List.Folds.{find-append}
use Rattle.std.specs.declared.cmp.Ordering.TheVariants.{Less}
use Rattle.std.specs.Ordering.{is_lt, is_eq}
use Rattle.byte_fields.proofs.Facts.{lt_holds, lt_of, le_holds, le_of, not_of, not_true, none_behind}
use Rattle.byte_fields.specs.Codec.{IsBytes}
use Rattle.file_paths.specs.Path.{path_cmp, folder_of, IsPath}
use Rattle.file_paths.specs.Limits.{max_file}
use Rattle.tree_values.specs.Limits.{max_rows, max_files}
use Rattle.tree_values.specs.declared.node.Row.{Row}
use Rattle.tree_values.specs.Tree.{AreInOrder, IsRow, IsTree, row_at, node_at, is_root, is_folder, is_folder_node, node_size, file_bytes, total_size}
use Rattle.tree_values.specs.Inside.{is_at, may_follow}
use Rattle.tree_values.proofs.Ordered.{all_append, all_map, order_join, find_none, is_at_equal, size_append, above_itself}
use Rattle.file_paths.proofs.Order.{same_place, is_less}

all_before : (rows : List Row) (row : Row) → list_all (λ before. is_lt (path_cmp before.path row.path)) rows ≡ true → AllByRecursion (λ before. path_cmp before.path row.path ≡ Less) rows
all_before [] row h = tt
all_before (x ∷ xs) row h = (is_less (path_cmp x.path row.path) (first_so _ _ h), all_before xs row (second_so _ _ h))

-- a folder stays one
folder_kept : (rows : List Row) (row : Row) (q : List (List ℕ)) → is_folder rows q ≡ true → is_folder (rows ++ row ∷ []) q ≡ true
folder_kept rows row q h = rw (find-append (is_at q) rows (row ∷ [])) (by (row_at rows q) h)
  where
    left : (a b : Bool) → (a || false) ≡ true → (a || b) ≡ true
    left true b h = refl
    left false b h = absurd (true≢false (sym h))

    by : (o : Option Row) → (is_root q || is_folder_node (option_and_then (λ row. row.node) o)) ≡ true → (is_root q || is_folder_node (option_and_then (λ row. row.node) (option_or o (find (is_at q) (row ∷ []))))) ≡ true
    by None h = left (is_root q) _ h
    by (Some r) h = h

in_folders_behind : (rows : List Row) (row : Row) → IsTree rows → (not (is_some row.node) || is_folder rows (folder_of row.path)) ≡ true → (q : List (List ℕ)) → IsTrue (is_some (node_at (rows ++ row ∷ []) q)) → IsTrue (is_folder (rows ++ row ∷ []) (folder_of q))
in_folders_behind rows row tree stands q some =
    by (row_at rows q) refl (ap (λ o. is_some (option_and_then (λ row. row.node) o)) (sym (find-append (is_at q) rows (row ∷ []))) ∙ some)
  where
    must : (a b : Bool) → (not a || b) ≡ true → a ≡ true → b ≡ true
    must true b h g = h
    must false b h g = absurd (true≢false (sym g))

    at_row : (b : Bool) → is_at q row ≡ b → is_some (option_and_then (λ row. row.node) (cond b (Some row) None)) ≡ true → IsTrue (is_folder (rows ++ row ∷ []) (folder_of q))
    at_row true e g = folder_kept rows row (folder_of q) (ap (λ a. is_folder rows (folder_of a)) (sym (is_at_equal row q e)) ∙ must (is_some row.node) (is_folder rows (folder_of row.path)) stands g)
    at_row false e g = absurd (true≢false (sym g))

    by : (o : Option Row) → row_at rows q ≡ o → is_some (option_and_then (λ row. row.node) (option_or o (find (is_at q) (row ∷ [])))) ≡ true → IsTrue (is_folder (rows ++ row ∷ []) (folder_of q))
    by None e g = at_row (is_at q row) refl g
    by (Some r) e g = folder_kept rows row (folder_of q) (tree.in_folders q (ap (λ o. is_some (option_and_then (λ row. row.node) o)) e ∙ g))

-- the rules of rows that their types keep
pub record IsOwnRow (row : Row) : Type 0 where
  pub is_path : IsPath row.path
  pub version_fits : row.version < 2 ^ 64
  pub bytes : IsBytes (file_bytes row.node)

pub tree_with_row : (rows : List Row) (row : Row) → IsTree rows → IsOwnRow row → may_follow rows row ≡ true → IsTree (rows ++ row ∷ [])
tree_with_row rows row tree own h =
    let low = all_before rows row (first_so _ _ h) in
    let h1 = second_so (list_all (λ before. is_lt (path_cmp before.path row.path)) rows) _ h in
    let h2 = second_so (not (is_root row.path)) _ h1 in
    let h3 = second_so (nat_le 1 row.version) _ h2 in
    let h4 = second_so (nat_le (node_size row.node) max_file) _ h3 in
    let h5 = second_so (not (is_some row.node) || is_folder rows (folder_of row.path)) _ h4 in
    let few = lt_of (length rows) max_rows (first_so _ _ h5) in
    let small = le_of (total_size rows + node_size row.node) max_files (second_so (nat_lt (length rows) max_rows) _ h5) in
    record {
      in_order = order_join row.path rows (row ∷ []) low (ap is_lt (same_place row.path), tt) tree.in_order (tt, tt);
      each = all_append IsRow rows (row ∷ []) tree.each (record { is_path = own.is_path; below_root = not_of (is_root row.path) (first_so _ _ h1); touched = le_of 1 row.version (first_so _ _ h2); version_fits = own.version_fits; small = le_of (node_size row.node) max_file (first_so _ _ h3); bytes = own.bytes }, tt);
      in_folders = in_folders_behind rows row tree (first_so _ _ h4);
      few = omega (arith, few, length-append rows (row ∷ []));
      small = omega (arith, small, size_append rows (row ∷ []));
    }

all_last : (P : Row → Type 0) (rows : List Row) (row : Row) → AllByRecursion P (rows ++ row ∷ []) → P row
all_last P [] row all = all.0
all_last P (x ∷ xs) row all = all_last P xs row all.1

before_all : (rows : List Row) (row : Row) → AreInOrder (rows ++ row ∷ []) → list_all (λ before. is_lt (path_cmp before.path row.path)) rows ≡ true
before_all [] row order = refl
before_all (x ∷ xs) row order =
    both_true (ap is_lt (all_last (λ next. path_cmp x.path next.path ≡ Less) xs row order.0)) (before_all xs row order.1)

-- a path that the last row is not at has the row that it had before
row_unchanged : (rows : List Row) (row : Row) (q : List (List ℕ)) → is_at q row ≡ false → row_at (rows ++ row ∷ []) q ≡ row_at rows q
row_unchanged rows row q e = find-append (is_at q) rows (row ∷ []) ∙ rw e (none_behind (row_at rows q))

stands_in_folder : (rows : List Row) (row : Row) → IsTree (rows ++ row ∷ []) → is_some row.node ≡ true → is_folder rows (folder_of row.path) ≡ true
stands_in_folder rows row whole some =
    ap (λ o. is_root (folder_of row.path) || is_folder_node (option_and_then (λ row. row.node) o)) (sym (row_unchanged rows row (folder_of row.path) elsewhere))
    ∙ whole.in_folders row.path (ap is_some node ∙ some)
  where
    elsewhere : is_at (folder_of row.path) row ≡ false
    elsewhere = not_true _ (λ e. above_itself row.path (all_last IsRow rows row whole.each).below_root (sym (is_at_equal row (folder_of row.path) e)))

    node : node_at (rows ++ row ∷ []) row.path ≡ row.node
    node =
        let low = all_before rows row (before_all rows row whole.in_order) in
        let nowhere = find_none (is_at row.path) rows (all_map (λ before e. ap is_eq e) rows low) in
        let found : row_at (rows ++ row ∷ []) row.path ≡ Some row = find-append (is_at row.path) rows (row ∷ []) ∙ rw (nowhere, same_place row.path) refl in
        ap (option_and_then (λ row. row.node)) found

pub follows_in_tree : (rows : List Row) (row : Row) → IsTree (rows ++ row ∷ []) → may_follow rows row ≡ true
follows_in_tree rows row whole =
    let sound : IsRow row = all_last IsRow rows row whole.each in
    both_true (before_all rows row whole.in_order)
    (both_true (ap not sound.below_root)
    (both_true (le_holds 1 row.version sound.touched)
    (both_true (le_holds (node_size row.node) max_file sound.small)
    (both_true (in_one (is_some row.node) (is_folder rows (folder_of row.path)) (stands_in_folder rows row whole))
    (both_true (lt_holds (length rows) max_rows (omega (arith, whole.few, length-append rows (row ∷ []))))
    (le_holds (total_size rows + node_size row.node) max_files (omega (arith, whole.small, size_append rows (row ∷ [])))))))))
  where
    in_one : (a b : Bool) → (a ≡ true → b ≡ true) → (not a || b) ≡ true
    in_one true b h = h refl
    in_one false b h = refl

up_to : (rows : List Row) (k : ℕ) (row : Row) → k < length rows → row ≡ get_or rows k row → take (k + 1) rows ≡ take k rows ++ row ∷ []
up_to rows k row within read = take_more rows k row within ∙ ap (λ r. take k rows ++ r ∷ []) (sym read)

-- one row more of a list of rows
pub next_is_tree : (rows : List Row) (k : ℕ) (row : Row) → k < length rows → row ≡ get_or rows k row → IsTree (take k rows) → IsOwnRow row → may_follow (take k rows) row ≡ true → IsTree (take (k + 1) rows)
next_is_tree rows k row within read tree own h = subst IsTree (sym (up_to rows k row within read)) (tree_with_row (take k rows) row tree own h)

pub next_is_no_tree : (rows : List Row) (k : ℕ) (row : Row) → k < length rows → row ≡ get_or rows k row → may_follow (take k rows) row ≡ false → IsTree (take (k + 1) rows) → ⊥
next_is_no_tree rows k row within read h whole = true≢false (sym (follows_in_tree (take k rows) row (subst IsTree (up_to rows k row within read) whole)) ∙ h)

-- the bytes of the files of one row more
pub size_of_next : (rows : List Row) (k : ℕ) (row : Row) → k < length rows → row ≡ get_or rows k row → total_size (take (k + 1) rows) ≡ total_size (take k rows) + node_size row.node
size_of_next rows k row within read = omega (arith, ap total_size (up_to rows k row within read), size_append (take k rows) (row ∷ []))
