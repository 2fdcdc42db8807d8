-- What is kept of a row puts it back.
use Rattle.std.proofs.Common.{◌≡◌, ℕ, ◌+◌, ◌≤◌, Bool, true, false, List, [], ◌∷◌, ◌++◌, find, Option, Some, None, arith, refl, sym, ap, ◌∙◌, subst, append_assoc, append-nil}
use Rattle.std.specs.List.{AllByRecursion}
use Rattle.std.specs.Option.{option_to_list}
use Rattle.std.proofs.lemmas.List.Elements.{filter-append}
use Rattle.std.specs.Ordering.{is_lt, is_gt}
use Rattle.tree_values.specs.Inside.{is_at}
use Rattle.file_paths.specs.Path.{path_cmp}
use Rattle.tree_values.specs.declared.node.Node.{Node}
use Rattle.tree_values.specs.declared.node.Row.{Row}
use Rattle.tree_values.specs.Tree.{AreInOrder, row_at, rows_below, rows_above, with_row, without_row, touched, kept_row, restored, version_at}
use Rattle.tree_values.proofs.Ordered.{all_map, all_below, all_above, filter_all, filter_none, split_at_path, is_at_equal, restored_row}
use Rattle.file_paths.proofs.Order.{same_place}

below_with_row : (rows : List Row) (new : Row) → rows_below (with_row rows new) new.path ≡ rows_below rows new.path
below_with_row rows new =
    let test : Row → Bool = λ row. is_lt (path_cmp row.path new.path) in
    let below = filter_all test (rows_below rows new.path) (all_map (λ row e. ap is_lt e) (rows_below rows new.path) (all_below rows new.path)) in
    let above = filter_none test (rows_above rows new.path) (all_map (λ row e. ap is_lt e) (rows_above rows new.path) (all_above rows new.path)) in
    filter-append test (rows_below rows new.path) (new ∷ rows_above rows new.path)
    ∙ rw (below, same_place new.path, above) (append-nil (rows_below rows new.path))

above_with_row : (rows : List Row) (new : Row) → rows_above (with_row rows new) new.path ≡ rows_above rows new.path
above_with_row rows new =
    let test : Row → Bool = λ row. is_gt (path_cmp row.path new.path) in
    let below = filter_none test (rows_below rows new.path) (all_map (λ row e. ap is_gt e) (rows_below rows new.path) (all_below rows new.path)) in
    let above = filter_all test (rows_above rows new.path) (all_map (λ row e. ap is_gt e) (rows_above rows new.path) (all_above rows new.path)) in
    filter-append test (rows_below rows new.path) (new ∷ rows_above rows new.path)
    ∙ rw (below, same_place new.path, above) refl

-- what a search finds passes, and is one of the rows
pub find_passes : (t : Row → Bool) (rows : List Row) (row : Row) → find t rows ≡ Some row → t row ≡ true
find_passes t [] row e = cc
find_passes t (x ∷ xs) row e = by (t x) refl (find_passes t xs row)
  where
    by : (b : Bool) → t x ≡ b → (find t xs ≡ Some row → t row ≡ true) → t row ≡ true
    by true g rest = let same : x ≡ row = cc (rw g at e) in ap t (sym same) ∙ g
    by false g rest = rest (rw g at e)

pub find_among : (P : Row → Type 0) (t : Row → Bool) (rows : List Row) (row : Row) → AllByRecursion P rows → find t rows ≡ Some row → P row
find_among P t [] row all e = cc
find_among P t (x ∷ xs) row all e = by (t x) refl (find_among P t xs row all.1)
  where
    by : (b : Bool) → t x ≡ b → (find t xs ≡ Some row → P row) → P row
    by true g rest = let same : x ≡ row = cc (rw g at e) in subst P same all.0
    by false g rest = rest (rw g at e)

without_with_row : (rows : List Row) (new : Row) → without_row (with_row rows new) new.path ≡ without_row rows new.path
without_with_row rows new = rw (below_with_row rows new, above_with_row rows new) refl

with_with_row : (rows : List Row) (new kept : Row) → kept.path ≡ new.path → with_row (with_row rows new) kept ≡ with_row rows kept
with_with_row rows new kept same =
    let P : List (List ℕ) → Type 0 = λ q. rows_below (with_row rows new) q ++ kept ∷ rows_above (with_row rows new) q ≡ rows_below rows q ++ kept ∷ rows_above rows q in
    subst P (sym same) (rw (below_with_row rows new, above_with_row rows new) refl)

-- a row put in its own place
with_own_row : (rows : List Row) (p : List (List ℕ)) (row : Row) → row.path ≡ p → rows ≡ rows_below rows p ++ row ∷ [] ++ rows_above rows p → with_row rows row ≡ rows
with_own_row rows p row same split =
    let P : List (List ℕ) → Type 0 = λ q. rows_below rows q ++ row ∷ rows_above rows q ≡ rows in
    subst P (sym same) (sym (split ∙ append_assoc (rows_below rows p) (row ∷ []) (rows_above rows p)))

-- one touched path, put back
pub undo_touched : (rows : List Row) (p : List (List ℕ)) (node : Option Node) → AreInOrder rows → AllByRecursion (λ row. 1 ≤ row.version) rows → restored (touched rows p node) (kept_row rows p) ≡ rows
undo_touched rows p node order each = by (row_at rows p) refl (split_at_path rows p order)
  where
    by : (o : Option Row) → row_at rows p ≡ o → rows ≡ rows_below rows p ++ option_to_list (row_at rows p) ++ rows_above rows p → restored (touched rows p node) (kept_row rows p) ≡ rows
    by None e split =
        let kept : kept_row rows p ≡ record { path = p; version = 0; node = None } = rw e refl in
        let parts = rw e at split in
        ap (restored (touched rows p node)) kept
        ∙ without_with_row rows (record { path = p; version = version_at rows p + 1; node = node })
        ∙ sym (parts ∙ ap (λ front. front ++ rows_above rows p) (append-nil (rows_below rows p)))
    by (Some row) e split =
        let at = is_at_equal row p (find_passes (is_at p) rows row e) in
        let kept : kept_row rows p ≡ row = rw e (ap (λ q. record row { path = q }) (sym at)) in
        let here = find_among (λ row. 1 ≤ row.version) (is_at p) rows row each e in
        ap (restored (touched rows p node)) kept
        ∙ restored_row (touched rows p node) row (λ zero. omega (arith, here))
        ∙ with_with_row rows (record { path = p; version = version_at rows p + 1; node = node }) row at
        ∙ with_own_row rows p row at (rw e at split)
