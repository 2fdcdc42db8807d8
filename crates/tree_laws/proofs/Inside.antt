-- What stands in folders, and what stands in none.
use Rattle.std.proofs.Common.{◌≡◌, Bool, true, false, [], ◌∷◌, map, Option, Some, None, is_some, refl, sym, ap, ◌∙◌, true≢false}
use Rattle.std.specs.List.{AllByRecursion}
use Rattle.std.specs.Option.{option_and_then}
use Rattle.std.specs.Cmp.{first_so, second_so}
use Rattle.std.specs.declared.cmp.Ordering.TheVariants.{Less}
use Rattle.file_paths.specs.Path.{FilePath, path_cmp, folder_of, last_name}
use Rattle.tree_values.specs.Inside.{is_at}
use Rattle.tree_values.specs.declared.node.Row.{Row}
use Rattle.tree_values.specs.Tree.{Volume, AreInOrder, IsRow, IsTree, row_at, node_at, is_root, is_folder, is_child, children}
use Rattle.file_paths.proofs.Order.{own_path, tied_path}
use Rattle.tree_values.proofs.Ordered.{all_map, filter_none, is_at_equal}
use Rattle.tree_values.proofs.Undoing.{find_passes, find_among}

abbrev IsFound : Volume → Row → Type 0
IsFound rows row = row_at rows row.path ≡ Some row

-- each row of rows in order is found by its path
each_found : (rows : Volume) → AreInOrder rows → AllByRecursion (IsFound rows) rows
each_found [] order = tt
each_found (row ∷ rows) order = (rw (own_path row.path) refl, behind rows order.0 (each_found rows order.1))
  where
    behind : (some : Volume) → AllByRecursion (λ next. path_cmp row.path next.path ≡ Less) some → AllByRecursion (IsFound rows) some → AllByRecursion (IsFound (row ∷ rows)) some
    behind [] above found = tt
    behind (next ∷ some) above found = (rw (above.0, found.0) refl, behind some above.1 found.1)

pub childless : (rows : Volume) (path : FilePath) → IsTree rows → is_folder rows path ≡ false → children rows path ≡ []
childless rows path tree none =
    ap (map (λ (row : Row). last_name row.path)) (filter_none (is_child path) rows (all_map outside rows (each_found rows tree.in_order)))
  where
    outside : (row : Row) → IsFound rows row → is_child path row ≡ false
    outside row found = by (is_child path row) refl
      where
        by : (b : Bool) → is_child path row ≡ b → b ≡ false
        by false e = refl
        by true e =
            let here : folder_of row.path ≡ path = tied_path (folder_of row.path) path (second_so _ _ e) in
            let stands : is_some (node_at rows row.path) ≡ true = rw found (first_so _ _ e) in
            absurd (true≢false (sym (tree.in_folders row.path stands) ∙ ap (is_folder rows) here ∙ none))

pub bare_root : (rows : Volume) → IsTree rows → node_at rows [] ≡ None
bare_root rows tree = by (row_at rows []) refl
  where
    by : (o : Option Row) → row_at rows [] ≡ o → option_and_then (λ row. row.node) o ≡ None
    by None e = refl
    by (Some row) e =
        let below = (find_among IsRow (is_at []) rows row tree.each e).below_root in
        absurd (true≢false (sym (ap is_root (is_at_equal row [] (find_passes (is_at []) rows row e))) ∙ below))
