-- The names in a folder, row by row.
use Rattle.std.proofs.Common.{◌≡◌, ℕ, ◌+◌, ◌<◌, true, false, List, [], ◌∷◌, ◌++◌, length, take, sym, ap, ◌∙◌, refl, ◌-◌, ◌≤◌, zero, suc, subst, true≢false, arith, Some, None}
use Rattle.std.proofs.lemmas.List.{take_more, take_all}
use Rattle.std.specs.List.{slice_get}
use Rattle.std.proofs.Common.{Bool, Option, find, option_map, is_some}
use Rattle.std.specs.Prelude.{IfSome}
use Rattle.file_paths.specs.Path.{FilePath, IsPath, last_name, folder_of, is_same_path}
use Rattle.tree_values.specs.declared.node.Row.{Row}
use Rattle.tree_values.specs.declared.node.TreeError.TheVariants.{NotEmpty}
use Rattle.tree_values.specs.Tree.{children, is_child, is_root, IsRow, IsTree}
use Rattle.tree_values.proofs.Undoing.{find_among, find_passes}
use Rattle.byte_fields.proofs.Facts.{and_of}
use Rattle.file_paths.proofs.Order.{tied_path}

-- the item behind the first ones, and past the end
pub get_behind : (xs : List (List ℕ)) (y : List ℕ) (ys : List (List ℕ)) → slice_get (xs ++ y ∷ ys) (length xs) ≡ Some y
get_behind [] y ys = refl
get_behind (x ∷ xs) y ys = get_behind xs y ys

pub get_past : (xs : List (List ℕ)) (i : ℕ) → length xs ≤ i → slice_get xs i ≡ None
get_past [] i past = refl
get_past (x ∷ xs) zero past = absurd (omega arith)
get_past (x ∷ xs) (suc i) past = get_past xs i (omega arith)

-- ---- the first child

first_found : (p : FilePath) (rows : List Row) → slice_get (children rows p) 0 ≡ option_map (λ (row : Row). last_name row.path) (find (is_child p) rows)
first_found p [] = refl
first_found p (row ∷ rows) = by (is_child p row) refl (first_found p rows)
  where
    by : (b : Bool) → is_child p row ≡ b → slice_get (children rows p) 0 ≡ option_map (λ (row : Row). last_name row.path) (find (is_child p) rows) → slice_get (children (row ∷ rows) p) 0 ≡ option_map (λ (row : Row). last_name row.path) (find (is_child p) (row ∷ rows))
    by true e rest = rw e refl
    by false e rest = rw e rest

-- a path that is not the root is its folder with its last name
last_behind : (path : FilePath) → is_root path ≡ false → path ≡ folder_of path ++ last_name path ∷ []
last_behind [] e = absurd (true≢false e)
last_behind (n ∷ path) e =
    let one : length (n ∷ path) - 1 + 1 ≡ length (n ∷ path) = omega arith in
    sym (take_all (length (n ∷ path)) (n ∷ path) (omega arith)) ∙ ap (λ k. take k (n ∷ path)) (sym one) ∙ take_more (n ∷ path) (length (n ∷ path) - 1) [] (omega arith)

-- the first name in a folder is that of the first child
pub first_named : (rows : List Row) (p : FilePath) → IsTree rows → (o : Option (List ℕ)) → o ≡ slice_get (children rows p) 0
    → (option_map (λ (child : Row). NotEmpty p child.path) (find (is_child p) rows) ≡ option_map (λ n. NotEmpty p (p ++ n ∷ [])) o) × IfSome o (λ n. IsPath (p ++ n ∷ []))
first_named rows p tree o is = by (find (is_child p) rows) refl (is ∙ first_found p rows)
  where
    by : (r : Option Row) → find (is_child p) rows ≡ r → o ≡ option_map (λ (row : Row). last_name row.path) r → (option_map (λ (child : Row). NotEmpty p child.path) r ≡ option_map (λ n. NotEmpty p (p ++ n ∷ [])) o) × IfSome o (λ n. IsPath (p ++ n ∷ []))
    by None e none = rw none (refl, tt)
    by (Some row) e named =
        let sound = find_among IsRow (is_child p) rows row tree.each e in
        let child : is_child p row ≡ true = find_passes (is_child p) rows row e in
        let here : folder_of row.path ≡ p = tied_path (folder_of row.path) p (and_of (is_some row.node) (is_same_path (folder_of row.path) p) child).1 in
        let whole : row.path ≡ p ++ last_name row.path ∷ [] = last_behind row.path sound.below_root ∙ ap (λ a. a ++ last_name row.path ∷ []) here in
        rw named (ap (λ a. Some (NotEmpty p a)) whole, subst IsPath whole sound.is_path)
