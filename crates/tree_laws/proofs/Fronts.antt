-- The rows at the front of a tree are a tree.
use Rattle.std.proofs.Common.{◌≡◌, ℕ, ◌-◌, Bool, true, false, ◌||◌, List, [], ◌∷◌, ◌++◌, length, Option, Some, None, IsTrue, is_some, arith, refl, sym, ap, ◌∙◌, subst, true≢false, length-append, suc}
use Rattle.std.specs.List.{AllByRecursion}
use Rattle.std.specs.Option.{option_or, option_and_then}
use Rattle.std.proofs.lemmas.List.Folds.{find-append}
use Rattle.std.proofs.lemmas.Cmp.{tied_itself}
use Rattle.std.specs.declared.cmp.Ordering.TheVariants.{Less, Equal, Greater}
use Rattle.std.specs.Ordering.{ordering_reverse, nat_cmp}
use Rattle.std.specs.Cmp.Lexicographic.{slice_cmp, nat_list_cmp_total}
use Rattle.file_paths.specs.Path.{FilePath, path_cmp, folder_of}
use Rattle.tree_values.specs.declared.node.Row.{Row}
use Rattle.tree_values.specs.Tree.{Volume, AreInOrder, IsRow, IsTree, row_at, node_at, is_root, is_folder, is_folder_node}
use Rattle.tree_values.specs.Inside.{is_at}
use Rattle.file_paths.proofs.Order.{paths_total}
use Rattle.tree_values.proofs.Ordered.{all_map, find_none, is_at_equal, size_append}

-- a folder is before what it has
folder_before : (first : List ℕ) (rest : FilePath) → path_cmp (folder_of (first ∷ rest)) (first ∷ rest) ≡ Less
folder_before first [] = refl
folder_before first (next ∷ rest) =
    let one : length (first ∷ next ∷ rest) - 1 ≡ suc (length (next ∷ rest) - 1) = omega arith in
    let same : slice_cmp nat_cmp first first ≡ Equal = tied_itself nat_list_cmp_total first in
    rw (one, same) (folder_before next rest)

pub back_all : (P : Row → Type 0) (front rest : Volume) → AllByRecursion P (front ++ rest) → AllByRecursion P rest
back_all P [] rest all = all
back_all P (x ∷ front) rest all = back_all P front rest all.1

front_all : (P : Row → Type 0) (front rest : Volume) → AllByRecursion P (front ++ rest) → AllByRecursion P front
front_all P [] rest all = tt
front_all P (x ∷ front) rest all = (all.0, front_all P front rest all.1)

front_in_order : (front rest : Volume) → AreInOrder (front ++ rest) → AreInOrder front
front_in_order [] rest order = tt
front_in_order (x ∷ front) rest order = (front_all (λ next. path_cmp x.path next.path ≡ Less) front rest order.0, front_in_order front rest order.1)

-- the rows behind are above what stands in front
rest_above : (front rest : Volume) (q : FilePath) → AreInOrder (front ++ rest) → is_some (row_at front q) ≡ true → AllByRecursion (λ later. path_cmp q later.path ≡ Less) rest
rest_above [] rest q order some = absurd (true≢false (sym some))
rest_above (x ∷ front) rest q order some = by (is_at q x) refl some (λ h. rest_above front rest q order.1 h)
  where
    by : (b : Bool) → is_at q x ≡ b → is_some (row_at (x ∷ front) q) ≡ true → (is_some (row_at front q) ≡ true → AllByRecursion (λ later. path_cmp q later.path ≡ Less) rest) → AllByRecursion (λ later. path_cmp q later.path ≡ Less) rest
    by true e h later =
        back_all (λ r. path_cmp q r.path ≡ Less) front rest (subst (λ (p : FilePath). AllByRecursion (λ (r : Row). path_cmp p r.path ≡ Less) (front ++ rest)) (is_at_equal x q e) order.0)
    by false e h later = later (rw e at h)

-- what is above q is not at q's folder
not_folder : (q : FilePath) → is_root q ≡ false → (later : Row) → path_cmp q later.path ≡ Less → is_at (folder_of q) later ≡ false
not_folder [] root later above = absurd (true≢false root)
not_folder (first ∷ rest) root later above = by (is_at (folder_of (first ∷ rest)) later) refl
  where
    by : (b : Bool) → is_at (folder_of (first ∷ rest)) later ≡ b → b ≡ false
    by false e = refl
    by true e =
        let below : path_cmp (first ∷ rest) (folder_of (first ∷ rest)) ≡ Less = subst (λ (p : FilePath). path_cmp (first ∷ rest) p ≡ Less) (is_at_equal later (folder_of (first ∷ rest)) e) above in
        let above' : path_cmp (first ∷ rest) (folder_of (first ∷ rest)) ≡ Greater =
        paths_total.antisymm (first ∷ rest) (folder_of (first ∷ rest)) ∙ ap ordering_reverse (folder_before first rest) in
        absurd (differ (sym below ∙ above'))
      where
        differ : Less ≡ Greater → ⊥
        differ e = cc

some_row : (o : Option Row) → is_some (option_and_then (λ row. row.node) o) ≡ true → is_some o ≡ true
some_row None h = h
some_row (Some r) h = refl

kept_some : (o o' : Option Row) → is_some (option_and_then (λ row. row.node) o) ≡ true → is_some (option_and_then (λ row. row.node) (option_or o o')) ≡ true
kept_some None o' h = absurd (true≢false (sym h))
kept_some (Some r) o' h = h

no_more : (o : Option Row) → option_or o None ≡ o
no_more None = refl
no_more (Some r) = refl

-- no row of the front is at the root
row_below_root : (rows : Volume) (q : FilePath) → AllByRecursion IsRow rows → is_some (row_at rows q) ≡ true → is_root q ≡ false
row_below_root [] q all some = absurd (true≢false (sym some))
row_below_root (x ∷ rows) q all some = by (is_at q x) refl some (λ h. row_below_root rows q all.1 h)
  where
    by : (b : Bool) → is_at q x ≡ b → is_some (row_at (x ∷ rows) q) ≡ true → (is_some (row_at rows q) ≡ true → is_root q ≡ false) → is_root q ≡ false
    by true e h later = ap is_root (sym (is_at_equal x q e)) ∙ all.0.below_root
    by false e h later = later (rw e at h)

front_in_folders : (front rest : Volume) → IsTree (front ++ rest) → (q : FilePath) → IsTrue (is_some (node_at front q)) → IsTrue (is_folder front (folder_of q))
front_in_folders front rest tree q some =
    let here = some_row (row_at front q) some in
    let root = row_below_root front q (front_all IsRow front rest tree.each) here in
    let whole : IsTrue (is_some (node_at (front ++ rest) q)) = ap (λ (o : Option Row). is_some (option_and_then (λ row. row.node) o)) (find-append (is_at q) front rest) ∙ kept_some (row_at front q) (row_at rest q) some in
    let nowhere = find_none (is_at (folder_of q)) rest (all_map (λ later above. not_folder q root later above) rest (rest_above front rest q tree.in_order here)) in
    let same : row_at (front ++ rest) (folder_of q) ≡ row_at front (folder_of q) =
    find-append (is_at (folder_of q)) front rest ∙ ap (option_or (row_at front (folder_of q))) nowhere ∙ no_more (row_at front (folder_of q)) in
    ap (λ (o : Option Row). is_root (folder_of q) || is_folder_node (option_and_then (λ row. row.node) o)) (sym same) ∙ tree.in_folders q whole

pub front_is_tree : (front rest : Volume) → IsTree (front ++ rest) → IsTree front
front_is_tree front rest tree = record {
  in_order = front_in_order front rest tree.in_order;
  each = front_all IsRow front rest tree.each;
  in_folders = front_in_folders front rest tree;
  few = omega (arith, tree.few, length-append front rest);
  small = omega (arith, tree.small, size_append front rest);
}
