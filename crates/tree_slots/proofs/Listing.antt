-- Listing the rows of slots, and slots made of rows.
use Rattle.std.proofs.Common.{◌≡◌, ℕ, zero, suc, ◌+◌, ◌-◌, ◌<◌, ◌≤◌, false, [], ◌∷◌, ◌++◌, length, get_or, take, Some, None, arith, refl, sym, ap, ◌∙◌, subst}
use Rattle.std.specs.List.{AllByRecursion, flat_map}
use Rattle.std.specs.Option.{option_to_list, option_and_then}
use Rattle.std.proofs.lemmas.List.{append_assoc, append-nil, take_all, take_more, take-append-drop, length-take}
use Rattle.std.specs.declared.cmp.Ordering.TheVariants.{Less}
use Rattle.std.specs.Ordering.{is_lt, is_gt, is_eq}
use Rattle.file_paths.specs.Path.{FilePath, IsPath, path_cmp}
use Rattle.tree_values.specs.declared.node.Row.{Row}
use Rattle.std.proofs.Common.{drop, drop-cons}
use Rattle.tree_values.specs.Inside.{is_at}
use Rattle.tree_values.specs.Tree.{Volume, AreInOrder, IsTree, IsRow, is_root, node_size, total_size, with_row, rows_below, rows_above, row_at}
use Rattle.tree_slots.specs.Arena.{Places, place, child_named, slot_of, own_row, rows_from, AreLinked}
use Rattle.tree_slots.proofs.Slots.{name_at, ascending_at, found_at}
use Rattle.tree_slots.proofs.Walk.{same_itself}
use Rattle.tree_values.proofs.Ordered.{filter_all, filter_none, find_none, all_map, size_append}

-- ---- listing

module _ (slots : Places) (linked : AreLinked slots) (i k : ℕ) (within : k < length (place slots i).children) where
  -- each child is found by its name
  named : child_named slots (place slots i).children (name_at slots (place slots i).children k) ≡ Some (get_or (place slots i).children k 0)
  named =
      found_at slots (place slots i).children (name_at slots (place slots i).children k) k within
      (λ j before. ascending_at slots (place slots i).children j k (linked.ascending i) before within)
      (same_itself (name_at slots (place slots i).children k))

  -- so its paths go on from its name
  pub child_paths : (path : FilePath) → ((below : FilePath) (s : ℕ) → slot_of slots i below ≡ Some s → IsPath (path ++ below)) → (below : FilePath) (s : ℕ) → slot_of slots (get_or (place slots i).children k 0) below ≡ Some s → IsPath ((path ++ name_at slots (place slots i).children k ∷ []) ++ below)
  child_paths path paths below s e =
      let there : slot_of slots i (name_at slots (place slots i).children k ∷ below) ≡ Some s = ap (option_and_then (λ c. slot_of slots c below)) named ∙ e in
      rw append_assoc (paths (name_at slots (place slots i).children k ∷ below) s there)

  pub child_path : (path : FilePath) → ((below : FilePath) (s : ℕ) → slot_of slots i below ≡ Some s → IsPath (path ++ below)) → IsPath (path ++ name_at slots (place slots i).children k ∷ [])
  child_path path paths = rw append-nil at (child_paths path paths [] (get_or (place slots i).children k 0) refl)

-- all children are listed
pub walked : (levels : ℕ) (slots : Places) (p : FilePath) (i k : ℕ) (start rows : Volume) → (levels ≡ 0 → ⊥) → length (place slots i).children ≤ k
    → rows ≡ (start ++ option_to_list (own_row p (place slots i))) ++ flat_map (λ c. rows_from (levels - 1) slots (p ++ (place slots c).name ∷ []) c) (take k (place slots i).children) → rows ≡ start ++ rows_from levels slots p i
walked zero slots p i k start rows some end is = absurd (some refl)
walked (suc levels) slots p i k start rows some end is =
    let one : suc levels - 1 ≡ levels = omega arith in
    let all : take k (place slots i).children ≡ (place slots i).children = take_all k (place slots i).children end in
    let whole = rw (one, all) at is in
    whole ∙ append_assoc start (option_to_list (own_row p (place slots i))) (flat_map (λ c. rows_from levels slots (p ++ (place slots c).name ∷ []) c) (place slots i).children)

-- ---- rows one behind the other

in_middle : (P : Row → Type 0) (xs ys : Volume) (row : Row) → AllByRecursion P (xs ++ row ∷ ys) → P row
in_middle P [] ys row all = all.0
in_middle P (x ∷ xs) ys row all = in_middle P xs ys row all.1

all_before : (xs ys : Volume) (row : Row) → AreInOrder (xs ++ row ∷ ys) → AllByRecursion (λ x. path_cmp x.path row.path ≡ Less) xs
all_before [] ys row order = tt
all_before (x ∷ xs) ys row order = (in_middle (λ next. path_cmp x.path next.path ≡ Less) xs ys row order.0, all_before xs ys row order.1)

with_last : (xs : Volume) (row : Row) → AllByRecursion (λ x. path_cmp x.path row.path ≡ Less) xs → with_row xs row ≡ xs ++ row ∷ []
with_last xs row all =
    let below : rows_below xs row.path ≡ xs = filter_all (λ r. is_lt (path_cmp r.path row.path)) xs (all_map (λ r e. ap is_lt e) xs all) in
    let above : rows_above xs row.path ≡ [] = filter_none (λ r. is_gt (path_cmp r.path row.path)) xs (all_map (λ r e. ap is_gt e) xs all) in
    rw (below, above) refl

none_yet : (xs : Volume) (row : Row) → AllByRecursion (λ x. path_cmp x.path row.path ≡ Less) xs → row_at xs row.path ≡ None
none_yet xs row all = find_none (is_at row.path) xs (all_map (λ r e. ap is_eq e) xs all)

-- what lets the next row of a tree be added
pub record CanFollow (rows : Volume) (i : ℕ) (row : Row) : Type 0 where
  pub below_root : is_root row.path ≡ false
  pub touched : 1 ≤ row.version
  pub new : row_at (take i rows) row.path ≡ None
  pub few : length (take i rows) < 9223372036854775808
  pub small : total_size (take i rows) + node_size row.node < 18446744073709551616
  pub more : with_row (take i rows) row ≡ take (i + 1) rows

pub can_follow : (rows : Volume) (i : ℕ) (row : Row) → IsTree rows → i < length rows → row ≡ get_or rows i row → CanFollow rows i row
can_follow rows i row tree within read =
    let split : rows ≡ take i rows ++ row ∷ drop (suc i) rows = sym (take-append-drop i rows) ∙ ap (λ back. take i rows ++ back) (drop-cons rows i row within ∙ ap (λ r. r ∷ drop (suc i) rows) (sym read)) in
    let sound : IsRow row = in_middle IsRow (take i rows) (drop (suc i) rows) row (subst (AllByRecursion IsRow) split tree.each) in
    let before = all_before (take i rows) (drop (suc i) rows) row (subst AreInOrder split tree.in_order) in
    let sizes = ap total_size split ∙ size_append (take i rows) (row ∷ drop (suc i) rows) in
    record {
      below_root = sound.below_root;
      touched = sound.touched;
      new = none_yet (take i rows) row before;
      few = omega (arith, length-take i rows, tree.few);
      small = omega (arith, sizes, tree.small);
      more = with_last (take i rows) row before ∙ sym (take_more rows i row within ∙ ap (λ r. take i rows ++ r ∷ []) (sym read));
    }
