-- An effect that is not refused leaves a tree, and what is kept of it puts the rows back.
use Rattle.std.proofs.Common.{◌≡◌, ℕ, ◌+◌, ◌≤◌, ◌<◌, Bool, true, false, ◌||◌, ◌==◌, not, List, [], ◌∷◌, length, find, Option, Some, None, IsTrue, is_some, option_map, unwrap_or, Ok, arith, refl, sym, ap, ◌∙◌, subst, true≢false}
use Rattle.std.specs.Prelude.{nat_lt, nat_le, ◌&&◌, ◌^◌}
use Rattle.std.specs.List.{AllByRecursion}
use Rattle.std.specs.Option.{option_to_list, option_and_then}
use Rattle.std.proofs.lemmas.Bool.{eqb-false}
use Rattle.std.proofs.lemmas.Bool.Decides.{nat_tests}
use Rattle.std.specs.declared.cmp.Ordering.{Ordering}
use Rattle.std.specs.declared.cmp.Ordering.TheVariants.{Less, Equal, Greater}
use Rattle.file_paths.specs.Limits.{max_file}
use Rattle.tree_values.specs.Limits.{max_rows, max_files}
use Rattle.tree_values.specs.Inside.{is_at}
use Rattle.byte_fields.specs.Codec.{IsBytes}
use Rattle.file_paths.specs.Path.{path_cmp, folder_of, IsPath, is_same_path}
use Rattle.tree_values.specs.declared.node.Node.{Node}
use Rattle.tree_values.specs.declared.node.Node.TheVariants.{Folder, File}
use Rattle.tree_values.specs.declared.node.Row.{Row}
use Rattle.tree_values.specs.declared.node.Effect.{Effect}
use Rattle.tree_values.specs.declared.node.Effect.TheVariants.{Make, Put, Remove, Move, Mode}
use Rattle.tree_values.specs.Tree.{AreInOrder, IsRow, IsTree, row_at, node_at, version_at, is_root, is_folder, is_folder_node, node_size, file_bytes, total_size, has_no_room, is_at_top, with_content, with_mode, size_with, is_child, rows_below, rows_above, touched, touched_paths, kept_row, kept_rows, restored, undone, CanUndo, refusals, changed, apply, IsLegalEffect}
use Rattle.byte_fields.proofs.Facts.{no_bytes, not_lt_of, not_false_of, or_false_of, or_true, none_mapped}
use Rattle.file_paths.proofs.Order.{same_path, same_place, paths_differ}
pub use Rattle.file_paths.proofs.Refusals.{none_refused, not_when}
use Rattle.tree_values.proofs.Ordered.{all_append, all_filter, all_map, with_row_in_order, row_at-with_row, row_at-other, above_itself, length-with_row, size_touched, is_at_equal}
use Rattle.tree_values.proofs.Undoing.{undo_touched, find_passes, find_among}
use Rattle.std.specs.Cmp.Derive.{both_true}
use Rattle.std.specs.Ordering.{is_eq}

-- ---- what is not refused

-- no touched path is at the last version
pub below_top : (effect : Effect) (rows : List Row) → apply effect rows ≡ Ok (changed effect rows) → AllByRecursion (λ p. is_at_top rows p ≡ false) (touched_paths effect)
below_top (Make p) rows h =
    let none = none_refused (refusals (Make p) rows) _ _ h in (not_when _ _ none.1.1.1.1.0, tt)
below_top (Put p content) rows h =
    let none = none_refused (refusals (Put p content) rows) _ _ h in (not_when _ _ none.1.1.1.1.1.1.0, tt)
below_top (Remove p) rows h =
    let none = none_refused (refusals (Remove p) rows) _ _ h in (not_when _ _ none.1.1.1.0, tt)
below_top (Move p q) rows h =
    let none = none_refused (refusals (Move p q) rows) _ _ h in (not_when _ _ none.1.1.1.1.1.1.0, (not_when _ _ none.1.1.1.1.1.1.1.0, tt))
below_top (Mode p exec) rows h =
    let none = none_refused (refusals (Mode p exec) rows) _ _ h in (not_when _ _ none.1.1.1.0, tt)

-- ---- what stands at each path once one is touched

pub node_touched : (rows : List Row) (p : List (List ℕ)) (node : Option Node) → node_at (touched rows p node) p ≡ node
node_touched rows p node = rw (row_at-with_row rows (record { path = p; version = version_at rows p + 1; node = node })) refl

pub row_untouched : (rows : List Row) (p : List (List ℕ)) (node : Option Node) (q : List (List ℕ)) → (q ≡ p → ⊥) → row_at (touched rows p node) q ≡ row_at rows q
row_untouched rows p node q other = row_at-other rows (record { path = p; version = version_at rows p + 1; node = node }) q other

pub node_untouched : (rows : List Row) (p : List (List ℕ)) (node : Option Node) (q : List (List ℕ)) → (q ≡ p → ⊥) → node_at (touched rows p node) q ≡ node_at rows q
node_untouched rows p node q other = ap (option_and_then (λ row. row.node)) (row_untouched rows p node q other)

folder_untouched : (rows : List Row) (p : List (List ℕ)) (node : Option Node) (q : List (List ℕ)) → (q ≡ p → ⊥) → is_folder (touched rows p node) q ≡ is_folder rows q
folder_untouched rows p node q other = ap (λ n. is_root q || is_folder_node n) (node_untouched rows p node q other)

abbrev AreInFolders : List Row → Type 0
AreInFolders rows = (path : List (List ℕ)) → IsTrue (is_some (node_at rows path)) → IsTrue (is_folder rows (folder_of path))

-- a touched path keeps the rule on folders, where it stands in one and still holds what stands in it
in_folders_touched : (rows : List Row) (p : List (List ℕ)) (node : Option Node) → AreInFolders rows → is_root p ≡ false → (IsTrue (is_some node) → IsTrue (is_folder rows (folder_of p))) → ((path : List (List ℕ)) → IsTrue (is_some (node_at rows path)) → folder_of path ≡ p → IsTrue (is_folder_node node)) → AreInFolders (touched rows p node)
in_folders_touched rows p node folders root up down path some = by (path_cmp path p) refl
  where
    at_p : path ≡ p → IsTrue (is_folder (touched rows p node) (folder_of path))
    at_p same =
        let here : IsTrue (is_some node) = ap is_some (sym (node_touched rows p node) ∙ ap (node_at (touched rows p node)) (sym same)) ∙ some in
        ap (λ a. is_folder (touched rows p node) (folder_of a)) same ∙ folder_untouched rows p node (folder_of p) (above_itself p root) ∙ up here

    elsewhere : (path ≡ p → ⊥) → (o : Ordering) → path_cmp (folder_of path) p ≡ o → IsTrue (is_folder (touched rows p node) (folder_of path))
    elsewhere other o e =
        let there : IsTrue (is_some (node_at rows path)) = ap is_some (sym (node_untouched rows p node path other)) ∙ some in
        elim o as (λ o. path_cmp (folder_of path) p ≡ o → IsTrue (is_folder (touched rows p node) (folder_of path))) [
          | Less ↦ λ e. folder_untouched rows p node (folder_of path) (paths_differ (folder_of path) p Less e (λ l. cc)) ∙ folders path there
          | Greater ↦ λ e. folder_untouched rows p node (folder_of path) (paths_differ (folder_of path) p Greater e (λ l. cc)) ∙ folders path there
          | Equal ↦ λ e.
              let same = same_path (folder_of path) p e in
              ap (is_folder (touched rows p node)) same ∙ or_true (is_root p) (is_folder_node (node_at (touched rows p node) p)) (ap is_folder_node (node_touched rows p node) ∙ down path there same)
        ] e

    by : (o : Ordering) → path_cmp path p ≡ o → IsTrue (is_folder (touched rows p node) (folder_of path))
    by Less e = elsewhere (paths_differ path p Less e (λ l. cc)) (path_cmp (folder_of path) p) refl
    by Greater e = elsewhere (paths_differ path p Greater e (λ l. cc)) (path_cmp (folder_of path) p) refl
    by Equal e = at_p (same_path path p e)

-- the version of a path with this row
abbrev top : Option Row → Bool
top row = unwrap_or (option_map (λ r. r.version) row) 0 == 18446744073709551615

-- one effect more is still counted
next_version : (rows : List Row) (p : List (List ℕ)) → AllByRecursion IsRow rows → is_at_top rows p ≡ false → version_at rows p + 1 < 2 ^ 64
next_version rows p each below = by (row_at rows p) refl below
  where
    by : (o : Option Row) → row_at rows p ≡ o → top o ≡ false → unwrap_or (option_map (λ r. r.version) o) 0 + 1 < 2 ^ 64
    by None e below = omega arith
    by (Some row) e below =
        let fits = (find_among IsRow (is_at p) rows row each e).version_fits in
        let ne = eqb-false row.version 18446744073709551615 below in
        omega (arith, fits, ne)

-- ---- counts

few_touched : (rows : List Row) (p : List (List ℕ)) (node : Option Node) → AreInOrder rows → length rows ≤ max_rows → has_no_room rows p ≡ false → length (touched rows p node) ≤ max_rows
few_touched rows p node order few room =
    by (row_at rows p) room (length-with_row rows (record { path = p; version = version_at rows p + 1; node = node }) order)
  where
    by : (o : Option Row) → (not (is_some o) && nat_le max_rows (length rows)) ≡ false → length (touched rows p node) + length (option_to_list o) ≡ length rows + 1 → length (touched rows p node) ≤ max_rows
    by None room long = grind (arith, nat_tests)
    by (Some row) room long = omega (arith, long, few)

-- a path whose version may still rise
pub record CanRise (rows : List Row) (p : List (List ℕ)) : Type 0 where
  pub is_path : IsPath p
  pub below_top : is_at_top rows p ≡ false

each_touched : (rows : List Row) (p : List (List ℕ)) (node : Option Node) → AllByRecursion IsRow rows → CanRise rows p → is_root p ≡ false → node_size node ≤ max_file → IsBytes (file_bytes node) → AllByRecursion IsRow (touched rows p node)
each_touched rows p node each rise root small bytes =
    all_append IsRow (rows_below rows p) (record { path = p; version = version_at rows p + 1; node = node } ∷ rows_above rows p)
    (all_filter IsRow _ rows each)
    (record { is_path = rise.is_path; below_root = root; touched = omega arith; version_fits = next_version rows p each rise.below_top; small = small; bytes = bytes }, all_filter IsRow _ rows each)

-- ---- trees

touched_is_tree : (rows : List Row) (p : List (List ℕ)) (node : Option Node) → IsTree rows → CanRise rows p → is_root p ≡ false → node_size node ≤ max_file → IsBytes (file_bytes node) → has_no_room rows p ≡ false → total_size (touched rows p node) ≤ max_files → AreInFolders (touched rows p node) → IsTree (touched rows p node)
touched_is_tree rows p node tree rise root small bytes room total folders = record {
  in_order = with_row_in_order rows _ tree.in_order;
  each = each_touched rows p node tree.each rise root small bytes;
  in_folders = folders;
  few = few_touched rows p node tree.in_order tree.few room;
  small = total;
}

-- what is no folder has nothing in it
nothing_within : (rows : List Row) (p : List (List ℕ)) → AreInFolders rows → is_folder rows p ≡ false → (path : List (List ℕ)) → IsTrue (is_some (node_at rows path)) → folder_of path ≡ p → ⊥
nothing_within rows p folders file path some same = true≢false (sym (folders path some) ∙ ap (is_folder rows) same ∙ file)

made_is_tree : (rows : List Row) (p : List (List ℕ)) → IsTree rows → IsPath p → apply (Make p) rows ≡ Ok (changed (Make p) rows) → IsTree (changed (Make p) rows)
made_is_tree rows p tree legal h =
    let none = none_refused (refusals (Make p) rows) _ _ h in
    let root = not_when (is_root p) _ none.0 in
    let size = size_touched rows p (Some Folder) tree.in_order in
    touched_is_tree rows p (Some Folder) tree (record { is_path = legal; below_top = (below_top (Make p) rows h).0 }) root (omega arith) no_bytes (not_when (has_no_room rows p) _ none.1.1.1.0) (omega (arith, size, tree.small))
    (in_folders_touched rows p (Some Folder) tree.in_folders root (λ _. not_false_of (is_folder rows (folder_of p)) (not_when (not (is_folder rows (folder_of p))) _ none.1.0)) (λ path some same. refl))

put_is_tree : (rows : List Row) (p : List (List ℕ)) (content : List ℕ) → IsTree rows → IsLegalEffect (Put p content) → apply (Put p content) rows ≡ Ok (changed (Put p content) rows) → IsTree (changed (Put p content) rows)
put_is_tree rows p content tree legal h =
    let none = none_refused (refusals (Put p content) rows) _ _ h in
    let root = not_when (is_root p) _ none.0 in
    let new : Option Node = Some (with_content (node_at rows p) content) in
    let size = size_touched rows p new tree.in_order in
    let short : length content ≤ max_file = not_lt_of max_file (length content) (not_when (nat_lt max_file (length content)) _ none.1.1.1.1.0) in
    let total : size_with rows p content ≤ max_files = not_lt_of max_files (size_with rows p content) (not_when (nat_lt max_files (size_with rows p content)) _ none.1.1.1.1.1.0) in
    touched_is_tree rows p new tree (record { is_path = legal.0; below_top = (below_top (Put p content) rows h).0 }) root short legal.1 (not_when (has_no_room rows p) _ none.1.1.1.0) (omega (arith, size, total))
    (in_folders_touched rows p new tree.in_folders root
    (λ _. not_false_of (is_folder rows (folder_of p)) (not_when (not (is_folder rows (folder_of p))) _ none.1.0))
    (λ path some same. absurd (nothing_within rows p tree.in_folders (not_when (is_folder rows p) _ none.1.1.0) path some same)))

-- what has a node has a row
pub has_row : (rows : List Row) (p : List (List ℕ)) → is_some (node_at rows p) ≡ true → is_some (row_at rows p) ≡ true
has_row rows p h = by (row_at rows p) h
  where
    by : (o : Option Row) → is_some (option_and_then (λ row. row.node) o) ≡ true → is_some o ≡ true
    by None h = h
    by (Some row) h = refl

room_of_row : (rows : List Row) (p : List (List ℕ)) → is_some (row_at rows p) ≡ true → has_no_room rows p ≡ false
room_of_row rows p h = rw h refl

all_fail : (t : Row → Bool) (rows : List Row) → find t rows ≡ None → AllByRecursion (λ row. t row ≡ false) rows
all_fail t [] h = tt
all_fail t (row ∷ rows) h = by (t row) refl (all_fail t rows)
  where
    by : (b : Bool) → t row ≡ b → (find t rows ≡ None → AllByRecursion (λ row. t row ≡ false) rows) → AllByRecursion (λ row. t row ≡ false) (row ∷ rows)
    by true e rest = absurd (cc (rw e at h))
    by false e rest = (e, rest (rw e at h))

-- a folder without a child has nothing in it
no_child : (rows : List Row) (p : List (List ℕ)) → find (is_child p) rows ≡ None → (path : List (List ℕ)) → IsTrue (is_some (node_at rows path)) → folder_of path ≡ p → ⊥
no_child rows p none path some same = by (row_at rows path) refl some
  where
    by : (o : Option Row) → row_at rows path ≡ o → is_some (option_and_then (λ row. row.node) o) ≡ true → ⊥
    by None e some = true≢false (sym some)
    by (Some row) e some =
        let at = is_at_equal row path (find_passes (is_at path) rows row e) in
        let child : is_child p row ≡ true = both_true some (ap (λ a. is_same_path (folder_of a) p) at ∙ ap (λ a. is_same_path a p) same ∙ ap is_eq (same_place p)) in
        true≢false (sym child ∙ find_among (λ row. is_child p row ≡ false) (is_at path) rows row (all_fail (is_child p) rows none) e)

removed_is_tree : (rows : List Row) (p : List (List ℕ)) → IsTree rows → IsPath p → apply (Remove p) rows ≡ Ok (changed (Remove p) rows) → IsTree (changed (Remove p) rows)
removed_is_tree rows p tree legal h =
    let none = none_refused (refusals (Remove p) rows) _ _ h in
    let root = not_when (is_root p) _ none.0 in
    let size = size_touched rows p None tree.in_order in
    let there = not_false_of (is_some (node_at rows p)) (not_when (not (is_some (node_at rows p))) _ none.1.0) in
    let childless = none_mapped _ (find (is_child p) rows) none.1.1.0 in
    touched_is_tree rows p None tree (record { is_path = legal; below_top = (below_top (Remove p) rows h).0 }) root (omega arith) no_bytes (room_of_row rows p (has_row rows p there)) (omega (arith, size, tree.small))
    (in_folders_touched rows p None tree.in_folders root (λ h. absurd (true≢false (sym h))) (λ path some same. absurd (no_child rows p childless path some same)))

-- the paths of a move differ, since one has a node and the other has none
pub moved_apart : (rows : List Row) (p q : List (List ℕ)) → is_some (node_at rows p) ≡ true → is_some (node_at rows q) ≡ false → p ≡ q → ⊥
moved_apart rows p q some none same = true≢false (sym some ∙ ap (λ a. is_some (node_at rows a)) same ∙ none)

size_of_none : (node : Option Node) → is_some node ≡ false → node_size node ≡ 0
size_of_none None h = refl
size_of_none (Some node) h = absurd (true≢false h)

pub small_node : (rows : List Row) (p : List (List ℕ)) → AllByRecursion IsRow rows → node_size (node_at rows p) ≤ max_file
small_node rows p each = by (row_at rows p) refl
  where
    by : (o : Option Row) → row_at rows p ≡ o → node_size (option_and_then (λ row. row.node) o) ≤ max_file
    by None e = omega arith
    by (Some row) e = (find_among IsRow (is_at p) rows row each e).small

-- what stands at a path of rows that are sound is bytes
node_bytes : (rows : List Row) (p : List (List ℕ)) → AllByRecursion IsRow rows → IsBytes (file_bytes (node_at rows p))
node_bytes rows p each = by (row_at rows p) refl
  where
    by : (o : Option Row) → row_at rows p ≡ o → IsBytes (file_bytes (option_and_then (λ row. row.node) o))
    by None e = no_bytes
    by (Some row) e = (find_among IsRow (is_at p) rows row each e).bytes

-- whether a file may be run changes neither its bytes nor what kind of node it is
pub mode_size : (exec : Bool) (node : Option Node) → node_size (with_mode exec node) ≡ node_size node
mode_size exec None = refl
mode_size exec (Some Folder) = refl
mode_size exec (Some (File content old)) = refl

mode_bytes : (exec : Bool) (node : Option Node) → file_bytes (with_mode exec node) ≡ file_bytes node
mode_bytes exec None = refl
mode_bytes exec (Some Folder) = refl
mode_bytes exec (Some (File content old)) = refl

pub mode_is_small : (rows : List Row) (p : List (List ℕ)) (exec : Bool) → AllByRecursion IsRow rows → node_size (with_mode exec (node_at rows p)) ≤ max_file
mode_is_small rows p exec each = omega (arith, mode_size exec (node_at rows p), small_node rows p each)

mode_is_tree : (rows : List Row) (p : List (List ℕ)) (exec : Bool) → IsTree rows → IsPath p → apply (Mode p exec) rows ≡ Ok (changed (Mode p exec) rows) → IsTree (changed (Mode p exec) rows)
mode_is_tree rows p exec tree legal h =
    let none = none_refused (refusals (Mode p exec) rows) _ _ h in
    let root = not_when (is_root p) _ none.0 in
    let new = with_mode exec (node_at rows p) in
    let size = size_touched rows p new tree.in_order in
    let there = not_false_of (is_some (node_at rows p)) (not_when (not (is_some (node_at rows p))) _ none.1.0) in
    let bytes = subst IsBytes (sym (mode_bytes exec (node_at rows p))) (node_bytes rows p tree.each) in
    touched_is_tree rows p new tree (record { is_path = legal; below_top = (below_top (Mode p exec) rows h).0 }) root (mode_is_small rows p exec tree.each) bytes (room_of_row rows p (has_row rows p there)) (omega (arith, size, mode_size exec (node_at rows p), tree.small))
    (in_folders_touched rows p new tree.in_folders root
    (λ some. tree.in_folders p there)
    (λ path some same. absurd (nothing_within rows p tree.in_folders (not_when (is_folder rows p) _ none.1.1.0) path some same)))

-- what the refusals of a move leave
pub record CanMove (rows : List Row) (p q : List (List ℕ)) : Type 0 where
  pub from_below_root : is_root p ≡ false
  pub to_below_root : is_root q ≡ false
  pub into_folder : is_folder rows (folder_of q) ≡ true
  pub free : is_some (node_at rows q) ≡ false
  pub there : is_some (node_at rows p) ≡ true
  pub no_folder : is_folder rows p ≡ false
  pub room : has_no_room rows q ≡ false

pub can_move : (rows : List Row) (p q : List (List ℕ)) → apply (Move p q) rows ≡ Ok (changed (Move p q) rows) → CanMove rows p q
can_move rows p q h =
    let none = none_refused (refusals (Move p q) rows) _ _ h in
    let roots = or_false_of (is_root p) (is_root q) (not_when (is_root p || is_root q) _ none.0) in
    record {
      from_below_root = roots.0;
      to_below_root = roots.1;
      into_folder = not_false_of (is_folder rows (folder_of q)) (not_when (not (is_folder rows (folder_of q))) _ none.1.0);
      free = not_when (is_some (node_at rows q)) _ none.1.1.0;
      there = not_false_of (is_some (node_at rows p)) (not_when (not (is_some (node_at rows p))) _ none.1.1.1.0);
      no_folder = not_when (is_folder rows p) _ none.1.1.1.1.0;
      room = not_when (has_no_room rows q) _ none.1.1.1.1.1.0;
    }

free_is_no_folder : (rows : List Row) (q : List (List ℕ)) → is_root q ≡ false → is_some (node_at rows q) ≡ false → is_folder rows q ≡ false
free_is_no_folder rows q root free = rw root (by (node_at rows q) free)
  where
    by : (node : Option Node) → is_some node ≡ false → is_folder_node node ≡ false
    by None h = refl
    by (Some node) h = absurd (true≢false h)

moved_is_tree : (rows : List Row) (p q : List (List ℕ)) → IsTree rows → IsPath p → IsPath q → apply (Move p q) rows ≡ Ok (changed (Move p q) rows) → IsTree (changed (Move p q) rows)
moved_is_tree rows p q tree legal_p legal_q h =
    let can = can_move rows p q h in
    let apart = moved_apart rows p q can.there can.free in
    let middle : List Row = touched rows q (node_at rows p) in
    let order : AreInOrder (touched rows q (node_at rows p)) = with_row_in_order rows _ tree.in_order in
    let tops = below_top (Move p q) rows h in
    let each = each_touched rows q (node_at rows p) tree.each (record { is_path = legal_q; below_top = tops.1.0 }) can.to_below_root (small_node rows p tree.each) (node_bytes rows p tree.each) in
    let few = few_touched rows q (node_at rows p) tree.in_order tree.few can.room in
    let size = size_touched rows q (node_at rows p) tree.in_order in
    let nothing = size_of_none (node_at rows q) can.free in
    let still = node_untouched rows q (node_at rows p) p apart in
    let again = size_touched (touched rows q (node_at rows p)) p None order in
    let same_size = ap node_size still in
    let up = λ (some : IsTrue (is_some (node_at rows p))). can.into_folder in
    let folders = in_folders_touched rows q (node_at rows p) tree.in_folders can.to_below_root up
    (λ path some same. absurd (nothing_within rows q tree.in_folders (free_is_no_folder rows q can.to_below_root can.free) path some same)) in
    let file : is_folder (touched rows q (node_at rows p)) p ≡ false = folder_untouched rows q (node_at rows p) p apart ∙ can.no_folder in
    record {
      in_order = with_row_in_order (touched rows q (node_at rows p)) _ order;
      each = each_touched (touched rows q (node_at rows p)) p None each
          (record { is_path = legal_p; below_top = ap top (row_untouched rows q (node_at rows p) p apart) ∙ tops.0 }) can.from_below_root (omega arith) no_bytes;
      in_folders = in_folders_touched (touched rows q (node_at rows p)) p None folders can.from_below_root (λ h. absurd (true≢false (sym h)))
          (λ path some same. absurd (nothing_within (touched rows q (node_at rows p)) p folders file path some same));
      few = few_touched (touched rows q (node_at rows p)) p None order few
          (room_of_row (touched rows q (node_at rows p)) p (ap is_some (row_untouched rows q (node_at rows p) p apart) ∙ has_row rows p can.there));
      small = omega (arith, size, nothing, again, same_size, tree.small);
    }

pub changed_is_tree : (effect : Effect) (rows : List Row) → IsTree rows → IsLegalEffect effect → apply effect rows ≡ Ok (changed effect rows) → IsTree (changed effect rows)
changed_is_tree (Make p) rows tree legal h = made_is_tree rows p tree legal h
changed_is_tree (Put p content) rows tree legal h = put_is_tree rows p content tree legal h
changed_is_tree (Remove p) rows tree legal h = removed_is_tree rows p tree legal h
changed_is_tree (Move p q) rows tree legal h = moved_is_tree rows p q tree legal.0 legal.1 h
changed_is_tree (Mode p exec) rows tree legal h = mode_is_tree rows p exec tree legal h

-- ---- undoing

-- each row counts at least one effect
pub each_counted : (rows : List Row) → IsTree rows → AllByRecursion (λ row. 1 ≤ row.version) rows
each_counted rows tree = all_map (λ row sound. sound.touched) rows tree.each

pub counted_touched : (rows : List Row) (p : List (List ℕ)) (node : Option Node) → AllByRecursion (λ row. 1 ≤ row.version) rows → AllByRecursion (λ row. 1 ≤ row.version) (touched rows p node)
counted_touched rows p node each =
    all_append (λ row. 1 ≤ row.version) (rows_below rows p) (record { path = p; version = version_at rows p + 1; node = node } ∷ rows_above rows p)
    (all_filter (λ row. 1 ≤ row.version) _ rows each)
    (omega arith, all_filter (λ row. 1 ≤ row.version) _ rows each)

kept_untouched : (rows : List Row) (p : List (List ℕ)) (node : Option Node) (q : List (List ℕ)) → (q ≡ p → ⊥) → kept_row (touched rows p node) q ≡ kept_row rows q
kept_untouched rows p node q other =
    ap (λ o. record { path = q; version = unwrap_or (option_map (λ row. row.version) o) 0; node = option_and_then (λ row. row.node) o }) (row_untouched rows p node q other)

row_there : (rows : List Row) (p : List (List ℕ)) (node : Option Node) → is_some (row_at (touched rows p node) p) ≡ true
row_there rows p node = ap is_some (row_at-with_row rows (record { path = p; version = version_at rows p + 1; node = node }))

-- the first of a move's undoings gives the rows between its two changes
undo_first : (rows : List Row) (p q : List (List ℕ)) → IsTree rows → apply (Move p q) rows ≡ Ok (changed (Move p q) rows) → restored (changed (Move p q) rows) (kept_row rows p) ≡ touched rows q (node_at rows p)
undo_first rows p q tree h =
    let can = can_move rows p q h in
    let apart = moved_apart rows p q can.there can.free in
    let order : AreInOrder (touched rows q (node_at rows p)) = with_row_in_order rows _ tree.in_order in
    ap (restored (changed (Move p q) rows)) (sym (kept_untouched rows q (node_at rows p) p apart))
    ∙ undo_touched (touched rows q (node_at rows p)) p None order (counted_touched rows q (node_at rows p) (each_counted rows tree))

pub undone_change : (effect : Effect) (rows : List Row) → IsTree rows → apply effect rows ≡ Ok (changed effect rows) → undone (kept_rows effect rows) (changed effect rows) ≡ rows
undone_change (Make p) rows tree h = undo_touched rows p _ tree.in_order (each_counted rows tree)
undone_change (Put p content) rows tree h = undo_touched rows p _ tree.in_order (each_counted rows tree)
undone_change (Remove p) rows tree h = undo_touched rows p _ tree.in_order (each_counted rows tree)
undone_change (Move p q) rows tree h =
    ap (λ middle. restored middle (kept_row rows q)) (undo_first rows p q tree h) ∙ undo_touched rows q (node_at rows p) tree.in_order (each_counted rows tree)
undone_change (Mode p exec) rows tree h = undo_touched rows p _ tree.in_order (each_counted rows tree)

pub can_undo_change : (effect : Effect) (rows : List Row) → IsTree rows → apply effect rows ≡ Ok (changed effect rows) → CanUndo (kept_rows effect rows) (changed effect rows)
can_undo_change (Make p) rows tree h = (row_there rows p _, subst IsTree (sym (undone_change (Make p) rows tree h)) tree)
can_undo_change (Put p content) rows tree h = (row_there rows p _, subst IsTree (sym (undone_change (Put p content) rows tree h)) tree)
can_undo_change (Remove p) rows tree h = (row_there rows p _, subst IsTree (sym (undone_change (Remove p) rows tree h)) tree)
can_undo_change (Move p q) rows tree h = (
  row_there (touched rows q (node_at rows p)) p None,
  (
    ap (λ middle. is_some (row_at middle q)) (undo_first rows p q tree h) ∙ row_there rows q (node_at rows p),
    subst IsTree (sym (undone_change (Move p q) rows tree h)) tree,
  ),
)
can_undo_change (Mode p exec) rows tree h = (row_there rows p _, subst IsTree (sym (undone_change (Mode p exec) rows tree h)) tree)

-- the rows between the two changes of a move
pub record IsBetween (rows middle : List Row) (p q : List (List ℕ)) : Type 0 where
  pub in_order : AreInOrder middle
  pub there : is_some (row_at middle p) ≡ true
  pub below : is_at_top middle p ≡ false
  pub kept : kept_row middle p ≡ kept_row rows p
  pub after : touched middle p None ≡ changed (Move p q) rows

pub between : (rows middle : List Row) (p q : List (List ℕ)) → IsTree rows → apply (Move p q) rows ≡ Ok (changed (Move p q) rows) → middle ≡ touched rows q (node_at rows p) → IsBetween rows middle p q
between rows middle p q tree h is =
    let can = can_move rows p q h in
    let apart = moved_apart rows p q can.there can.free in
    let row = row_untouched rows q (node_at rows p) p apart in
    let at_version = ap (λ o. unwrap_or (option_map (λ row. row.version) o) 0 == 18446744073709551615) row in
    subst (λ m. IsBetween rows m p q) (sym is) (record {
      in_order = with_row_in_order rows _ tree.in_order;
      there = ap is_some row ∙ has_row rows p can.there;
      below = at_version ∙ (below_top (Move p q) rows h).0;
      kept = kept_untouched rows q (node_at rows p) p apart;
      after = refl;
    })

-- the same, of values that are equal
pub between_of : (rows middle : List Row) (p q to : List (List ℕ)) (node : Option Node) → IsTree rows → apply (Move p q) rows ≡ Ok (changed (Move p q) rows) → middle ≡ touched rows to node → to ≡ q → node ≡ node_at rows p → IsBetween rows middle p q
between_of rows middle p q to node tree h is same_to same_node =
    between rows middle p q tree h (is ∙ ap (λ a. touched rows a node) same_to ∙ ap (touched rows q) same_node)
