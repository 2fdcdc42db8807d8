-- Rows that are in order, with one row changed.
use Rattle.std.proofs.Common.{◌≡◌, ℕ, ◌+◌, Bool, true, false, List, [], ◌∷◌, ◌++◌, filter, find, Option, Some, None, arith, refl, sym, ap, ◌∙◌, true≢false, cond, ◌-◌, length, subst, length-append}
use Rattle.std.specs.List.{AllByRecursion}
use Rattle.std.proofs.lemmas.List.{length-take}
use Rattle.std.specs.Option.{option_or, option_to_list, option_and_then}
use Rattle.std.proofs.lemmas.List.Folds.{find-append}
use Rattle.std.proofs.lemmas.List.Sums.{sum_by-append}
use Rattle.std.proofs.lemmas.Bool.Decides.{nat_tests}
use Rattle.std.specs.declared.cmp.Ordering.{Ordering}
use Rattle.std.specs.declared.cmp.Ordering.TheVariants.{Less, Equal, Greater}
use Rattle.std.specs.Ordering.{ordering_reverse, is_lt, is_eq, is_gt}
use Rattle.tree_values.specs.Inside.{is_at}
use Rattle.byte_fields.proofs.Facts.{none_behind}
use Rattle.file_paths.specs.Path.{FilePath, path_cmp, folder_of}
use Rattle.tree_values.specs.declared.node.Node.{Node}
use Rattle.tree_values.specs.declared.node.Row.{Row}
use Rattle.tree_values.specs.Tree.{AreInOrder, row_at, rows_below, rows_above, with_row, without_row, restored, total_size, node_size, node_at, version_at, touched, is_root, Volume}
use Rattle.file_paths.proofs.Order.{paths_total, same_path, same_place, below_trans, is_less, tied_path}
use Rattle.tree_values.proofs.Places.{are_above, after_row}

-- ---- facts of each row

module _ (P : Row → Type 0) where
  pub all_append : (xs ys : List Row) → AllByRecursion P xs → AllByRecursion P ys → AllByRecursion P (xs ++ ys)
  all_append [] ys all more = more
  all_append (x ∷ xs) ys all more = (all.0, all_append xs ys all.1 more)

  pub all_filter : (f : Row → Bool) (xs : List Row) → AllByRecursion P xs → AllByRecursion P (filter f xs)
  all_filter f [] all = tt
  all_filter f (x ∷ xs) all =
      elim (f x) as (λ b. AllByRecursion P (cond b (x ∷ filter f xs) (filter f xs))) [
        | true ↦ (all.0, all_filter f xs all.1)
        | false ↦ all_filter f xs all.1
      ]

  -- what a test shows holds of each element that passes
  pub all_passing : (f : Row → Bool) → ((x : Row) → f x ≡ true → P x) → (xs : List Row) → AllByRecursion P (filter f xs)
  all_passing f shows [] = tt
  all_passing f shows (x ∷ xs) =
      elim (f x) as (λ b. f x ≡ b → AllByRecursion P (cond b (x ∷ filter f xs) (filter f xs))) [
        | true ↦ λ e. (shows x e, all_passing f shows xs)
        | false ↦ λ e. all_passing f shows xs
      ] refl

pub all_map : {P Q : Row → Type 0} → ((x : Row) → P x → Q x) → (xs : List Row) → AllByRecursion P xs → AllByRecursion Q xs
all_map to [] all = tt
all_map to (x ∷ xs) all = (to x all.0, all_map to xs all.1)

-- ---- order

pub order_filter : (f : Row → Bool) (rows : List Row) → AreInOrder rows → AreInOrder (filter f rows)
order_filter f [] order = tt
order_filter f (row ∷ rows) order =
    elim (f row) as (λ b. AreInOrder (cond b (row ∷ filter f rows) (filter f rows))) [
      | true ↦ (all_filter (λ next. path_cmp row.path next.path ≡ Less) f rows order.0, order_filter f rows order.1)
      | false ↦ order_filter f rows order.1
    ]

-- rows below a path, and then rows that are not below it
pub order_join : (p : List (List ℕ)) (xs ys : List Row) → AllByRecursion (λ x. path_cmp x.path p ≡ Less) xs → AllByRecursion (λ y. is_lt (path_cmp y.path p) ≡ false) ys → AreInOrder xs → AreInOrder ys → AreInOrder (xs ++ ys)
order_join p [] ys low high front back = back
order_join p (x ∷ xs) ys low high front back =
    (all_append (λ y. path_cmp x.path y.path ≡ Less) xs ys front.0 (all_map (λ y no. below_trans x.path p y.path low.0 no) ys high), order_join p xs ys low.1 high front.1 back)

pub is_greater : (o : Ordering) → is_gt o ≡ true → o ≡ Greater
is_greater Greater e = refl
is_greater Equal e = absurd (true≢false (sym e))
is_greater Less e = absurd (true≢false (sym e))

pub all_below : (rows : List Row) (p : List (List ℕ)) → AllByRecursion (λ row. path_cmp row.path p ≡ Less) (rows_below rows p)
all_below rows p = all_passing (λ row. path_cmp row.path p ≡ Less) (λ row. is_lt (path_cmp row.path p)) (λ row e. is_less (path_cmp row.path p) e) rows

pub all_above : (rows : List Row) (p : List (List ℕ)) → AllByRecursion (λ row. path_cmp row.path p ≡ Greater) (rows_above rows p)
all_above rows p = all_passing (λ row. path_cmp row.path p ≡ Greater) (λ row. is_gt (path_cmp row.path p)) (λ row e. is_greater (path_cmp row.path p) e) rows

none_low : (rows : List Row) (p : List (List ℕ)) → AllByRecursion (λ row. is_lt (path_cmp row.path p) ≡ false) (rows_above rows p)
none_low rows p = all_map (λ row e. ap is_lt e) (rows_above rows p) (all_above rows p)

pub without_row_in_order : (rows : List Row) (p : List (List ℕ)) → AreInOrder rows → AreInOrder (without_row rows p)
without_row_in_order rows p order =
    order_join p (rows_below rows p) (rows_above rows p) (all_below rows p) (none_low rows p) (order_filter (λ row. is_lt (path_cmp row.path p)) rows order) (order_filter (λ row. is_gt (path_cmp row.path p)) rows order)

pub with_row_in_order : (rows : List Row) (new : Row) → AreInOrder rows → AreInOrder (with_row rows new)
with_row_in_order rows new order =
    order_join new.path (rows_below rows new.path) (new ∷ rows_above rows new.path) (all_below rows new.path)
    (ap is_lt (same_place new.path), none_low rows new.path)
    (order_filter (λ row. is_lt (path_cmp row.path new.path)) rows order) (
      all_map (λ row e. paths_total.antisymm new.path row.path ∙ ap ordering_reverse e) (rows_above rows new.path) (all_above rows new.path),
      order_filter (λ row. is_gt (path_cmp row.path new.path)) rows order,
    )

-- ---- the rows below a path, its row, and the rows above it

pub split_at_path : (rows : List Row) (p : List (List ℕ)) → AreInOrder rows → rows ≡ rows_below rows p ++ option_to_list (row_at rows p) ++ rows_above rows p
split_at_path [] p order = refl
split_at_path (row ∷ rows) p order = by (path_cmp row.path p) refl (split_at_path rows p order.1)
  where
    by : (o : Ordering) → path_cmp row.path p ≡ o → rows ≡ rows_below rows p ++ option_to_list (row_at rows p) ++ rows_above rows p → row ∷ rows ≡ rows_below (row ∷ rows) p ++ option_to_list (row_at (row ∷ rows) p) ++ rows_above (row ∷ rows) p
    by Less e rest = simp e (ap (λ more. row ∷ more) rest)
    by Equal e _ =
        let rest = are_above p rows (after_row p row rows (ap is_lt e) order.0) in
        simp (e, rest.none_below, rest.all_above) refl
    by Greater e _ =
        let rest = are_above p rows (after_row p row rows (ap is_lt e) order.0) in
        simp (e, rest.none_below, rest.all_above, rest.none_there) refl

-- what is put back where there was a row
pub restored_row : (rows : List Row) (kept : Row) → (kept.version ≡ 0 → ⊥) → restored rows kept ≡ with_row rows kept
restored_row rows kept some = grind (arith, nat_tests)

-- ---- what stands at each path after a change of one row

pub filter_all : (f : Row → Bool) (xs : List Row) → AllByRecursion (λ x. f x ≡ true) xs → filter f xs ≡ xs
filter_all f [] all = refl
filter_all f (x ∷ xs) all = rw all.0 (ap (λ more. x ∷ more) (filter_all f xs all.1))

pub filter_none : (f : Row → Bool) (xs : List Row) → AllByRecursion (λ x. f x ≡ false) xs → filter f xs ≡ []
filter_none f [] all = refl
filter_none f (x ∷ xs) all = rw all.0 (filter_none f xs all.1)

pub find_none : (t : Row → Bool) (xs : List Row) → AllByRecursion (λ x. t x ≡ false) xs → find t xs ≡ None
find_none t [] all = refl
find_none t (x ∷ xs) all = rw all.0 (find_none t xs all.1)

-- a search finds the same among what passes, where all that it looks for passes
pub find_filter : (t f : Row → Bool) (xs : List Row) → ((x : Row) → t x ≡ true → f x ≡ true) → find t (filter f xs) ≡ find t xs
find_filter t f [] passes = refl
find_filter t f (x ∷ xs) passes = by (t x) (f x) refl refl (find_filter t f xs passes)
  where
    by : (b c : Bool) → t x ≡ b → f x ≡ c → find t (filter f xs) ≡ find t xs → find t (filter f (x ∷ xs)) ≡ find t (x ∷ xs)
    by true true e g rest = simp (e, g) refl
    by true false e g rest = absurd (true≢false (sym (passes x e) ∙ g))
    by false true e g rest = simp (e, g) rest
    by false false e g rest = simp (e, g) rest

pub is_at_equal : (row : Row) (p : List (List ℕ)) → is_at p row ≡ true → row.path ≡ p
is_at_equal row p h = tied_path row.path p h

-- rows that are all on one side of a path are not at it
not_at_below : (rows : List Row) (p : List (List ℕ)) → AllByRecursion (λ row. is_at p row ≡ false) (rows_below rows p)
not_at_below rows p = all_map (λ row e. ap is_eq e) (rows_below rows p) (all_below rows p)

pub row_at-with_row : (rows : List Row) (new : Row) → row_at (with_row rows new) new.path ≡ Some new
row_at-with_row rows new =
    find-append (is_at new.path) (rows_below rows new.path) (new ∷ rows_above rows new.path)
    ∙ rw (find_none (is_at new.path) (rows_below rows new.path) (not_at_below rows new.path), same_place new.path) refl

-- where rows lie on the other side of p than q does, q is not among them
other_side : (p q : List (List ℕ)) (o o' : Ordering) → (o ≡ o' → ⊥) → path_cmp q p ≡ o → (row : Row) → path_cmp row.path p ≡ o' → is_at q row ≡ false
other_side p q o o' differ here row there = by (is_at q row) refl
  where
    by : (b : Bool) → is_at q row ≡ b → b ≡ false
    by false e = refl
    by true e = absurd (differ (sym here ∙ ap (λ a. path_cmp a p) (sym (is_at_equal row q e)) ∙ there))

pub row_at-other : (rows : List Row) (new : Row) (q : List (List ℕ)) → (q ≡ new.path → ⊥) → row_at (with_row rows new) q ≡ row_at rows q
row_at-other rows new q other =
    find-append (is_at q) (rows_below rows new.path) (new ∷ rows_above rows new.path) ∙ by (path_cmp q new.path) refl
  where
    at_q : (row : Row) (o : Ordering) → path_cmp q new.path ≡ o → is_at q row ≡ true → path_cmp row.path new.path ≡ o
    at_q row o e h = ap (λ a. path_cmp a new.path) (is_at_equal row q h) ∙ e

    by : (o : Ordering) → path_cmp q new.path ≡ o → option_or (find (is_at q) (rows_below rows new.path)) (find (is_at q) (new ∷ rows_above rows new.path)) ≡ row_at rows q
    by Equal e = absurd (other (same_path q new.path e))
    by Less e =
        let below = find_filter (is_at q) (λ row. is_lt (path_cmp row.path new.path)) rows (λ row h. ap is_lt (at_q row Less e h)) in
        let above = find_none (is_at q) (rows_above rows new.path) (all_map (λ row g. other_side new.path q Less Greater (λ same. cc) e row g) (rows_above rows new.path) (all_above rows new.path)) in
        let here : is_at q new ≡ false = ap is_eq (paths_total.antisymm new.path q ∙ ap ordering_reverse e) in
        rw (below, here, above) (none_behind (row_at rows q))
    by Greater e =
        let above = find_filter (is_at q) (λ row. is_gt (path_cmp row.path new.path)) rows (λ row h. ap is_gt (at_q row Greater e h)) in
        let below = find_none (is_at q) (rows_below rows new.path) (all_map (λ row g. other_side new.path q Greater Less (λ same. cc) e row g) (rows_below rows new.path) (all_below rows new.path)) in
        let here : is_at q new ≡ false = ap is_eq (paths_total.antisymm new.path q ∙ ap ordering_reverse e) in
        rw (below, here, above) refl

-- ---- sizes

pub size_append : (xs ys : List Row) → total_size (xs ++ ys) ≡ total_size xs + total_size ys
size_append = sum_by-append (λ row. node_size row.node)

pub size-with_row : (rows : List Row) (new : Row) → AreInOrder rows → total_size (with_row rows new) + node_size (node_at rows new.path) ≡ total_size rows + node_size new.node
size-with_row rows new order =
    let split = ap total_size (split_at_path rows new.path order) in
    let front = size_append (rows_below rows new.path) (new ∷ rows_above rows new.path) ∙ ap (λ n. total_size (rows_below rows new.path) + n) (size_append (new ∷ []) (rows_above rows new.path)) in
    by (row_at rows new.path) split front
  where
    by : (o : Option Row) → total_size rows ≡ total_size (rows_below rows new.path ++ option_to_list o ++ rows_above rows new.path) → total_size (with_row rows new) ≡ total_size (rows_below rows new.path) + (total_size (new ∷ []) + total_size (rows_above rows new.path)) → total_size (with_row rows new) + node_size (option_and_then (λ row. row.node) o) ≡ total_size rows + node_size new.node
    by None split front =
        let parts = size_append (rows_below rows new.path ++ []) (rows_above rows new.path) in
        let part = size_append (rows_below rows new.path) [] in
        omega (arith, split, front, parts, part)
    by (Some row) split front =
        let parts = size_append (rows_below rows new.path ++ row ∷ []) (rows_above rows new.path) in
        let part = size_append (rows_below rows new.path) (row ∷ []) in
        omega (arith, split, front, parts, part)

-- ---- counts

pub length-with_row : (rows : List Row) (new : Row) → AreInOrder rows → length (with_row rows new) + length (option_to_list (row_at rows new.path)) ≡ length rows + 1
length-with_row rows new order =
    let whole = ap length (split_at_path rows new.path order) in
    let parts = length-append (rows_below rows new.path ++ option_to_list (row_at rows new.path)) (rows_above rows new.path) in
    let part = length-append (rows_below rows new.path) (option_to_list (row_at rows new.path)) in
    let front = length-append (rows_below rows new.path) (new ∷ rows_above rows new.path) in
    omega (arith, whole, parts, part, front)

pub size_touched : (rows : List Row) (p : List (List ℕ)) (node : Option Node) → AreInOrder rows → total_size (touched rows p node) + node_size (node_at rows p) ≡ total_size rows + node_size node
size_touched rows p node order = size-with_row rows (record { path = p; version = version_at rows p + 1; node = node }) order

-- ---- rows in order that have the same row at each path are the same rows

above_first : (path : FilePath) (row : Row) (rows : Volume) → AllByRecursion (λ next. path_cmp row.path next.path ≡ Less) rows → is_lt (path_cmp row.path path) ≡ false → row_at rows path ≡ None
above_first path row rows order not_below = (are_above path rows (after_row path row rows not_below order)).none_there

before_first : (path : FilePath) (row : Row) (rows : Volume) → AllByRecursion (λ next. path_cmp row.path next.path ≡ Less) rows → path_cmp row.path path ≡ Greater → row_at (row ∷ rows) path ≡ None
before_first path row rows order e = rw e (above_first path row rows order (ap is_lt e))

at_first : (row : Row) (rows : Volume) → row_at (row ∷ rows) row.path ≡ Some row
at_first row rows = rw (same_place row.path) refl

-- of two lists with one first row, the others have the same rows
others_same : (x : Row) (xs ys : Volume) (path : FilePath) → AreInOrder (x ∷ xs) → AreInOrder (x ∷ ys) → row_at (x ∷ xs) path ≡ row_at (x ∷ ys) path → row_at xs path ≡ row_at ys path
others_same x xs ys path order_x order_y same = by (path_cmp x.path path) refl same
  where
    by : (o : Ordering) → path_cmp x.path path ≡ o → cond (is_eq o) (Some x) (row_at xs path) ≡ cond (is_eq o) (Some x) (row_at ys path) → row_at xs path ≡ row_at ys path
    by Less e same = same
    by Greater e same = same
    by Equal e same = above_first path x xs order_x.0 (ap is_lt e) ∙ sym (above_first path x ys order_y.0 (ap is_lt e))

pub same_rows : (a b : Volume) → AreInOrder a → AreInOrder b → ((path : FilePath) → row_at a path ≡ row_at b path) → a ≡ b
same_rows [] [] order_a order_b same = refl
same_rows [] (y ∷ ys) order_a order_b same = let some = same y.path ∙ at_first y ys in absurd (cc)
same_rows (x ∷ xs) [] order_a order_b same = let some = sym (same x.path) ∙ at_first x xs in absurd (cc)
same_rows (x ∷ xs) (y ∷ ys) order_a order_b same =
    by (path_cmp y.path x.path) refl (λ tails. same_rows xs ys order_a.1 order_b.1 tails)
  where
    tails_same : x ≡ y → (path : FilePath) → row_at xs path ≡ row_at ys path
    tails_same heads path = others_same x xs ys path order_a
        (subst (λ r. AreInOrder (r ∷ ys)) (sym heads) order_b)
        (subst (λ r. row_at (x ∷ xs) path ≡ row_at (r ∷ ys) path) (sym heads) (same path))

    by : (o : Ordering) → path_cmp y.path x.path ≡ o → (((path : FilePath) → row_at xs path ≡ row_at ys path) → xs ≡ ys) → x ∷ xs ≡ y ∷ ys
    by Greater e tails = let some = sym (at_first x xs) ∙ same x.path ∙ before_first x.path y ys order_b.0 e in absurd (cc)
    by Less e tails = let some = sym (at_first y ys) ∙ sym (same y.path) ∙ before_first y.path x xs order_a.0 (paths_total.antisymm x.path y.path ∙ ap ordering_reverse e) in absurd (cc)
    by Equal e tails =
        let found : Some x ≡ Some y = sym (at_first x xs) ∙ same x.path ∙ rw e refl in
        let heads : x ≡ y = cc (found) in
        λ i. heads i ∷ tails (tails_same heads) i

-- ---- folders

-- what is below the root is not its own folder
pub above_itself : (p : List (List ℕ)) → is_root p ≡ false → folder_of p ≡ p → ⊥
above_itself [] root same = true≢false root
above_itself (n ∷ ns) root same = omega (arith, length-take (length (n ∷ ns) - 1) (n ∷ ns), ap length same)
