-- How many rows there are after a change of one, and the bytes of their files.
use Rattle.std.proofs.Common.{◌≡◌, ℕ, ◌+◌, ◌-◌, ◌<◌, ◌≤◌, ◌==◌, Bool, true, false, cond, List, [], ◌∷◌, ◌++◌, length, Option, Some, None, is_some, inl, inr, arith, refl, sym, ap, ◌∙◌, subst, true≢false, length-append}
use Rattle.std.specs.Prelude.{option_map, unwrap_or}
use Rattle.std.specs.List.{AllByRecursion}
use Rattle.std.specs.Option.{option_to_list, option_and_then}
use Rattle.std.proofs.lemmas.Bool.{cases_eq, eqb-true}
use Rattle.file_paths.specs.Limits.{max_file}
use Rattle.tree_values.specs.Limits.{max_rows, max_files}
use Rattle.tree_values.specs.Inside.{is_at}
use Rattle.file_paths.specs.Path.{FilePath}
use Rattle.tree_values.specs.declared.node.Node.{Node}
use Rattle.tree_values.specs.declared.node.Row.{Row}
use Rattle.tree_values.specs.Tree.{Volume, AreInOrder, row_at, version_at, node_at, node_size, total_size, rows_below, rows_above, with_row, without_row, touched, kept_row, restored, refusals, changed, apply}
use Rattle.tree_slots.specs.Arena.{IsCounted, new_rows}
use Rattle.tree_values.proofs.Ordered.{all_append, all_filter, split_at_path, with_row_in_order, without_row_in_order, size_append, size-with_row, restored_row, length-with_row, size_touched}
use Rattle.std.proofs.Common.{Ok}
use Rattle.std.specs.Prelude.{nat_lt}
use Rattle.byte_fields.proofs.Facts.{not_lt_of}
use Rattle.file_paths.proofs.Refusals.{none_refused, not_when}
use Rattle.tree_values.specs.declared.node.Effect.TheVariants.{Put}
use Rattle.tree_values.proofs.Undoing.{find_among}

length-without_row : (rows : Volume) (p : FilePath) → AreInOrder rows → length (without_row rows p) + length (option_to_list (row_at rows p)) ≡ length rows
length-without_row rows p order =
    let whole = ap length (split_at_path rows p order) in
    let parts = length-append (rows_below rows p ++ option_to_list (row_at rows p)) (rows_above rows p) in
    let part = length-append (rows_below rows p) (option_to_list (row_at rows p)) in
    let front = length-append (rows_below rows p) (rows_above rows p) in
    omega (arith, whole, parts, part, front)

size-without_row : (rows : Volume) (p : FilePath) → AreInOrder rows → total_size (without_row rows p) + node_size (node_at rows p) ≡ total_size rows
size-without_row rows p order = by (row_at rows p) (ap total_size (split_at_path rows p order)) (size_append (rows_below rows p) (rows_above rows p))
  where
    by : (o : Option Row) → total_size rows ≡ total_size (rows_below rows p ++ option_to_list o ++ rows_above rows p) → total_size (without_row rows p) ≡ total_size (rows_below rows p) + total_size (rows_above rows p) → total_size (without_row rows p) + node_size (option_and_then (λ row. row.node) o) ≡ total_size rows
    by None split front =
        let parts = size_append (rows_below rows p ++ []) (rows_above rows p) in
        let part = size_append (rows_below rows p) [] in
        omega (arith, split, front, parts, part)
    by (Some row) split front =
        let parts = size_append (rows_below rows p ++ row ∷ []) (rows_above rows p) in
        let part = size_append (rows_below rows p) (row ∷ []) in
        omega (arith, split, front, parts, part)

-- one row, or none, by the version
rows_there : (rows : Volume) (p : FilePath) → AllByRecursion (λ row. 1 ≤ row.version) rows → length (option_to_list (row_at rows p)) + new_rows (kept_row rows p) ≡ 1
rows_there rows p each = by (row_at rows p) refl
  where
    by : (o : Option Row) → row_at rows p ≡ o → length (option_to_list o) + cond (unwrap_or (option_map (λ row. row.version) o) 0 == 0) 1 0 ≡ 1
    by None e = refl
    by (Some row) e =
        let some = find_among (λ row. 1 ≤ row.version) (is_at p) rows row each e in
        test (row.version == 0) refl some
      where
        test : (b : Bool) → (row.version == 0) ≡ b → 1 ≤ row.version → 1 + cond (row.version == 0) 1 0 ≡ 1
        test true z some = absurd (omega (arith, eqb-true row.version 0 z))
        test false z some = rw z refl

with_touched : (rows : Volume) (new : Row) → AllByRecursion (λ row. 1 ≤ row.version) rows → 1 ≤ new.version → AllByRecursion (λ row. 1 ≤ row.version) (with_row rows new)
with_touched rows new each some =
    all_append (λ row. 1 ≤ row.version) (rows_below rows new.path) (new ∷ rows_above rows new.path)
    (all_filter (λ row. 1 ≤ row.version) _ rows each) (some, all_filter (λ row. 1 ≤ row.version) _ rows each)

module _ (rows : Volume) (count size : ℕ) (counted : IsCounted rows count size) where
  -- a row put in its place
  pub counted_with : (new : Row) → 1 ≤ new.version → IsCounted (with_row rows new) (count + new_rows (kept_row rows new.path)) (size - node_size (node_at rows new.path) + node_size new.node)
  counted_with new some =
      let long = length-with_row rows new counted.in_order in
      let one = rows_there rows new.path counted.touched in
      let bytes = size-with_row rows new counted.in_order in
      let fewer = size-without_row rows new.path counted.in_order in
      let is_count = counted.rows_counted in
      let is_size = counted.bytes_counted in
      record {
        in_order = with_row_in_order rows new counted.in_order;
        touched = with_touched rows new counted.touched some;
        rows_counted = omega (arith, long, one, is_count);
        bytes_counted = omega (arith, bytes, fewer, is_size);
      }

  pub node_within : (p : FilePath) → node_size (node_at rows p) ≤ size
  node_within p = let fewer = size-without_row rows p counted.in_order in omega (arith, fewer, counted.bytes_counted)

  pub size_after : (new : Row) → total_size (with_row rows new) ≡ size - node_size (node_at rows new.path) + node_size new.node
  size_after new =
      let bytes = size-with_row rows new counted.in_order in
      let fewer = size-without_row rows new.path counted.in_order in
      omega (arith, bytes, fewer, counted.bytes_counted)

  -- a row taken away
  pub counted_without : (p : FilePath) → is_some (row_at rows p) ≡ true → IsCounted (without_row rows p) (count - 1) (size - node_size (node_at rows p))
  counted_without p there =
      let long = length-without_row rows p counted.in_order in
      let one = some_one (row_at rows p) there in
      let fewer = size-without_row rows p counted.in_order in
      record {
        in_order = without_row_in_order rows p counted.in_order;
        touched = all_append (λ row. 1 ≤ row.version) (rows_below rows p) (rows_above rows p) (all_filter (λ row. 1 ≤ row.version) _ rows counted.touched) (all_filter (λ row. 1 ≤ row.version) _ rows counted.touched);
        rows_counted = omega (arith, long, one, counted.rows_counted);
        bytes_counted = omega (arith, fewer, counted.bytes_counted);
      }
    where
      some_one : (o : Option Row) → is_some o ≡ true → length (option_to_list o) ≡ 1
      some_one None e = absurd (true≢false (sym e))
      some_one (Some row) e = refl

module _ (rows : Volume) (count size : ℕ) (counted : IsCounted rows count size) (path : FilePath) where
  pub counted_touch : (node : Option Node) → IsCounted (touched rows path node) (count + new_rows (kept_row rows path)) (size - node_size (node_at rows path) + node_size node)
  counted_touch node = counted_with rows count size counted (record { path = path; version = version_at rows path + 1; node = node }) (omega arith)

  pub size_touch : (node : Option Node) → total_size (touched rows path node) ≡ size - node_size (node_at rows path) + node_size node
  size_touch node = size_after rows count size counted (record { path = path; version = version_at rows path + 1; node = node })

  pub counted_clear : IsCounted (touched rows path None) (count + new_rows (kept_row rows path)) (size - node_size (node_at rows path))
  counted_clear =
      let plus : size - node_size (node_at rows path) + 0 ≡ size - node_size (node_at rows path) = omega arith in
      subst (λ n. IsCounted (touched rows path None) (count + new_rows (kept_row rows path)) n) plus (counted_touch None)

  -- a path with a row has one before and after
  no_new : is_some (row_at rows path) ≡ true → new_rows (kept_row rows path) ≡ 0
  no_new there = by (row_at rows path) there (rows_there rows path counted.touched)
    where
      by : (o : Option Row) → is_some o ≡ true → length (option_to_list o) + new_rows (kept_row rows path) ≡ 1 → new_rows (kept_row rows path) ≡ 0
      by None e one = absurd (true≢false (sym e))
      by (Some row) e one = omega (arith, one)

  pub counted_restored : (kept : Row) → kept.path ≡ path → (kept.version ≡ 0 → ⊥) → is_some (row_at rows path) ≡ true → IsCounted (restored rows kept) count (size - node_size (node_at rows path) + node_size kept.node)
  counted_restored kept same some there =
      let plus : count + 0 ≡ count = omega arith in
      let placed : IsCounted (with_row rows kept) (count + new_rows (kept_row rows kept.path)) (size - node_size (node_at rows kept.path) + node_size kept.node) = counted_with rows count size counted kept (omega (arith, some)) in
      let at = subst (λ p. IsCounted (with_row rows kept) (count + new_rows (kept_row rows p)) (size - node_size (node_at rows p) + node_size kept.node)) same placed in
      subst (λ all. IsCounted all count (size - node_size (node_at rows path) + node_size kept.node)) (sym (restored_row rows kept some))
      (subst (λ n. IsCounted (with_row rows kept) n (size - node_size (node_at rows path) + node_size kept.node)) plus (rw (no_new there) at at))

  pub counted_taken : (kept : Row) → kept.path ≡ path → kept.version ≡ 0 → is_some (row_at rows path) ≡ true → IsCounted (restored rows kept) (count - 1) (size - node_size (node_at rows path))
  counted_taken kept same none there = rw (none, same) (counted_without rows count size counted path there)

-- ---- limits

pub node_at_most : (rows : Volume) (p : FilePath) → AreInOrder rows → node_size (node_at rows p) ≤ total_size rows
node_at_most rows p order = omega (arith, size-without_row rows p order)

pub small_touch : (rows : Volume) (p : FilePath) (node : Option Node) → AreInOrder rows → total_size rows ≤ max_files → node_size node ≤ max_file → total_size (touched rows p node) < 18446744073709551616
small_touch rows p node order small light = omega (arith, size_touched rows p node order)

pub few_touch : (rows : Volume) (p : FilePath) (node : Option Node) → AreInOrder rows → length rows ≤ max_rows → length (touched rows p node) < 9223372036854775808
few_touch rows p node order few = omega (arith, length-with_row rows (record { path = p; version = version_at rows p + 1; node = node }) order)

pub put_small : (rows : Volume) (p : FilePath) (content : List ℕ) → apply (Put p content) rows ≡ Ok (changed (Put p content) rows) → length content ≤ max_file
put_small rows p content h =
    let none = none_refused (refusals (Put p content) rows) _ _ h in
    not_lt_of max_file (length content) (not_when (nat_lt max_file (length content)) _ none.1.1.1.1.0)

-- ---- putting back

pub size_restored : (rows : Volume) (count size : ℕ) (kept : Row) → IsCounted rows count size → (kept.version ≡ 0 → ⊥) → total_size (restored rows kept) ≡ size - node_size (node_at rows kept.path) + node_size kept.node
size_restored rows count size kept counted some = ap total_size (restored_row rows kept some) ∙ size_after rows count size counted kept

pub restored_most : (rows : Volume) (kept : Row) → AreInOrder rows → total_size (restored rows kept) ≤ total_size rows + node_size kept.node
restored_most rows kept order = elim (cases_eq kept.version 0) [
  | inl gone ↦
      let is : restored rows kept ≡ without_row rows kept.path = rw gone refl in
      omega (arith, ap total_size is, size-without_row rows kept.path order)
  | inr some ↦
      let is : restored rows kept ≡ with_row rows kept = restored_row rows kept some in
      omega (arith, ap total_size is, size-with_row rows kept order)
]

-- one row more
pub counted_more : (rows : Volume) (count size : ℕ) (new : Row) → IsCounted rows count size → 1 ≤ new.version → row_at rows new.path ≡ None → IsCounted (with_row rows new) (count + 1) (size + node_size new.node)
counted_more rows count size new counted some none =
    let placed : IsCounted (with_row rows new) (count + new_rows (kept_row rows new.path)) (size - node_size (node_at rows new.path) + node_size new.node) = counted_with rows count size counted new some in
    let one : new_rows (kept_row rows new.path) ≡ 1 = rw none refl in
    let nothing : size - node_size (node_at rows new.path) + node_size new.node ≡ size + node_size new.node = rw none (omega arith) in
    subst (λ n. IsCounted (with_row rows new) (count + 1) n) nothing (subst (λ k. IsCounted (with_row rows new) (count + k) (size - node_size (node_at rows new.path) + node_size new.node)) one placed)
