-- Where the rows of a path stand in rows that are in order.
use Rattle.std.proofs.Common.{◌≡◌, ℕ, zero, suc, ◌+◌, ◌<◌, ◌≤◌, false, List, [], ◌∷◌, length, get_or, None, Result, Ok, Err, IfOk, IfErr, inl, inr, subst, arith, refl, ap, ◌∙◌}
use Rattle.std.specs.List.{AllByRecursion}
use Rattle.std.specs.declared.cmp.Ordering.{Ordering}
use Rattle.std.specs.declared.cmp.Ordering.TheVariants.{Less, Equal, Greater}
use Rattle.std.specs.Ordering.{ordering_index, is_lt}
use Rattle.std.specs.List.Sorted.{IsSearchInRange, IsBinarySearchResult, IsNonDecreasingBy}
use Rattle.std.proofs.lemmas.Bool.{cases_lt}
use Rattle.tree_values.specs.Inside.{StandsAt, BelongsAt}
use Rattle.file_paths.specs.Path.{path_cmp}
use Rattle.tree_values.specs.declared.node.Row.{Row}
use Rattle.tree_values.specs.Tree.{AreInOrder, row_at, rows_below, rows_above}
use Rattle.file_paths.proofs.Order.{same_path, after_path}

-- rows that are all above a path
pub record AreAbove (path : List (List ℕ)) (rows : List Row) : Type 0 where
  pub none_below : rows_below rows path ≡ []
  pub all_above : rows_above rows path ≡ rows
  pub none_there : row_at rows path ≡ None

pub are_above : (path : List (List ℕ)) (rows : List Row) → AllByRecursion (λ row. path_cmp row.path path ≡ Greater) rows → AreAbove path rows
are_above path [] h = record { none_below = refl; all_above = refl; none_there = refl }
are_above path (row ∷ rows) h =
    let rest = are_above path rows h.1 in
    record { none_below = rw h.0 rest.none_below; all_above = rw h.0 (ap (λ more. row ∷ more) rest.all_above); none_there = rw h.0 rest.none_there }

-- what comes after a row that is not below a path is above the path
pub after_row : (path : List (List ℕ)) (row : Row) (rows : List Row) → is_lt (path_cmp row.path path) ≡ false → AllByRecursion (λ next. path_cmp row.path next.path ≡ Less) rows → AllByRecursion (λ next. path_cmp next.path path ≡ Greater) rows
after_row path row [] not_below order = tt
after_row path row (next ∷ rows) not_below order =
    (after_path row.path next.path path not_below order.0, after_row path row rows not_below order.1)

-- the first row that is not below a path is at it
pub stands_at : (rows : List Row) (i : ℕ) (path : List (List ℕ)) → AreInOrder rows → ((k : ℕ) (d : Row) → k < i → path_cmp (get_or rows k d).path path ≡ Less) → i < length rows → ((d : Row) → path_cmp (get_or rows i d).path path ≡ Equal) → StandsAt rows path i
stands_at [] i path order before within here = absurd (omega arith)
stands_at (row ∷ rows) zero path order before within here =
    let same = here row in
    let rest = are_above path rows (after_row path row rows (ap is_lt same) order.0) in
    record { within = within; at = λ d. same_path row.path path same; row = rw same refl; below = rw same rest.none_below; above = rw same rest.all_above }
stands_at (row ∷ rows) (suc i) path order before within here =
    let less = before 0 row (omega arith) in
    let rest = stands_at rows i path order.1 (λ k d l. before (suc k) d (omega arith)) (omega arith) here in
    record { within = within; at = rest.at; row = rw less rest.row; below = rw less (ap (λ more. row ∷ more) rest.below); above = rw less rest.above }

-- the first row that is not below a path is above it, and the path has none
pub belongs_at : (rows : List Row) (i : ℕ) (path : List (List ℕ)) → AreInOrder rows → ((k : ℕ) (d : Row) → k < i → path_cmp (get_or rows k d).path path ≡ Less) → i ≤ length rows → (i < length rows → (d : Row) → path_cmp (get_or rows i d).path path ≡ Greater) → BelongsAt rows path i
belongs_at [] zero path order before within here = record { within = within; row = refl; below = refl; above = refl }
belongs_at [] (suc i) path order before within here = absurd (omega arith)
belongs_at (row ∷ rows) zero path order before within here =
    let greater = here (omega arith) row in
    let rest = are_above path (row ∷ rows) (greater, after_row path row rows (ap is_lt greater) order.0) in
    record { within = within; row = rest.none_there; below = rest.none_below; above = rest.all_above }
belongs_at (row ∷ rows) (suc i) path order before within here =
    let less = before 0 row (omega arith) in
    let rest = belongs_at rows i path order.1 (λ k d l. before (suc k) d (omega arith)) (omega arith) (λ l d. here (omega arith) d) in
    record { within = within; row = rw less rest.row; below = rw less (ap (λ more. row ∷ more) rest.below); above = rw less rest.above }

-- ---- a search by halves

-- each path is below those of later rows
below_later : (rows : List Row) (i j : ℕ) (d : Row) → AreInOrder rows → i < j → j < length rows → path_cmp (get_or rows i d).path (get_or rows j d).path ≡ Less
below_later [] i j d order before within = absurd (omega arith)
below_later (row ∷ rows) i zero d order before within = absurd (omega arith)
below_later (row ∷ rows) zero (suc j) d order before within = at rows j order.0 (omega arith)
  where
    at : (rows : List Row) (j : ℕ) → AllByRecursion (λ next. path_cmp row.path next.path ≡ Less) rows → j < length rows → path_cmp row.path (get_or rows j d).path ≡ Less
    at [] j all within = absurd (omega arith)
    at (next ∷ rows) zero all within = all.0
    at (next ∷ rows) (suc j) all within = at rows j all.1 (omega arith)
below_later (row ∷ rows) (suc i) (suc j) d order before within = below_later rows i j d order.1 (omega arith) (omega arith)

-- of two paths the lower is no higher beside a third
rises : (a b path : List (List ℕ)) → path_cmp a b ≡ Less → ordering_index (path_cmp a path) ≤ ordering_index (path_cmp b path)
rises a b path below = by (path_cmp a path) refl
  where
    over : (o : Ordering) → path_cmp a path ≡ o → is_lt o ≡ false → ordering_index o ≤ ordering_index (path_cmp b path)
    over o e not_below = rw (after_path a b path (ap is_lt e ∙ not_below) below) (most o)
      where
        most : (o : Ordering) → ordering_index o ≤ 2
        most Less = omega arith
        most Equal = omega arith
        most Greater = omega arith

    by : (o : Ordering) → path_cmp a path ≡ o → ordering_index o ≤ ordering_index (path_cmp b path)
    by Less e = omega arith
    by Equal e = over Equal e refl
    by Greater e = over Greater e refl

comparisons_rise : (rows : List Row) (path : List (List ℕ)) → AreInOrder rows → IsNonDecreasingBy (λ row. ordering_index (path_cmp row.path path)) rows
comparisons_rise rows path order i j d before within = elim (cases_lt i j) [
  | inl less ↦ rises (get_or rows i d).path (get_or rows j d).path path (below_later rows i j d order less within)
  | inr other ↦
      let same : i ≡ j = omega arith in
      subst (λ k. ordering_index (path_cmp (get_or rows i d).path path) ≤ ordering_index (path_cmp (get_or rows k d).path path)) same (omega arith)
]

-- a search ends at the row of the path, or at its place
pub located : (rows : List Row) (path : List (List ℕ)) → AreInOrder rows → (r : Result ℕ ℕ) → IsSearchInRange r (length rows) → IsBinarySearchResult (λ row. path_cmp row.path path) rows r → record { ok : IfOk r (StandsAt rows path); err : IfErr r (BelongsAt rows path) }
located rows path order (Ok at) within here = record {
  ok = stands_at rows at path order (λ k d before. subst (λ p. path_cmp (get_or rows k d).path p ≡ Less) (same_path (get_or rows at d).path path (here d)) (below_later rows k at d order before within)) within here;
  err = tt;
}
located rows path order (Err at) within parted =
    let parts = parted (comparisons_rise rows path order) in
    record {
      ok = tt;
      err = belongs_at rows at path order (λ k d before. parts.0 k d (omega arith) before) within (λ less d. parts.1 at d (omega arith) less);
    }
