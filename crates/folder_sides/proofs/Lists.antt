-- Rows of the one among those of the other, and what stands at their paths.
use Rattle.std.proofs.Common.{◌≡◌, Bool, true, false, ◌||◌, ◌&&◌, List, [], ◌∷◌, ◌++◌, filter, Some, None, is_some, cond, refl, sym, ap, ◌∙◌}
use Rattle.std.proofs.Common.{subst, true≢false, ℕ, ◌+◌, ◌<◌, length, take, get_or, append_assoc, append-nil}
use Rattle.std.proofs.Common.{Result, Ok, Err, IfOk}
use Rattle.std.proofs.lemmas.List.{take_more}
use Rattle.std.proofs.lemmas.List.Elements.{filter-append}
use Rattle.std.specs.List.{list_any, AllByRecursion}
use Rattle.std.specs.Option.{option_or, option_to_list}
use Rattle.std.specs.declared.alloc.AllocError.{AllocError}
use Rattle.std.specs.Ordering.{is_lt, is_gt, ordering_reverse}
use Rattle.std.specs.declared.cmp.Ordering.{Ordering}
use Rattle.std.specs.declared.cmp.Ordering.TheVariants.{Less, Equal, Greater}
use Rattle.byte_fields.proofs.Facts.{none_behind}
use Rattle.file_paths.specs.Path.{FilePath, path_cmp, is_same_path}
use Rattle.file_paths.proofs.Order.{paths_total, paths_differ, paths_apart, tied_path, path_tied, own_path, same_path, is_less}
use Rattle.tree_values.proofs.Ordered.{is_greater}
use Rattle.cmd_capture.specs.declared.job.JobRow.{JobRow}
use Rattle.cmd_capture.specs.Rows.{is_job_row_at, node_in, JobRowsAreInOrder, AreJobRows}
use Rattle.work_area.proofs.Applying.{all_map}
use Rattle.folder_sides.specs.Merging.{woven}

-- ---- facts of each row

module _ (P : JobRow → Type 0) where
  pub all_append : (xs ys : List JobRow) → AllByRecursion P xs → AllByRecursion P ys → AllByRecursion P (xs ++ ys)
  all_append [] ys all more = more
  all_append (x ∷ xs) ys all more = (all.0, all_append xs ys all.1 more)

  pub all_filter : (f : JobRow → Bool) (xs : List JobRow) → AllByRecursion P xs → AllByRecursion P (filter f xs)
  all_filter f [] all = tt
  all_filter f (x ∷ xs) all =
      elim (f x) as (λ b. AllByRecursion P (cond b (x ∷ filter f xs) (filter f xs))) [
        | true ↦ (all.0, all_filter f xs all.1)
        | false ↦ all_filter f xs all.1
      ]

  -- what a test shows holds of each row that passes
  pub all_passing : (f : JobRow → Bool) → ((x : JobRow) → f x ≡ true → P x) → (xs : List JobRow) → AllByRecursion P (filter f xs)
  all_passing f shows [] = tt
  all_passing f shows (x ∷ xs) =
      elim (f x) as (λ b. f x ≡ b → AllByRecursion P (cond b (x ∷ filter f xs) (filter f xs))) [
        | true ↦ λ e. (shows x e, all_passing f shows xs)
        | false ↦ λ e. all_passing f shows xs
      ] refl

pub any_more : {X : Type 0} (t u : X → Bool) → ((x : X) → t x ≡ true → u x ≡ true) → (xs : List X) → list_any t xs ≡ true → list_any u xs ≡ true
any_more t u shows [] h = absurd (true≢false (sym h))
any_more t u shows (x ∷ xs) h = by (t x) refl (u x) refl h (any_more t u shows xs)
  where
    by : (b : Bool) → t x ≡ b → (c : Bool) → u x ≡ c → (b || list_any t xs) ≡ true → (list_any t xs ≡ true → list_any u xs ≡ true)
        → (u x || list_any u xs) ≡ true
    by b e true f h more = rw f refl
    by true e false f h more = absurd (true≢false (sym (shows x e) ∙ f))
    by false e false f h more = rw f (more h)

-- a test that holds at the path of a row
pub any_there : (t : FilePath → Bool) (rows : List JobRow) (path : FilePath) → is_some (node_in rows path) ≡ true → t path ≡ true
    → list_any (λ row. t row.path) rows ≡ true
any_there t [] path some holds = absurd (true≢false (sym some))
any_there t (row ∷ rows) path some holds = by (is_job_row_at path row) refl some (any_there t rows path)
  where
    by : (b : Bool) → is_job_row_at path row ≡ b → is_some (node_in (row ∷ rows) path) ≡ true
        → (is_some (node_in rows path) ≡ true → t path ≡ true → list_any (λ row. t row.path) rows ≡ true)
        → (t row.path || list_any (λ row. t row.path) rows) ≡ true
    by true e some more = rw (ap t (tied_path row.path path e) ∙ holds) refl
    by false e some more =
        let there : node_in (row ∷ rows) path ≡ node_in rows path = rw e refl in
        elim (t row.path) as (λ b. (b || list_any (λ row. t row.path) rows) ≡ true) [
          | true ↦ refl
          | false ↦ more (sym (ap is_some there) ∙ some) holds
        ]

-- ---- what stands at a path

-- a path below those of all rows
pub none_there : (path : FilePath) (rows : List JobRow) → AllByRecursion (λ next. path_cmp path next.path ≡ Less) rows → node_in rows path ≡ None
none_there path [] all = refl
none_there path (row ∷ rows) all =
    let apart : is_job_row_at path row ≡ false = paths_apart row.path path (paths_differ path row.path Less all.0 (λ equal. absurd cc)) in
    rw apart (none_there path rows all.1)

pub node_filtered : (t : FilePath → Bool) (rows : List JobRow) (path : FilePath)
    → node_in (filter (λ row. t row.path) rows) path ≡ cond (t path) (node_in rows path) None
node_filtered t [] path = by (t path)
  where
    by : (b : Bool) → node_in [] path ≡ cond b (node_in [] path) None
    by true = refl
    by false = refl
node_filtered t (row ∷ rows) path = by (t row.path) (is_job_row_at path row) refl refl (node_filtered t rows path)
  where
    by : (b e : Bool) → t row.path ≡ b → is_job_row_at path row ≡ e
        → node_in (filter (λ row. t row.path) rows) path ≡ cond (t path) (node_in rows path) None
        → node_in (cond b (row ∷ filter (λ row. t row.path) rows) (filter (λ row. t row.path) rows)) path
        ≡ cond (t path) (node_in (row ∷ rows) path) None
    by true true h at more =
        let holds : t path ≡ true = ap t (sym (tied_path row.path path at)) ∙ h in
        rw (at, holds) refl
    by true false h at more = rw at more
    by false true h at more =
        let fails : t path ≡ false = ap t (sym (tied_path row.path path at)) ∙ h in
        more ∙ rw fails refl
    by false false h at more = rw at more

pub node_appended : (xs ys : List JobRow) (path : FilePath) → node_in (xs ++ ys) path ≡ option_or (node_in xs path) (node_in ys path)
node_appended [] ys path = refl
node_appended (x ∷ xs) ys path = by (is_job_row_at path x) refl (node_appended xs ys path)
  where
    by : (e : Bool) → is_job_row_at path x ≡ e → node_in (xs ++ ys) path ≡ option_or (node_in xs path) (node_in ys path)
        → node_in ((x ∷ xs) ++ ys) path ≡ option_or (node_in (x ∷ xs) path) (node_in ys path)
    by true at more = rw at refl
    by false at more = rw at more

abbrev below : FilePath → List JobRow → List JobRow
below path others = filter (λ other. is_lt (path_cmp other.path path)) others

abbrev above : FilePath → List JobRow → List JobRow
above path others = filter (λ other. is_gt (path_cmp other.path path)) others

below_there : (x path : FilePath) (others : List JobRow) → node_in (below x others) path ≡ cond (is_lt (path_cmp path x)) (node_in others path) None
below_there x path others = node_filtered (λ p. is_lt (path_cmp p x)) others path

above_there : (x path : FilePath) (others : List JobRow) → node_in (above x others) path ≡ cond (is_gt (path_cmp path x)) (node_in others path) None
above_there x path others = node_filtered (λ p. is_gt (path_cmp p x)) others path

pub node_woven : (rows others : List JobRow) → JobRowsAreInOrder rows → (path : FilePath)
    → node_in (woven rows others) path ≡ option_or (node_in rows path) (node_in others path)
node_woven [] others order path = refl
node_woven (row ∷ rows) others order path =
    node_appended (below row.path others) (row ∷ woven rows (above row.path others)) path
    ∙ by (path_cmp path row.path) refl (node_woven rows (above row.path others) order.1 path)
  where
    rest : List JobRow
    rest = woven rows (above row.path others)

    -- another path has no row here
    apart : (o : Ordering) → path_cmp path row.path ≡ o → (o ≡ Equal → ⊥) → is_job_row_at path row ≡ false
    apart o e unlike = paths_apart row.path path (paths_differ path row.path o e unlike)

    by : (o : Ordering) → path_cmp path row.path ≡ o
        → node_in rest path ≡ option_or (node_in rows path) (node_in (above row.path others) path)
        → option_or (node_in (below row.path others) path) (node_in (row ∷ rest) path) ≡ option_or (node_in (row ∷ rows) path) (node_in others path)
    by Less e more =
        let other : is_job_row_at path row ≡ false = apart Less e (λ equal. absurd cc) in
        let here : node_in (row ∷ rest) path ≡ node_in rest path = rw other refl in
        let there : node_in (row ∷ rows) path ≡ node_in rows path = rw other refl in
        let none : node_in rows path ≡ None =
        none_there path rows (all_map (λ next. path_cmp row.path next.path ≡ Less) (λ next. path_cmp path next.path ≡ Less)
        (λ next low. paths_total.trans path row.path next.path e low) rows order.0) in
        let low : node_in (below row.path others) path ≡ node_in others path =
        below_there row.path path others ∙ ap (λ o. cond (is_lt o) (node_in others path) None) e in
        let high : node_in (above row.path others) path ≡ None =
        above_there row.path path others ∙ ap (λ o. cond (is_gt o) (node_in others path) None) e in
        let nothing : node_in (row ∷ rest) path ≡ None = here ∙ more ∙ ap (λ o. option_or o (node_in (above row.path others) path)) none ∙ high in
        ap (λ o. option_or o (node_in (row ∷ rest) path)) low ∙ ap (option_or (node_in others path)) nothing
        ∙ none_behind (node_in others path) ∙ sym (ap (λ o. option_or o (node_in others path)) (there ∙ none))
    by Equal e more =
        let here : is_job_row_at path row ≡ true = path_tied row.path path (sym (same_path path row.path e)) in
        let low : node_in (below row.path others) path ≡ None =
        below_there row.path path others ∙ ap (λ o. cond (is_lt o) (node_in others path) None) e in
        ap (λ o. option_or o (node_in (row ∷ rest) path)) low ∙ rw here refl
    by Greater e more =
        let other : is_job_row_at path row ≡ false = apart Greater e (λ equal. absurd cc) in
        let low : node_in (below row.path others) path ≡ None =
        below_there row.path path others ∙ ap (λ o. cond (is_lt o) (node_in others path) None) e in
        let high : node_in (above row.path others) path ≡ node_in others path =
        above_there row.path path others ∙ ap (λ o. cond (is_gt o) (node_in others path) None) e in
        let here : node_in (row ∷ rest) path ≡ node_in rest path = rw other refl in
        let there : node_in (row ∷ rows) path ≡ node_in rows path = rw other refl in
        ap (λ o. option_or o (node_in (row ∷ rest) path)) low ∙ here ∙ more ∙ ap (option_or (node_in rows path)) high
        ∙ sym (ap (λ o. option_or o (node_in others path)) there)

-- ---- order

pub order_filter : (f : JobRow → Bool) (rows : List JobRow) → JobRowsAreInOrder rows → JobRowsAreInOrder (filter f rows)
order_filter f [] order = tt
order_filter f (row ∷ rows) order =
    elim (f row) as (λ b. JobRowsAreInOrder (cond b (row ∷ filter f rows) (filter f rows))) [
      | true ↦ (all_filter (λ next. path_cmp row.path next.path ≡ Less) f rows order.0, order_filter f rows order.1)
      | false ↦ order_filter f rows order.1
    ]

order_before : (xs : List JobRow) (row : JobRow) (ys : List JobRow) → JobRowsAreInOrder xs
    → AllByRecursion (λ x. path_cmp x.path row.path ≡ Less) xs → JobRowsAreInOrder (row ∷ ys) → JobRowsAreInOrder (xs ++ row ∷ ys)
order_before [] row ys order low more = more
order_before (x ∷ xs) row ys order low more = (
  all_append (λ next. path_cmp x.path next.path ≡ Less) xs (row ∷ ys) order.0 (
    low.0,
    all_map (λ next. path_cmp row.path next.path ≡ Less) (λ next. path_cmp x.path next.path ≡ Less)
        (λ next high. paths_total.trans x.path row.path next.path low.0 high) ys more.0,
  ),
  order_before xs row ys order.1 low.1 more,
)

pub all_woven : (P : JobRow → Type 0) (rows others : List JobRow) → AllByRecursion P rows → AllByRecursion P others
    → AllByRecursion P (woven rows others)
all_woven P [] others all more = more
all_woven P (row ∷ rows) others all more =
    all_append P (below row.path others) (row ∷ woven rows (above row.path others))
    (all_filter P (λ other. is_lt (path_cmp other.path row.path)) others more)
    (all.0, all_woven P rows (above row.path others) all.1 (all_filter P (λ other. is_gt (path_cmp other.path row.path)) others more))

-- what is greater is behind
turned : (a b : FilePath) → is_gt (path_cmp b a) ≡ true → path_cmp a b ≡ Less
turned a b h = paths_total.antisymm a b ∙ ap ordering_reverse (is_greater (path_cmp b a) h)

pub order_woven : (rows others : List JobRow) → JobRowsAreInOrder rows → JobRowsAreInOrder others → JobRowsAreInOrder (woven rows others)
order_woven [] others order more = more
order_woven (row ∷ rows) others order more =
    order_before (below row.path others) row (woven rows (above row.path others))
    (order_filter (λ other. is_lt (path_cmp other.path row.path)) others more)
    (all_passing (λ x. path_cmp x.path row.path ≡ Less) (λ other. is_lt (path_cmp other.path row.path))
    (λ x low. is_less (path_cmp x.path row.path) low) others) (
      all_woven (λ next. path_cmp row.path next.path ≡ Less) rows (above row.path others) order.0
          (all_passing (λ next. path_cmp row.path next.path ≡ Less) (λ other. is_gt (path_cmp other.path row.path))
          (λ x high. turned row.path x.path high) others),
      order_woven rows (above row.path others) order.1 (order_filter (λ other. is_gt (path_cmp other.path row.path)) others more),
    )

-- ---- rows are what stands at their paths

pub same_rows : (a b : List JobRow) → JobRowsAreInOrder a → JobRowsAreInOrder b → ((path : FilePath) → node_in a path ≡ node_in b path) → a ≡ b
same_rows [] [] order order' nodes = refl
same_rows [] (y ∷ ys) order order' nodes =
    let there : node_in (y ∷ ys) y.path ≡ Some y.node = rw (own_path y.path) refl in
    absurd (true≢false (sym (ap is_some (nodes y.path ∙ there))))
same_rows (x ∷ xs) [] order order' nodes =
    let there : node_in (x ∷ xs) x.path ≡ Some x.node = rw (own_path x.path) refl in
    absurd (true≢false (ap is_some (sym there ∙ nodes x.path)))
same_rows (x ∷ xs) (y ∷ ys) order order' nodes = by (path_cmp x.path y.path) refl (same_rows xs ys order.1 order'.1)
  where
    x_there : node_in (x ∷ xs) x.path ≡ Some x.node
    x_there = rw (own_path x.path) refl

    y_there : node_in (y ∷ ys) y.path ≡ Some y.node
    y_there = rw (own_path y.path) refl

    tails : x.path ≡ y.path → (path : FilePath) → (e : Bool) → is_same_path x.path path ≡ e → node_in xs path ≡ node_in ys path
    tails same path true at =
        let here = tied_path x.path path at in
        let none : node_in xs path ≡ None =
        subst (λ p. node_in xs p ≡ None) here (none_there x.path xs order.0) in
        let none' : node_in ys path ≡ None =
        subst (λ p. node_in ys p ≡ None) (sym same ∙ here) (none_there y.path ys order'.0) in
        none ∙ sym none'
    tails same path false at =
        let at' : is_same_path y.path path ≡ false = ap (λ p. is_same_path p path) (sym same) ∙ at in
        let there : node_in (x ∷ xs) path ≡ node_in xs path = rw at refl in
        let there' : node_in (y ∷ ys) path ≡ node_in ys path = rw at' refl in
        sym there ∙ nodes path ∙ there'

    by : (o : Ordering) → path_cmp x.path y.path ≡ o → (((path : FilePath) → node_in xs path ≡ node_in ys path) → xs ≡ ys) → x ∷ xs ≡ y ∷ ys
    by Less e more =
        let none : node_in (y ∷ ys) x.path ≡ None =
        none_there x.path (y ∷ ys) (
          e,
          all_map (λ next. path_cmp y.path next.path ≡ Less) (λ next. path_cmp x.path next.path ≡ Less)
              (λ next low. paths_total.trans x.path y.path next.path e low) ys order'.0,
        ) in
        absurd (true≢false (ap is_some (sym x_there ∙ nodes x.path ∙ none)))
    by Greater e more =
        let e' : path_cmp y.path x.path ≡ Less = paths_total.antisymm y.path x.path ∙ ap ordering_reverse e in
        let none : node_in (x ∷ xs) y.path ≡ None =
        none_there y.path (x ∷ xs) (
          e',
          all_map (λ next. path_cmp x.path next.path ≡ Less) (λ next. path_cmp y.path next.path ≡ Less)
              (λ next low. paths_total.trans y.path x.path next.path e' low) xs order.0,
        ) in
        absurd (true≢false (sym (ap is_some (sym none ∙ nodes y.path ∙ y_there))))
    by Equal e more =
        let same = same_path x.path y.path e in
        let nodes' : Some x.node ≡ Some y.node = sym x_there ∙ nodes x.path ∙ ap (node_in (y ∷ ys)) same ∙ y_there in
        let node : x.node ≡ y.node = cc in
        ap (λ p. record { path = p; node = x.node } ∷ xs) same ∙ ap (λ n. record { path = y.path; node = n } ∷ xs) node
        ∙ ap (λ l. y ∷ l) (more (λ path. tails same path (is_same_path x.path path) refl))

-- ---- one more turn of the loops

pub filter_more : (t : JobRow → Bool) (xs : List JobRow) (i : ℕ) (x : JobRow) → i < length xs → x ≡ get_or xs i x
    → filter t (take (i + 1) xs) ≡ filter t (take i xs) ++ option_to_list (cond (t x) (Some x) None)
filter_more t xs i x within read =
    ap (filter t) (take_more xs i x within ∙ ap (λ r. take i xs ++ r ∷ []) (sym read)) ∙ filter-append t (take i xs) (x ∷ [])
    ∙ ap (λ l. filter t (take i xs) ++ l) (by (t x))
  where
    by : (b : Bool) → cond b (x ∷ []) [] ≡ option_to_list (cond b (Some x) None)
    by true = refl
    by false = refl

-- rows above a path
all_high : (path : FilePath) (rows : List JobRow) → AllByRecursion (λ next. path_cmp path next.path ≡ Less) rows
    → (below path rows ≡ []) × (above path rows ≡ rows)
all_high path [] all = (refl, refl)
all_high path (row ∷ rows) all =
    let more = all_high path rows all.1 in
    let high : path_cmp row.path path ≡ Greater = paths_total.antisymm row.path path ∙ ap ordering_reverse all.0 in
    (rw high more.0, rw high (ap (λ l. row ∷ l) more.1))

pub passed_below : (path : FilePath) (row : JobRow) (rows : List JobRow) → path_cmp row.path path ≡ Less
    → (below path (row ∷ rows) ≡ row ∷ below path rows) × (above path (row ∷ rows) ≡ above path rows)
passed_below path row rows low = (rw low refl, rw low refl)

pub stopped_at : (path : FilePath) (row : JobRow) (rows : List JobRow) → JobRowsAreInOrder (row ∷ rows) → path_cmp row.path path ≡ Equal
    → (below path (row ∷ rows) ≡ []) × (above path (row ∷ rows) ≡ rows)
stopped_at path row rows order at =
    let same = same_path row.path path at in
    let high = all_high path rows (subst (λ p. AllByRecursion (λ next. path_cmp p next.path ≡ Less) rows) same order.0) in
    (rw at high.0, rw at high.1)

pub stopped_above : (path : FilePath) (row : JobRow) (rows : List JobRow) → JobRowsAreInOrder (row ∷ rows) → path_cmp row.path path ≡ Greater
    → (below path (row ∷ rows) ≡ []) × (above path (row ∷ rows) ≡ row ∷ rows)
stopped_above path row rows order high =
    let low : path_cmp path row.path ≡ Less = paths_total.antisymm path row.path ∙ ap ordering_reverse high in
    all_high path (row ∷ rows) (
      low,
      all_map (λ next. path_cmp row.path next.path ≡ Less) (λ next. path_cmp path next.path ≡ Less)
          (λ next more. paths_total.trans path row.path next.path low more) rows order.0,
    )

-- one row, with those of the others below it
pub woven_more : (made : List JobRow) (row : JobRow) (rows others : List JobRow) (whole : List JobRow) → made ++ woven (row ∷ rows) others ≡ whole
    → ((made ++ below row.path others) ++ row ∷ []) ++ woven rows (above row.path others) ≡ whole
woven_more made row rows others whole so_far =
    append_assoc (made ++ below row.path others) (row ∷ []) (woven rows (above row.path others))
    ∙ append_assoc made (below row.path others) (row ∷ woven rows (above row.path others)) ∙ so_far

-- the loop over the others ends at the path
pub stops_equal : (path : FilePath) (made whole high rest : List JobRow) (row : JobRow) (more : List JobRow) → rest ≡ row ∷ more
    → (made ++ below path rest ≡ whole) × (above path rest ≡ high) × JobRowsAreInOrder rest → path_cmp row.path path ≡ Equal
    → (made ≡ whole) × (more ≡ high)
stops_equal path made whole high rest row more split invariant at =
    let stop = stopped_at path row more (subst JobRowsAreInOrder split invariant.2) at in (
      sym (append-nil made) ∙ ap (λ l. made ++ l) (sym (ap (below path) split ∙ stop.0)) ∙ invariant.0,
      sym (ap (above path) split ∙ stop.1) ∙ invariant.1,
    )

-- and above it
pub stops_greater : (path : FilePath) (made whole high rest : List JobRow) (row : JobRow) (more : List JobRow) → rest ≡ row ∷ more
    → (made ++ below path rest ≡ whole) × (above path rest ≡ high) × JobRowsAreInOrder rest → path_cmp row.path path ≡ Greater
    → (made ≡ whole) × (rest ≡ high)
stops_greater path made whole high rest row more split invariant at =
    let stop = stopped_above path row more (subst JobRowsAreInOrder split invariant.2) at in (
      sym (append-nil made) ∙ ap (λ l. made ++ l) (sym (ap (below path) split ∙ stop.0)) ∙ invariant.0,
      split ∙ sym (ap (above path) split ∙ stop.1) ∙ invariant.1,
    )

-- one more turn of the loop over the rows
pub woven_turn : (made rows others whole below_it with_it rest left : List JobRow) (row copy : JobRow) → made ++ woven left others ≡ whole
    → left ≡ row ∷ rows → below_it ≡ made ++ below row.path others → rest ≡ above row.path others → with_it ≡ below_it ++ copy ∷ [] → copy ≡ row
    → with_it ++ woven rows rest ≡ whole
woven_turn made rows others whole below_it with_it rest left row copy so_far split low high pushed same =
    ap (λ m. m ++ woven rows rest) (pushed ∙ ap (λ c. below_it ++ c ∷ []) same ∙ ap (λ m. m ++ row ∷ []) low)
    ∙ ap (λ r. ((made ++ below row.path others) ++ row ∷ []) ++ woven rows r) high
    ∙ woven_more made row rows others whole (ap (λ l. made ++ woven l others) (sym split) ∙ so_far)

pub if_rows : (r : Result (List JobRow) AllocError) (rows : List JobRow) → IfOk r (λ made. made ≡ rows) → AreJobRows rows → IfOk r AreJobRows
if_rows (Ok made) rows same are = subst AreJobRows (sym same) are
if_rows (Err e) rows same are = tt
