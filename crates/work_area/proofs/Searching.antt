-- The lemmas of a volume's rows at the rows of a job: a search by halves, and what the last row tells.
use Rattle.std.proofs.Common.{◌≡◌, ℕ, zero, suc, ◌-◌, ◌<◌, ◌≤◌, min, Bool, true, false, ◌||◌, List, [], ◌∷◌, ◌++◌, length, take}
use Rattle.std.proofs.Common.{drop, map, get_or, find, Option, Some, None, is_some, option_map, Result, Ok, Err, IfOk, IfErr, slice_get}
use Rattle.std.proofs.Common.{Bor, cond, true≢false, refl, sym, ap, ◌∙◌, subst, inl, inr, arith}
use Rattle.std.specs.List.{list_any, list_all, AllByRecursion}
use Rattle.std.specs.List.Sorted.{IsSearchInRange, IsBinarySearchResult}
use Rattle.std.specs.Ordering.{is_lt, ordering_then, nat_cmp}
use Rattle.std.specs.Cmp.{nat_cmp_is}
use Rattle.std.specs.Cmp.Lexicographic.{slice_cmp}
use Rattle.std.specs.Prelude.{is_ok, IfSome, nat_lt}
use Rattle.std.specs.Option.{option_copied}
use Rattle.std.proofs.lemmas.Bool.Decides.{nat_tests}
use Rattle.std.proofs.lemmas.Option.{slice_get_read}
use Rattle.std.specs.declared.cmp.Ordering.{Ordering}
use Rattle.std.specs.declared.cmp.Ordering.TheVariants.{Less, Equal, Greater}
use Rattle.std.proofs.lemmas.Bool.{cases_lt}
use Rattle.std.proofs.lemmas.List.{get_or-map, length-map, take_all, drop_all}
use Rattle.std.proofs.lemmas.List.Folds.{list_all-map}
use Rattle.file_paths.specs.Path.{FilePath, path_cmp}
use Rattle.tree_values.specs.Tree.{Volume, AreInOrder, row_at}
use Rattle.tree_values.specs.declared.node.Node.TheVariants.{Folder}
use Rattle.tree_values.specs.declared.node.Row.{Row}
use Rattle.tree_values.proofs.Places.{located}
use Rattle.tree_values.proofs.RowsTaken.{last_tells}
use Rattle.cmd_capture.specs.declared.job.JobRow.{JobRow}
use Rattle.cmd_capture.specs.Rows.{is_job_row_at, JobRowsAreInOrder as JobsInOrder}

-- ---- rows of a job as those of a volume

abbrev as_row : JobRow → Row
as_row row = record { path = row.path; version = 1; node = Some row.node }

abbrev as_rows : List JobRow → Volume
as_rows rows = map as_row rows

-- any row of a job at the path
abbrev there : Row → JobRow
there row = record { path = row.path; node = Folder }

all_mapped : (P : Row → Type 0) (rows : List JobRow) → AllByRecursion (λ row. P (as_row row)) rows → AllByRecursion P (as_rows rows)
all_mapped P [] all = tt
all_mapped P (row ∷ rows) all = (all.0, all_mapped P rows all.1)

in_order : (rows : List JobRow) → JobsInOrder rows → AreInOrder (as_rows rows)
in_order [] order = tt
in_order (row ∷ rows) order = (all_mapped (λ next. path_cmp row.path next.path ≡ Less) rows order.0, in_order rows order.1)

find_mapped : (path : FilePath) (rows : List JobRow) → row_at (as_rows rows) path ≡ option_map as_row (find (is_job_row_at path) rows)
find_mapped path [] = refl
find_mapped path (row ∷ rows) = by (is_job_row_at path row) (find_mapped path rows)
  where
    by : (b : Bool) → row_at (as_rows rows) path ≡ option_map as_row (find (is_job_row_at path) rows)
        → cond b (Some (as_row row)) (row_at (as_rows rows) path) ≡ option_map as_row (cond b (Some row) (find (is_job_row_at path) rows))
    by true more = refl
    by false more = more

get_mapped : (rows : List JobRow) (i : ℕ) → slice_get (as_rows rows) i ≡ option_map as_row (slice_get rows i)
get_mapped [] i = refl
get_mapped (row ∷ rows) zero = refl
get_mapped (row ∷ rows) (suc i) = get_mapped rows i

-- the path at an index
path_there : (rows : List JobRow) (i : ℕ) (d : Row) → (get_or (as_rows rows) i d).path ≡ (get_or rows i (there d)).path
path_there [] i d = refl
path_there (row ∷ rows) zero d = refl
path_there (row ∷ rows) (suc i) d = path_there rows i d

path_back : (rows : List JobRow) (i : ℕ) (d : JobRow) → (get_or rows i d).path ≡ (get_or (as_rows rows) i (as_row d)).path
path_back [] i d = refl
path_back (row ∷ rows) zero d = refl
path_back (row ∷ rows) (suc i) d = path_back rows i d

-- options that are one as rows of a volume are one
same_row : (a b : Option JobRow) → option_map as_row a ≡ option_map as_row b → a ≡ b
same_row None None e = refl
same_row None (Some y) e = absurd cc
same_row (Some x) None e = absurd cc
same_row (Some x) (Some y) e =
    let same : as_row x ≡ as_row y = cc in
    let nodes : Some x.node ≡ Some y.node = ap (λ (r : Row). r.node) same in
    let node : x.node ≡ y.node = cc in
    ap (λ p. Some (record { path = p; node = x.node })) (ap (λ (r : Row). r.path) same)
    ∙ ap (λ n. Some (record { path = y.path; node = n })) node

-- ---- a search by halves

pub searched : (rows : List JobRow) (path : FilePath) → JobsInOrder rows → (r : Result ℕ ℕ)
    → IsSearchInRange r (length rows) → IsBinarySearchResult (λ row. path_cmp row.path path) rows r
    → IfOk r (λ i. find (is_job_row_at path) rows ≡ slice_get rows i) × IfErr r (λ i. find (is_job_row_at path) rows ≡ None)
searched rows path order (Ok i) within here =
    let all : i < length (as_rows rows) = omega (arith, within, length-map rows as_row) in
    let place =
    (located (as_rows rows) path (in_order rows order) (Ok i) all
    (λ d. subst (λ p. path_cmp p path ≡ Equal) (sym (path_there rows i d)) (here (there d)))).ok in
    (same_row (find (is_job_row_at path) rows) (slice_get rows i) (sym (find_mapped path rows) ∙ place.row ∙ get_mapped rows i), tt)
searched rows path order (Err i) within parted =
    let all : i ≤ length (as_rows rows) = omega (arith, within, length-map rows as_row) in
    let place =
    (located (as_rows rows) path (in_order rows order) (Err i) all
    (λ rise.
    let parts =
    parted
    (λ j k d le lt.
    let last : k < length (as_rows rows) = omega (arith, lt, length-map rows as_row) in
    rw (path_back rows j d, path_back rows k d) (rise j k (as_row d) le last)) in (
      (λ k d low high. subst (λ p. path_cmp p path ≡ Less) (sym (path_there rows k d)) (parts.0 k (there d) low high)),
      (λ k d low high. subst (λ p. path_cmp p path ≡ Greater) (sym (path_there rows k d))
          (parts.1 k (there d) low (omega (arith, high, length-map rows as_row)))),
    ))).err in
    (tt, same_row (find (is_job_row_at path) rows) None (sym (find_mapped path rows) ∙ place.row))

pub any_is_found : (job : List JobRow) (path : FilePath) → list_any (is_job_row_at path) job ≡ is_some (find (is_job_row_at path) job)
any_is_found [] path = refl
any_is_found (row ∷ rows) path = by (is_job_row_at path row) (any_is_found rows path)
  where
    by : (b : Bool) → list_any (is_job_row_at path) rows ≡ is_some (find (is_job_row_at path) rows)
        → (b || list_any (is_job_row_at path) rows) ≡ is_some (cond b (Some row) (find (is_job_row_at path) rows))
    by true more = refl
    by false more = more

-- what is got at an index within the rows is the row there
pub got : (rows : List JobRow) (i : ℕ) (o : Option (Bor JobRow)) → i < length rows
    → is_some o ≡ nat_lt i (length rows) → IfSome o (λ x. x.now ≡ get_or rows i x.now)
    → option_copied o ≡ slice_get rows i
got rows i None within some item =
    let lower : nat_lt i (length rows) ≡ true = grind (arith, nat_tests) in absurd (true≢false (sym lower ∙ sym some))
got rows i (Some x) within some item = sym (slice_get_read rows (length rows) i x.now refl within item)

within_some : (rows : List JobRow) (i : ℕ) → i < length rows → is_some (slice_get rows i) ≡ true
within_some [] i lt = absurd (omega (arith, lt))
within_some (row ∷ rows) zero lt = refl
within_some (row ∷ rows) (suc i) lt = within_some rows i (omega (arith, lt))

-- a search tells whether the path has a row
pub search_tells : (rows : List JobRow) (path : FilePath) → JobsInOrder rows → (r : Result ℕ ℕ)
    → IsSearchInRange r (length rows) → IsBinarySearchResult (λ row. path_cmp row.path path) rows r
    → is_ok r ≡ list_any (is_job_row_at path) rows
search_tells rows path order (Ok i) within here =
    sym (any_is_found rows path ∙ ap is_some (searched rows path order (Ok i) within here).0 ∙ within_some rows i within)
search_tells rows path order (Err i) within parted =
    sym (any_is_found rows path ∙ ap is_some (searched rows path order (Err i) within parted).1)

-- the last row tells whether a path is above those of all rows
pub last_row_tells : (rows : List JobRow) (last : JobRow) (p : FilePath) → JobsInOrder rows → 0 < length rows
    → last ≡ get_or rows (length rows - 1) last
    → is_lt (path_cmp last.path p) ≡ list_all (λ before. is_lt (path_cmp before.path p)) rows
last_row_tells rows last p order some is =
    let long : length (as_rows rows) ≡ length rows = length-map rows as_row in
    let some' : 0 < length (as_rows rows) = omega (arith, some, long) in
    let is' : as_row last ≡ get_or (as_rows rows) (length (as_rows rows) - 1) (as_row last) =
    ap as_row is ∙ sym (get_or-map as_row rows (length rows - 1) last (as_row last) (omega (arith, some)))
    ∙ ap (λ (n : ℕ). get_or (as_rows rows) (n - 1) (as_row last)) (sym long) in
    last_tells (as_rows rows) (as_row last) p (in_order rows order) some' is'
    ∙ list_all-map (λ before. is_lt (path_cmp before.path p)) as_row rows

-- ---- the order of a path and of a name in a folder

then_then : (a b c : Ordering) → ordering_then (ordering_then a b) c ≡ ordering_then a (ordering_then b c)
then_then Less b c = refl
then_then Equal b c = refl
then_then Greater b c = refl

-- the front of a path is compared with the folder, and then what follows it
in_two : (p folder : FilePath) (name : List ℕ)
    → path_cmp p (folder ++ name ∷ []) ≡ ordering_then (path_cmp (take (length folder) p) folder) (path_cmp (drop (length folder) p)
    (name ∷ []))
in_two p [] name = refl
in_two [] (f ∷ folder) name = refl
in_two (n ∷ p) (f ∷ folder) name =
    ap (ordering_then (slice_cmp nat_cmp n f)) (in_two p folder name)
    ∙ sym (then_then (slice_cmp nat_cmp n f) (path_cmp (take (length folder) p) folder) (path_cmp (drop (length folder) p) (name ∷ [])))

take_min : (p : FilePath) (k : ℕ) → take (min (length p) k) p ≡ take k p
take_min p k = elim (cases_lt k (length p)) [
  | inl lt ↦ let same : min (length p) k ≡ k = omega (arith, lt) in ap (λ (n : ℕ). take n p) same
  | inr ge ↦ let same : min (length p) k ≡ length p = omega (arith, ge) in ap (λ (n : ℕ). take n p) same
      ∙ take_all (length p) p (omega arith) ∙ sym (take_all k p ge)
]

drop_min : (p : FilePath) (k : ℕ) → drop (min (length p) k) p ≡ drop k p
drop_min p k = elim (cases_lt k (length p)) [
  | inl lt ↦ let same : min (length p) k ≡ k = omega (arith, lt) in ap (λ (n : ℕ). drop n p) same
  | inr ge ↦ let same : min (length p) k ≡ length p = omega (arith, ge) in ap (λ (n : ℕ). drop n p) same
      ∙ drop_all (length p) p (omega arith) ∙ sym (drop_all k p ge)
]

module _ (p q folder : FilePath) (name : List ℕ) (front back : FilePath) (middle : ℕ) (names : q ≡ p)
    (at : middle ≡ min (length q) (length folder)) (is_front : front ≡ take middle q) (is_back : back ≡ drop middle q) where
  front_is : front ≡ take (length folder) p
  front_is = is_front ∙ ap (λ (n : ℕ). take n q) at ∙ take_min q (length folder) ∙ ap (take (length folder)) names

  back_is : back ≡ drop (length folder) p
  back_is = is_back ∙ ap (λ (n : ℕ). drop n q) at ∙ drop_min q (length folder) ∙ ap (drop (length folder)) names

  parts : ordering_then (path_cmp front folder) (path_cmp back (name ∷ [])) ≡ path_cmp p (folder ++ name ∷ [])
  parts =
      ap (λ (f : FilePath). ordering_then (path_cmp f folder) (path_cmp back (name ∷ []))) front_is
      ∙ ap (λ (b : FilePath). ordering_then (path_cmp (take (length folder) p) folder) (path_cmp b (name ∷ []))) back_is
      ∙ sym (in_two p folder name)

  -- the path is no deeper than the folder
  pub no_deeper : length back ≡ 0 → ordering_then (path_cmp front folder) Less ≡ path_cmp p (folder ++ name ∷ [])
  no_deeper none = ap (λ (o : Ordering). ordering_then (path_cmp front folder) o) (sym (nothing_less back none)) ∙ parts
    where
      nothing_less : (b : FilePath) → length b ≡ 0 → path_cmp b (name ∷ []) ≡ Less
      nothing_less [] e = refl
      nothing_less (n ∷ b) e = absurd (omega (arith, e))

  pub deeper : (first : List ℕ) (more : FilePath) → back ≡ first ∷ more
      → ordering_then (ordering_then (path_cmp front folder) (slice_cmp nat_cmp first name)) (nat_cmp (length more) 0)
      ≡ path_cmp p (folder ++ name ∷ [])
  deeper first more rest =
      then_then (path_cmp front folder) (slice_cmp nat_cmp first name) (nat_cmp (length more) 0)
      ∙ ap (λ (o : Ordering). ordering_then (path_cmp front folder) (ordering_then (slice_cmp nat_cmp first name) o)) (length_tells more)
      ∙ ap (λ (b : FilePath). ordering_then (path_cmp front folder) (path_cmp b (name ∷ []))) (sym rest)
      ∙ parts
    where
      length_tells : (more : FilePath) → nat_cmp (length more) 0 ≡ path_cmp more []
      length_tells [] = refl
      length_tells (n ∷ more) = sym (nat_cmp_is (length (n ∷ more)) 0 Greater (omega arith))
