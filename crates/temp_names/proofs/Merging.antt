-- Rows that are put at their places one after the other are the rows of both, sorted.
use Rattle.std.proofs.Common.{◌≡◌, ◌∙◌, Bool, true, false, not, cond, List, [], ◌∷◌, ◌++◌, filter, refl, sym, ap, true≢false, ◌&&◌, append_assoc, append-nil, reverse}
use Rattle.std.specs.List.{AllByRecursion}
use Rattle.std.specs.Ordering.{is_lt, is_eq}
use Rattle.std.specs.declared.cmp.Ordering.TheVariants.{Less}
use Rattle.std.specs.Ordering.{ordering_reverse}
use Rattle.std.proofs.lemmas.List.{reverse-append}
use Rattle.std.proofs.lemmas.List.Elements.{filter-append, filter_agree}
use Rattle.file_paths.specs.Path.{FilePath, path_cmp}
use Rattle.file_paths.proofs.Order.{tied_path, is_less, below_trans}
use Rattle.byte_fields.proofs.Facts.{not_of}
use Rattle.cmd_capture.specs.declared.job.JobRow.{JobRow}
use Rattle.temp_names.specs.Rename.{with_job_row, with_job_rows}
use Rattle.temp_names.specs.Inside.{is_before, is_tied, Rises, AreSorted, path_of_row}
use Rattle.temp_names.proofs.Sorting.{Grows, turned, filter_twice, rises_grows, one_growing}
use Rattle.temp_names.proofs.Rising.{all_append, all_filter, all_passing, all_map}

-- ---- the order

below_not_after : (a b : FilePath) → path_cmp a b ≡ Less → is_lt (path_cmp b a) ≡ false
below_not_after a b less = ap is_lt (turned b a ∙ ap ordering_reverse less)

grows_filter : (f : JobRow → Bool) (rows : List JobRow) → Grows path_of_row rows → Grows path_of_row (filter f rows)
grows_filter f [] grows = tt
grows_filter f (row ∷ rows) grows =
    elim (f row) as (λ b. Grows path_of_row (cond b (row ∷ filter f rows) (filter f rows))) [
      | true ↦ (all_filter (λ y. is_before path_of_row y row ≡ false) f rows grows.0, grows_filter f rows grows.1)
      | false ↦ grows_filter f rows grows.1
    ]

-- rows below a new one, the new one, and rows that are not below it
grows_around : (new : JobRow) (low high : List JobRow) → AllByRecursion (λ x. path_cmp x.path new.path ≡ Less) low
    → AllByRecursion (λ y. is_before path_of_row y new ≡ false) high → Grows path_of_row low → Grows path_of_row high → Grows path_of_row (low ++ new ∷ high)
grows_around new [] high below above front back = (above, back)
grows_around new (x ∷ low) high below above front back = (
  all_append (λ y. is_before path_of_row y x ≡ false) low (new ∷ high) front.0 (
    below_not_after x.path new.path below.0,
    all_map (λ y. is_before path_of_row y new ≡ false) (λ y. is_before path_of_row y x ≡ false)
        (λ y not_below. below_not_after x.path y.path (below_trans x.path new.path y.path below.0 not_below)) high above,
  ),
  grows_around new low high below.1 above front.1 back,
)

grows_with : (new : JobRow) (rows : List JobRow) → Grows path_of_row rows → Grows path_of_row (with_job_row new rows)
grows_with new rows grows =
    grows_around new _ _
    (all_passing (λ row. path_cmp row.path new.path ≡ Less) (λ row. is_lt (path_cmp row.path new.path)) (λ row e. is_less _ e) rows)
    (all_passing (λ row. is_before path_of_row row new ≡ false) (λ row. not (is_lt (path_cmp row.path new.path))) (λ row e. not_of _ e) rows)
    (grows_filter _ rows grows) (grows_filter _ rows grows)

grows_all : (more rows : List JobRow) → Grows path_of_row rows → Grows path_of_row (with_job_rows more rows)
unfolding with_job_rows
grows_all [] rows grows = grows
grows_all (new ∷ more) rows grows = grows_all more (with_job_row new rows) (grows_with new rows grows)

-- ---- the rows of one path

and_false : (c : Bool) → (c && false) ≡ false
and_false true = refl
and_false false = refl

test_alike : (here there answer : Bool) → (here ≡ true → there ≡ answer) → (there && here) ≡ (answer && here)
test_alike true there answer alike = ap (λ c. c && true) (alike refl)
test_alike false there answer alike = and_false there ∙ sym (and_false answer)

filter_nothing : {X : Type 0} (xs : List X) → filter (λ x. false) xs ≡ []
filter_nothing [] = refl
filter_nothing (x ∷ xs) = filter_nothing xs

filter_answer : {X : Type 0} (p : X → Bool) (answer : Bool) (xs : List X) → filter (λ x. answer && p x) xs ≡ cond answer (filter p xs) []
filter_answer p true xs = refl
filter_answer p false xs = filter_nothing xs

-- of items for which a second test answers alike, it keeps all or none
filter_alike : {X : Type 0} (p q : X → Bool) (answer : Bool) → ((x : X) → p x ≡ true → q x ≡ answer) → (xs : List X) → filter p (filter q xs) ≡ cond answer (filter p xs) []
filter_alike p q answer alike xs =
    sym (filter_twice q p xs)
    ∙ filter_agree (λ x. q x && p x) (λ x. answer && p x) (λ x. test_alike (p x) (q x) answer (alike x)) xs
    ∙ filter_answer p answer xs

join : (below tied : Bool) (rows : List JobRow) (new : JobRow) → (below ≡ true → tied ≡ false)
    → (cond below rows [] ++ cond tied (new ∷ cond (not below) rows []) (cond (not below) rows [])) ≡ cond tied (new ∷ rows) rows
join false tied rows new apart = refl
join true true rows new apart = absurd (true≢false (apart refl))
join true false rows new apart = append-nil rows

class_with : (new : JobRow) (rows : List JobRow) (z : JobRow) → filter (is_tied path_of_row z) (with_job_row new rows) ≡ filter (is_tied path_of_row z) (new ∷ rows)
class_with new rows z =
    let below : Bool = is_lt (path_cmp z.path new.path) in
    let tied : JobRow → Bool = is_tied path_of_row z in
    let low : filter tied (filter (λ row. is_lt (path_cmp row.path new.path)) rows) ≡ cond below (filter tied rows) [] =
    filter_alike tied (λ row. is_lt (path_cmp row.path new.path)) below
    (λ row same. ap (λ p. is_lt (path_cmp p new.path)) (tied_path row.path z.path same)) rows
    in
    let high : filter tied (filter (λ row. not (is_lt (path_cmp row.path new.path))) rows) ≡ cond (not below) (filter tied rows) [] =
    filter_alike tied (λ row. not (is_lt (path_cmp row.path new.path))) (not below)
    (λ row same. ap (λ p. not (is_lt (path_cmp p new.path))) (tied_path row.path z.path same)) rows
    in
    filter-append tied (filter (λ row. is_lt (path_cmp row.path new.path)) rows) (new ∷ filter (λ row. not (is_lt (path_cmp row.path new.path))) rows)
    ∙ (λ i. low i ++ cond (tied new) (new ∷ high i) (high i))
    ∙ join below (tied new) (filter tied rows) new
    (λ less. ap is_eq (turned new.path z.path ∙ ap ordering_reverse (is_less (path_cmp z.path new.path) less)))

class_of_all : (more rows : List JobRow) (z : JobRow) → filter (is_tied path_of_row z) (with_job_rows more rows) ≡ filter (is_tied path_of_row z) (reverse more ++ rows)
unfolding with_job_rows
class_of_all [] rows z = refl
class_of_all (new ∷ more) rows z =
    let tied : JobRow → Bool = is_tied path_of_row z in
    class_of_all more (with_job_row new rows) z
    ∙ filter-append tied (reverse more) (with_job_row new rows)
    ∙ ap (λ ys. filter tied (reverse more) ++ ys) (class_with new rows z)
    ∙ sym (filter-append tied (reverse more) (new ∷ rows))
    ∙ ap (filter tied) (sym (ap (λ ys. ys ++ rows) (reverse-append (new ∷ []) more) ∙ append_assoc (reverse more) (new ∷ []) rows))

-- the rows of both, sorted, are those that are put at their places
pub merged_is : (more rows all : List JobRow) → Rises path_of_row rows → AreSorted path_of_row (reverse more ++ rows) all → all ≡ with_job_rows more rows
merged_is more rows all rises are =
    one_growing path_of_row all (with_job_rows more rows) (rises_grows path_of_row all are.rises) (grows_all more rows (rises_grows path_of_row rows rises))
    (λ z. are.same z ∙ sym (class_of_all more rows z))
