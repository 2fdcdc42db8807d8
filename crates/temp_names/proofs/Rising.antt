-- What holds of each item of a list and of what is taken from it, and lists whose paths rise.
use Rattle.std.proofs.Common.{◌≡◌, ◌∙◌, ℕ, zero, suc, ◌<◌, Bool, true, false, List, [], ◌∷◌, ◌++◌, filter, Option, Some, None, inl, inr, refl, sym, ap, subst, cond, arith}
use Rattle.std.specs.Prelude.{map}
use Rattle.std.specs.List.{AllByRecursion, filter_map, cons_option, slice_get}
use Rattle.std.specs.Option.{unwrap_or}
use Rattle.std.proofs.lemmas.Option.{none-some}
use Rattle.std.specs.declared.cmp.Ordering.TheVariants.{Less}
use Rattle.std.specs.Ordering.{ordering_reverse, is_lt, is_gt}
use Rattle.file_paths.specs.Path.{FilePath, path_cmp}
use Rattle.file_paths.proofs.Order.{paths_total, is_less, paths_differ}
use Rattle.tree_values.specs.Lists.{IsIn, NoneTwice}
use Rattle.cmd_capture.specs.declared.job.JobRow.{JobRow}
use Rattle.cmd_capture.specs.Rows.{JobRowsAreInOrder}
use Rattle.temp_names.specs.declared.candidate.Candidate.{Candidate}
use Rattle.temp_names.specs.Candidates.{in_path_order}
use Rattle.temp_names.specs.Laws.{RisesBy}
use Rattle.tree_values.proofs.Ordered.{is_greater}

pub some_same : {X : Type 0} (x y : X) → ◌≡◌ {A = Option X} (Some x) (Some y) → x ≡ y
some_same x y e = ap (λ o. unwrap_or o x) e

abbrev pub some_of : {X : Type 0} → X → Option X
some_of x = Some x

-- ---- each item

pub all_append : {X : Type 0} (P : X → Type 0) (xs ys : List X) → AllByRecursion P xs → AllByRecursion P ys → AllByRecursion P (xs ++ ys)
all_append P [] ys all more = more
all_append P (x ∷ xs) ys all more = (all.0, all_append P xs ys all.1 more)

pub all_filter : {X : Type 0} (P : X → Type 0) (f : X → Bool) (xs : List X) → AllByRecursion P xs → AllByRecursion P (filter f xs)
all_filter P f [] all = tt
all_filter P f (x ∷ xs) all =
    elim (f x) as (λ b. AllByRecursion P (cond b (x ∷ filter f xs) (filter f xs))) [
      | true ↦ (all.0, all_filter P f xs all.1)
      | false ↦ all_filter P f xs all.1
    ]

pub all_passing : {X : Type 0} (P : X → Type 0) (f : X → Bool) → ((x : X) → f x ≡ true → P x) → (xs : List X) → AllByRecursion P (filter f xs)
all_passing P f shows [] = tt
all_passing P f shows (x ∷ xs) =
    elim (f x) as (λ b. f x ≡ b → AllByRecursion P (cond b (x ∷ filter f xs) (filter f xs))) [
      | true ↦ λ e. (shows x e, all_passing P f shows xs)
      | false ↦ λ e. all_passing P f shows xs
    ] refl

pub all_map : {X : Type 0} (P Q : X → Type 0) → ((x : X) → P x → Q x) → (xs : List X) → AllByRecursion P xs → AllByRecursion Q xs
all_map P Q to [] all = tt
all_map P Q to (x ∷ xs) all = (to x all.0, all_map P Q to xs all.1)

pub all_both : {X : Type 0} (P Q : X → Type 0) (xs : List X) → AllByRecursion P xs → AllByRecursion Q xs → AllByRecursion (λ x. P x × Q x) xs
all_both P Q [] all more = tt
all_both P Q (x ∷ xs) all more = ((all.0, more.0), all_both P Q xs all.1 more.1)

pub all_found : {X Y : Type 0} (P : X → Type 0) (Q : Y → Type 0) (f : X → Option Y) → ((x : X) (y : Y) → f x ≡ Some y → P x → Q y)
    → (xs : List X) → AllByRecursion P xs → AllByRecursion Q (filter_map f xs)
all_found P Q f to [] all = tt
all_found P Q f to (x ∷ xs) all =
    elim (f x) as (λ o. f x ≡ o → AllByRecursion Q (cons_option o (filter_map f xs))) [
      | None ↦ λ e. all_found P Q f to xs all.1
      | Some y ↦ λ e. (to x y e all.0, all_found P Q f to xs all.1)
    ] refl

-- each item of a list is in it
pub all_in : {X : Type 0} (xs : List X) → AllByRecursion (λ x. IsIn x xs) xs
all_in [] = tt
all_in (x ∷ xs) = (inl refl, all_map (λ y. IsIn y xs) (λ y. IsIn y (x ∷ xs)) (λ y among. inr among) xs (all_in xs))

pub holds_in : {X : Type 0} (P : X → Type 0) (xs : List X) (x : X) → AllByRecursion P xs → IsIn x xs → P x
holds_in P [] x all among = absurd among
holds_in P (y ∷ ys) x all (inl same) = subst P (sym same) all.0
holds_in P (y ∷ ys) x all (inr among) = holds_in P ys x all.1 among

pub got : {X : Type 0} (P : X → Type 0) (xs : List X) (k : ℕ) (x : X) → AllByRecursion P xs → slice_get xs k ≡ Some x → P x
got P [] k x all e = absurd (none-some x e)
got P (y ∷ ys) zero x all e = subst P (some_same y x e) all.0
got P (y ∷ ys) (suc k) x all e = got P ys k x all.1 e

pub in_filter : {X : Type 0} (f : X → Bool) (xs : List X) (x : X) → IsIn x xs → f x ≡ true → IsIn x (filter f xs)
in_filter f [] x among so = absurd among
in_filter f (y ∷ ys) x (inl same) so = rw (subst (λ z. f z ≡ true) same so) (inl same)
in_filter f (y ∷ ys) x (inr among) so =
    elim (f y) as (λ b. IsIn x (cond b (y ∷ filter f ys) (filter f ys))) [
      | true ↦ inr (in_filter f ys x among so)
      | false ↦ in_filter f ys x among so
    ]

pub in_found : {X Y : Type 0} (f : X → Option Y) (xs : List X) (x : X) (y : Y) → IsIn x xs → f x ≡ Some y → IsIn y (filter_map f xs)
in_found f [] x y among so = absurd among
in_found f (z ∷ zs) x y (inl same) so = rw (subst (λ w. f w ≡ Some y) same so) (inl refl)
in_found f (z ∷ zs) x y (inr among) so =
    elim (f z) as (λ o. IsIn y (cons_option o (filter_map f zs))) [
      | None ↦ in_found f zs x y among so
      | Some w ↦ inr (in_found f zs x y among so)
    ]

-- ---- paths that rise

pub rises_filter : {X : Type 0} (path : X → FilePath) (f : X → Bool) (xs : List X) → RisesBy path xs → RisesBy path (filter f xs)
rises_filter path f [] up = tt
rises_filter path f (x ∷ xs) up =
    elim (f x) as (λ b. RisesBy path (cond b (x ∷ filter f xs) (filter f xs))) [
      | true ↦ (all_filter (λ y. path_cmp (path x) (path y) ≡ Less) f xs up.0, rises_filter path f xs up.1)
      | false ↦ rises_filter path f xs up.1
    ]

-- what is found of each item has the item's path
pub rises_found : {X Y : Type 0} (path : X → FilePath) (to : Y → FilePath) (f : X → Option Y)
    → ((x : X) (y : Y) → f x ≡ Some y → to y ≡ path x) → (xs : List X) → RisesBy path xs → RisesBy to (filter_map f xs)
rises_found path to f same [] up = tt
rises_found path to f same (x ∷ xs) up =
    elim (f x) as (λ o. f x ≡ o → RisesBy to (cons_option o (filter_map f xs))) [
      | None ↦ λ e. rises_found path to f same xs up.1
      | Some y ↦ λ e. (
        all_found (λ z. path_cmp (path x) (path z) ≡ Less) (λ z. path_cmp (to y) (to z) ≡ Less) f
            (λ z w g less. (λ i. path_cmp (same x y e i) (same z w g i)) ∙ less) xs up.0,
        rises_found path to f same xs up.1,
      )
    ] refl

pub rises_around : {X : Type 0} (path : X → FilePath) (new : X) (xs ys : List X)
    → AllByRecursion (λ x. path_cmp (path x) (path new) ≡ Less) xs → AllByRecursion (λ y. path_cmp (path new) (path y) ≡ Less) ys
    → RisesBy path xs → RisesBy path ys → RisesBy path (xs ++ new ∷ ys)
rises_around path new [] ys low high front back = (high, back)
rises_around path new (x ∷ xs) ys low high front back = (
  all_append (λ y. path_cmp (path x) (path y) ≡ Less) xs (new ∷ ys) front.0
      (low.0, all_map _ _ (λ y less. paths_total.trans (path x) (path new) (path y) low.0 less) ys high),
  rises_around path new xs ys low.1 high front.1 back,
)

-- what is above another has that one below it
pub above_is_below : (a b : FilePath) → is_gt (path_cmp a b) ≡ true → path_cmp b a ≡ Less
above_is_below a b e = paths_total.antisymm b a ∙ ap ordering_reverse (is_greater _ e)

pub in_path_order_rises : (cs : List Candidate) → RisesBy (λ c. c.path) (in_path_order cs)
in_path_order_rises [] = tt
in_path_order_rises (c ∷ cs) =
    rises_around (λ d. d.path) c _ _
    (all_passing (λ d. path_cmp d.path c.path ≡ Less) (λ d. is_lt (path_cmp d.path c.path)) (λ d e. is_less _ e) (in_path_order cs))
    (all_passing (λ d. path_cmp c.path d.path ≡ Less) (λ d. is_gt (path_cmp d.path c.path))
    (λ d e. above_is_below d.path c.path e) (in_path_order cs))
    (rises_filter (λ d. d.path) _ (in_path_order cs) (in_path_order_rises cs))
    (rises_filter (λ d. d.path) _ (in_path_order cs) (in_path_order_rises cs))

pub rows_rise : (rows : List JobRow) → JobRowsAreInOrder rows → RisesBy (λ row. row.path) rows
rows_rise [] up = tt
rows_rise (row ∷ rows) up = (up.0, rows_rise rows up.1)

pub less_differs : (a b : FilePath) → path_cmp a b ≡ Less → a ≡ b → ⊥
less_differs a b less = paths_differ a b Less less (λ e. absurd cc)

none_there : {X : Type 0} (path : X → FilePath) (x : X) (ys : List X) → AllByRecursion (λ y. path_cmp (path x) (path y) ≡ Less) ys
    → IsIn (path x) (map path ys) → ⊥
none_there path x [] all among = among
none_there path x (y ∷ ys) all (inl same) = less_differs (path x) (path y) all.0 same
none_there path x (y ∷ ys) all (inr among) = none_there path x ys all.1 among

pub rising_none_twice : {X : Type 0} (path : X → FilePath) (xs : List X) → RisesBy path xs → NoneTwice (map path xs)
rising_none_twice path [] up = tt
rising_none_twice path (x ∷ xs) up = (none_there path x xs up.0, rising_none_twice path xs up.1)

-- two items with one path are one
pub one_item : {X : Type 0} (path : X → FilePath) (xs : List X) (x y : X) → RisesBy path xs → IsIn x xs → IsIn y xs → path x ≡ path y → x ≡ y
one_item path [] x y up here there same = absurd here
one_item path (z ∷ zs) x y up (inl e) (inl f) same = e ∙ sym f
one_item path (z ∷ zs) x y up (inl e) (inr there) same =
    absurd (less_differs (path z) (path y) (holds_in (λ w. path_cmp (path z) (path w) ≡ Less) zs y up.0 there) (ap path (sym e) ∙ same))
one_item path (z ∷ zs) x y up (inr here) (inl f) same =
    absurd (less_differs (path z) (path x) (holds_in (λ w. path_cmp (path z) (path w) ≡ Less) zs x up.0 here) (ap path (sym f) ∙ sym same))
one_item path (z ∷ zs) x y up (inr here) (inr there) same = one_item path zs x y up.1 here there same

-- of two places the later has the greater path
pub later_is_above : {X : Type 0} (path : X → FilePath) (xs : List X) (i j : ℕ) (x y : X) → RisesBy path xs → i < j
    → slice_get xs i ≡ Some x → slice_get xs j ≡ Some y → path_cmp (path x) (path y) ≡ Less
later_is_above path [] i j x y up lt at_x at_y = absurd (none-some x at_x)
later_is_above path (z ∷ zs) zero zero x y up lt at_x at_y = absurd (omega (arith, lt))
later_is_above path (z ∷ zs) zero (suc j) x y up lt at_x at_y =
    subst (λ w. path_cmp (path w) (path y) ≡ Less) (some_same z x at_x) (got (λ w. path_cmp (path z) (path w) ≡ Less) zs j y up.0 at_y)
later_is_above path (z ∷ zs) (suc i) zero x y up lt at_x at_y = absurd (omega (arith, lt))
later_is_above path (z ∷ zs) (suc i) (suc j) x y up lt at_x at_y = later_is_above path zs i j x y up.1 (omega (arith, lt)) at_x at_y

pub later_differs : {X : Type 0} (path : X → FilePath) (xs : List X) (i j : ℕ) (x y : X) → RisesBy path xs → i < j
    → slice_get xs i ≡ Some x → slice_get xs j ≡ Some y → path x ≡ path y → ⊥
later_differs path xs i j x y up lt at_x at_y = less_differs (path x) (path y) (later_is_above path xs i j x y up lt at_x at_y)
