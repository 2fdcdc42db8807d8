-- Lists that are sorted by the paths of their items: what a sort gives, and what a search by halves finds.
use Rattle.std.proofs.Common.{◌≡◌, ◌∙◌, ℕ, zero, suc, ◌+◌, ◌-◌, ◌<◌, ◌≤◌, Bool, true, false, ◌&&◌, not, cond, List, [], ◌∷◌, length, filter, take, drop, get_or, Some, refl, sym, ap, subst, true≢false, arith}
use Rattle.std.specs.Prelude.{count_by, slice_get, find}
use Rattle.std.specs.List.{AllWithin, AllByRecursion}
use Rattle.std.specs.List.Sorted.{IsSortedBy, IsStableBy, IsPartitionedBy, IsPartitionPoint, ties}
use Rattle.std.specs.Cmp.{IsStrictWeakOrder}
use Rattle.std.specs.Ordering.{is_lt, is_le, is_eq, ordering_reverse, ordering_index}
use Rattle.std.specs.declared.cmp.Ordering.{Ordering}
use Rattle.std.specs.declared.cmp.Ordering.TheVariants.{Less, Equal, Greater}
use Rattle.std.specs.Fn.{Called, ComparesAs}
use Rattle.std.proofs.lemmas.Fn.{always_returns_same}
use Rattle.std.proofs.lemmas.List.Sorted.{ranks_by, searchable_from_sorted, sorted_far}
use denote.Param.Members.{Mut}
use denote.Ref.{Bor}
use Rattle.std.proofs.lemmas.List.Elements.{filter_agree}
use Rattle.std.proofs.lemmas.List.Sums.{length-filter}
use Rattle.std.proofs.lemmas.List.{get_or-drop, length-drop, length-take-le}
use Rattle.file_paths.specs.Path.{FilePath, path_cmp, is_same_path}
use Rattle.file_paths.proofs.Order.{paths_total, same_path, same_place, own_path, path_tied, below_trans}
use Rattle.temp_names.specs.Laws.{RisesBy}
use Rattle.temp_names.specs.Inside.{is_before, is_tied, Rises, AreSorted}

-- ---- what a sort gives

pub weak_order : {X : Type 0} (key : X → FilePath) → IsStrictWeakOrder (is_before key)
weak_order key = ranks_by paths_total key

pub turned : (a b : FilePath) → path_cmp a b ≡ ordering_reverse (path_cmp b a)
turned a b = paths_total.antisymm a b

tie_of : (o r : Ordering) → r ≡ ordering_reverse o → (not (is_lt o) && not (is_lt r)) ≡ is_eq r
tie_of Less r e = ap is_eq (sym e)
tie_of Equal r e = ap (λ q. not (is_lt q)) e ∙ ap is_eq (sym e)
tie_of Greater r e = ap (λ q. not (is_lt q)) e ∙ ap is_eq (sym e)

ties_tied : {X : Type 0} (key : X → FilePath) (x y : X) → ties (is_before key) x y ≡ is_tied key x y
ties_tied key x y = tie_of (path_cmp (key x) (key y)) (path_cmp (key y) (key x)) (turned (key y) (key x))

-- what a stable sort did
pub sorted_stably : {X : Type 0} (key : X → FilePath) (xs ys : List X) → IsSortedBy (is_before key) ys → IsStableBy (is_before key) xs ys → AreSorted key xs ys
sorted_stably key xs ys rises stable =
    record {
      rises = rises;
      same = λ x.
          sym (filter_agree (ties (is_before key) x) (is_tied key x) (ties_tied key x) ys)
          ∙ stable x
          ∙ filter_agree (ties (is_before key) x) (is_tied key x) (ties_tied key x) xs;
    }

-- the same from the clauses of `sort_by`, where each call compares the keys
pub sorted_from_sort_by : {X : Type 0} (key : X → FilePath) → {F : Type 0} {g : Mut F (Bor X × (Bor X × Unit {0})) Ordering} {f : F} (xs ys : List X)
    → ((lt : X → X → Bool) → IsStrictWeakOrder lt → ComparesAs g lt f → IsSortedBy lt ys)
    → ((lt : X → X → Bool) → IsStrictWeakOrder lt → ComparesAs g lt f → IsStableBy lt xs ys)
    → ((a : Bor X × (Bor X × Unit {0})) (r : Ordering) (f' : F) → Called g f a r f' → (r ≡ path_cmp (key a.0.now) (key a.1.0.now)) × (f' ≡ f))
    → AreSorted key xs ys
sorted_from_sort_by {X = X} key {F = F} {g = g} {f = f} xs ys rises stable says =
    let compares : ComparesAs g (is_before key) f = always_returns_same g _ f (λ a r f' called. (ap is_lt (says a r f' called).0, (says a r f' called).1)) in
    sorted_stably key xs ys (rises (is_before key) (weak_order key) compares) (stable (is_before key) (weak_order key) compares)

-- ---- where a search by halves ends

low_index : (o q : Ordering) → ordering_index o ≤ ordering_index q → is_lt q ≡ true → is_lt o ≡ true
low_index Less q le e = refl
low_index Equal Less le e = absurd (omega (arith, le))
low_index Equal Equal le e = absurd (true≢false (sym e))
low_index Equal Greater le e = absurd (true≢false (sym e))
low_index Greater Less le e = absurd (omega (arith, le))
low_index Greater Equal le e = absurd (true≢false (sym e))
low_index Greater Greater le e = absurd (true≢false (sym e))

mid_index : (o q : Ordering) → ordering_index o ≤ ordering_index q → is_le q ≡ true → is_le o ≡ true
mid_index Less q le e = refl
mid_index Equal q le e = refl
mid_index Greater Less le e = absurd (omega (arith, le))
mid_index Greater Equal le e = absurd (omega (arith, le))
mid_index Greater Greater le e = absurd (true≢false (sym e))

-- those with a key below another stand in front, and so do those with none above it
pub below_in_front : {X : Type 0} (key : X → FilePath) (xs : List X) (p : FilePath) → Rises key xs → IsPartitionedBy (λ x. is_lt (path_cmp (key x) p)) xs
below_in_front key xs p rises i j d le within last =
    low_index (path_cmp (key (get_or xs i d)) p) (path_cmp (key (get_or xs j d)) p) (searchable_from_sorted paths_total key xs p rises i j d le within) last

pub not_above_in_front : {X : Type 0} (key : X → FilePath) (xs : List X) (p : FilePath) → Rises key xs → IsPartitionedBy (λ x. is_le (path_cmp (key x) p)) xs
not_above_in_front key xs p rises i j d le within last =
    mid_index (path_cmp (key (get_or xs i d)) p) (path_cmp (key (get_or xs j d)) p) (searchable_from_sorted paths_total key xs p rises i j d le within) last

-- ---- what a part of a list has

-- the rest of a list, where its items count on from the next
shifted : {X : Type 0} (P : X → Type 0) (x : X) (xs : List X) (low high next : ℕ) → low ≤ suc next → AllWithin P (x ∷ xs) low (suc high) → AllWithin P xs next high
shifted P x xs low high next le all k d above below = all (suc k) d (omega (arith, above, le)) (omega (arith, below))

-- a test that the front passes and the back does not
pub filter_of_front : {X : Type 0} (p : X → Bool) (xs : List X) (i : ℕ) → AllWithin (λ x. p x ≡ true) xs 0 i → AllWithin (λ x. p x ≡ false) xs i (length xs)
    → filter p xs ≡ take i xs
filter_of_front p [] zero front back = refl
filter_of_front p [] (suc i) front back = refl
filter_of_front p (x ∷ xs) zero front back =
    let first : p x ≡ false = back 0 x (omega (arith)) (omega (arith)) in
    ap (λ b. cond b (x ∷ filter p xs) (filter p xs)) first ∙ filter_of_front p xs zero (λ k d low high. absurd (omega (arith, high))) (shifted (λ y. p y ≡ false) x xs 0 (length xs) 0 (omega (arith)) back)
filter_of_front p (x ∷ xs) (suc i) front back =
    let first : p x ≡ true = front 0 x (omega (arith)) (omega (arith)) in
    ap (λ b. cond b (x ∷ filter p xs) (filter p xs)) first
    ∙ ap (λ ys. x ∷ ys) (filter_of_front p xs i (shifted (λ y. p y ≡ true) x xs 0 i 0 (omega (arith)) front) (shifted (λ y. p y ≡ false) x xs (suc i) (length xs) i (omega (arith)) back))

-- a test that the front does not pass
pub filter_behind : {X : Type 0} (p : X → Bool) (xs : List X) (i : ℕ) → AllWithin (λ x. p x ≡ false) xs 0 i → filter p xs ≡ filter p (drop i xs)
filter_behind p [] zero front = refl
filter_behind p [] (suc i) front = refl
filter_behind p (x ∷ xs) zero front = refl
filter_behind p (x ∷ xs) (suc i) front =
    let first : p x ≡ false = front 0 x (omega (arith)) (omega (arith)) in
    ap (λ b. cond b (x ∷ filter p xs) (filter p xs)) first ∙ filter_behind p xs i (shifted (λ y. p y ≡ false) x xs 0 i 0 (omega (arith)) front)

below_not_tied : (o : Ordering) → is_lt o ≡ true → is_eq o ≡ false
below_not_tied Less e = refl
below_not_tied Equal e = absurd (true≢false (sym e))
below_not_tied Greater e = refl

above_not_tied : (o : Ordering) → is_le o ≡ false → is_eq o ≡ false
above_not_tied Less e = refl
above_not_tied Equal e = absurd (true≢false e)
above_not_tied Greater e = refl

between_is_tied : (o : Ordering) → is_lt o ≡ false → is_le o ≡ true → is_eq o ≡ true
between_is_tied Less low high = absurd (true≢false low)
between_is_tied Equal low high = refl
between_is_tied Greater low high = absurd (true≢false (sym high))

-- the items with a key stand between those below it and those above it
pub tied_part : {X : Type 0} (key : X → FilePath) (xs rest : List X) (p : FilePath) (first count : ℕ) → first ≤ length xs → rest ≡ drop first xs
    → IsPartitionPoint (λ x. is_lt (path_cmp (key x) p) ≡ true) (λ x. is_lt (path_cmp (key x) p) ≡ false) xs first
    → IsPartitionPoint (λ x. is_le (path_cmp (key x) p) ≡ true) (λ x. is_le (path_cmp (key x) p) ≡ false) rest count
    → count ≤ length rest
    → take count rest ≡ filter (λ x. is_same_path (key x) p) xs
tied_part {X = X} key xs rest p first count within is low high few =
    let test : X → Bool = λ x. is_same_path (key x) p in
    let size : length rest ≡ length xs - first = ap length is ∙ length-drop first xs in
    sym
    (filter_behind test xs first (λ k d above below. below_not_tied (path_cmp (key (get_or xs k d)) p) (low.0 k d above below))
    ∙ ap (filter test) (sym is)
    ∙ filter_of_front test rest count
    (λ k d above below.
    let here : get_or rest k d ≡ get_or xs (first + k) d = ap (λ ys. get_or ys k d) is ∙ get_or-drop first xs k d in
    between_is_tied (path_cmp (key (get_or rest k d)) p)
    (ap (λ x. is_lt (path_cmp (key x) p)) here ∙ low.1 (first + k) d (omega (arith)) (omega (arith, below, few, size, within)))
    (high.0 k d above below))
    (λ k d above below. above_not_tied (path_cmp (key (get_or rest k d)) p) (high.1 k d above below)))

-- ---- counts

pub filter_twice : {X : Type 0} (p q : X → Bool) (xs : List X) → filter (λ x. p x && q x) xs ≡ filter q (filter p xs)
filter_twice p q [] = refl
filter_twice p q (x ∷ xs) =
    elim (p x) as (λ b. cond (b && q x) (x ∷ filter (λ y. p y && q y) xs) (filter (λ y. p y && q y) xs) ≡ filter q (cond b (x ∷ filter p xs) (filter p xs))) [
      | true ↦ ap (λ ys. cond (q x) (x ∷ ys) ys) (filter_twice p q xs)
      | false ↦ filter_twice p q xs
    ]

-- counting two tests is counting one among those that pass the other
pub count_both : {X : Type 0} (p q : X → Bool) (xs : List X) → count_by (λ x. p x && q x) xs ≡ count_by q (filter p xs)
count_both p q xs = sym (length-filter (λ x. p x && q x) xs) ∙ ap length (filter_twice p q xs) ∙ length-filter q (filter p xs)

-- where a search for a test ends is how many pass it
pub count_of_front : {X : Type 0} (p : X → Bool) (xs : List X) (i : ℕ) → i ≤ length xs → IsPartitionPoint (λ x. p x ≡ true) (λ x. p x ≡ false) xs i → i ≡ count_by p xs
count_of_front p xs i within parts =
    sym (length-take-le i xs within) ∙ ap length (sym (filter_of_front p xs i parts.0 parts.1)) ∙ length-filter p xs

-- ---- the first of a key

pub first_passing : {X : Type 0} (p : X → Bool) (xs : List X) → find p xs ≡ slice_get (filter p xs) 0
first_passing p [] = refl
first_passing p (x ∷ xs) =
    elim (p x) as (λ b. cond b (Some x) (find p xs) ≡ slice_get (cond b (x ∷ filter p xs) (filter p xs)) 0) [
      | true ↦ refl
      | false ↦ first_passing p xs
    ]

-- ---- lists whose paths rise are sorted

rises_at : {X : Type 0} (key : X → FilePath) (x : X) (xs : List X) (d : X) → AllByRecursion (λ y. path_cmp (key x) (key y) ≡ Less) xs → 0 < length xs
    → is_lt (path_cmp (key (get_or xs 0 d)) (key x)) ≡ false
rises_at key x [] d all some = absurd (omega (arith, some))
rises_at key x (y ∷ ys) d all some = ap is_lt (turned (key y) (key x) ∙ ap ordering_reverse all.0)

pub rising_sorted : {X : Type 0} (key : X → FilePath) (xs : List X) → RisesBy key xs → Rises key xs
rising_sorted key [] up k d low high = absurd (omega (arith, high))
rising_sorted key (x ∷ xs) up zero d low high = rises_at key x xs d up.0 (omega (arith, high))
rising_sorted key (x ∷ xs) up (suc k) d low high =
    let on : suc (k + 1) ≡ suc k + 1 = omega (arith) in
    subst (λ n. is_lt (path_cmp (key (get_or (x ∷ xs) n d)) (key (get_or xs k d))) ≡ false) on (rising_sorted key xs up.1 k d (omega (arith)) (omega (arith, high)))

pub back_rises : {X : Type 0} (key : X → FilePath) (xs rest : List X) (n : ℕ) → rest ≡ drop n xs → n ≤ length xs → Rises key xs → Rises key rest
back_rises key xs rest n is few rises k d low high =
    let size : length rest ≡ length xs - n = ap length is ∙ length-drop n xs in
    let here : get_or rest k d ≡ get_or xs (n + k) d = ap (λ ys. get_or ys k d) is ∙ get_or-drop n xs k d in
    let onward : n + (k + 1) ≡ n + k + 1 = omega (arith) in
    let next : get_or rest (k + 1) d ≡ get_or xs (n + k + 1) d = ap (λ ys. get_or ys (k + 1) d) is ∙ get_or-drop n xs (k + 1) d ∙ ap (λ i. get_or xs i d) onward in
    (λ i. is_before key (next i) (here i)) ∙ rises (n + k) d (omega (arith)) (omega (arith, high, size, few))

-- ---- sorted lists that have the same items of each key

-- no item is before an earlier one
abbrev pub Grows : {X : Type 0} → (X → FilePath) → List X → Type 0
Grows key [] = Unit {0}
Grows key (x ∷ xs) = AllByRecursion (λ y. is_before key y x ≡ false) xs × Grows key xs

each_at : {X : Type 0} (P : X → Type 0) (xs : List X) → ((k : ℕ) (d : X) → k < length xs → P (get_or xs k d)) → AllByRecursion P xs
each_at P [] at = tt
each_at P (x ∷ xs) at = (at 0 x (omega (arith)), each_at P xs (λ k d within. at (suc k) d (omega (arith, within))))

pub rises_grows : {X : Type 0} (key : X → FilePath) (xs : List X) → Rises key xs → Grows key xs
rises_grows key [] rises = tt
rises_grows key (x ∷ xs) rises = (
  each_at (λ y. is_before key y x ≡ false) xs
      (λ k d within. sorted_far (is_before key) (weak_order key) (x ∷ xs) rises 0 (suc k) d (omega (arith)) (omega (arith, within))),
  rises_grows key xs (back_rises key (x ∷ xs) xs 1 refl (omega (arith)) rises),
)

-- items that are none before z have its key only where they are not above it
none_tied : {X : Type 0} (key : X → FilePath) (z y : X) (xs : List X) → path_cmp (key z) (key y) ≡ Less → AllByRecursion (λ x. is_before key x y ≡ false) xs
    → filter (is_tied key z) xs ≡ []
none_tied key z y [] below all = refl
none_tied key z y (x ∷ xs) below all =
    let under : path_cmp (key z) (key x) ≡ Less = below_trans (key z) (key y) (key x) below all.0 in
    let apart : is_tied key z x ≡ false = ap is_eq (turned (key x) (key z) ∙ ap ordering_reverse under) in
    ap (λ b. cond b (x ∷ filter (is_tied key z) xs) (filter (is_tied key z) xs)) apart ∙ none_tied key z y xs below all.1

not_before_itself : {X : Type 0} (key : X → FilePath) (x : X) → is_before key x x ≡ false
not_before_itself key x = ap is_lt (same_place (key x))

own_first : {X : Type 0} (key : X → FilePath) (z x : X) (xs : List X) → is_tied key z x ≡ true → filter (is_tied key z) (x ∷ xs) ≡ x ∷ filter (is_tied key z) xs
own_first key z x xs tied = ap (λ b. cond b (x ∷ filter (is_tied key z) xs) (filter (is_tied key z) xs)) tied

other_first : {X : Type 0} (key : X → FilePath) (z x : X) (xs : List X) → is_tied key z x ≡ false → filter (is_tied key z) (x ∷ xs) ≡ filter (is_tied key z) xs
other_first key z x xs apart = ap (λ b. cond b (x ∷ filter (is_tied key z) xs) (filter (is_tied key z) xs)) apart

some_none : {X : Type 0} (x : X) (xs : List X) → x ∷ xs ≡ [] → ⊥
some_none x xs e = cc e

first_of : {X : Type 0} → X → List X → X
first_of d [] = d
first_of d (x ∷ xs) = x

rest_of : {X : Type 0} → List X → List X
rest_of [] = []
rest_of (x ∷ xs) = xs

-- the same items of each key make the same list
pub one_growing : {X : Type 0} (key : X → FilePath) (xs ys : List X) → Grows key xs → Grows key ys
    → ((z : X) → filter (is_tied key z) xs ≡ filter (is_tied key z) ys) → xs ≡ ys
unfolding first_of rest_of
one_growing key [] [] front back same = refl
one_growing key [] (y ∷ ys) front back same = absurd (some_none y (filter (is_tied key y) ys) (sym (same y ∙ own_first key y y ys (own_path (key y)))))
one_growing key (x ∷ xs) [] front back same = absurd (some_none x (filter (is_tied key x) xs) (sym (own_first key x x xs (own_path (key x))) ∙ same x))
one_growing {X = X} key (x ∷ xs) (y ∷ ys) front back same = by (path_cmp (key x) (key y)) refl (one_growing key xs ys front.1 back.1)
  where
    rest : (z : X) (b : Bool) → is_tied key z x ≡ b → key x ≡ key y → filter (is_tied key z) xs ≡ filter (is_tied key z) ys
    rest z true tied keys =
        ap rest_of (sym (own_first key z x xs tied) ∙ same z ∙ own_first key z y ys (subst (λ p. is_same_path p (key z) ≡ true) keys tied))
    rest z false apart keys =
        sym (other_first key z x xs apart) ∙ same z ∙ other_first key z y ys (subst (λ p. is_same_path p (key z) ≡ false) keys apart)

    by : (o : Ordering) → path_cmp (key x) (key y) ≡ o → (((z : X) → filter (is_tied key z) xs ≡ filter (is_tied key z) ys) → xs ≡ ys) → x ∷ xs ≡ y ∷ ys
    by Less e again =
        absurd (some_none x (filter (is_tied key x) xs)
        (sym (own_first key x x xs (own_path (key x))) ∙ same x ∙ none_tied key x y (y ∷ ys) e (not_before_itself key y, back.0)))
    by Greater e again =
        absurd (some_none y (filter (is_tied key y) ys)
        (sym (own_first key y y ys (own_path (key y))) ∙ sym (same y)
        ∙ none_tied key y x (x ∷ xs) (turned (key y) (key x) ∙ ap ordering_reverse e) (not_before_itself key x, front.0)))
    by Equal e again =
        let keys : key x ≡ key y = same_path (key x) (key y) e in
        let here : x ∷ filter (is_tied key x) xs ≡ y ∷ filter (is_tied key x) ys =
        sym (own_first key x x xs (own_path (key x))) ∙ same x ∙ own_first key x y ys (path_tied (key y) (key x) (sym keys))
        in
        let items : x ≡ y = ap (first_of x) here in
        let more : xs ≡ ys = again (λ z. rest z (is_tied key z x) refl keys) in λ i. items i ∷ more i
