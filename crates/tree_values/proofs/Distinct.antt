-- Distinct paths: those of a list, each once, at its first place.
use Rattle.std.proofs.Common.{◌≡◌, ◌⊎◌, inl, inr, Bool, true, false, cond, not, ◌&&◌, ◌||◌, filter, List, [], ◌∷◌, ◌++◌, refl, sym, ap, ◌∙◌, true≢false, append-nil, append_assoc}
use Rattle.std.specs.List.{fold, list_any}
use Rattle.std.specs.Str.{bytes_eq}
use Rattle.std.specs.Cmp.Lexicographic.{pointwise, lists_equiv, nat_list_eq_equiv}
use Rattle.std.proofs.lemmas.Slice.Eq.{bytes_eq-Decides, slice_eq-Decides}
use Rattle.file_paths.specs.Path.{FilePath, is_same_path}
use Rattle.tree_values.specs.Effects.{distinct}
use Rattle.tree_values.specs.Lists.{IsIn, NoneTwice}
use Rattle.tree_values.specs.Inside.{add_new}
use Rattle.file_paths.proofs.Order.{own_path, tied_path}

-- ---- tests of paths

pub same_names : (p q : FilePath) → pointwise bytes_eq p q ≡ true → p ≡ q
same_names p q e = (slice_eq-Decides bytes_eq-Decides p q _ refl).0 e

false_is_apart : (p q : FilePath) → is_same_path p q ≡ false → p ≡ q → ⊥
false_is_apart p q differ same = true≢false (sym (own_path p) ∙ ap (is_same_path p) same ∙ differ)

-- the test of equal names is that of equal paths
pub same_test : (p q : FilePath) → pointwise bytes_eq p q ≡ is_same_path p q
same_test p q = by (pointwise bytes_eq p q) (is_same_path p q) refl refl
  where
    equal : p ≡ q → pointwise bytes_eq p q ≡ true
    equal same = ap (pointwise bytes_eq p) (sym same) ∙ (lists_equiv nat_list_eq_equiv).refl p

    by : (a b : Bool) → pointwise bytes_eq p q ≡ a → is_same_path p q ≡ b → a ≡ b
    by true true e g = refl
    by false false e g = refl
    by true false e g = absurd (false_is_apart p q g (same_names p q e))
    by false true e g = absurd (true≢false (sym (equal (tied_path p q g)) ∙ e))

-- ---- one path less

-- the paths but this one
abbrev pub but : FilePath → List FilePath → List FilePath
but path paths = filter (λ other. not (is_same_path other path)) paths

-- whether the path is none of these
abbrev pub is_new : List FilePath → FilePath → Bool
is_new known path = not (list_any (pointwise bytes_eq path) known)

abbrev pub new_to : List FilePath → List FilePath → List FilePath
new_to known paths = filter (is_new known) paths

filter_under : (f g : FilePath → Bool) (xs : List FilePath) → ((x : FilePath) → f x ≡ true → g x ≡ true) → filter f (filter g xs) ≡ filter f xs
filter_under f g [] weaker = refl
filter_under f g (x ∷ xs) weaker = by (f x) (g x) refl refl (filter_under f g xs weaker)
  where
    by : (b c : Bool) → f x ≡ b → g x ≡ c → filter f (filter g xs) ≡ filter f xs → filter f (filter g (x ∷ xs)) ≡ filter f (x ∷ xs)
    by true true e h rest = simp (e, h) (ap (λ more. x ∷ more) rest)
    by true false e h rest = absurd (true≢false (sym (weaker x e) ∙ h))
    by false true e h rest = simp (e, h) rest
    by false false e h rest = simp (e, h) rest

filter_both : (f g h : FilePath → Bool) (xs : List FilePath) → ((x : FilePath) → h x ≡ (f x && g x)) → filter h xs ≡ filter f (filter g xs)
filter_both f g h [] both = refl
filter_both f g h (x ∷ xs) both = by (f x) (g x) refl refl (filter_both f g h xs both)
  where
    by : (b c : Bool) → f x ≡ b → g x ≡ c → filter h xs ≡ filter f (filter g xs) → filter h (x ∷ xs) ≡ filter f (filter g (x ∷ xs))
    by true true e k rest = simp (both x, e, k) (ap (λ more. x ∷ more) rest)
    by true false e k rest = simp (both x, e, k) rest
    by false true e k rest = simp (both x, e, k) rest
    by false false e k rest = simp (both x, e, k) rest

-- ---- adding each path that is new makes the distinct ones

pub any_append : (t : FilePath → Bool) (xs ys : List FilePath) → list_any t (xs ++ ys) ≡ (list_any t xs || list_any t ys)
any_append t [] ys = refl
any_append t (x ∷ xs) ys = by (t x) (any_append t xs ys)
  where
    by : (b : Bool) → list_any t (xs ++ ys) ≡ (list_any t xs || list_any t ys) → (b || list_any t (xs ++ ys)) ≡ ((b || list_any t xs) || list_any t ys)
    by true rest = refl
    by false rest = rest

-- a path that is known is none of the new ones
new_is_apart : (known : List FilePath) (path other : FilePath) → is_new known path ≡ false → is_new known other ≡ true → not (is_same_path other path) ≡ true
new_is_apart known path other old new = by (is_same_path other path) refl
  where
    by : (b : Bool) → is_same_path other path ≡ b → not b ≡ true
    by true e = absurd (true≢false (sym new ∙ ap (is_new known) (tied_path other path e) ∙ old))
    by false e = refl

new_behind : (known : List FilePath) (path other : FilePath) → is_new (known ++ path ∷ []) other ≡ (is_new known other && not (is_same_path other path))
new_behind known path other =
    ap not (any_append (pointwise bytes_eq other) known (path ∷ [])) ∙ ap (λ b. not (list_any (pointwise bytes_eq other) known || (b || false))) (same_test other path)
    ∙ by (list_any (pointwise bytes_eq other) known) (is_same_path other path)
  where
    by : (a b : Bool) → not (a || (b || false)) ≡ (not a && not b)
    by true b = refl
    by false true = refl
    by false false = refl

fold_new : (known paths : List FilePath) → fold add_new known paths ≡ known ++ new_to known (distinct paths)
fold_new known [] = sym (append-nil known)
fold_new known (path ∷ paths) = by (list_any (pointwise bytes_eq path) known) refl (fold_new known paths) (fold_new (known ++ path ∷ []) paths)
  where
    by : (b : Bool) → list_any (pointwise bytes_eq path) known ≡ b → fold add_new known paths ≡ known ++ new_to known (distinct paths)
        → fold add_new (known ++ path ∷ []) paths ≡ (known ++ path ∷ []) ++ new_to (known ++ path ∷ []) (distinct paths)
        → fold add_new (cond b known (known ++ path ∷ [])) paths ≡ known ++ cond (not (list_any (pointwise bytes_eq path) known)) (path ∷ new_to known (but path (distinct paths))) (new_to known (but path (distinct paths)))
    by true e old new =
        old ∙ ap (λ more. known ++ more) (sym (filter_under (is_new known) (λ other. not (is_same_path other path)) (distinct paths) (λ other h. new_is_apart known path other (ap not e) h)))
        ∙ ap (λ b. known ++ cond (not b) (path ∷ new_to known (but path (distinct paths))) (new_to known (but path (distinct paths)))) (sym e)
    by false e old new =
        new ∙ append_assoc known (path ∷ []) (new_to (known ++ path ∷ []) (distinct paths))
        ∙ ap (λ more. known ++ path ∷ more) (filter_both (is_new known) (λ other. not (is_same_path other path)) (is_new (known ++ path ∷ [])) (distinct paths) (new_behind known path))
        ∙ ap (λ b. known ++ cond (not b) (path ∷ new_to known (but path (distinct paths))) (new_to known (but path (distinct paths)))) (sym e)

all_new : (paths : List FilePath) → new_to [] paths ≡ paths
all_new [] = refl
all_new (path ∷ paths) = ap (λ more. path ∷ more) (all_new paths)

pub fold_is_distinct : (paths : List FilePath) → fold add_new [] paths ≡ distinct paths
fold_is_distinct paths = fold_new [] paths ∙ all_new (distinct paths)

-- ---- the laws of distinct paths

in_filter : (f : FilePath → Bool) (xs : List FilePath) (x : FilePath) → IsIn x (filter f xs) → IsIn x xs × (f x ≡ true)
in_filter f [] x among = absurd among
in_filter f (y ∷ xs) x among = by (f y) refl among (in_filter f xs x)
  where
    by : (b : Bool) → f y ≡ b → IsIn x (cond b (y ∷ filter f xs) (filter f xs)) → (IsIn x (filter f xs) → IsIn x xs × (f x ≡ true)) → IsIn x (y ∷ xs) × (f x ≡ true)
    by true e (inl same) rest = (inl same, ap f same ∙ e)
    by true e (inr among) rest = let later = rest among in (inr later.0, later.1)
    by false e among rest = let later = rest among in (inr later.0, later.1)

filter_in : (f : FilePath → Bool) (xs : List FilePath) (x : FilePath) → IsIn x xs → f x ≡ true → IsIn x (filter f xs)
filter_in f [] x among passes = absurd among
filter_in f (y ∷ xs) x among passes = by (f y) refl among (λ later. filter_in f xs x later passes)
  where
    by : (b : Bool) → f y ≡ b → (x ≡ y) ⊎ IsIn x xs → (IsIn x xs → IsIn x (filter f xs)) → IsIn x (cond b (y ∷ filter f xs) (filter f xs))
    by true e (inl same) rest = inl same
    by true e (inr later) rest = inr (rest later)
    by false e (inl same) rest = absurd (true≢false (sym passes ∙ ap f same ∙ e))
    by false e (inr later) rest = rest later

none_twice_filter : (f : FilePath → Bool) (xs : List FilePath) → NoneTwice xs → NoneTwice (filter f xs)
none_twice_filter f [] none = tt
none_twice_filter f (x ∷ xs) none = by (f x) (none_twice_filter f xs none.1)
  where
    by : (b : Bool) → NoneTwice (filter f xs) → NoneTwice (cond b (x ∷ filter f xs) (filter f xs))
    by true rest = ((λ among. none.0 (in_filter f xs x among).0), rest)
    by false rest = rest

pub distinct_differ : (paths : List FilePath) → NoneTwice (distinct paths)
distinct_differ [] = tt
distinct_differ (path ∷ paths) = (
  (λ among. true≢false (sym (in_filter (λ other. not (is_same_path other path)) (distinct paths) path among).1 ∙ ap not (own_path path))),
  none_twice_filter (λ other. not (is_same_path other path)) (distinct paths) (distinct_differ paths),
)

pub in_distinct : (paths : List FilePath) (path : FilePath) → IsIn path (distinct paths) → IsIn path paths
in_distinct [] path among = absurd among
in_distinct (p ∷ paths) path (inl same) = inl same
in_distinct (p ∷ paths) path (inr among) = inr (in_distinct paths path (in_filter (λ other. not (is_same_path other p)) (distinct paths) path among).0)

pub distinct_in : (paths : List FilePath) (path : FilePath) → IsIn path paths → IsIn path (distinct paths)
distinct_in [] path among = absurd among
distinct_in (p ∷ paths) path (inl same) = inl same
distinct_in (p ∷ paths) path (inr among) = by (is_same_path path p) refl (distinct_in paths path among)
  where
    by : (b : Bool) → is_same_path path p ≡ b → IsIn path (distinct paths) → (path ≡ p) ⊎ IsIn path (but p (distinct paths))
    by true e among = inl (tied_path path p e)
    by false e among = inr (filter_in (λ other. not (is_same_path other p)) (distinct paths) path among (ap not e))

filter_append : (f : FilePath → Bool) (xs ys : List FilePath) → filter f (xs ++ ys) ≡ filter f xs ++ filter f ys
filter_append f [] ys = refl
filter_append f (x ∷ xs) ys = by (f x) (filter_append f xs ys)
  where
    by : (b : Bool) → filter f (xs ++ ys) ≡ filter f xs ++ filter f ys → cond b (x ∷ filter f (xs ++ ys)) (filter f (xs ++ ys)) ≡ cond b (x ∷ filter f xs) (filter f xs) ++ filter f ys
    by true rest = ap (λ more. x ∷ more) rest
    by false rest = rest

pub distinct_order : (front back : List FilePath) → (more : List FilePath) × (distinct (front ++ back) ≡ distinct front ++ more)
distinct_order [] back = (distinct back, refl)
distinct_order (path ∷ front) back =
    let rest = distinct_order front back in
    (but path rest.0, ap (λ all. path ∷ but path all) rest.1 ∙ ap (λ all. path ∷ all) (filter_append (λ other. not (is_same_path other path)) (distinct front) rest.0))
