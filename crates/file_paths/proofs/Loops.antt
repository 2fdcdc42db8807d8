-- One more turn of a loop that goes over a list.
use Rattle.std.proofs.Common.{◌≡◌, ℕ, zero, suc, ◌+◌, ◌<◌, Bool, true, false, List, [], ◌∷◌, ◌++◌, length, take, get_or, Option, Some, None, option_map, refl, sym, ap, ◌∙◌, cond, arith}
use Rattle.std.proofs.lemmas.List.{take_more}
use Rattle.std.proofs.lemmas.Bool.Decides.{nat_tests}
use Rattle.std.specs.Prelude.{nat_lt}
use Rattle.std.specs.List.{filter_map, fold, cons_option, position, position_or_len}
use Rattle.std.specs.Option.{option_to_list}
use Rattle.std.proofs.lemmas.List.Elements.{filter_map-append}
use Rattle.std.proofs.lemmas.List.Sums.{fold-append}

found_in : {X Y : Type 0} (h : X → Option Y) (x : X) → filter_map h (x ∷ []) ≡ option_to_list (h x)
found_in {Y = Y} h x = by (h x)
  where
    by : (o : Option Y) → cons_option o [] ≡ option_to_list o
    by None = refl
    by (Some y) = refl

-- what is found in the items up to the next one
pub filter_map_more : {X Y : Type 0} (h : X → Option Y) (xs : List X) (i : ℕ) (x : X) → i < length xs → x ≡ get_or xs i x → filter_map h (take (i + 1) xs) ≡ filter_map h (take i xs) ++ option_to_list (h x)
filter_map_more h xs i x within read =
    ap (filter_map h) (take_more xs i x within ∙ ap (λ r. take i xs ++ r ∷ []) (sym read))
    ∙ filter_map-append h (take i xs) (x ∷ [])
    ∙ ap (λ r. filter_map h (take i xs) ++ r) (found_in h x)

-- the same, folded
pub fold_more : {X Y A : Type 0} (f : A → Y → A) (a : A) (h : X → Option Y) (xs : List X) (i : ℕ) (x : X) → i < length xs → x ≡ get_or xs i x → fold f a (filter_map h (take (i + 1) xs)) ≡ fold f (fold f a (filter_map h (take i xs))) (option_to_list (h x))
fold_more f a h xs i x within read =
    ap (fold f a) (filter_map_more h xs i x within read) ∙ fold-append f a (filter_map h (take i xs)) (option_to_list (h x))

no_successor : (o : Option ℕ) → option_map suc o ≡ None → o ≡ None
no_successor None h = refl
no_successor (Some n) h = absurd (cc)

less : (b : Bool) (n m : ℕ) → nat_lt n m ≡ b → cond (nat_lt (1 + n) (suc m)) (Some (1 + n)) None ≡ option_map suc (cond b (Some n) None)
less true n m e = let h : nat_lt (1 + n) (suc m) ≡ true = grind (arith, nat_tests) in let same : 1 + n ≡ suc n = omega arith in rw h (ap (λ k. Some k) same)
less false n m e = let h : nat_lt (1 + n) (suc m) ≡ false = grind (arith, nat_tests) in rw h refl

first_of : (m : ℕ) → cond {A = Option ℕ} (nat_lt 0 (suc m)) (Some 0) None ≡ Some 0
first_of m = let h : nat_lt 0 (suc m) ≡ true = grind (arith, nat_tests) in rw h refl

pub position_step : {X : Type 0} (p : X → Bool) (x : X) (xs : List X) → position p (x ∷ xs) ≡ cond (p x) (Some 0) (option_map suc (position p xs))
position_step p x xs = by (p x) refl
  where
    by : (b : Bool) → p x ≡ b → position p (x ∷ xs) ≡ cond b (Some 0) (option_map suc (position p xs))
    by true e = rw e (first_of (length xs))
    by false e = rw e (less (nat_lt (position_or_len p xs) (length xs)) (position_or_len p xs) (length xs) refl)

-- the first that passes is the item behind those that do not
pub position_here : {X : Type 0} (p : X → Bool) (xs : List X) (i : ℕ) (d : X) → i < length xs → position p (take i xs) ≡ None → p (get_or xs i d) ≡ true → position p xs ≡ Some i
position_here p [] i d within none here = absurd (omega (arith, within))
position_here p (x ∷ xs) zero d within none here =
    position_step p x xs ∙ ap (λ b. cond b (Some 0) (option_map suc (position p xs))) here
position_here p (x ∷ xs) (suc i) d within none here =
    position_step p x xs ∙ by (p x) (sym (position_step p x (take i xs)) ∙ none) (λ rest. position_here p xs i d (omega (arith, within)) rest here)
  where
    by : (b : Bool) → cond b (Some 0) (option_map suc (position p (take i xs))) ≡ None → (position p (take i xs) ≡ None → position p xs ≡ Some i) → cond b (Some 0) (option_map suc (position p xs)) ≡ Some (suc i)
    by true none more = absurd (cc)
    by false none more = ap (option_map suc) (more (no_successor _ none))

-- none passes up to an item that does not
pub position_later : {X : Type 0} (p : X → Bool) (xs : List X) (i : ℕ) (d : X) → i < length xs → position p (take i xs) ≡ None → p (get_or xs i d) ≡ false → position p (take (i + 1) xs) ≡ None
position_later p [] i d within none here = absurd (omega (arith, within))
position_later p (x ∷ xs) zero d within none here =
    position_step p x [] ∙ ap (λ b. cond b (Some 0) (option_map suc (position p []))) here
position_later p (x ∷ xs) (suc i) d within none here =
    let same : suc i + 1 ≡ suc (i + 1) = omega arith in
    ap (λ n. position p (take n (x ∷ xs))) same ∙ position_step p x (take (i + 1) xs) ∙ by (p x) (sym (position_step p x (take i xs)) ∙ none) (λ rest. position_later p xs i d (omega (arith, within)) rest here)
  where
    by : (b : Bool) → cond b (Some 0) (option_map suc (position p (take i xs))) ≡ None → (position p (take i xs) ≡ None → position p (take (i + 1) xs) ≡ None) → cond b (Some 0) (option_map suc (position p (take (i + 1) xs))) ≡ None
    by true none more = absurd (cc)
    by false none more = ap (option_map suc) (more (no_successor _ none))
