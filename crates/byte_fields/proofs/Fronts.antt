-- What was appended before a call failed: a front of the spelling.
use Rattle.std.proofs.Common.{◌≡◌, ℕ, zero, suc, ◌<◌, arith, List, [], ◌∷◌, ◌++◌, length, take, drop, get_or, refl, sym, ap, subst, ◌∙◌, append_assoc, Result, Ok, Err, OnErr}
use Rattle.std.specs.List.{flat_map}
use Rattle.std.proofs.lemmas.List.{append-nil, take-append-drop}
use Rattle.std.proofs.Math.Seq.{drop-cons}
use Rattle.std.proofs.lemmas.Grind.{flat_map-append}
use Rattle.std.proofs.lemmas.List.Concat.{flat_map-cons}
use Rattle.byte_fields.specs.Field.{IsFront}

-- nothing was appended
pub front_none : (old new spelling : List ℕ) → new ≡ old → IsFront old new spelling
front_none old new spelling same =
    record { front = []; rest = spelling; parts = refl; appended = same ∙ sym (append-nil old) }

-- all was appended
pub front_all : (old new spelling : List ℕ) → new ≡ old ++ spelling → IsFront old new spelling
front_all old new spelling all = record { front = spelling; rest = []; parts = sym (append-nil spelling); appended = all }

-- a front of the first part
pub front_first : (old new a b : List ℕ) → IsFront old new a → IsFront old new (a ++ b)
front_first old new a b f =
    record { front = f.front; rest = f.rest ++ b; parts = ap (λ (t : List ℕ). t ++ b) f.parts ∙ append_assoc f.front f.rest b; appended = f.appended }

-- the whole first part, and a front of the second
pub front_second : (old middle new a b : List ℕ) → middle ≡ old ++ a → IsFront middle new b → IsFront old new (a ++ b)
front_second old middle new a b whole f =
    record {
      front = a ++ f.front;
      rest = f.rest;
      parts = ap (λ (t : List ℕ). a ++ t) f.parts ∙ sym (append_assoc a f.front f.rest);
      appended = f.appended ∙ ap (λ (t : List ℕ). t ++ f.front) whole ∙ append_assoc old a f.front;
    }

-- the whole first part, and nothing of the second
pub front_before : (old new a b : List ℕ) → new ≡ old ++ a → IsFront old new (a ++ b)
front_before old new a b whole = front_first old new a b (front_all old new a whole)

-- the same spelling in other words
pub front_same : (old new a b : List ℕ) → a ≡ b → IsFront old new a → IsFront old new b
front_same old new a b e f = subst (IsFront old new) e f

-- within a list the default does not matter
read_within : {A : Type 0} (xs : List A) (i : ℕ) (d e : A) → i < length xs → get_or xs i d ≡ get_or xs i e
read_within [] i d e lt = absurd (omega arith)
read_within (x ∷ xs) zero d e lt = refl
read_within (x ∷ xs) (suc i) d e lt = let less : i < length xs = omega arith in read_within xs i d e less

module _ {A : Type 0} (spelling : A → List ℕ) where
  -- a front of the first item
  pub front_of_item : (old new : List ℕ) (x : A) (xs : List A) → IsFront old new (spelling x) → IsFront old new (flat_map spelling (x ∷ xs))
  front_of_item old new x xs f = front_same old new _ _ (sym (flat_map-cons spelling x xs)) (front_first old new (spelling x) (flat_map spelling xs) f)

  -- the items before one, and a front of it
  pub front_among : (old middle new : List ℕ) (before : List A) (x : A) (more : List A) → middle ≡ old ++ flat_map spelling before → IsFront middle new (spelling x) → IsFront old new (flat_map spelling (before ++ x ∷ more))
  front_among old middle new before x more whole f =
      front_same old new _ _ (sym (flat_map-append spelling before (x ∷ more))) (front_second old middle new (flat_map spelling before) (flat_map spelling (x ∷ more)) whole (front_of_item middle new x more f))

  -- the items before the one at an index, and a front of that one
  pub front_at : (old middle new : List ℕ) (xs : List A) (i : ℕ) (x : A) → i < length xs → x ≡ get_or xs i x → middle ≡ old ++ flat_map spelling (take i xs) → IsFront middle new (spelling x) → IsFront old new (flat_map spelling xs)
  front_at old middle new xs i x lt here whole f =
      let parts : take i xs ++ x ∷ drop (suc i) xs ≡ xs = ap (λ (y : A). take i xs ++ y ∷ drop (suc i) xs) here ∙ ap (λ (ys : List A). take i xs ++ ys) (sym (drop-cons xs i x lt)) ∙ take-append-drop i xs in
      front_same old new _ _ (ap (flat_map spelling) parts) (front_among old middle new (take i xs) x (drop (suc i) xs) whole f)

  -- the same, where the item is read with some default
  pub front_index : (old middle new : List ℕ) (xs : List A) (i : ℕ) (d : A) → i < length xs → middle ≡ old ++ flat_map spelling (take i xs) → IsFront middle new (spelling (get_or xs i d)) → IsFront old new (flat_map spelling xs)
  front_index old middle new xs i d lt whole f = front_at old middle new xs i (get_or xs i d) lt (read_within xs i d (get_or xs i d) lt) whole f

-- what is said of an error holds of any result
pub on_error : {A E P : Type 0} (r : Result A E) → P → OnErr r P
on_error (Ok x) p = tt
on_error (Err e) p = p

-- a call that left all as it was
pub front_unchanged : {A E : Type 0} (r : Result A E) (old new spelling : List ℕ) → OnErr r (new ≡ old) → OnErr r (IsFront old new spelling)
front_unchanged (Ok x) old new spelling same = tt
front_unchanged (Err e) old new spelling same = front_none old new spelling same

-- two whole parts, and a front of the third
pub front_third : (old one two new a b c : List ℕ) → one ≡ old ++ a → two ≡ one ++ b → IsFront two new c → IsFront old new (a ++ (b ++ c))
front_third old one two new a b c first second f = front_second old one new a (b ++ c) first (front_second one two new b c second f)
