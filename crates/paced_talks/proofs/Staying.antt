-- Connections whose frame is whole stay where they are.
use Rattle.std.proofs.Common.{◌≡◌, ◌⊎◌, inl, inr, ℕ, zero, suc, ◌+◌, ◌<◌, Bool, true, false, cond, List, [], ◌∷◌, length, get_or, refl, sym, ◌∙◌, ap, subst, arith}
use Rattle.std.specs.Prelude.{filter, remove, slice_set}
use Rattle.std.specs.List.{AllByRecursion}
use Rattle.paced_talks.specs.declared.asking.Asking.{Asking}
use Rattle.paced_talks.specs.Coming.{LetsIdlestGo, StandIn, KeepsWhole}

-- ---- lists that stand in others

-- one more at the front of the list
stand_behind : {X : Type 0} (xs list : List X) (y : X) → StandIn xs list → StandIn xs (y ∷ list)
stand_behind [] list y stand = tt
stand_behind (x ∷ xs) list y stand = inr stand

stand_then : {X : Type 0} (xs ys zs : List X) → StandIn xs ys → StandIn ys zs → StandIn xs zs
stand_then [] ys zs first second = tt
stand_then (x ∷ xs) [] zs first second = absurd first
stand_then (x ∷ xs) (y ∷ ys) [] first second = absurd second
stand_then (x ∷ xs) (y ∷ ys) (z ∷ zs) (inl first) (inl second) = inl (second.0 ∙ first.0, stand_then xs ys zs first.1 second.1)
stand_then (x ∷ xs) (y ∷ ys) (z ∷ zs) (inr first) (inl second) = inr (stand_then (x ∷ xs) ys zs first second.1)
stand_then (x ∷ xs) (y ∷ ys) (z ∷ zs) first (inr second) = inr (stand_then (x ∷ xs) (y ∷ ys) zs first second)

module _ {X : Type 0} (f : X → Bool) where
  all_filtered : (xs : List X) → AllByRecursion (λ x. f x ≡ true) (filter f xs)
  all_filtered [] = tt
  all_filtered (x ∷ xs) =
      let one : (b : Bool) → f x ≡ b → AllByRecursion (λ x. f x ≡ true) (cond b (x ∷ filter f xs) (filter f xs)) =
      λ b. elim b as (λ b. f x ≡ b → AllByRecursion (λ x. f x ≡ true) (cond b (x ∷ filter f xs) (filter f xs)))
      [ true ↦ λ is. (is, all_filtered xs) | false ↦ λ is. all_filtered xs ] in
      one (f x) refl

  -- those of a kind stand among those of that kind
  stand_filtered : (xs ys : List X) → AllByRecursion (λ x. f x ≡ true) xs → StandIn xs ys → StandIn xs (filter f ys)
  stand_filtered [] ys all stand = tt
  stand_filtered (x ∷ xs) [] all stand = absurd stand
  stand_filtered (x ∷ xs) (y ∷ ys) all (inl stand) =
      subst (λ b. StandIn (x ∷ xs) (cond b (y ∷ filter f ys) (filter f ys))) (sym (ap f stand.0 ∙ all.0))
      (inl (stand.0, stand_filtered xs ys all.1 stand.1))
  stand_filtered (x ∷ xs) (y ∷ ys) all (inr stand) =
      elim (f y) as (λ b. StandIn (x ∷ xs) (cond b (y ∷ filter f ys) (filter f ys)))
      [ true ↦ inr (stand_filtered (x ∷ xs) ys all stand) | false ↦ stand_filtered (x ∷ xs) ys all stand ]

  stand_more : (x : X) (xs ys : List X) → StandIn xs ys → StandIn (cond (f x) (x ∷ xs) xs) (x ∷ ys)
  stand_more x xs ys stand =
      elim (f x) as (λ b. StandIn (cond b (x ∷ xs) xs) (x ∷ ys)) [ true ↦ inl (refl, stand) | false ↦ stand_behind xs ys x stand ]

-- ---- connections

module _ {S : Type 0} {R : _} where
  abbrev whole_of : List (Asking S R) → List (Asking S R)
  whole_of talks = filter (λ (talk : Asking S R). talk.is_whole) talks

  -- nothing changed
  pub keeps_all : (talks : List (Asking S R)) → KeepsWhole talks talks
  keeps_all [] = tt
  keeps_all (talk ∷ talks) = stand_more (λ (talk : Asking S R). talk.is_whole) talk (whole_of talks) talks (keeps_all talks)

  -- one change behind another
  pub keeps_then : (a b c : List (Asking S R)) → KeepsWhole a b → KeepsWhole b c → KeepsWhole a c
  keeps_then a b c first second =
      stand_then (whole_of a) (whole_of b) c (stand_filtered (λ (talk : Asking S R). talk.is_whole) (whole_of a) b (all_filtered (λ (talk : Asking S R). talk.is_whole) a) first) second

  -- one went whose frame is not whole
  pub keeps_removed : (talks : List (Asking S R)) (place : ℕ) → place < length talks
      → ((none : Asking S R) → (get_or talks place none).is_whole ≡ false) → KeepsWhole talks (remove talks place)
  keeps_removed [] place within broken = absurd (omega (arith, within))
  keeps_removed (talk ∷ talks) zero within broken =
      subst (λ b. StandIn (cond b (talk ∷ whole_of talks) (whole_of talks)) talks) (sym (broken talk)) (keeps_all talks)
  keeps_removed (talk ∷ talks) (suc place) within broken =
      stand_more (λ (talk : Asking S R). talk.is_whole) talk (whole_of talks) (remove talks place)
      (keeps_removed talks place (omega (arith, within)) (λ none. broken none))

  -- one has another in its place, unless its frame was whole
  pub keeps_changed : (talks : List (Asking S R)) (place : ℕ) (old new : Asking S R) → place < length talks → old ≡ get_or talks place old
      → (old.is_whole ≡ true → new ≡ old) → KeepsWhole talks (slice_set talks place new)
  keeps_changed [] place old new within is same = absurd (omega (arith, within))
  keeps_changed (talk ∷ talks) zero old new within is same =
      let one : (b : Bool) → talk.is_whole ≡ b → StandIn (cond b (talk ∷ whole_of talks) (whole_of talks)) (new ∷ talks) =
      λ b. elim b as (λ b. talk.is_whole ≡ b → StandIn (cond b (talk ∷ whole_of talks) (whole_of talks)) (new ∷ talks)) [
        | true ↦ λ whole. inl (same (ap (λ (x : Asking S R). x.is_whole) is ∙ whole) ∙ is, keeps_all talks)
        | false ↦ λ broken. stand_behind (whole_of talks) talks new (keeps_all talks)
      ] in
      one talk.is_whole refl
  keeps_changed (talk ∷ talks) (suc place) old new within is same =
      stand_more (λ (talk : Asking S R). talk.is_whole) talk (whole_of talks) (slice_set talks place new)
      (keeps_changed talks place old new (omega (arith, within)) is same)

  -- the idlest went, or none
  pub keeps_others : (old new : List (Asking S R)) → (new ≡ old) ⊎ LetsIdlestGo old new → KeepsWhole old new
  keeps_others old new (inl same) = subst (KeepsWhole old) (sym same) (keeps_all old)
  keeps_others old new (inr went) = subst (KeepsWhole old) (sym went.2) (keeps_removed old went.0 (went.1.0.0) went.1.1)
