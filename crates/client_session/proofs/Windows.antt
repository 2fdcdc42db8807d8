-- A log has one window.
use Rattle.std.proofs.Common.{◌≡◌, ◌⊎◌, inl, inr, ℕ, ◌+◌, ◌≤◌, List, [], ◌∷◌, ◌++◌, length, refl, sym, ◌∙◌, ap, subst, arith, append_assoc}
use Rattle.std.specs.List.{AllByRecursion}
use Rattle.std.proofs.lemmas.List.{length-append, map-append}
use Rattle.std.proofs.lemmas.List.Sums.{sum_by-append}
use Rattle.tree_values.specs.Effects.{contents_size}
use Rattle.mod_log.specs.declared.log.Entry.{Entry}
use Rattle.wire_frames.specs.declared.parts.Part.{Part}
use Rattle.wire_frames.specs.Parts.{part_of, effects_count, contents_count}
use Rattle.world_rules.specs.InStep.{parts_of}
use Rattle.client_core.specs.declared.route.Route.{Route}
use Rattle.client_core.specs.Syncing.{IsHeavy, FitsWindow, IsLongest, IsWindow}

-- ---- what fits fits as a front

all_front : (P : Entry → Type 0) (xs ys : List Entry) → AllByRecursion P (xs ++ ys) → AllByRecursion P xs
all_front P [] ys all = tt
all_front P (x ∷ xs) ys all = (all.0, all_front P xs ys all.1)

parts_append : (xs ys : List Entry) → parts_of (xs ++ ys) ≡ parts_of xs ++ parts_of ys
parts_append xs ys = map-append (λ (e : Entry). part_of e.effects e.base) xs ys

effects_front : (xs ys : List Entry) → effects_count (parts_of xs) ≤ effects_count (parts_of (xs ++ ys))
effects_front xs ys =
    let sum : effects_count (parts_of (xs ++ ys)) ≡ effects_count (parts_of xs) + effects_count (parts_of ys) =
    ap effects_count (parts_append xs ys) ∙ sum_by-append (λ (p : Part). length p.effects) (parts_of xs) (parts_of ys) in
    omega (arith, sum)

contents_front : (xs ys : List Entry) → contents_count (parts_of xs) ≤ contents_count (parts_of (xs ++ ys))
contents_front xs ys =
    let sum : contents_count (parts_of (xs ++ ys)) ≡ contents_count (parts_of xs) + contents_count (parts_of ys) =
    ap contents_count (parts_append xs ys) ∙ sum_by-append (λ (p : Part). contents_size p.effects) (parts_of xs) (parts_of ys) in
    omega (arith, sum)

module _ (client : ℕ) (route : Route) where
  front_fits : (x : Entry) (xs ys : List Entry) → FitsWindow client route ((x ∷ xs) ++ ys) → FitsWindow client route (x ∷ xs)
  front_fits x xs ys fits =
      let count = length-append (x ∷ xs) ys in
      record {
        storable = record {
          some = omega arith;
          few = omega (arith, count, fits.storable.few);
          few_effects = omega (arith, effects_front (x ∷ xs) ys, fits.storable.few_effects);
          all_contents = omega (arith, contents_front (x ∷ xs) ys, fits.storable.all_contents);
        };
        few = omega (arith, count, fits.few);
        heavy = all_front (IsHeavy client route) xs ys fits.heavy;
        beside = omega (arith, contents_front xs ys, fits.beside);
      }

  -- with one more entry, too
  one_more_fits : (xs : List Entry) (next : Entry) (rest : List Entry) → FitsWindow client route (xs ++ next ∷ rest) → FitsWindow client route (xs ++ next ∷ [])
  one_more_fits [] next rest fits = front_fits next [] rest fits
  one_more_fits (x ∷ xs) next rest fits =
      front_fits x (xs ++ next ∷ []) rest (subst (FitsWindow client route) (sym (append_assoc (x ∷ xs) (next ∷ []) rest)) fits)

-- ---- two fronts of a list

-- the one goes on with an entry behind the other
record GoesOn (xs left ys : List Entry) : Type 0 where
  next : Entry
  rest : List Entry
  more : List Entry
  longer : ys ≡ xs ++ next ∷ rest
  left_is : left ≡ next ∷ more

same_rest : (x y : Entry) (xs ys : List Entry) → x ∷ xs ≡ y ∷ ys → (x ≡ y) × (xs ≡ ys)
same_rest x y xs ys is = (ap (head_or x) is, ap tail_of is)
  where
    head_or : Entry → List Entry → Entry
    head_or other [] = other
    head_or other (e ∷ es) = e

    tail_of : List Entry → List Entry
    tail_of [] = []
    tail_of (e ∷ es) = es

fronts : (xs l ys m : List Entry) → xs ++ l ≡ ys ++ m → (xs ≡ ys) ⊎ GoesOn xs l ys ⊎ GoesOn ys m xs
fronts [] l [] m is = inl refl
fronts [] l (y ∷ ys) m is = inr (inl (record { next = y; rest = ys; more = ys ++ m; longer = refl; left_is = is }))
fronts (x ∷ xs) l [] m is = inr (inr (record { next = x; rest = xs; more = xs ++ l; longer = refl; left_is = sym is }))
fronts (x ∷ xs) l (y ∷ ys) m is =
    let same = same_rest x y (xs ++ l) (ys ++ m) is in by same.0 (fronts xs l ys m same.1)
  where
    by : x ≡ y → (xs ≡ ys) ⊎ GoesOn xs l ys ⊎ GoesOn ys m xs → (x ∷ xs ≡ y ∷ ys) ⊎ GoesOn (x ∷ xs) l (y ∷ ys) ⊎ GoesOn (y ∷ ys) m (x ∷ xs)
    by first (inl same) = inl (ap (λ (e : Entry). e ∷ xs) first ∙ ap (λ (es : List Entry). y ∷ es) same)
    by first (inr (inl on)) =
        inr (inl (record { next = on.next; rest = on.rest; more = on.more; longer = ap (λ (es : List Entry). y ∷ es) on.longer ∙ ap (λ (e : Entry). e ∷ xs ++ on.next ∷ on.rest) (sym first); left_is = on.left_is }))
    by first (inr (inr on)) =
        inr (inr (record { next = on.next; rest = on.rest; more = on.more; longer = ap (λ (es : List Entry). x ∷ es) on.longer ∙ ap (λ (e : Entry). e ∷ ys ++ on.next ∷ on.rest) first; left_is = on.left_is }))

-- ---- a window

module _ (client : ℕ) (route : Route) where
  no_longer : (xs left ys : List Entry) → IsLongest client route xs left → FitsWindow client route ys → GoesOn xs left ys → ⊥
  no_longer xs left ys longest fits on =
      (subst (IsLongest client route xs) on.left_is longest) (one_more_fits client route xs on.next on.rest (subst (FitsWindow client route) on.longer fits))

  pub one_window : (pending xs ys : List Entry) → IsWindow client route pending xs → IsWindow client route pending ys → xs ≡ ys
  one_window pending xs ys p q = by (fronts xs p.left ys q.left (sym p.front ∙ q.front))
    where
      by : (xs ≡ ys) ⊎ GoesOn xs p.left ys ⊎ GoesOn ys q.left xs → xs ≡ ys
      by (inl same) = same
      by (inr (inl on)) = absurd (no_longer xs p.left ys p.longest q.fits on)
      by (inr (inr on)) = absurd (no_longer ys q.left xs q.longest p.fits on)
