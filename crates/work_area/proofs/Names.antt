-- Going over names from the front: what was seen of them, and whether all were.
use Rattle.std.proofs.Common.{◌≡◌, ℕ, zero, suc, ◌+◌, ◌≤◌, Bool, true, false, ◌||◌, List, [], ◌∷◌, length, take, filter}
use Rattle.std.proofs.Common.{Some, None, slice_get, refl, ap, ◌∙◌, arith}
use Rattle.std.specs.List.{list_any}
use Rattle.std.proofs.lemmas.List.{length-map}
use Rattle.byte_fields.proofs.Facts.{or_false_of, filter_length}
use Rattle.file_paths.specs.Path.{FilePath, last_name}
use Rattle.tree_values.specs.Tree.{Volume, is_child, children}

module _ {X : Type 0} (f : X → Bool) where
  pub all_seen : (xs : List X) (i : ℕ) → length xs ≤ i → list_any f (take i xs) ≡ false → list_any f xs ≡ false
  all_seen [] i le none = refl
  all_seen (x ∷ xs) zero le none = absurd (omega (arith, le))
  all_seen (x ∷ xs) (suc i) le none =
      let p = or_false_of (f x) (list_any f (take i xs)) none in
      rw (p.0, all_seen xs i (omega (arith, le)) p.1) refl

  pub none_left : (xs : List X) (i : ℕ) → slice_get xs i ≡ None → list_any f (take i xs) ≡ false → list_any f xs ≡ false
  none_left [] i end none = refl
  none_left (x ∷ xs) zero end none = absurd cc
  none_left (x ∷ xs) (suc i) end none =
      let p = or_false_of (f x) (list_any f (take i xs)) none in
      rw (p.0, none_left xs i end p.1) refl

  pub found_here : (xs : List X) (i : ℕ) (x : X) → slice_get xs i ≡ Some x → f x ≡ true → list_any f xs ≡ true
  found_here [] i x here so = absurd cc
  found_here (y ∷ xs) zero x here so = let same : y ≡ x = cc in rw (same, so) refl
  found_here (y ∷ xs) (suc i) x here so = by (f y) (found_here xs i x here so)
    where
      by : (b : Bool) → list_any f xs ≡ true → (b || list_any f xs) ≡ true
      by true more = refl
      by false more = more

  pub none_here : (xs : List X) (i : ℕ) (x : X) → slice_get xs i ≡ Some x → f x ≡ false
      → list_any f (take i xs) ≡ false → list_any f (take (i + 1) xs) ≡ false
  none_here [] i x here not none = absurd cc
  none_here (y ∷ xs) zero x here not none = let same : y ≡ x = cc in rw (same, not) refl
  none_here (y ∷ xs) (suc i) x here not none =
      let p = or_false_of (f y) (list_any f (take i xs)) none in
      let same : suc i + 1 ≡ suc (i + 1) = omega arith in
      ap (λ n. list_any f (take n (y ∷ xs))) same ∙ rw (p.0, none_here xs i x here not p.1) refl

-- a folder has at most as many children as the tree has rows
pub children_few : (rows : Volume) (path : FilePath) → length (children rows path) ≤ length rows
children_few rows path =
    omega (arith, filter_length (is_child path) rows, length-map (filter (is_child path) rows) (λ row. last_name row.path))
