-- The order of paths.
use Rattle.std.proofs.Common.{◌≡◌, Bool, true, false, refl, sym, ap, ◌∙◌, subst, true≢false}
use Rattle.std.specs.Cmp.{IsTotalOrder}
use Rattle.std.specs.Cmp.Lexicographic.{lists_total, nat_list_cmp_total}
use Rattle.std.specs.FinMap.{slice_cmp-IsAntisymmetric, nat_cmp-IsAntisymmetric}
use Rattle.std.specs.declared.cmp.Ordering.{Ordering}
use Rattle.std.specs.declared.cmp.Ordering.TheVariants.{Less, Equal, Greater}
use Rattle.std.specs.Ordering.{ordering_reverse, is_lt, is_eq}
use Rattle.std.proofs.lemmas.Cmp.{tied_itself}
use Rattle.file_paths.specs.Path.{FilePath, path_cmp, is_same_path}

pub paths_total : IsTotalOrder path_cmp
paths_total = lists_total nat_list_cmp_total

pub same_path : (a b : FilePath) → path_cmp a b ≡ Equal → a ≡ b
same_path = slice_cmp-IsAntisymmetric (slice_cmp-IsAntisymmetric nat_cmp-IsAntisymmetric)

pub same_place : (a : FilePath) → path_cmp a a ≡ Equal
same_place = tied_itself paths_total

pub tied_path : (a b : FilePath) → is_same_path a b ≡ true → a ≡ b
tied_path a b e = by (path_cmp a b) refl e
  where
    by : (o : Ordering) → path_cmp a b ≡ o → is_eq o ≡ true → a ≡ b
    by Equal h e = same_path a b h
    by Less h e = absurd cc
    by Greater h e = absurd cc

pub path_tied : (a b : FilePath) → a ≡ b → is_same_path a b ≡ true
path_tied a b e = subst (λ (p : FilePath). is_same_path a p ≡ true) e (ap is_eq (same_place a))

pub own_path : (a : FilePath) → is_same_path a a ≡ true
own_path a = ap is_eq (same_place a)

-- paths that compare other than as equal are two
pub paths_differ : (a b : FilePath) (o : Ordering) → path_cmp a b ≡ o → (o ≡ Equal → ⊥) → a ≡ b → ⊥
paths_differ a b o e unlike same = unlike (sym e ∙ ap (λ p. path_cmp p b) same ∙ same_place b)

-- other paths do not tie
pub paths_apart : (known other : FilePath) → (other ≡ known → ⊥) → is_same_path known other ≡ false
paths_apart known other differ = by (is_same_path known other) refl
  where
    by : (b : Bool) → is_same_path known other ≡ b → b ≡ false
    by false e = refl
    by true e = absurd (differ (sym (tied_path known other e)))

-- what follows a path that is not below another one is above it
pub after_path : (a b path : FilePath) → is_lt (path_cmp a path) ≡ false → path_cmp a b ≡ Less → path_cmp b path ≡ Greater
after_path a b path not_below next =
    paths_total.antisymm b path ∙ ap ordering_reverse (by (path_cmp a path) refl)
  where
    by : (o : Ordering) → path_cmp a path ≡ o → path_cmp path b ≡ Less
    by Less e = absurd (true≢false (sym (ap is_lt e) ∙ not_below))
    by Equal e = sym (paths_total.congr a path b e) ∙ next
    by Greater e = paths_total.trans path a b (paths_total.antisymm path a ∙ ap ordering_reverse e) next

-- a path below another is below what is not below that
pub below_trans : (a p b : FilePath) → path_cmp a p ≡ Less → is_lt (path_cmp b p) ≡ false → path_cmp a b ≡ Less
below_trans a p b low not_low =
    elim (path_cmp b p) as (λ o. path_cmp b p ≡ o → is_lt o ≡ false → path_cmp a b ≡ Less) [
      | Less ↦ λ e no. absurd (true≢false no)
      | Equal ↦ λ e no. ap (path_cmp a) (same_path b p e) ∙ low
      | Greater ↦ λ e no. paths_total.trans a p b low (paths_total.antisymm p b ∙ ap ordering_reverse e)
    ] refl not_low

pub is_less : (o : Ordering) → is_lt o ≡ true → o ≡ Less
is_less Less e = refl
is_less Equal e = absurd (true≢false (sym e))
is_less Greater e = absurd (true≢false (sym e))
