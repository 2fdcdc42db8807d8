-- The first path at which rows are older than a base.
use Rattle.std.proofs.Common.{◌≡◌, ℕ, ◌<◌, ◌≤◌, Bool, true, false, [], ◌∷◌, Some, None, refl, ◌∙◌, ap, subst, arith, cond}
use Rattle.std.specs.Prelude.{nat_lt}
use Rattle.std.proofs.lemmas.Bool.Decides.{nat_tests}
use Rattle.std.specs.declared.cmp.Ordering.{Ordering}
use Rattle.std.specs.declared.cmp.Ordering.TheVariants.{Less, Equal, Greater}
use Rattle.std.specs.Ordering.{ordering_reverse, is_lt, is_eq}
use Rattle.file_paths.specs.Path.{FilePath, path_cmp}
use Rattle.tree_values.specs.Tree.{Volume, version_at, row_at, AreInOrder}
use Rattle.tree_values.specs.declared.node.Row.{Row}
use Rattle.file_paths.proofs.Order.{paths_total, same_path, same_place}
use Rattle.tree_values.proofs.Places.{are_above, after_row}
use Rattle.vol_tree.proofs.Behind.{version_of}
use Rattle.tree_values.proofs.Undoing.{find_among}
use Rattle.client_core.specs.Pulling.{IsNowhereOlder, IsFirstOlder}
use Rattle.client_core.specs.Inside.{is_lower, first_lower}

below : (a b : ℕ) → nat_lt a b ≡ true → a < b
below a b e = grind (arith, nat_tests)

not_below : (a b : ℕ) → nat_lt a b ≡ false → b ≤ a
not_below a b e = grind (arith, nat_tests)

lower : (seen : Volume) (row : Row) → is_lower seen row ≡ true → version_at seen row.path < row.version
lower seen row e = below (version_at seen row.path) row.version e

not_lower : (seen : Volume) (row : Row) → is_lower seen row ≡ false → row.version ≤ version_at seen row.path
not_lower seen row e = not_below (version_at seen row.path) row.version e

module _ (seen : Volume) (row : Row) (rows : Volume) where
  -- the rows' version at a path, where the first row is not lower and the others are not at this path
  not_lower_with : is_lower seen row ≡ false → (path : FilePath) → version_at rows path ≤ version_at seen path → version_at (row ∷ rows) path ≤ version_at seen path
  not_lower_with is path rest = by (path_cmp row.path path) refl
    where
      by : (o : Ordering) → path_cmp row.path path ≡ o → version_of (cond (is_eq o) (Some row) (row_at rows path)) ≤ version_at seen path
      by Less e = rest
      by Greater e = rest
      by Equal e = subst (λ (p : FilePath). row.version ≤ version_at seen p) (same_path row.path path e) (not_lower seen row is)

  version_first : version_at (row ∷ rows) row.path ≡ row.version
  version_first = by (path_cmp row.path row.path) (same_place row.path)
    where
      by : (o : Ordering) → o ≡ Equal → version_of (cond (is_eq o) (Some row) (row_at rows row.path)) ≡ row.version
      by Equal e = refl
      by Less e = absurd (cc)
      by Greater e = absurd (cc)

  version_past : (path : FilePath) → path_cmp row.path path ≡ Less → version_at (row ∷ rows) path ≡ version_at rows path
  version_past path = by (path_cmp row.path path)
    where
      by : (o : Ordering) → o ≡ Less → version_of (cond (is_eq o) (Some row) (row_at rows path)) ≡ version_at rows path
      by Less e = refl
      by Equal e = absurd (cc)
      by Greater e = refl

  -- no row is at a path below the first
  version_before : AreInOrder (row ∷ rows) → (path : FilePath) → path_cmp path row.path ≡ Less → version_at (row ∷ rows) path ≡ 0
  version_before order path less =
      let above : path_cmp row.path path ≡ Greater = paths_total.antisymm row.path path ∙ ap ordering_reverse less in
      ap version_of (are_above path (row ∷ rows) (above, after_row path row rows (ap is_lt above) order.0)).none_there

-- where no row is lower, no path is
pub nowhere_older : (base seen : Volume) → first_lower base seen ≡ None → IsNowhereOlder base seen
nowhere_older [] seen e = λ path. let none : version_at [] path ≡ 0 = refl in omega (arith, none)
nowhere_older (row ∷ rows) seen e = by (is_lower seen row) refl e (nowhere_older rows seen)
  where
    by : (b : Bool) → is_lower seen row ≡ b → cond b (Some row) (first_lower rows seen) ≡ None → (first_lower rows seen ≡ None → IsNowhereOlder rows seen) → IsNowhereOlder (row ∷ rows) seen
    by true is e rest = absurd (cc)
    by false is e rest = λ path. not_lower_with seen row rows is path (rest e path)

-- the first row that is lower is at the first path, and has the base's version
abbrev pub IsFirstRow : Volume → Volume → Row → Type 0
IsFirstRow base seen row = IsFirstOlder base seen row.path × (version_at base row.path ≡ row.version)

first_here : (seen : Volume) (row : Row) (rows : Volume) → AreInOrder (row ∷ rows) → is_lower seen row ≡ true → IsFirstRow (row ∷ rows) seen row
first_here seen row rows order is = (
  record {
    lower = omega (arith, lower seen row is, version_first seen row rows);
    first = λ other less. omega (arith, version_before seen row rows order other less);
  },
  version_first seen row rows,
)

first_behind : (seen : Volume) (row : Row) (rows : Volume) (found : Row) → is_lower seen row ≡ false → path_cmp row.path found.path ≡ Less → IsFirstRow rows seen found → IsFirstRow (row ∷ rows) seen found
first_behind seen row rows found is less rest = (
  record {
    lower = omega (arith, rest.0.lower, version_past seen row rows found.path less);
    first = λ other below. not_lower_with seen row rows is other (rest.0.first other below);
  },
  version_past seen row rows found.path less ∙ rest.1,
)

pub first_older : (base seen : Volume) (found : Row) → AreInOrder base → first_lower base seen ≡ Some found → IsFirstRow base seen found
first_older [] seen found order e = absurd (cc)
first_older (row ∷ rows) seen found order e = by (is_lower seen row) refl e (first_older rows seen found order.1)
  where
    by : (b : Bool) → is_lower seen row ≡ b → cond b (Some row) (first_lower rows seen) ≡ Some found → (first_lower rows seen ≡ Some found → IsFirstRow rows seen found) → IsFirstRow (row ∷ rows) seen found
    by true is e rest =
        let same : row ≡ found = cc in
        subst (IsFirstRow (row ∷ rows) seen) same (first_here seen row rows order is)
    by false is e rest =
        first_behind seen row rows found is (find_among (λ next. path_cmp row.path next.path ≡ Less) (is_lower seen) rows found order.0 e) (rest e)
