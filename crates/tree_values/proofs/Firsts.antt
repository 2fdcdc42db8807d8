-- The first places of paths, taken one path after the other.
use Rattle.std.proofs.Common.{◌≡◌, Bool, true, false, cond, not, ◌||◌, List, [], ◌∷◌, ◌++◌, map, refl, sym, ap, ◌∙◌, Bor}
use Rattle.std.specs.List.{fold, list_any}
use Rattle.std.specs.Str.{bytes_eq}
use Rattle.std.specs.Cmp.{eq_by_cmp_equiv}
use Rattle.std.specs.Cmp.Lexicographic.{pointwise, lists_total, nat_list_cmp_total}
use Rattle.file_paths.specs.Path.{FilePath, is_same_path}
use Rattle.tree_values.specs.Inside.{add_new}
use Rattle.tree_values.proofs.Distinct.{any_append, same_test}

-- what is not so, turned round
pub turned : (a b : Bool) → a ≡ not b → b ≡ not a
turned true false e = refl
turned false true e = refl
turned true true e = e
turned false false e = e

-- whether a path is known once one more is
pub known_with : (known : List FilePath) (path other : FilePath)
    → list_any (pointwise bytes_eq other) (known ++ path ∷ []) ≡ cond (is_same_path path other) true (list_any (pointwise bytes_eq other) known)
known_with known path other =
    any_append (pointwise bytes_eq other) known (path ∷ []) ∙ ap (λ b. list_any (pointwise bytes_eq other) known || (b || false)) (same_test other path)
    ∙ ap (λ b. list_any (pointwise bytes_eq other) known || (b || false)) ((eq_by_cmp_equiv (lists_total nat_list_cmp_total)).symm other path)
    ∙ by (list_any (pointwise bytes_eq other) known) (is_same_path path other)
  where
    by : (a b : Bool) → (a || (b || false)) ≡ cond b true a
    by true true = refl
    by true false = refl
    by false true = refl
    by false false = refl

-- the first ones of paths with one more path behind them
pub with_next : (paths : List (Bor FilePath)) (path : Bor FilePath) (known : List FilePath)
    → fold add_new known (map (λ lent. lent.now) (paths ++ path ∷ [])) ≡ add_new (fold add_new known (map (λ lent. lent.now) paths)) path.now
with_next [] path known = refl
with_next (p ∷ paths) path known = with_next paths path (add_new known p.now)

-- the same, where it is told whether the path is known
pub after_next : (before : List (Bor FilePath)) (path : Bor FilePath) (firsts : List FilePath) (b : Bool) → firsts ≡ fold add_new [] (map (λ lent. lent.now) before)
    → list_any (pointwise bytes_eq path.now) firsts ≡ b → fold add_new [] (map (λ lent. lent.now) (before ++ path ∷ [])) ≡ cond b firsts (firsts ++ path.now ∷ [])
after_next before path firsts b are known =
    with_next before path [] ∙ ap (λ paths. add_new paths path.now) (sym are) ∙ ap (λ c. cond c firsts (firsts ++ path.now ∷ [])) known
