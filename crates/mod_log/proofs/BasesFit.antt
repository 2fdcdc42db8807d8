-- The base list of effects that fit is spelled.
use Rattle.std.proofs.Common.{◌≡◌, inl, inr, ◌<◌, ◌^◌, List, [], ◌∷◌, ◌++◌, map, Option, Some, None, refl, sym, subst, arith}
use Rattle.std.specs.Prelude.{unwrap_or, option_map}
use Rattle.std.specs.List.{AllByRecursion}
use Rattle.file_paths.specs.Path.{FilePath, IsPath}
use Rattle.tree_values.specs.Effects.{touched_all, distinct, base_of}
use Rattle.tree_values.specs.Tree.{Volume, row_at, version_at, IsRow, IsTree, IsLegalEffect, touched_paths}
use Rattle.tree_values.specs.Inside.{is_at}
use Rattle.tree_values.specs.Lists.{IsIn}
use Rattle.tree_values.specs.Spelling.{EffectFits, BaseFits, EffectsFit}
use Rattle.tree_values.specs.declared.node.Row.{Row}
use Rattle.tree_values.specs.declared.node.Effect.{Effect}
use Rattle.tree_values.specs.declared.node.Effect.TheVariants.{Make, Put, Remove, Move, Mode}
use Rattle.tree_values.specs.declared.node.Base.{Base}
use Rattle.tree_values.proofs.Distinct.{in_distinct}
use Rattle.tree_values.proofs.Undoing.{find_among}

pub version-small : (rows : Volume) (path : FilePath) → IsTree rows → version_at rows path < 2 ^ 64
version-small rows path tree = by (row_at rows path) refl
  where
    by : (found : Option Row) → row_at rows path ≡ found → unwrap_or (option_map (λ row. row.version) found) 0 < 2 ^ 64
    by None e = omega arith
    by (Some row) e = (find_among IsRow (is_at path) rows row tree.each e).version_fits

pub all_paths : (xs ys : List FilePath) → AllByRecursion IsPath xs → AllByRecursion IsPath ys → AllByRecursion IsPath (xs ++ ys)
all_paths [] ys all more = more
all_paths (x ∷ xs) ys all more = (all.0, all_paths xs ys all.1 more)

pub touched-legal : (effect : Effect) → IsLegalEffect effect → AllByRecursion IsPath (touched_paths effect)
touched-legal (Make p) legal = (legal, tt)
touched-legal (Put p content) legal = (legal.0, tt)
touched-legal (Remove p) legal = (legal, tt)
touched-legal (Move p q) legal = (legal.0, (legal.1, tt))
touched-legal (Mode p exec) legal = (legal, tt)

touched_all-legal : (effects : List Effect) → AllByRecursion EffectFits effects → AllByRecursion IsPath (touched_all effects)
touched_all-legal [] fits = tt
touched_all-legal (effect ∷ effects) fits = all_paths (touched_paths effect) (touched_all effects) (touched-legal effect fits.0.0) (touched_all-legal effects fits.1)

pub path_of_all : (paths : List FilePath) (path : FilePath) → AllByRecursion IsPath paths → IsIn path paths → IsPath path
path_of_all [] path all among = absurd among
path_of_all (first ∷ paths) path all (inl is) = subst IsPath (sym is) all.0
path_of_all (first ∷ paths) path all (inr among) = path_of_all paths path all.1 among

pub all_of_each : (paths : List FilePath) → ((path : FilePath) → IsIn path paths → IsPath path) → AllByRecursion IsPath paths
all_of_each [] each = tt
all_of_each (path ∷ paths) each = (each path (inl refl), all_of_each paths (λ other among. each other (inr among)))

-- the versions of these paths
abbrev pub versions_of : List FilePath → Volume → List Base
versions_of paths rows = map (λ path. record { path = path; version = version_at rows path }) paths

bases_fit : (paths : List FilePath) (rows : Volume) → IsTree rows → AllByRecursion IsPath paths → AllByRecursion BaseFits (versions_of paths rows)
bases_fit [] rows tree all = tt
bases_fit (path ∷ paths) rows tree all = ((all.0, version-small rows path tree), bases_fit paths rows tree all.1)

pub base_of-fits : (effects : List Effect) (rows : Volume) → EffectsFit effects → IsTree rows → AllByRecursion BaseFits (base_of effects rows)
base_of-fits effects rows fits tree =
    let legal = touched_all-legal effects fits.each in
    bases_fit (distinct (touched_all effects)) rows tree (all_of_each (distinct (touched_all effects)) (λ path among. path_of_all (touched_all effects) path legal (in_distinct (touched_all effects) path among)))
