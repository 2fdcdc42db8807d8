-- How two trees compare by the versions of their paths.
use Rattle.std.specs.Prelude.{◌≡◌, ◌<◌, ◌≤◌, List, [], ◌∷◌}
use Rattle.file_paths.specs.Path.{FilePath}
use Rattle.tree_values.specs.Tree.{Volume, version_at, node_at}

-- At each path the first tree's version is at most the second's, and where they are equal the nodes are.
pub record IsBehind (older newer : Volume) : Type 0 where
  pub versions : (path : FilePath) → version_at older path ≤ version_at newer path
  pub nodes : (path : FilePath) → version_at older path ≡ version_at newer path → node_at older path ≡ node_at newer path

-- some path has a greater version in the newer tree
abbrev pub IsAhead : Volume → Volume → Type 0
IsAhead newer older = (path : FilePath) × (version_at older path < version_at newer path)

-- the two trees have the same versions at these paths
abbrev pub AgreeAt : Volume → Volume → List FilePath → Type 0
AgreeAt x v [] = Unit {0}
AgreeAt x v (path ∷ paths) = (version_at x path ≡ version_at v path) × AgreeAt x v paths
