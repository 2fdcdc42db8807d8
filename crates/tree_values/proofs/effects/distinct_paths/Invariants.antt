use Rattle.std.proofs.Common.{◌≡◌, [], map, take, Bor}
use Rattle.std.specs.BTreeSet.{contains}
use Rattle.std.specs.Cmp.Lexicographic.{pointwise}
use Rattle.std.specs.List.{fold, list_any}
use Rattle.std.specs.Str.{bytes_eq}
use Rattle.file_paths.specs.Path.{FilePath, path_cmp}
use Rattle.tree_values.specs.Inside.{add_new}
use Rattle.tree_values.proofs.effects.distinct_paths.Given as goal

-- the known paths are the first ones so far
abbrev pub invariant-loop-path : goal.invariant-loop-path
invariant-loop-path l =
    record {
      firsts : l.firsts ≡ fold add_new [] (map (λ path. path.now) (take l.path-index l.paths));
      known : (path : Bor FilePath) → contains (λ a b. path_cmp a.now b.now) l.known path ≡ list_any (pointwise bytes_eq path.now) l.firsts;
    }
