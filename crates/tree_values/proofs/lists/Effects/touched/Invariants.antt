use Rattle.std.proofs.Common.{◌≡◌, map, take}
use Rattle.std.specs.List.{flat_map}
use Rattle.tree_values.specs.Tree.{touched_paths}
use Rattle.tree_values.proofs.lists.Effects.touched.Given as goal

abbrev pub invariant-loop-effect : goal.invariant-loop-effect
invariant-loop-effect l = map (λ path. path.now) l.touched.items ≡ flat_map touched_paths (take l.effect-index l.self)
