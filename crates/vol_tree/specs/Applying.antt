-- Why several effects are not applied.
use Rattle.std.specs.Prelude.{◌≡◌, List, Err, ⊤}
use Rattle.tree_values.specs.declared.node.Effect.{Effect}
use Rattle.vol_tree.specs.declared.effects.ApplyAllError.{ApplyAllError}
use Rattle.vol_tree.specs.declared.effects.ApplyAllError.TheVariants.{At, Memory}
use Rattle.tree_values.specs.Tree.{Volume}
use Rattle.tree_values.specs.Effects.{apply_all}

-- the error names the first effect that is refused, and why
abbrev pub IsAllRefusal : List Effect → Volume → ApplyAllError → Type 0
IsAllRefusal effects rows (At i cause) = apply_all 0 effects rows ≡ Err (i, cause)
IsAllRefusal effects rows Memory = ⊤
