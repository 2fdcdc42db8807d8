use Rattle.std.proofs.Common.{◌≡◌, take}
use Rattle.std.specs.List.{sum_by}
use Rattle.byte_fields.specs.Numbers.{as_u64}
use Rattle.tree_values.specs.Effects.{content_size}
use Rattle.client_core.proofs.window.contents.Given as goal

abbrev pub invariant-loop-effect : goal.invariant-loop-effect
invariant-loop-effect l = l.size ≡ as_u64 (sum_by content_size (take l.effect-index l.effects))
