use Rattle.std.proofs.Common.{◌≡◌, ◌-◌, take}
use Rattle.tree_values.specs.Effects.{contents_size}
use Rattle.wire_frames.proofs.parts.content_left.Given as goal

abbrev pub invariant-loop-effect : goal.invariant-loop-effect
invariant-loop-effect l = l.left ≡ l.room - contents_size (take l.effect-index l.effects)
