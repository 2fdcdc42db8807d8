use Rattle.std.proofs.Common.{◌≡◌, take}
use Rattle.std.specs.List.{sum_by}
use Rattle.byte_fields.specs.Numbers.{as_u64}
use Rattle.wire_frames.specs.Inside.{sketched_length}
use Rattle.wire_frames.proofs.lengths.sketched_sizes.Given as goal

abbrev pub invariant-loop-effect : goal.invariant-loop-effect
invariant-loop-effect l = l.size ≡ as_u64 (sum_by sketched_length (take l.effect-index l.effects))
