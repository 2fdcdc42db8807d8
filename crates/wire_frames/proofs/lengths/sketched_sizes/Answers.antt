use Rattle.std.proofs.Common.{arith}
use Rattle.mod_log.proofs.Sums.{sum_by-next}
use Rattle.wire_frames.specs.Inside.{sketched_length}
use Rattle.wire_frames.proofs.lengths.sketched_sizes.Goals as goal

pub loop-effect-preserved : goal.loop-effect-preserved
loop-effect-preserved c =
    let more = sum_by-next sketched_length c.args.effects.now c.loop-effect.effect-index c.effect-item.result (omega arith) c.effect-item.is in
    omega (arith, more)
