use Rattle.std.proofs.Common.{length, arith}
use Rattle.tree_values.specs.Spelling.{effect}
use Rattle.mod_log.proofs.Sums.{sum_by-next}
use Rattle.mod_log.proofs.sizes.effects_size.Goals as goal

pub loop-effect-preserved : goal.loop-effect-preserved
loop-effect-preserved c =
    let more = sum_by-next (λ e. length (effect e)) c.args.effects.now c.loop-effect.effect-index c.effect-item.result (omega arith) c.effect-item.is in
    omega (arith, more)
