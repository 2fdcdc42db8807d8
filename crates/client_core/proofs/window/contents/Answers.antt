use Rattle.std.proofs.Common.{arith}
use Rattle.tree_values.specs.Effects.{content_size}
use Rattle.mod_log.proofs.Sums.{sum_by-next}
use Rattle.client_core.proofs.window.contents.Goals as goal

pub loop-effect-preserved : goal.loop-effect-preserved
loop-effect-preserved c =
    let more = sum_by-next content_size c.args.effects.now c.loop-effect.effect-index c.effect-item.result (omega arith) c.effect-item.is in
    omega (arith, more)
