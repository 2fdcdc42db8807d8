use Rattle.replay_judge.proofs.Places.{paths_more}
use Rattle.replay_judge.proofs.judging.have_paths.Goals as goal

pub loop-effect-preserved : goal.loop-effect-preserved
loop-effect-preserved c =
    paths_more c.args.effects.now c.loop-effect.effect-index c.effect-item.result c.loop-effect-test.true c.effect-item.is c.loop-effect.invariant c.has_paths.ensures
