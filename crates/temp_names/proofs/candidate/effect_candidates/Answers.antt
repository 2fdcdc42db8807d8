use Rattle.temp_names.proofs.Lists.{filter_map_step}
use Rattle.temp_names.proofs.candidate.effect_candidates.Goals as goal

pub loop-effect-preserved : goal.loop-effect-preserved
loop-effect-preserved c =
    filter_map_step _ _ _ c.effect-item.result c.in_ok-found.found _ _ c.loop-effect-test.true c.effect-item.is c.loop-effect.invariant
    c.in_ok-found.ensures c.in_ok-push_found.ensures
