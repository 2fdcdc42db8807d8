use Rattle.temp_names.proofs.Lists.{filter_map_step}
use Rattle.temp_names.proofs.candidate.replay_candidates.Goals as goal

pub loop-row-preserved : goal.loop-row-preserved
loop-row-preserved c =
    filter_map_step _ _ _ c.row-item.result c.in_ok-found.found _ _ c.loop-row-test.true c.row-item.is c.loop-row.invariant
    c.in_ok-found.ensures c.in_ok-push_found.ensures
