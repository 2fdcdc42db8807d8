use Rattle.std.proofs.Common.{◌∙◌, ap, option_map}
use Rattle.temp_names.specs.Renaming.{renamed}
use Rattle.temp_names.proofs.Lists.{filter_map_step}
use Rattle.temp_names.proofs.pairs.partnered.Goals as goal

pub loop-c-preserved : goal.loop-c-preserved
loop-c-preserved c =
    filter_map_step _ _ _ c.c-item.result c.in_ok-pair.field-0 _ _ c.loop-c-test.true c.c-item.is c.loop-c.invariant
    (c.in_ok-pair.ensures ∙ ap (option_map (renamed c.c-item.result)) c.partner-partner.ensures) c.in_ok-push_found.ensures
