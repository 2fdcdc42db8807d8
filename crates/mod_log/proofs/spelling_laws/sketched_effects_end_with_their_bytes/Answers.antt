use Rattle.mod_log.proofs.Cut.{sketch_effect_cut, sketch_effects_cut}
use Rattle.mod_log.proofs.spelling_laws.sketched_effects_end_with_their_bytes.Goals as goal

pub returns : goal.returns
returns c = record { effect = sketch_effect_cut; effects_within = sketch_effects_cut }
