use Rattle.mod_log.proofs.Codec.{sketch_effect_codec, sketch_effects_codec}
use Rattle.mod_log.proofs.spelling_laws.sketched_effects_are_spelled_once.Goals as goal

pub returns : goal.returns
returns c = record { effect = sketch_effect_codec; effects_within = sketch_effects_codec }
