use Rattle.mod_log.proofs.SpelledBytes.{origin_is_bytes, sketch_effects_are_bytes}
use Rattle.mod_log.proofs.spelling_laws.origins_are_bytes.Goals as goal

pub returns : goal.returns
returns c = record { origins = origin_is_bytes; sketched = sketch_effects_are_bytes }
