use Rattle.mod_log.proofs.Breaking.{broken_sketch_effects, broken_sketch_lists}
use Rattle.mod_log.proofs.spelling_laws.broken_sketched_effects_are_refused_at_their_field.Goals as goal

pub returns : goal.returns
returns c = record { effects = broken_sketch_effects; lists = broken_sketch_lists }
