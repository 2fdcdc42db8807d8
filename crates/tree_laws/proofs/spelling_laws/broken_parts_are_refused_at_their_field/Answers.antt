use Rattle.tree_laws.proofs.Breaking.{broken_effects, broken_effect_lists, broken_bases, broken_rows, broken_row_lists}
use Rattle.tree_laws.proofs.FaultLaws.{broken_faults}
use Rattle.tree_laws.proofs.spelling_laws.broken_parts_are_refused_at_their_field.Goals as goal

pub returns : goal.returns
returns c = record { effects = broken_effects; effect_lists = broken_effect_lists; bases = broken_bases; rows = broken_rows; row_lists = broken_row_lists; faults = broken_faults }
