use Rattle.tree_laws.proofs.Parts.{effect_in_codec, effects_within_codec, effects_codec, bases_codec, rows_in_codec, rows_codec}
use Rattle.tree_laws.proofs.FaultLaws.{fault_of_codec, fault_codec, all_allowed}
use Rattle.tree_laws.proofs.spelling_laws.parts_are_spelled_once.Goals as goal

pub returns : goal.returns
returns c = record { effect = effect_in_codec; effects_within = effects_within_codec; effects = effects_codec; bases = bases_codec; rows = rows_in_codec; all_rows = rows_codec; fault = fault_codec; fault_of = fault_of_codec; all_faults = all_allowed }
