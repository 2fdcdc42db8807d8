use Rattle.tree_laws.proofs.CutParts.{effect_in_cut, effects_within_cut, effects_cut, bases_cut, rows_in_cut, rows_cut}
use Rattle.tree_laws.proofs.FaultLaws.{fault_of_cut, fault_cut}
use Rattle.tree_laws.proofs.spelling_laws.parts_end_with_their_bytes.Goals as goal

pub returns : goal.returns
returns c = record { effect = effect_in_cut; effects_within = effects_within_cut; effects = effects_cut; bases = bases_cut; rows = rows_in_cut; all_rows = rows_cut; fault = fault_cut; fault_of = fault_of_cut }
