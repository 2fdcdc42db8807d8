use Rattle.tree_laws.proofs.SpelledBytes.{effects_are_bytes, bases_are_bytes, rows_are_bytes, fault_is_bytes}
use Rattle.tree_laws.proofs.spelling_laws.parts_are_spelled_in_bytes.Goals as goal

pub returns : goal.returns
returns c = record { effects = effects_are_bytes; bases = bases_are_bytes; rows = rows_are_bytes; faults = fault_is_bytes }
