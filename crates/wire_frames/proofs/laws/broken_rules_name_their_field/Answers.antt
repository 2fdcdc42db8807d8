use Rattle.wire_frames.proofs.Breaking.{broken_numbers, broken_bodies, left_bytes}
use Rattle.wire_frames.proofs.BreakingCauses.{broken_causes}
use Rattle.tree_laws.proofs.FaultLaws.{broken_faults}
use Rattle.wire_frames.specs.Fault.{unfit_numbers, full_numbers}
use Rattle.wire_frames.proofs.laws.broken_rules_name_their_field.Goals as goal

pub returns : goal.returns
returns c = record { numbers = broken_numbers; bodies = broken_bodies; faults = (broken_faults unfit_numbers, broken_faults full_numbers); causes = broken_causes; left = left_bytes }
