use Rattle.wire_frames.proofs.FaultLaws.{unfit_codec, full_codec}
use Rattle.wire_frames.proofs.laws.faults_are_spelled_once.Goals as goal

pub returns : goal.returns
returns c = record { unfit = unfit_codec; full = full_codec }
