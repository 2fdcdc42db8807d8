use Rattle.server_core.proofs.Frames.{frames_are_answered, others_are_malformed, entries_tell}
use Rattle.server_core.proofs.Noting.{taken_frames_change}
use Rattle.server_core.proofs.laws.frames_are_answered.Goals as goal

pub returns : goal.returns
returns c = record { spelled = frames_are_answered; others = others_are_malformed; taken = taken_frames_change; entry = entries_tell }
