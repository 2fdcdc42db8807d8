use Rattle.sealed_port.proofs.Made.{handed_on_made}
use Rattle.sealed_port.proofs.laws.handed_on_frames_were_sealed.Goals as goal

pub returns : goal.returns
returns c = handed_on_made
