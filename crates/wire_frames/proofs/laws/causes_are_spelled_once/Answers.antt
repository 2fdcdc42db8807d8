use Rattle.wire_frames.proofs.CauseLaws.{cause_codec}
use Rattle.wire_frames.proofs.laws.causes_are_spelled_once.Goals as goal

pub returns : goal.returns
returns c = cause_codec
