use Rattle.wire_frames.proofs.Echoing.{kinds_decide}
use Rattle.wire_frames.proofs.laws.kinds_decide_replies.Goals as goal

pub returns : goal.returns
returns c = kinds_decide
