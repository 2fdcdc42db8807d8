use Rattle.frame_parts.proofs.Coming.{others_kept}
use Rattle.frame_parts.proofs.laws.others_stay.Goals as goal

pub returns : goal.returns
returns c = others_kept
