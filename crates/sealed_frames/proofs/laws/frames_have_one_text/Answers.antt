use Rattle.sealed_frames.proofs.Apart.{same_text}
use Rattle.sealed_frames.proofs.laws.frames_have_one_text.Goals as goal

pub returns : goal.returns
returns c = same_text
