use Rattle.sealed_frames.proofs.Apart.{same_frame, same_seal}
use Rattle.sealed_frames.proofs.laws.one_frame_a_seal.Goals as goal

pub returns-clause-keys : goal.returns-clause-keys
returns-clause-keys c = same_seal

pub returns-clause-frames : goal.returns-clause-frames
returns-clause-frames c = same_frame
