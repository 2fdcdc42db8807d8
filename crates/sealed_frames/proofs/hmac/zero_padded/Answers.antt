use Rattle.std.proofs.Common.{ℕ, List, ◌++◌, length, ap₂}
use Rattle.sealed_frames.proofs.Blocks.{drop_replicate}
use Rattle.sealed_frames.proofs.hmac.zero_padded.Goals as goal

pub returns : goal.returns
returns c = ap₂ (λ (front back : List ℕ). front ++ back) c.copy_from_slice.ensures.after (drop_replicate (length c.args.bytes.now) 64 0)
