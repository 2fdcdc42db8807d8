use Rattle.std.proofs.Common.{◌∙◌}
use Rattle.wire_frames.proofs.Heads.{head_is_told}
use Rattle.wire_frames.proofs.head.head_of.Goals as goal

pub returns-clause-told : goal.returns-clause-told
returns-clause-told c = λ message spells. c.head_at.ensures ∙ head_is_told c.args.frame.now message spells
