use Rattle.wire_frames.proofs.Heads.{echoed}
use Rattle.wire_frames.proofs.replies.echoes.Goals as goal

pub returns : goal.returns
returns c = echoed c.args.request.now c.args.reply.now c.head.result c.is_echoed_by.result c.head.ensures c.is_echoed_by.ensures
