use Rattle.std.proofs.lemmas.Result.{IfOk-weaker}
use Rattle.real_edge.proofs.Echoing.{echo_is_reply}
use Rattle.real_edge.proofs.link.TcpLink.reply_to.Goals as goal

pub returns-in-Some-clause-reply : goal.returns-in-Some-clause-reply
returns-in-Some-clause-reply g c = λ request spells.
    IfOk-weaker c.reply_to_request.result _ _ (λ bytes. echo_is_reply request c.in-Some.request bytes.items (c.in-Some.ensures.told request spells)) c.reply_to_request.ensures.reply
