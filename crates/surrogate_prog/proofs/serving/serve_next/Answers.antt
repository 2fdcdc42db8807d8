use Rattle.std.proofs.Common.{rules, [], ◌∷◌}
use Rattle.outside.proofs.Writing.{on_err}
use Rattle.port_serving.specs.Serving.{IsAtHand}
use Rattle.surrogate_prog.specs.Serving.{outside_told}
use Rattle.surrogate_prog.specs.Inside.{RepliesTo}
use Rattle.surrogate_prog.proofs.Connections.{breaks_take, breaks_answer_where}
use Rattle.surrogate_prog.proofs.serving.serve_next.Goals as goal

pub returns-in_err-bytes-clause-err : goal.returns-in_err-bytes-clause-err
returns-in_err-bytes-clause-err g c = on_err _ _ _ _ (breaks_take _ _ _ _ _ _ c.in_err-bytes.ensures.err)

pub returns-clause-err : goal.returns-clause-err
returns-clause-err g c =
    let old = outside_told (g.R.Runner.runs c.args.runner.now) (g.R.Runner.faults c.args.runner.now) (g.L.Link.tells c.args.link.now) in
    let new = outside_told (g.R.Runner.runs c.reply_to.new.runner) (g.R.Runner.faults c.reply_to.new.runner) (g.L.Link.tells c.reply_to.new.link) in
    let at_hand : IsAtHand (c.in-Taken.bytes.items ∷ []) (g.P.Port.tells c.args.port.now) (g.P.Port.tells c.take_frame.new.port) = search rules in
    let replied : RepliesTo c.args.route.now.server.now c.args.route.now.work.now c.in-Taken.bytes.items c.in_ok-reply.reply.items c.args.surrogate.now.copy c.reply_to.new.surrogate.copy old new = search rules in
    breaks_answer_where _ _ _ _ _ _ _ _ _ _ _ (c.answer_frame.ensures.err c.in-Taken.bytes.items (g.P.Port.tells c.args.port.now) at_hand) replied
