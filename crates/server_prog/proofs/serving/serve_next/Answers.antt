use Rattle.std.proofs.Common.{◌≡◌, ◌∙◌, refl, ap}
use Rattle.std.specs.Prelude.{is_some}
use Rattle.outside.specs.Keeper.{kept_under}
use Rattle.outside.proofs.Writing.{on_err}
use Rattle.server_core.specs.Holding.{served}
use Rattle.server_core.specs.Framing.{frame_after, takes}
use Rattle.server_prog.specs.Serving.{server_telling}
use Rattle.server_prog.proofs.Connections.{is_at_hand, breaks_unserved, breaks_unanswered}
use Rattle.server_prog.proofs.serving.serve_next.Goals as goal

-- the frame was not served
pub returns-in_err-reply-clause-err : goal.returns-in_err-reply-clause-err
returns-in_err-reply-clause-err g c =
    let at_hand = is_at_hand c.in_ok-frame.field-0 c.in-Taken.frame (g.P.Port.tells c.args.port.now) (g.P.Port.tells c.take_frame.new.port) c.in-Taken.is c.in_ok-frame.ensures.ok in
    let kept = kept_under c.args.name.now (g.K.Keeper.images c.args.keeper.now) in
    on_err _ _ _ _ (breaks_unserved c.args.journal.now (served c.args.server.now) (server_telling (g.P.Port.tells c.args.port.now) kept) (server_telling (g.P.Port.tells c.take_frame.new.port) kept) c.in-Taken.frame.items c.requires.journals at_hand refl)

-- it was not answered
pub returns-in_err-answer_frame-clause-err : goal.returns-in_err-answer_frame-clause-err
returns-in_err-answer_frame-clause-err g c =
    let at_hand = is_at_hand c.in_ok-frame.field-0 c.in-Taken.frame (g.P.Port.tells c.args.port.now) (g.P.Port.tells c.take_frame.new.port) c.in-Taken.is c.in_ok-frame.ensures.ok in
    let left = c.in_err-answer_frame.ensures.err c.in-Taken.frame.items (g.P.Port.tells c.args.port.now) at_hand in
    let old = server_telling (g.P.Port.tells c.args.port.now) (kept_under c.args.name.now (g.K.Keeper.images c.args.keeper.now)) in
    let new = server_telling (g.P.Port.tells c.answer_frame.new.port) (kept_under c.args.name.now (g.K.Keeper.images c.keep.new.keeper)) in
    let before = served c.args.server.now in
    let after = served c.serve_noted.new.self in
    let frame = c.in-Taken.frame.items in
    let taken : is_some c.in_ok-reply.note ≡ takes frame before = c.in_ok-reply.ensures.taken ∙ ap (λ f. takes f before) c.deref.ensures.value in
    let state : after ≡ frame_after frame before = c.in_ok-reply.ensures.state ∙ ap (λ f. frame_after f before) c.deref.ensures.value in
    let keeps = c.in_ok-journal.ensures.ok before c.in_ok-reply.ensures.leads c.requires.journals in
    on_err _ _ _ _ (breaks_unanswered c.args.journal.now before old new c.in_ok-reply.note frame after taken state c.in_ok-journal.field-0 left keeps)
