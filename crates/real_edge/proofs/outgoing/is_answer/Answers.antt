use Rattle.std.proofs.Common.{sym, ◌∙◌}
use Rattle.sealed_frames.specs.declared.sealing.Way.TheVariants.{Back}
use Rattle.real_edge.proofs.Opening.{opened_frame, no_frame}
use Rattle.real_edge.proofs.outgoing.is_answer.Goals as goal

pub returns-clause-frame : goal.returns-clause-frame
returns-clause-frame c is =
    opened_frame c.args.key.now (Back c.args.asked.now) c.args.bytes.now c.open_answer.result c.open_answer.ensures.frame
    (sym c.is_ok.ensures.value ∙ is)

pub returns-clause-none : goal.returns-clause-none
returns-clause-none c other frame by =
    no_frame c.args.key.now (Back c.args.asked.now) c.args.bytes.now frame c.open_answer.result c.open_answer.ensures.refused
    (sym c.is_ok.ensures.value ∙ other) by
