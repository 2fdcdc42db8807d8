use Rattle.std.proofs.Common.{sym, subst}
use Rattle.wire_frames.specs.declared.message.Message.TheVariants.{Pull}
use Rattle.wire_frames.specs.Frame.{IsValid}
use Rattle.world_rules.specs.Served.{IsServed}
use Rattle.server_core.specs.Holding.{Holding, served}
use Rattle.server_core.proofs.Frames.{answer-is-valid}
use Rattle.server_core.proofs.server.Server.serve_in_frame.Goals as goal

pub in_frame-requires : goal.in_frame-requires
in_frame-requires c =
    let legal : IsServed (served c.args.self.now) = subst (λ (h : Holding). IsServed (served h)) c.self.view_is c.self.invariant in
    let valid : IsValid (Pull c.in-Pull.client c.in-Pull.number) = subst IsValid c.in-Pull.is c.requires.valid in
    subst IsValid (sym c.in_ok-reply-in-Pull.ensures.ok) (answer-is-valid (Pull c.in-Pull.client c.in-Pull.number) (served c.args.self.now) valid legal)
