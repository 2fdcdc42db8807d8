use Rattle.std.proofs.Common.{◌≡◌, Option, Some, subst}
use Rattle.std.specs.Prelude.{IfSome, slice_get}
use Rattle.wire_frames.specs.declared.message.Message.{Message}
use Rattle.wire_frames.specs.Frame.{IsValid}
use Rattle.world_rules.specs.declared.asking.Peer.TheVariants.{Surrogate}
use Rattle.world_rules.specs.Asking.{IsRequest}
use Rattle.cmd_capture.specs.Runs.{telling}
use Rattle.mem_net.specs.Scenes.{scene_of}
use Rattle.mem_wires.specs.declared.fate.Fate.TheVariants.{Late}
use Rattle.mem_wires.proofs.Steps.{got_in}
use Rattle.byte_fields.proofs.Fronts.{on_error}
use Rattle.mem_net.proofs.Reaching.{kept_in_part, stays_in_part, operation_in_part}
use Rattle.mem_net.proofs.parts.NetworkParts.late.Goals as goal

pub operate-handled-requires-clause-sent : goal.operate-handled-requires-clause-sent
operate-handled-requires-clause-sent g c =
    let packets = c.args.self.now.wires.packets in
    let found = subst (λ (o : Option Message). IfSome o (λ m. (slice_get packets c.args.k ≡ Some m) × IsValid m × IsRequest Surrogate m)) c.in-Some.is c.in_ok-operation.ensures.some in
    got_in packets c.args.k c.in-Some.operation found.0

-- ---- memory runs out

pub returns-in_err-operation-clause-cut : goal.returns-in_err-operation-clause-cut
returns-in_err-operation-clause-cut g c = on_error c.from_residual.result (stays_in_part (Late c.args.k) (scene_of g.R.Runner.runs g.R.Runner.faults c.args.self.now))

pub returns-in_err-reply-in-Some-clause-cut : goal.returns-in_err-reply-in-Some-clause-cut
returns-in_err-reply-in-Some-clause-cut g c =
    let packets = c.args.self.now.wires.packets in
    let found = subst (λ (o : Option Message). IfSome o (λ m. (slice_get packets c.args.k ≡ Some m) × IsValid m × IsRequest Surrogate m)) c.in-Some.is c.in_ok-operation.ensures.some in
    let scene = scene_of g.R.Runner.runs g.R.Runner.faults in
    on_error c.from_residual-in_err-reply-in-Some.result
    (operation_in_part c.args.k c.in-Some.operation (scene c.args.self.now) (scene c.operate-handled.new.self) found.0 found.2 c.in_err-reply-in-Some.ensures.cut)

pub returns-in-None-clause-cut : goal.returns-in-None-clause-cut
returns-in-None-clause-cut g c =
    let runs = g.R.Runner.runs in
    let faults = g.R.Runner.faults in
    let a = c.args.self.now in
    kept_in_part (Late c.args.k) a.wires c.late.new.self a.surrogate.copy (telling (runs a.runner) (faults a.runner)) c.late.result c.late.ensures.kept
