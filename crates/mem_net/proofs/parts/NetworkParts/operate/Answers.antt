use Rattle.std.proofs.Common.{inr, Ok, Err, subst}
use Rattle.byte_fields.proofs.Fronts.{on_error}
use Rattle.wire_frames.specs.declared.message.Message.{Message}
use Rattle.cmd_capture.specs.Runs.{telling}
use Rattle.mem_net.specs.Scenes.{scene_of, HasServed}
use Rattle.mem_net.proofs.Handling.{joined_handled, joined_not, joined_goes, stays_as_it_is}
use Rattle.mem_net.proofs.parts.NetworkParts.operate.Goals as goal

pub returns-in-Ok-clause-handled : goal.returns-in-Ok-clause-handled
returns-in-Ok-clause-handled g c =
    let runs = g.R.Runner.runs in
    let faults = g.R.Runner.faults in
    let start = scene_of runs faults c.args.self.now in
    joined_handled c.args.self.now.wires c.serve.new.self.wires c.reply.new.self c.serve.new.self.surrogate.copy
    (telling (runs c.serve.new.self.runner) (faults c.serve.new.self.runner)) c.args.request.now c.in-Ok.reply start c.reply.result
    (subst (λ (m : Message). HasServed m (Ok c.in-Ok.reply) start (scene_of runs faults c.serve.new.self)) c.in_ok-operation.ensures c.in-Ok.ensures.served)
    c.reply.ensures.ok c.reply.ensures.joined

pub returns-in-Ok-clause-goes : goal.returns-in-Ok-clause-goes
returns-in-Ok-clause-goes g c =
    joined_goes c.args.self.now.wires c.serve.new.self.wires c.reply.new.self c.in-Ok.reply c.reply.result c.in-Ok.ensures.goes c.in-Ok.ensures.free
    c.reply.ensures.joined c.reply.ensures.err

-- ---- memory runs out

pub returns-in_err-operation-clause-cut : goal.returns-in_err-operation-clause-cut
returns-in_err-operation-clause-cut g c = on_error c.from_residual.result (stays_as_it_is (scene_of g.R.Runner.runs g.R.Runner.faults c.args.self.now) c.args.request.now)

pub returns-in-Ok-clause-cut : goal.returns-in-Ok-clause-cut
returns-in-Ok-clause-cut g c =
    let runs = g.R.Runner.runs in
    let faults = g.R.Runner.faults in
    let start = scene_of runs faults c.args.self.now in
    joined_not c.args.self.now.wires c.serve.new.self.wires c.reply.new.self c.serve.new.self.surrogate.copy
    (telling (runs c.serve.new.self.runner) (faults c.serve.new.self.runner)) c.args.request.now c.in-Ok.reply start c.reply.result
    (subst (λ (m : Message). HasServed m (Ok c.in-Ok.reply) start (scene_of runs faults c.serve.new.self)) c.in_ok-operation.ensures c.in-Ok.ensures.served)
    c.reply.ensures.err

pub returns-in-Err-clause-cut : goal.returns-in-Err-clause-cut
returns-in-Err-clause-cut g c =
    let scene = scene_of g.R.Runner.runs g.R.Runner.faults in
    inr (
      Err c.in-Err.refused,
      subst (λ (m : Message). HasServed m (Err c.in-Err.refused) (scene c.args.self.now) (scene c.serve.new.self)) c.in_ok-operation.ensures c.in-Err.ensures.served,
    )
