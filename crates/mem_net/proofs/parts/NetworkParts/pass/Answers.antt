use Rattle.std.proofs.Common.{inl, inr}
use Rattle.cmd_capture.specs.Runs.{telling}
use Rattle.mem_net.specs.Scenes.{scene_of}
use Rattle.mem_net.proofs.Meeting.{pass_met, pass_once, cut_passing}
use Rattle.mem_net.proofs.parts.NetworkParts.pass.Goals as goal

pub returns-in-Ok-clause-met : goal.returns-in-Ok-clause-met
returns-in-Ok-clause-met g c =
    let runs = g.R.Runner.runs in
    let faults = g.R.Runner.faults in
    let b = c.operate.new.self in
    pass_met c.args.address.now c.args.request c.in-Ok.reply b.surrogate.copy (telling (runs b.runner) (faults b.runner)) (scene_of runs faults c.args.self.now)
    c.args.self.now.wires b.wires c.answer.new.self c.in-Ok.ensures.handled c.in-Ok.ensures.echoes c.in-Ok.ensures.goes.moved c.answer.ensures.kept
    c.answer.result c.answer.ensures.ok c.answer.ensures.frame c.answer.ensures.memory

pub returns-in-Ok-clause-once : goal.returns-in-Ok-clause-once
returns-in-Ok-clause-once g c =
    let runs = g.R.Runner.runs in
    let faults = g.R.Runner.faults in
    let b = c.operate.new.self in
    pass_once c.args.address.now c.args.request c.in-Ok.reply b.surrogate.copy (telling (runs b.runner) (faults b.runner)) (scene_of runs faults c.args.self.now)
    c.args.self.now.wires b.wires c.answer.new.self c.in-Ok.ensures.handled c.in-Ok.ensures.echoes c.in-Ok.ensures.goes.moved c.answer.ensures.kept
    c.answer.result c.answer.ensures.ok c.answer.ensures.frame c.answer.ensures.err c.answer.ensures.memory

pub returns-in-Err-clause-once : goal.returns-in-Err-clause-once
returns-in-Err-clause-once g c = inr (c.in-Err.ensures.goes.moved c.args.request)

-- ---- memory runs out

pub returns-in-Ok-clause-cut : goal.returns-in-Ok-clause-cut
returns-in-Ok-clause-cut g c =
    let runs = g.R.Runner.runs in
    let faults = g.R.Runner.faults in
    let b = c.operate.new.self in
    cut_passing c.args.request c.in-Ok.reply (scene_of runs faults c.args.self.now) b.wires c.answer.new.self b.surrogate.copy (telling (runs b.runner) (faults b.runner))
    c.answer.result c.in-Ok.ensures.handled c.answer.ensures.kept

pub returns-in-Err-clause-cut : goal.returns-in-Err-clause-cut
returns-in-Err-clause-cut g c = inl c.in-Err.ensures.cut
