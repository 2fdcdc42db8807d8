use Rattle.std.proofs.Common.{[], inl, inr, sym, subst}
use Rattle.world_rules.specs.declared.asking.Peer.TheVariants.{Surrogate}
use Rattle.world_rules.specs.World.{Is}
use Rattle.world_rules.proofs.Asks.{moved_packets}
use Rattle.cmd_capture.specs.Runs.{telling}
use Rattle.mem_wires.specs.declared.fate.Fate.{Fate}
use Rattle.mem_wires.specs.declared.fate.Fate.TheVariants.{LoseRequest, Old}
use Rattle.mem_wires.specs.Wire.{world_of}
use Rattle.mem_net.specs.Scenes.{scene_of, UnlessMemory, MeetsOperation, OnMemory, IsHandledInPart, handlings}
use Rattle.mem_wires.proofs.Steps.{asks_later, lost_once}
use Rattle.mem_wires.proofs.Spent.{takes_then}
use Rattle.mem_net.proofs.Meeting.{alone_met, lost_reply_met, twice_met, old_once, beside_quiet, on_memory, stays_met, cut_after}
use Rattle.mem_net.proofs.parts.NetworkParts.meet.Goals as goal

-- ---- the reply is lost

pub lose-requires-in-Ok : goal.lose-requires-in-Ok
lose-requires-in-Ok g c =
    let m = c.args.request in
    moved_packets (Is m) [] (world_of c.args.self.now.wires) (world_of c.operate.new.self.wires) m (c.in-Ok.ensures.goes.moved m) c.requires.sent

pub returns-in-Ok-clause-met : goal.returns-in-Ok-clause-met
returns-in-Ok-clause-met g c =
    let runs = g.R.Runner.runs in
    let faults = g.R.Runner.faults in
    let address = c.args.address.now in
    let m = c.args.request in
    let a = scene_of runs faults c.args.self.now in
    let b = c.operate.new.self in
    let d = scene_of runs faults (record { wires = c.lose-in-Ok.new.self; surrogate = b.surrogate; runner = b.runner }) in
    subst (λ (f : Fate). UnlessMemory c.lose-in-Ok.result (MeetsOperation f Surrogate address m a d c.lose-in-Ok.result)) (sym c.in-LoseReply.is)
    (lost_reply_met address m c.in-Ok.lost a (scene_of runs faults b) d c.lose-in-Ok.result c.in-Ok.ensures.handled
    (alone_met Surrogate address m b.surrogate.copy (telling (runs b.runner) (faults b.runner)) b.wires c.lose-in-Ok.new.self LoseRequest c.lose-in-Ok.result
    c.lose-in-Ok.ensures.met c.lose-in-Ok.ensures.fates c.lose-in-Ok.ensures.troubles))

pub returns-in-Ok-clause-once : goal.returns-in-Ok-clause-once
returns-in-Ok-clause-once g c =
    let address = c.args.address.now in
    let m = c.args.request in
    let a = world_of c.args.self.now.wires in
    let b = world_of c.operate.new.self.wires in
    let d = world_of c.lose-in-Ok.new.self in
    let among = moved_packets (Is m) [] a b m (c.in-Ok.ensures.goes.moved m) c.requires.sent in
    asks_later Surrogate address m a b d c.lose-in-Ok.result (c.in-Ok.ensures.goes.moved m) (lost_once Surrogate address m b d c.lose-in-Ok.result among c.lose-in-Ok.ensures.met)

pub returns-in-Err-clause-once : goal.returns-in-Err-clause-once
returns-in-Err-clause-once g c = inr (c.in-Err.ensures.goes.moved c.args.request)

-- ---- the operation is handled twice

pub pass-requires-in-Ok-operate-clause-sent : goal.pass-requires-in-Ok-operate-clause-sent
pass-requires-in-Ok-operate-clause-sent g c =
    let m = c.args.request in
    moved_packets (Is m) [] (world_of c.args.self.now.wires) (world_of c.operate-in-Twice.new.self.wires) m (c.in-Ok-operate.ensures.goes.moved m) c.requires.sent

pub returns-in-Ok-operate-clause-met : goal.returns-in-Ok-operate-clause-met
returns-in-Ok-operate-clause-met g c =
    let runs = g.R.Runner.runs in
    let faults = g.R.Runner.faults in
    let address = c.args.address.now in
    let m = c.args.request in
    let a = scene_of runs faults c.args.self.now in
    let b = scene_of runs faults c.operate-in-Twice.new.self in
    let d = scene_of runs faults c.pass-in-Ok-operate.new.self in
    subst (λ (f : Fate). UnlessMemory c.pass-in-Ok-operate.result (MeetsOperation f Surrogate address m a d c.pass-in-Ok-operate.result)) (sym c.in-Twice.is)
    (twice_met address m c.in-Ok-operate.first a b d c.pass-in-Ok-operate.result c.in-Ok-operate.ensures.handled c.pass-in-Ok-operate.ensures.met)

pub returns-in-Ok-operate-clause-once : goal.returns-in-Ok-operate-clause-once
returns-in-Ok-operate-clause-once g c =
    let m = c.args.request in
    asks_later Surrogate c.args.address.now m (world_of c.args.self.now.wires) (world_of c.operate-in-Twice.new.self.wires) (world_of c.pass-in-Ok-operate.new.self.wires)
    c.pass-in-Ok-operate.result (c.in-Ok-operate.ensures.goes.moved m) c.pass-in-Ok-operate.ensures.once

pub returns-in-Ok-operate-clause-takes : goal.returns-in-Ok-operate-clause-takes
returns-in-Ok-operate-clause-takes g c =
    let a = c.args.self.now.wires in
    let b = c.operate-in-Twice.new.self.wires in
    let d = c.pass-in-Ok-operate.new.self.wires in
    beside_quiet c.args.fate a.fates d.fates a.troubles d.troubles
    (takes_then a.fates b.fates d.fates a.troubles b.troubles d.troubles c.in-Ok-operate.ensures.goes.takes c.pass-in-Ok-operate.ensures.takes)

pub returns-in-Err-operate-clause-once : goal.returns-in-Err-operate-clause-once
returns-in-Err-operate-clause-once g c = inr (c.in-Err-operate.ensures.goes.moved c.args.request)

-- ---- an old packet

pub returns-in-Old-clause-once : goal.returns-in-Old-clause-once
returns-in-Old-clause-once g c =
    old_once c.in-Old.k Surrogate c.args.address.now c.args.request (world_of c.args.self.now.wires) (world_of c.answer_by_old.new.self) c.answer_by_old.result c.answer_by_old.ensures.met

-- ---- memory runs out

pub returns-in-Pass-clause-cut : goal.returns-in-Pass-clause-cut
returns-in-Pass-clause-cut g c =
    let scene = scene_of g.R.Runner.runs g.R.Runner.faults in
    subst (λ (f : Fate). OnMemory c.pass.result (IsHandledInPart (handlings Surrogate f) c.args.request (scene c.args.self.now) (scene c.pass.new.self))) (sym c.in-Pass.is)
    (on_memory (IsHandledInPart 1 c.args.request (scene c.args.self.now) (scene c.pass.new.self)) c.pass.result c.pass.ensures.cut)

pub returns-in-LoseRequest-clause-cut : goal.returns-in-LoseRequest-clause-cut
returns-in-LoseRequest-clause-cut g c =
    let runs = g.R.Runner.runs in
    let faults = g.R.Runner.faults in
    let a = c.args.self.now in
    let d = scene_of runs faults (record { wires = c.lose.new.self; surrogate = a.surrogate; runner = a.runner }) in
    subst (λ (f : Fate). OnMemory c.lose.result (IsHandledInPart (handlings Surrogate f) c.args.request (scene_of runs faults a) d)) (sym c.in-LoseRequest.is)
    (stays_met LoseRequest c.lose.result a.wires c.lose.new.self a.surrogate.copy (telling (runs a.runner) (faults a.runner)) c.lose.ensures.fates c.lose.ensures.troubles)

pub returns-in-Ok-clause-cut : goal.returns-in-Ok-clause-cut
returns-in-Ok-clause-cut g c =
    let runs = g.R.Runner.runs in
    let faults = g.R.Runner.faults in
    let m = c.args.request in
    let a = scene_of runs faults c.args.self.now in
    let b = c.operate.new.self in
    let d = scene_of runs faults (record { wires = c.lose-in-Ok.new.self; surrogate = b.surrogate; runner = b.runner }) in
    subst (λ (f : Fate). OnMemory c.lose-in-Ok.result (IsHandledInPart (handlings Surrogate f) m a d)) (sym c.in-LoseReply.is)
    (cut_after 0 m c.in-Ok.lost a (scene_of runs faults b) d c.lose-in-Ok.result c.in-Ok.ensures.handled
    (stays_met LoseRequest c.lose-in-Ok.result b.wires c.lose-in-Ok.new.self b.surrogate.copy (telling (runs b.runner) (faults b.runner)) c.lose-in-Ok.ensures.fates c.lose-in-Ok.ensures.troubles))

pub returns-in-Err-clause-cut : goal.returns-in-Err-clause-cut
returns-in-Err-clause-cut g c =
    let scene = scene_of g.R.Runner.runs g.R.Runner.faults in
    subst (λ (f : Fate). IsHandledInPart (handlings Surrogate f) c.args.request (scene c.args.self.now) (scene c.operate.new.self)) (sym c.in-LoseReply.is) (inl c.in-Err.ensures.cut)

pub returns-in-Ok-operate-clause-cut : goal.returns-in-Ok-operate-clause-cut
returns-in-Ok-operate-clause-cut g c =
    let scene = scene_of g.R.Runner.runs g.R.Runner.faults in
    let m = c.args.request in
    let a = scene c.args.self.now in
    let b = scene c.operate-in-Twice.new.self in
    let d = scene c.pass-in-Ok-operate.new.self in
    let result = c.pass-in-Ok-operate.result in
    subst (λ (f : Fate). OnMemory result (IsHandledInPart (handlings Surrogate f) m a d)) (sym c.in-Twice.is)
    (cut_after 1 m c.in-Ok-operate.first a b d result c.in-Ok-operate.ensures.handled (on_memory (IsHandledInPart 1 m b d) result c.pass-in-Ok-operate.ensures.cut))

pub returns-in-Err-operate-clause-cut : goal.returns-in-Err-operate-clause-cut
returns-in-Err-operate-clause-cut g c =
    let scene = scene_of g.R.Runner.runs g.R.Runner.faults in
    subst (λ (f : Fate). IsHandledInPart (handlings Surrogate f) c.args.request (scene c.args.self.now) (scene c.operate-in-Twice.new.self)) (sym c.in-Twice.is) (inl c.in-Err-operate.ensures.cut)

pub returns-in-Old-clause-cut : goal.returns-in-Old-clause-cut
returns-in-Old-clause-cut g c =
    let runs = g.R.Runner.runs in
    let faults = g.R.Runner.faults in
    let a = c.args.self.now in
    let d = scene_of runs faults (record { wires = c.answer_by_old.new.self; surrogate = a.surrogate; runner = a.runner }) in
    subst (λ (f : Fate). OnMemory c.answer_by_old.result (IsHandledInPart (handlings Surrogate f) c.args.request (scene_of runs faults a) d)) (sym c.in-Old.is)
    (stays_met (Old c.in-Old.k) c.answer_by_old.result a.wires c.answer_by_old.new.self a.surrogate.copy (telling (runs a.runner) (faults a.runner))
    c.answer_by_old.ensures.fates c.answer_by_old.ensures.troubles)
