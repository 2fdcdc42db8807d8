use Rattle.std.proofs.Common.{[]}
use Rattle.byte_fields.proofs.Fronts.{on_error}
use Rattle.tree_values.specs.Lists.{IsIn}
use Rattle.world_rules.specs.World.{Is}
use Rattle.world_rules.proofs.Asks.{moved_packets}
use Rattle.cmd_capture.specs.Runs.{telling}
use Rattle.mem_wires.specs.Wire.{world_of}
use Rattle.mem_net.specs.Scenes.{scene_of}
use Rattle.mem_wires.specs.Underway.{IsSent}
use Rattle.mem_wires.proofs.Delivering.{sent_among, always, was_sent}
use Rattle.mem_net.proofs.Reaching.{unsent, cut_sent}
use Rattle.mem_net.proofs.parts.NetworkParts.reach.Goals as goal

pub returns-clause-moved : goal.returns-clause-moved
returns-clause-moved g c =
    (was_sent c.args.request.now c.args.self.now.wires c.send.new.self (world_of c.decide.new.self.wires) c.in_ok-send.ensures.ok c.decide.ensures.goes.moved).moves

pub returns-clause-asking : goal.returns-clause-asking
returns-clause-asking g c =
    let m = c.args.request.now in
    let a = c.args.self.now.wires in
    let d = world_of c.decide.new.self.wires in
    always c.decide.result (IsSent m (world_of a) d) (was_sent m a c.send.new.self d c.in_ok-send.ensures.ok c.decide.ensures.goes.moved)

pub returns-clause-sent : goal.returns-clause-sent
returns-clause-sent g c =
    let m = c.args.request.now in
    always c.decide.result (IsIn m c.decide.new.self.wires.packets)
    (moved_packets (Is m) [] (world_of c.send.new.self) (world_of c.decide.new.self.wires) m (c.decide.ensures.goes.moved m)
    (sent_among m c.args.self.now.wires c.send.new.self c.in_ok-send.ensures.ok))

-- ---- memory runs out

pub returns-in_err-send-clause-cut : goal.returns-in_err-send-clause-cut
returns-in_err-send-clause-cut g c =
    let runs = g.R.Runner.runs in
    let faults = g.R.Runner.faults in
    let a = c.args.self.now in
    on_error c.from_residual.result
    (unsent c.args.request.now a.wires c.send.new.self a.surrogate.copy (telling (runs a.runner) (faults a.runner)) c.in_err-send.ensures.err)

pub returns-clause-cut : goal.returns-clause-cut
returns-clause-cut g c =
    let runs = g.R.Runner.runs in
    let faults = g.R.Runner.faults in
    let a = c.args.self.now in
    cut_sent c.args.request.now a.wires c.send.new.self a.surrogate.copy (telling (runs a.runner) (faults a.runner)) (scene_of runs faults c.decide.new.self)
    c.decide.result c.in_ok-send.ensures.ok c.decide.ensures.cut
