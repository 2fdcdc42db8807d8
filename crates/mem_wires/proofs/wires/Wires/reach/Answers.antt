use Rattle.std.proofs.Common.{[], sym, subst}
use Rattle.tree_values.specs.Lists.{IsIn}
use Rattle.world_rules.specs.World.{Is}
use Rattle.world_rules.proofs.Asks.{moved_packets}
use Rattle.mem_wires.specs.Wire.{Wire, world_of}
use Rattle.mem_wires.specs.Fates.{left_after, IsEndOf}
use Rattle.mem_wires.specs.Underway.{IsSent}
use Rattle.mem_wires.proofs.Deciding.{left_is_end}
use Rattle.mem_wires.proofs.Delivering.{sent_among, always, was_sent}
use Rattle.mem_wires.proofs.wires.Wires.reach.Goals as goal

pub returns-in_err-send-clause-behind : goal.returns-in_err-send-clause-behind
returns-in_err-send-clause-behind c =
    let fates = c.args.self.now.fates in
    subst (λ (n : Wire). IsEndOf (left_after fates) n.fates) (sym c.in_err-send.ensures.err) (left_is_end fates)

pub returns-clause-moved : goal.returns-clause-moved
returns-clause-moved c = (was_sent c.args.request.now c.args.self.now c.send.new.self (world_of c.decide.new.self) c.in_ok-send.ensures.ok c.decide.ensures.moved).moves

pub returns-clause-asking : goal.returns-clause-asking
returns-clause-asking c =
    let m = c.args.request.now in
    always c.decide.result (IsSent m (world_of c.args.self.now) (world_of c.decide.new.self))
    (was_sent m c.args.self.now c.send.new.self (world_of c.decide.new.self) c.in_ok-send.ensures.ok c.decide.ensures.moved)

pub returns-clause-sent : goal.returns-clause-sent
returns-clause-sent c =
    let m = c.args.request.now in
    always c.decide.result (IsIn m c.decide.new.self.packets)
    (moved_packets (Is m) [] (world_of c.send.new.self) (world_of c.decide.new.self) m (c.decide.ensures.moved m) (sent_among m c.args.self.now c.send.new.self c.in_ok-send.ensures.ok))
