use Rattle.std.proofs.Common.{◌∙◌, true}
use Rattle.world_rules.specs.World.{delivered}
use Rattle.mem_wires.specs.Wire.{Wire, world_of}
use Rattle.mem_wires.proofs.Steps.{free_delivered, free_as, free_then}
use Rattle.mem_wires.proofs.Delivering.{moved-handled, moved-same, world-answered}
use Rattle.mem_wires.proofs.wires.Wires.deliver.Goals as goal

pub returns-in_err-packet-clause-moved : goal.returns-in_err-packet-clause-moved
returns-in_err-packet-clause-moved c = moved-handled c.args.request.now c.args.self.now c.handle.new.self c.requires.request c.requires.sent c.in_ok-reply.ensures.world

pub returns-in-Err-clause-moved : goal.returns-in-Err-clause-moved
returns-in-Err-clause-moved c =
    free_then (world_of c.args.self.now) (world_of c.handle.new.self) (world_of c.join_copy.new.self)
    (moved-handled c.args.request.now c.args.self.now c.handle.new.self c.requires.request c.requires.sent c.in_ok-reply.ensures.world)
    (moved-same c.handle.new.self c.join_copy.new.self c.in-Err.ensures.err)

pub returns-in-Ok-clause-moved : goal.returns-in-Ok-clause-moved
returns-in-Ok-clause-moved c =
    let m = c.args.request.now in
    let a : Wire = c.args.self.now in
    free_as (world_of a) (delivered m true (world_of a)) (world_of c.join_copy.new.self) (free_delivered m (world_of a) c.requires.request c.requires.sent)
    (world-answered m c.in_ok-packet.packet a c.handle.new.self c.join_copy.new.self c.in_ok-reply.ensures.world (c.in_ok-packet.ensures ∙ c.in_ok-reply.ensures.ok.0) c.in-Ok.ensures.ok)
