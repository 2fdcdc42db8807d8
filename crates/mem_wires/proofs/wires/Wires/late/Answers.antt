use Rattle.std.proofs.Common.{◌≡◌, ◌∙◌, Some, sym, ap, subst, rules}
use Rattle.tree_values.specs.Lists.{IsIn}
use Rattle.wire_frames.specs.declared.message.Message.{Message}
use Rattle.world_rules.specs.World.{IsForServer}
use Rattle.std.specs.Prelude.{slice_get}
use Rattle.mem_wires.specs.Wire.{Wire, world_of}
use Rattle.mem_wires.proofs.Steps.{got_in}
use Rattle.mem_wires.proofs.Delivering.{late-delivered}
use Rattle.mem_wires.proofs.wires.Wires.late.Goals as goal

pub deliver-delivered-requires-clause-sent : goal.deliver-delivered-requires-clause-sent
deliver-delivered-requires-clause-sent c =
    let a : Wire = c.args.self.now in
    subst (λ (m : Message). IsIn m a.packets) (sym (c.in_ok-request.ensures ∙ c.message-2.ensures.message)) (got_in a.packets c.args.k c.in-Some.packet.now (sym c.in-Some.ensures))

pub returns-clause-world : goal.returns-clause-world
returns-clause-world c =
    let a : Wire = c.args.self.now in
    let m = c.in_ok-request.request in
    let is : m ≡ c.in-Some.packet.now = c.in_ok-request.ensures ∙ c.message-2.ensures.message in
    let found : slice_get a.packets c.args.k ≡ Some m = sym c.in-Some.ensures ∙ ap Some (sym is) in
    let for : IsForServer m = search rules in
    c.in_ok-reply.ensures.world ∙ late-delivered m (slice_get a.packets c.args.k) (world_of a) found for
