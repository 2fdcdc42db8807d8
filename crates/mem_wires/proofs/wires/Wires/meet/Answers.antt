use Rattle.std.proofs.Common.{sym, subst}
use Rattle.mem_wires.specs.declared.fate.Fate.{Fate}
use Rattle.mem_wires.specs.Wire.{world_of}
use Rattle.mem_wires.specs.Underway.{MeetsUnlessMemory}
use Rattle.mem_wires.proofs.Steps.{delivered-among, met-lost-reply, met-twice}
use Rattle.mem_wires.proofs.wires.Wires.meet.Goals as goal

pub lose-requires-in-Ok : goal.lose-requires-in-Ok
lose-requires-in-Ok c =
    delivered-among c.args.to c.args.address.now c.args.request (world_of c.args.self.now) (world_of c.deliver.new.self) (world_of c.deliver.new.self) c.requires.request c.requires.sent c.in-Ok.ensures.world

pub pass-requires-in-Ok-deliver-clause-sent : goal.pass-requires-in-Ok-deliver-clause-sent
pass-requires-in-Ok-deliver-clause-sent c =
    let b = world_of c.deliver-in-Twice.new.self in
    delivered-among c.args.to c.args.address.now c.args.request (world_of c.args.self.now) b b c.requires.request c.requires.sent c.in-Ok-deliver.ensures.world

pub returns-in-Ok-clause-met : goal.returns-in-Ok-clause-met
returns-in-Ok-clause-met c =
    let a = world_of c.args.self.now in
    let d = world_of c.lose-in-Ok.new.self in
    subst (λ (f : Fate). MeetsUnlessMemory f c.args.to c.args.address.now c.args.request a d c.lose-in-Ok.result) (sym c.in-LoseReply.is)
    (met-lost-reply c.args.to c.args.address.now c.args.request a (world_of c.deliver.new.self) d c.requires.request c.requires.sent c.in-Ok.ensures.world c.lose-in-Ok.result c.lose-in-Ok.ensures.met)

pub returns-in-Ok-deliver-clause-met : goal.returns-in-Ok-deliver-clause-met
returns-in-Ok-deliver-clause-met c =
    let a = world_of c.args.self.now in
    let d = world_of c.pass-in-Ok-deliver.new.self in
    subst (λ (f : Fate). MeetsUnlessMemory f c.args.to c.args.address.now c.args.request a d c.pass-in-Ok-deliver.result) (sym c.in-Twice.is)
    (met-twice c.args.to c.args.address.now c.args.request a (world_of c.deliver-in-Twice.new.self) d c.requires.request c.requires.sent c.in-Ok-deliver.ensures.world c.pass-in-Ok-deliver.result c.pass-in-Ok-deliver.ensures.met)
