use Rattle.std.proofs.Common.{ℕ, Vec, inl, refl, sym, ◌∙◌, subst, IfOk}
use Rattle.std.specs.declared.alloc.Global.{Global}
use Rattle.std.proofs.Math.Nat.{le_trans}
use Rattle.outside.specs.Outside.{Rose}
use Rattle.wire_frames.specs.declared.message.Message.{Message}
use Rattle.world_rules.specs.declared.asking.Peer.{Peer}
use Rattle.world_rules.specs.declared.asking.Peer.TheVariants.{Server}
use Rattle.world_rules.specs.World.{IsForServer, sent}
use Rattle.world_rules.specs.Asking.{AsksOnce, IsDirect, IsReplyTo}
use Rattle.cmd_capture.specs.Runs.{telling}
use Rattle.mem_wires.specs.Wire.{Wire, world_of}
use Rattle.mem_net.specs.Scenes.{scene_of, with_world, UnlessMemory, IsMet, OnMemory, IsHandledInPart, handlings, IsCutShort}
use Rattle.mem_wires.specs.Underway.{AsksSent, MeetsUnlessMemory}
use Rattle.mem_wires.proofs.Taking.{for_server, not_the_server}
use Rattle.mem_wires.proofs.Steps.{asks_on, asks_once, directly_on, asks_directly, calm_directly, replied, same_request}
use Rattle.mem_wires.proofs.Spent.{takes_none, quiet_after, want_after, spent_in_want, spent, taken_as}
use Rattle.mem_net.proofs.Reaching.{was_taken, takes_beside, takes_by_server, takes_by_surrogate, takes_in_want}
use Rattle.mem_net.proofs.Meeting.{quiet_meets, quiet_operates, alone_met, rose_later, met_by_server, met_by_surrogate, is_met}
use Rattle.mem_net.proofs.Meeting.{stays_met, is_cut, is_cut_before}
use Rattle.mem_wires.proofs.Deciding.{left_is_end}
use Rattle.mem_net.proofs.Early.{reached_early, lone_in_want, lone_met}
use Rattle.mem_net.proofs.parts.NetworkParts.ask.Goals as goal

-- ---- want of memory before the ask is decided

pub returns-in_default-clause-fates : goal.returns-in_default-clause-fates
returns-in_default-clause-fates g c =
    let a : Wire = c.args.self.now.wires in
    takes_in_want c.args.to a a (takes_none a.fates a.troubles) (inl refl)

pub returns-in_default-reach-clause-kept : goal.returns-in_default-reach-clause-kept
returns-in_default-reach-clause-kept g c =
    spent_in_want c.in-Ok.request c.args.self.now.wires c.reach.new.self.wires c.in_default-reach.ensures.moved c.in_default-reach.ensures.takes

pub returns-in_default-reach-clause-fates : goal.returns-in_default-reach-clause-fates
returns-in_default-reach-clause-fates g c =
    takes_in_want c.args.to c.args.self.now.wires c.reach.new.self.wires c.in_default-reach.ensures.takes c.in_default-reach.ensures.front

pub returns-in_default-clause-cut : goal.returns-in_default-clause-cut
returns-in_default-clause-cut g c = λ request spells. inl refl

pub returns-in_default-reach-clause-cut : goal.returns-in_default-reach-clause-cut
returns-in_default-reach-clause-cut g c = λ request spells.
    let scene = scene_of g.R.Runner.runs g.R.Runner.faults in
    let m = c.in-Ok.request in
    let a = scene c.args.self.now in
    let d = scene c.reach.new.self in
    let same = same_request m request (c.in-Ok.ensures.only request spells.0 spells.1) in
    subst (λ (x : Message). IsCutShort c.args.to x a d) (sym same) (is_cut_before c.args.to m a d c.in_default-reach.ensures.cut)

pub returns-in_default-clause-lone : goal.returns-in_default-clause-lone
returns-in_default-clause-lone g c = λ served early.
    let fates = c.args.self.now.wires.fates in
    (((0, refl), left_is_end fates), refl)

pub returns-in_default-reach-clause-lone : goal.returns-in_default-reach-clause-lone
returns-in_default-reach-clause-lone g c = λ served early.
    let scene = scene_of g.R.Runner.runs g.R.Runner.faults in
    lone_in_want c.in-Ok.request (scene c.args.self.now) (scene c.reach.new.self) early c.in_default-reach.ensures.cut

-- ---- an ask of the server

pub returns-in-Server-clause-reply : goal.returns-in-Server-clause-reply
returns-in-Server-clause-reply g c = λ request spells.
    let to = c.args.to in
    let m = c.in-Ok.request in
    let same = same_request m request (c.in-Ok.ensures.only request spells.0 spells.1) in
    let b = world_of c.reach.new.self.wires in
    let d = world_of c.meet.new.self in
    let asked = same_request m c.requires.request.0 (c.in-Ok.ensures.only c.requires.request.0 c.requires.request.1.0 c.requires.request.1.1) in
    let for : IsForServer m = for_server to c.requires.request.0 m c.in-Server.is asked c.requires.request.2 in
    let once = asks_once to c.args.address.now m for c.in-Ok.ensures.found.0 c.in-Ok-reach.decided b d c.meet.result c.in-Ok-reach.ensures.sent c.meet.ensures.met in
    subst (λ (x : Message). IfOk c.meet.result (λ (bytes : Vec ℕ Global). IsReplyTo x bytes.items)) (sym same)
    (replied to c.args.address.now m b d c.meet.result once)

pub returns-in-Server-clause-world : goal.returns-in-Server-clause-world
returns-in-Server-clause-world g c = λ request spells.
    let to = c.args.to in
    let address = c.args.address.now in
    let m = c.in-Ok.request in
    let same = same_request m request (c.in-Ok.ensures.only request spells.0 spells.1) in
    let a = world_of c.args.self.now.wires in
    let b = world_of c.reach.new.self.wires in
    let d = world_of c.meet.new.self in
    let asked = same_request m c.requires.request.0 (c.in-Ok.ensures.only c.requires.request.0 c.requires.request.1.0 c.requires.request.1.1) in
    let for : IsForServer m = for_server to c.requires.request.0 m c.in-Server.is asked c.requires.request.2 in
    let once = asks_once to address m for c.in-Ok.ensures.found.0 c.in-Ok-reach.decided b d c.meet.result c.in-Ok-reach.ensures.sent c.meet.ensures.met in
    subst (λ (x : Message). AsksOnce to address x a d c.meet.result) (sym same) (asks_on to address m a b d c.meet.result c.in-Ok-reach.ensures.asking once)

pub returns-in-Server-clause-direct : goal.returns-in-Server-clause-direct
returns-in-Server-clause-direct g c = λ request spells to_server quiet.
    let to = c.args.to in
    let address = c.args.address.now in
    let m = c.in-Ok.request in
    let same = same_request m request (c.in-Ok.ensures.only request spells.0 spells.1) in
    let a = world_of c.args.self.now.wires in
    let b = world_of c.reach.new.self.wires in
    let d = world_of c.meet.new.self in
    let before = c.reach.new.self.wires.troubles in
    let now = c.meet.new.self.troubles in
    let asked = same_request m c.requires.request.0 (c.in-Ok.ensures.only c.requires.request.0 c.requires.request.1.0 c.requires.request.1.1) in
    let for : IsForServer m = for_server to c.requires.request.0 m c.in-Server.is asked c.requires.request.2 in
    subst (λ (x : Message). IsDirect to address x a d c.meet.result) (sym same)
    (directly_on to address m a b d c.meet.result c.in-Ok-reach.ensures.asking
    (calm_directly to address m for c.in-Ok.ensures.found.0 c.in-Ok-reach.decided b d before c.meet.result c.in-Ok-reach.ensures.sent c.meet.ensures.met
    (λ rose. quiet (rose_later c.args.self.now.wires.troubles before now c.in-Ok-reach.ensures.takes.later (subst (λ (n : ℕ). Rose before n) (sym c.meet.ensures.troubles) rose)))))

pub returns-in-Server-clause-kept : goal.returns-in-Server-clause-kept
returns-in-Server-clause-kept g c =
    let scene = scene_of g.R.Runner.runs g.R.Runner.faults in
    let to = c.args.to in
    let address = c.args.address.now in
    let m = c.in-Ok.request in
    let a : Wire = c.args.self.now.wires in
    let b : Wire = c.reach.new.self.wires in
    let d : Wire = c.meet.new.self in
    let fate = c.in-Ok-reach.decided in
    let result = c.meet.result in
    let met = c.meet.ensures.met in
    let among = c.in-Ok-reach.ensures.sent in
    let asking = c.in-Ok-reach.ensures.asking in
    let asked = same_request m c.requires.request.0 (c.in-Ok.ensures.only c.requires.request.0 c.requires.request.1.0 c.requires.request.1.1) in
    let for : IsForServer m = for_server to c.requires.request.0 m c.in-Server.is asked c.requires.request.2 in
    let reaches = c.in-Ok-reach.ensures.reaches in
    let was = was_taken reaches.0 (with_world (sent m (world_of a)) (scene c.args.self.now)) fate (scene c.reach.new.self) reaches.1 in
    spent to address m a d was.taken (taken_as was.taken a.fates b.fates d.fates was.split c.meet.ensures.fates) (le_trans was.later c.meet.ensures.later) result
    (asks_on to address m (world_of a) (world_of b) (world_of d) result asking (asks_once to address m for c.in-Ok.ensures.found.0 fate (world_of b) (world_of d) result among met))
    (λ quiet want. c.meet.ensures.troubles ∙ want_after fate result b.troubles want ∙ (was.calm quiet).0)
    (λ quiet served. (
      c.meet.ensures.troubles ∙ quiet_after fate result b.troubles (was.calm quiet).1 ∙ (was.calm quiet).0,
      directly_on to address m (world_of a) (world_of b) (world_of d) result asking (asks_directly to address m for c.in-Ok.ensures.found.0 fate (world_of b) (world_of d) result among met (was.calm quiet).1),
    ))

pub returns-in-Server-clause-fates : goal.returns-in-Server-clause-fates
returns-in-Server-clause-fates g c =
    let scene = scene_of g.R.Runner.runs g.R.Runner.faults in
    let to = c.args.to in
    let m = c.in-Ok.request in
    let fate = c.in-Ok-reach.decided in
    let start = with_world (sent m (world_of c.args.self.now.wires)) (scene c.args.self.now) in
    let reached = scene c.reach.new.self in
    let reaches = c.in-Ok-reach.ensures.reaches in
    takes_by_server to fate c.meet.result start reached (was_taken reaches.0 start fate reached reaches.1)
    (λ quiet failed. quiet_meets fate to c.args.address.now m (world_of c.reach.new.self.wires) (world_of c.meet.new.self) c.meet.result c.meet.ensures.met quiet failed)
    c.meet.new.self.fates c.meet.new.self.troubles c.meet.ensures.fates c.meet.ensures.troubles c.meet.ensures.later

pub returns-in-Server-clause-met : goal.returns-in-Server-clause-met
returns-in-Server-clause-met g c = λ request spells.
    let runs = g.R.Runner.runs in
    let faults = g.R.Runner.faults in
    let to = c.args.to in
    let address = c.args.address.now in
    let m = c.in-Ok.request in
    let same = same_request m request (c.in-Ok.ensures.only request spells.0 spells.1) in
    let fate = c.in-Ok-reach.decided in
    let mid = c.reach.new.self in
    let a = scene_of runs faults c.args.self.now in
    let b = scene_of runs faults mid in
    let d = scene_of runs faults (record { wires = c.meet.new.self; surrogate = mid.surrogate; runner = mid.runner }) in
    let met = subst (λ (p : Peer). MeetsUnlessMemory fate p address m (world_of mid.wires) (world_of c.meet.new.self) c.meet.result) c.in-Server.is c.meet.ensures.met in
    subst (λ (x : Message). UnlessMemory c.meet.result (IsMet to address x a d c.meet.result)) (sym same)
    (is_met to fate address m a b d c.meet.result c.in-Ok-reach.ensures.reaches
    (met_by_server to fate address m b d c.meet.result (sym c.in-Server.is)
    (alone_met Server address m mid.surrogate.copy (telling (runs mid.runner) (faults mid.runner)) mid.wires c.meet.new.self fate c.meet.result met c.meet.ensures.fates c.meet.ensures.troubles)))

pub returns-in-Server-clause-cut : goal.returns-in-Server-clause-cut
returns-in-Server-clause-cut g c = λ request spells.
    let runs = g.R.Runner.runs in
    let faults = g.R.Runner.faults in
    let to = c.args.to in
    let m = c.in-Ok.request in
    let same = same_request m request (c.in-Ok.ensures.only request spells.0 spells.1) in
    let fate = c.in-Ok-reach.decided in
    let result = c.meet.result in
    let mid = c.reach.new.self in
    let a = scene_of runs faults c.args.self.now in
    let b = scene_of runs faults mid in
    let d = scene_of runs faults (record { wires = c.meet.new.self; surrogate = mid.surrogate; runner = mid.runner }) in
    let stays = stays_met fate result mid.wires c.meet.new.self mid.surrogate.copy (telling (runs mid.runner) (faults mid.runner)) c.meet.ensures.fates c.meet.ensures.troubles in
    subst (λ (x : Message). OnMemory result (IsCutShort to x a d)) (sym same)
    (is_cut to fate m a b d result c.in-Ok-reach.ensures.reaches
    (subst (λ (p : Peer). OnMemory result (IsHandledInPart (handlings p fate) m b d)) (sym c.in-Server.is) stays))

pub returns-in-Server-clause-lone : goal.returns-in-Server-clause-lone
returns-in-Server-clause-lone g c = λ served early.
    let scene = scene_of g.R.Runner.runs g.R.Runner.faults in
    let mid = c.reach.new.self in
    let fate = c.in-Ok-reach.decided in
    let start = with_world (sent c.in-Ok.request (world_of c.args.self.now.wires)) (scene c.args.self.now) in
    let reached = scene mid in
    let reaches = c.in-Ok-reach.ensures.reaches in
    lone_met c.meet.result fate start reached (scene (record { wires = c.meet.new.self; surrogate = mid.surrogate; runner = mid.runner }))
    (reached_early reaches.0 start fate reached early reaches.1) c.meet.ensures.fates c.meet.ensures.troubles

-- ---- an ask of the surrogate

pub returns-in-Surrogate-clause-reply : goal.returns-in-Surrogate-clause-reply
returns-in-Surrogate-clause-reply g c = λ request spells.
    let to = c.args.to in
    let address = c.args.address.now in
    let m = c.in-Ok.request in
    let same = same_request m request (c.in-Ok.ensures.only request spells.0 spells.1) in
    let b = world_of c.reach.new.self.wires in
    let d = world_of c.meet-in-Surrogate.new.self.wires in
    let result = c.meet-in-Surrogate.result in
    let once = subst (λ (p : Peer). AsksSent p address m b d result) (sym c.in-Surrogate.is) c.meet-in-Surrogate.ensures.once in
    subst (λ (x : Message). IfOk result (λ (bytes : Vec ℕ Global). IsReplyTo x bytes.items)) (sym same) (replied to address m b d result once)

pub returns-in-Surrogate-clause-world : goal.returns-in-Surrogate-clause-world
returns-in-Surrogate-clause-world g c = λ request spells.
    let to = c.args.to in
    let address = c.args.address.now in
    let m = c.in-Ok.request in
    let same = same_request m request (c.in-Ok.ensures.only request spells.0 spells.1) in
    let a = world_of c.args.self.now.wires in
    let b = world_of c.reach.new.self.wires in
    let d = world_of c.meet-in-Surrogate.new.self.wires in
    let result = c.meet-in-Surrogate.result in
    let once = subst (λ (p : Peer). AsksSent p address m b d result) (sym c.in-Surrogate.is) c.meet-in-Surrogate.ensures.once in
    subst (λ (x : Message). AsksOnce to address x a d result) (sym same) (asks_on to address m a b d result c.in-Ok-reach.ensures.asking once)

pub returns-in-Surrogate-clause-kept : goal.returns-in-Surrogate-clause-kept
returns-in-Surrogate-clause-kept g c =
    let scene = scene_of g.R.Runner.runs g.R.Runner.faults in
    let to = c.args.to in
    let address = c.args.address.now in
    let m = c.in-Ok.request in
    let a : Wire = c.args.self.now.wires in
    let b : Wire = c.reach.new.self.wires in
    let d : Wire = c.meet-in-Surrogate.new.self.wires in
    let fate = c.in-Ok-reach.decided in
    let result = c.meet-in-Surrogate.result in
    let start = with_world (sent m (world_of a)) (scene c.args.self.now) in
    let reached = scene c.reach.new.self in
    let reaches = c.in-Ok-reach.ensures.reaches in
    let once = subst (λ (p : Peer). AsksSent p address m (world_of b) (world_of d) result) (sym c.in-Surrogate.is) c.meet-in-Surrogate.ensures.once in
    let takes = takes_beside to fate result start reached (was_taken reaches.0 start fate reached reaches.1)
    (λ quiet failed. quiet_operates fate address m reached (scene c.meet-in-Surrogate.new.self) result c.meet-in-Surrogate.ensures.met quiet failed)
    d.fates d.troubles c.meet-in-Surrogate.ensures.takes in
    spent to address m a d takes.taken takes.split takes.later result
    (asks_on to address m (world_of a) (world_of b) (world_of d) result c.in-Ok-reach.ensures.asking once)
    (λ quiet want. takes.calm quiet)
    (λ quiet served. absurd (not_the_server (sym c.in-Surrogate.is ∙ served)))

pub returns-in-Surrogate-clause-fates : goal.returns-in-Surrogate-clause-fates
returns-in-Surrogate-clause-fates g c =
    let scene = scene_of g.R.Runner.runs g.R.Runner.faults in
    let to = c.args.to in
    let m = c.in-Ok.request in
    let d : Wire = c.meet-in-Surrogate.new.self.wires in
    let fate = c.in-Ok-reach.decided in
    let result = c.meet-in-Surrogate.result in
    let start = with_world (sent m (world_of c.args.self.now.wires)) (scene c.args.self.now) in
    let reached = scene c.reach.new.self in
    let reaches = c.in-Ok-reach.ensures.reaches in
    takes_by_surrogate to fate result start reached (was_taken reaches.0 start fate reached reaches.1)
    (λ quiet failed. quiet_operates fate c.args.address.now m reached (scene c.meet-in-Surrogate.new.self) result c.meet-in-Surrogate.ensures.met quiet failed)
    d.fates d.troubles (sym c.in-Surrogate.is) c.meet-in-Surrogate.ensures.takes

pub returns-in-Surrogate-clause-met : goal.returns-in-Surrogate-clause-met
returns-in-Surrogate-clause-met g c = λ request spells.
    let scene = scene_of g.R.Runner.runs g.R.Runner.faults in
    let to = c.args.to in
    let address = c.args.address.now in
    let m = c.in-Ok.request in
    let same = same_request m request (c.in-Ok.ensures.only request spells.0 spells.1) in
    let fate = c.in-Ok-reach.decided in
    let result = c.meet-in-Surrogate.result in
    let a = scene c.args.self.now in
    let b = scene c.reach.new.self in
    let d = scene c.meet-in-Surrogate.new.self in
    subst (λ (x : Message). UnlessMemory result (IsMet to address x a d result)) (sym same)
    (is_met to fate address m a b d result c.in-Ok-reach.ensures.reaches
    (met_by_surrogate to fate address m b d result (sym c.in-Surrogate.is) c.meet-in-Surrogate.ensures.met))

pub returns-in-Surrogate-clause-cut : goal.returns-in-Surrogate-clause-cut
returns-in-Surrogate-clause-cut g c = λ request spells.
    let scene = scene_of g.R.Runner.runs g.R.Runner.faults in
    let to = c.args.to in
    let m = c.in-Ok.request in
    let same = same_request m request (c.in-Ok.ensures.only request spells.0 spells.1) in
    let fate = c.in-Ok-reach.decided in
    let result = c.meet-in-Surrogate.result in
    let a = scene c.args.self.now in
    let b = scene c.reach.new.self in
    let d = scene c.meet-in-Surrogate.new.self in
    subst (λ (x : Message). OnMemory result (IsCutShort to x a d)) (sym same)
    (is_cut to fate m a b d result c.in-Ok-reach.ensures.reaches
    (subst (λ (p : Peer). OnMemory result (IsHandledInPart (handlings p fate) m b d)) (sym c.in-Surrogate.is) c.meet-in-Surrogate.ensures.cut))

pub returns-in-Surrogate-clause-lone : goal.returns-in-Surrogate-clause-lone
returns-in-Surrogate-clause-lone g c = λ served early. absurd (not_the_server (sym c.in-Surrogate.is ∙ served))
