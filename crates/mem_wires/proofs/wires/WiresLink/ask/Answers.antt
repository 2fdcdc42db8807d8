use Rattle.std.proofs.Common.{◌≡◌, ℕ, false, Vec, refl, sym, ◌∙◌, ap, subst, arith, IfOk}
use Rattle.std.specs.declared.alloc.Global.{Global}
use Rattle.outside.specs.Outside.{Rose}
use Rattle.wire_frames.specs.declared.message.Message.{Message}
use Rattle.world_rules.specs.World.{IsForServer}
use Rattle.world_rules.specs.Asking.{AsksOnce, IsDirect, IsReplyTo}
use Rattle.mem_wires.specs.declared.fate.Fate.TheVariants.{LoseRequest}
use Rattle.mem_wires.specs.Wire.{Wire, world_of}
use Rattle.mem_wires.specs.Fates.{is_trouble, troubles_after}
use Rattle.mem_wires.specs.Spending.{AreQuiet, spends_none}
use Rattle.mem_wires.proofs.Deciding.{left_is_end, taken_is_end, leaves_after}
use Rattle.mem_wires.proofs.Spent.{taken_of, takes_left, quiet_deciding, quiet_after, want_after, takes_end, spent_in_want, spent}
use Rattle.mem_wires.proofs.Taking.{for_server, not_the_server}
use Rattle.mem_wires.proofs.Steps.{asks_on, asks_once, lost_once, directly_on, asks_directly, calm_directly, replied, same_request}
use Rattle.mem_wires.proofs.wires.WiresLink.ask.Goals as goal

-- ---- an ask of the server

pub meet-requires-clause-request : goal.meet-requires-clause-request
meet-requires-clause-request c =
    let m = c.in-Ok.request in
    let same = same_request m c.requires.0 (c.in-Ok.ensures.only c.requires.0 c.requires.1.0 c.requires.1.1) in
    for_server c.args.to c.requires.0 m c.in-Server.is same c.requires.2

pub returns-in-Server-clause-reply : goal.returns-in-Server-clause-reply
returns-in-Server-clause-reply c = λ request spells.
    let m = c.in-Ok.request in
    let same = same_request m request (c.in-Ok.ensures.only request spells.0 spells.1) in
    let b = world_of c.reach.new.self in
    let d = world_of c.meet.new.self in
    let asked = same_request m c.requires.0 (c.in-Ok.ensures.only c.requires.0 c.requires.1.0 c.requires.1.1) in
    let for : IsForServer m = for_server c.args.to c.requires.0 m c.in-Server.is asked c.requires.2 in
    let once = asks_once c.args.to c.args.address.now m for c.in-Ok.ensures.found.0 c.in-Ok-reach.decided b d c.meet.result c.in-Ok-reach.ensures.sent c.meet.ensures.met in
    subst (λ (x : Message). IfOk c.meet.result (λ (bytes : Vec ℕ Global). IsReplyTo x bytes.items)) (sym same)
    (replied c.args.to c.args.address.now m b d c.meet.result once)

pub returns-in-Server-clause-world : goal.returns-in-Server-clause-world
returns-in-Server-clause-world c = λ request spells.
    let m = c.in-Ok.request in
    let same = same_request m request (c.in-Ok.ensures.only request spells.0 spells.1) in
    let a = world_of c.args.self.now in
    let b = world_of c.reach.new.self in
    let d = world_of c.meet.new.self in
    let asked = same_request m c.requires.0 (c.in-Ok.ensures.only c.requires.0 c.requires.1.0 c.requires.1.1) in
    let for : IsForServer m = for_server c.args.to c.requires.0 m c.in-Server.is asked c.requires.2 in
    let once = asks_once c.args.to c.args.address.now m for c.in-Ok.ensures.found.0 c.in-Ok-reach.decided b d c.meet.result c.in-Ok-reach.ensures.sent c.meet.ensures.met in
    subst (λ (x : Message). AsksOnce c.args.to c.args.address.now x a d c.meet.result) (sym same)
    (asks_on c.args.to c.args.address.now m a b d c.meet.result c.in-Ok-reach.ensures.asking once)

pub returns-in-Server-clause-direct : goal.returns-in-Server-clause-direct
returns-in-Server-clause-direct c = λ request spells to_server quiet.
    let m = c.in-Ok.request in
    let same = same_request m request (c.in-Ok.ensures.only request spells.0 spells.1) in
    let a = world_of c.args.self.now in
    let b = world_of c.reach.new.self in
    let d = world_of c.meet.new.self in
    let before = c.reach.new.self.troubles in
    let asked = same_request m c.requires.0 (c.in-Ok.ensures.only c.requires.0 c.requires.1.0 c.requires.1.1) in
    let for : IsForServer m = for_server c.args.to c.requires.0 m c.in-Server.is asked c.requires.2 in
    subst (λ (x : Message). IsDirect c.args.to c.args.address.now x a d c.meet.result) (sym same)
    (directly_on c.args.to c.args.address.now m a b d c.meet.result c.in-Ok-reach.ensures.asking
    (calm_directly c.args.to c.args.address.now m for c.in-Ok.ensures.found.0 c.in-Ok-reach.decided b d before c.meet.result c.in-Ok-reach.ensures.sent c.meet.ensures.met
    (λ rose. quiet (subst (λ (n : ℕ). Rose n c.meet.new.self.troubles) c.in-Ok-reach.ensures.troubles (subst (λ (n : ℕ). Rose before n) (sym c.meet.ensures.troubles) rose)))))

-- ---- want of memory before the request is sent

pub returns-in_default-clause-fates : goal.returns-in_default-clause-fates
returns-in_default-clause-fates c = ((0, refl), left_is_end c.args.self.now.fates)

-- ---- the fates that are left

pub returns-in_default-reach-clause-fates : goal.returns-in_default-reach-clause-fates
returns-in_default-reach-clause-fates c =
    let left = c.in_default-reach.ensures.rest in
    (taken_is_end left.0 c.args.self.now.fates c.reach.new.self.fates left.1, c.in_default-reach.ensures.behind)

pub returns-in-Server-clause-fates : goal.returns-in-Server-clause-fates
returns-in-Server-clause-fates c =
    leaves_after c.meet.result c.args.self.now.fates c.meet.new.self.fates (c.meet.ensures.fates ∙ c.in-Ok-reach.ensures.left)

pub returns-in-Surrogate-clause-fates : goal.returns-in-Surrogate-clause-fates
returns-in-Surrogate-clause-fates c =
    leaves_after c.lose.result c.args.self.now.fates c.lose.new.self.fates (c.lose.ensures.fates ∙ c.in-Ok-reach.ensures.left)

-- ---- an ask of the surrogate, which is lost

pub returns-in-Surrogate-clause-reply : goal.returns-in-Surrogate-clause-reply
returns-in-Surrogate-clause-reply c = λ request spells.
    let m = c.in-Ok.request in
    let b = world_of c.reach.new.self in
    let d = world_of c.lose.new.self in
    let same = same_request m request (c.in-Ok.ensures.only request spells.0 spells.1) in
    let once = lost_once c.args.to c.args.address.now m b d c.lose.result c.in-Ok-reach.ensures.sent c.lose.ensures.met in
    subst (λ (x : Message). IfOk c.lose.result (λ (bytes : Vec ℕ Global). IsReplyTo x bytes.items)) (sym same)
    (replied c.args.to c.args.address.now m b d c.lose.result once)

pub returns-in-Surrogate-clause-world : goal.returns-in-Surrogate-clause-world
returns-in-Surrogate-clause-world c = λ request spells.
    let m = c.in-Ok.request in
    let a = world_of c.args.self.now in
    let b = world_of c.reach.new.self in
    let d = world_of c.lose.new.self in
    let same = same_request m request (c.in-Ok.ensures.only request spells.0 spells.1) in
    let once = lost_once c.args.to c.args.address.now m b d c.lose.result c.in-Ok-reach.ensures.sent c.lose.ensures.met in
    subst (λ (x : Message). AsksOnce c.args.to c.args.address.now x a d c.lose.result) (sym same)
    (asks_on c.args.to c.args.address.now m a b d c.lose.result c.in-Ok-reach.ensures.asking once)

pub returns-in-Surrogate-clause-direct : goal.returns-in-Surrogate-clause-direct
returns-in-Surrogate-clause-direct c = λ request spells to_server quiet. absurd (not_the_server (sym c.in-Surrogate.is ∙ to_server))

-- ---- what the ask takes of the wires

pub returns-in_default-clause-kept : goal.returns-in_default-clause-kept
returns-in_default-clause-kept c = spends_none c.args.self.now

pub returns-in_default-reach-clause-kept : goal.returns-in_default-reach-clause-kept
returns-in_default-reach-clause-kept c =
    let m = c.in-Ok.request in
    let a : Wire = c.args.self.now in
    let b : Wire = c.reach.new.self in
    spent_in_want m a b c.in_default-reach.ensures.moved (takes_end a b c.in_default-reach.ensures.rest c.in_default-reach.ensures.troubles)

pub returns-in-Server-clause-kept : goal.returns-in-Server-clause-kept
returns-in-Server-clause-kept c =
    let to = c.args.to in
    let address = c.args.address.now in
    let m = c.in-Ok.request in
    let a : Wire = c.args.self.now in
    let b : Wire = c.reach.new.self in
    let d : Wire = c.meet.new.self in
    let fate = c.in-Ok-reach.decided in
    let asked = same_request m c.requires.0 (c.in-Ok.ensures.only c.requires.0 c.requires.1.0 c.requires.1.1) in
    let for : IsForServer m = for_server to c.requires.0 m c.in-Server.is asked c.requires.2 in
    let once = asks_once to address m for c.in-Ok.ensures.found.0 fate (world_of b) (world_of d) c.meet.result c.in-Ok-reach.ensures.sent c.meet.ensures.met in
    let counted : d.troubles ≡ troubles_after fate c.meet.result a.troubles =
    c.meet.ensures.troubles ∙ ap (troubles_after fate c.meet.result) c.in-Ok-reach.ensures.troubles in
    let calm : AreQuiet (taken_of a.fates) → is_trouble fate ≡ false = λ quiet. ap is_trouble c.in-Ok-reach.ensures.fate ∙ quiet_deciding a.fates quiet in
    spent to address m a d (taken_of a.fates) (takes_left a d (c.meet.ensures.fates ∙ c.in-Ok-reach.ensures.left))
    (omega (arith, c.meet.ensures.later, c.in-Ok-reach.ensures.troubles)) c.meet.result
    (asks_on to address m (world_of a) (world_of b) (world_of d) c.meet.result c.in-Ok-reach.ensures.asking once)
    (λ quiet want. counted ∙ want_after fate c.meet.result a.troubles want)
    (λ quiet served. (
      counted ∙ quiet_after fate c.meet.result a.troubles (calm quiet),
      directly_on to address m (world_of a) (world_of b) (world_of d) c.meet.result c.in-Ok-reach.ensures.asking
          (asks_directly to address m for c.in-Ok.ensures.found.0 fate (world_of b) (world_of d) c.meet.result c.in-Ok-reach.ensures.sent c.meet.ensures.met (calm quiet)),
    ))

pub returns-in-Surrogate-clause-kept : goal.returns-in-Surrogate-clause-kept
returns-in-Surrogate-clause-kept c =
    let to = c.args.to in
    let address = c.args.address.now in
    let m = c.in-Ok.request in
    let a : Wire = c.args.self.now in
    let b : Wire = c.reach.new.self in
    let d : Wire = c.lose.new.self in
    let once = lost_once to address m (world_of b) (world_of d) c.lose.result c.in-Ok-reach.ensures.sent c.lose.ensures.met in
    let counted : d.troubles ≡ troubles_after LoseRequest c.lose.result a.troubles =
    c.lose.ensures.troubles ∙ ap (troubles_after LoseRequest c.lose.result) c.in-Ok-reach.ensures.troubles in
    spent to address m a d (taken_of a.fates) (takes_left a d (c.lose.ensures.fates ∙ c.in-Ok-reach.ensures.left))
    (omega (arith, c.lose.ensures.later, c.in-Ok-reach.ensures.troubles)) c.lose.result
    (asks_on to address m (world_of a) (world_of b) (world_of d) c.lose.result c.in-Ok-reach.ensures.asking once)
    (λ quiet want. counted ∙ want_after LoseRequest c.lose.result a.troubles want)
    (λ quiet served. absurd (not_the_server (sym c.in-Surrogate.is ∙ served)))
