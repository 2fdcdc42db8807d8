use Rattle.std.proofs.Common.{◌≡◌, ◌≢◌, inl, ℕ, Ok, Err, Some, None, Option, IfSome, [], refl, sym, subst, arith}
use Rattle.wire_frames.specs.declared.message.Message.{Message}
use Rattle.wire_frames.specs.declared.message.Message.TheVariants.{Pull, Snapshot}
use Rattle.wire_frames.specs.Frame.{IsValid, Echoes}
use Rattle.world_rules.specs.declared.asking.Peer.TheVariants.{Server}
use Rattle.world_rules.specs.InStep.{InStep}
use Rattle.world_rules.specs.Telling.{LinkTelling, ToldWorlds, IsCalm}
use Rattle.world_rules.specs.Settling.{Settled, IsFreshReply}
use Rattle.world_rules.proofs.Asks.{told_as}
use Rattle.world_rules.proofs.Settled.{settled_echoes, settled_troubles}
use Rattle.client_core.specs.declared.pulling.PullEnd.TheVariants.{Unanswered, Memory}
use Rattle.client_core.specs.Pulling.{pull_of}
use Rattle.client_core.specs.Honest.{IsNotOlder}
use Rattle.client_core.specs.Inside.{end_of}
use Rattle.client_core.proofs.Pulls.{none_pending, some_pending, pull_valid, pull_waits, pull_unanswered, pull_breaks, pull_met, pull_cause, pull_leaves, never_older, not_older, found_snapshot, found_none}
use Rattle.client_core.proofs.pulling.pull_log.Goals as goal

pub returns-then-pending-gt0-clause-did : goal.returns-then-pending-gt0-clause-did
returns-then-pending-gt0-clause-did g c = λ images keeps.
    let before = c.args.log.now in
    let some : before.pending ≢ [] = some_pending before.pending (omega (arith, c.if-pending-gt0.true, c.pending-pending.ensures.count)) in
    pull_waits c.args.client c.args.route.now before images keeps c.pending-pending.result some c.pending-pending.ensures.count (g.L.Link.tells c.args.link.now)

pub returns-then-pending-gt0-clause-cause : goal.returns-then-pending-gt0-clause-cause
returns-then-pending-gt0-clause-cause g c = λ faults now.
    (some_pending c.args.log.now.pending (omega (arith, c.if-pending-gt0.true, c.pending-pending.ensures.count)), c.pending-pending.ensures.count, refl)

pub settle_pull-requires : goal.settle_pull-requires
settle_pull-requires g c =
    let before = c.args.log.now in
    let none = none_pending before.pending (omega (arith, c.if-pending-gt0.false, c.pending-pending.ensures.count)) in
    subst (λ (n : ℕ). IsValid (Pull c.args.client n)) (sym c.acked.ensures.acked) (pull_valid c.args.client before c.requires.low c.requires.high c.acked.ensures.log none)

pub take_snapshot-requires : goal.take_snapshot-requires
take_snapshot-requires g c =
    none_pending c.args.log.now.pending (omega (arith, c.if-pending-gt0.false, c.pending-pending.ensures.count))

pub returns-in-Err-clause-did : goal.returns-in-Err-clause-did
returns-in-Err-clause-did g c = λ images keeps.
    let client = c.args.client in
    let route = c.args.route.now in
    let before = c.args.log.now in
    let t : LinkTelling = g.L.Link.tells c.args.link.now in
    let u : LinkTelling = g.L.Link.tells c.settle_pull.new.link in
    let none = none_pending before.pending (omega (arith, c.if-pending-gt0.false, c.pending-pending.ensures.count)) in
    let done : Settled Server route.server (pull_of client before) t u (Err c.in-Err._refused) = subst (λ (n : ℕ). Settled Server route.server (Pull client n) t u (Err c.in-Err._refused)) c.acked.ensures.acked c.in-Err.ensures.settled in
    pull_breaks client route before images keeps none t u c.in-Err._refused done

pub returns-in-Err-clause-cause : goal.returns-in-Err-clause-cause
returns-in-Err-clause-cause g c = λ faults now.
    (none_pending c.args.log.now.pending (omega (arith, c.if-pending-gt0.false, c.pending-pending.ensures.count)), inl refl)

pub returns-in-Err-clause-fresh : goal.returns-in-Err-clause-fresh
returns-in-Err-clause-fresh g c = λ calm.
    let client = c.args.client in
    let route = c.args.route.now in
    let before = c.args.log.now in
    let t : LinkTelling = g.L.Link.tells c.args.link.now in
    let u : LinkTelling = g.L.Link.tells c.settle_pull.new.link in
    let done : Settled Server route.server (pull_of client before) t u (Err c.in-Err._refused) = subst (λ (n : ℕ). Settled Server route.server (Pull client n) t u (Err c.in-Err._refused)) c.acked.ensures.acked c.in-Err.ensures.settled in
    not_older client before t.world u.world _ Memory (λ path theirs ours is. absurd (cc)) done.told

pub returns-in-Some-clause-did : goal.returns-in-Some-clause-did
returns-in-Some-clause-did g c = λ images keeps.
    let client = c.args.client in
    let route = c.args.route.now in
    let before = c.args.log.now in
    let t : LinkTelling = g.L.Link.tells c.args.link.now in
    let u : LinkTelling = g.L.Link.tells c.settle_pull.new.link in
    let none = none_pending before.pending (omega (arith, c.if-pending-gt0.false, c.pending-pending.ensures.count)) in
    let done : Settled Server route.server (pull_of client before) t u (Ok c.in-Ok.reply) = subst (λ (n : ℕ). Settled Server route.server (Pull client n) t u (Ok c.in-Ok.reply)) c.acked.ensures.acked c.in-Ok.ensures.settled in
    let told = settled_echoes Server route.server (pull_of client before) t u c.in-Ok.reply done in
    let last = c.in-Some.last in
    let seen = c.in-Some.rows in
    let end = c.take_snapshot.result in
    let after = c.take_snapshot.new.log in
    let is : c.in-Ok.reply ≡ Some (Snapshot client before.acked last seen) = found_snapshot client before.acked c.in-Ok.reply last seen told c.in-Some.ensures in
    let direct : IsCalm t u → ToldWorlds t u (λ x y. IsFreshReply (pull_of client before) x y (Snapshot client before.acked last seen)) = λ calm.
    told_as t.world u.world (λ x y. IfSome c.in-Ok.reply (IsFreshReply (Pull client c.acked.result) x y)) (λ x y. IsFreshReply (pull_of client before) x y (Snapshot client before.acked last seen)) (c.in-Ok.ensures.direct calm)
    (λ x y fresh. subst (λ (r : Option Message). IfSome r (IsFreshReply (pull_of client before) x y)) is (subst (λ (n : ℕ). IfSome c.in-Ok.reply (IsFreshReply (Pull client n) x y)) c.acked.ensures.acked fresh)) in
    pull_met client route before images keeps none t u last seen (subst (λ (r : Option Message). Settled Server route.server (pull_of client before) t u (Ok r)) is done) direct end after c.take_snapshot.ensures

pub returns-in-Some-clause-cause : goal.returns-in-Some-clause-cause
returns-in-Some-clause-cause g c = λ faults now.
    let client = c.args.client in
    let route = c.args.route.now in
    let before = c.args.log.now in
    let t : LinkTelling = g.L.Link.tells c.args.link.now in
    let u : LinkTelling = g.L.Link.tells c.settle_pull.new.link in
    let none = none_pending before.pending (omega (arith, c.if-pending-gt0.false, c.pending-pending.ensures.count)) in
    let done : Settled Server route.server (pull_of client before) t u (Ok c.in-Ok.reply) = subst (λ (n : ℕ). Settled Server route.server (Pull client n) t u (Ok c.in-Ok.reply)) c.acked.ensures.acked c.in-Ok.ensures.settled in
    let told = settled_echoes Server route.server (pull_of client before) t u c.in-Ok.reply done in
    let last = c.in-Some.last in
    let seen = c.in-Some.rows in
    let end = c.take_snapshot.result in
    let after = c.take_snapshot.new.log in
    let is : c.in-Ok.reply ≡ Some (Snapshot client before.acked last seen) = found_snapshot client before.acked c.in-Ok.reply last seen told c.in-Some.ensures in
    let valid = subst (λ (r : Option Message). IfSome r (λ (m : Message). IsValid m × Echoes (pull_of client before) m)) is told in
    pull_cause before t.troubles u.troubles faults now none last seen valid.0.body_fits.1 end after c.take_snapshot.ensures

pub returns-in-Some-clause-fresh : goal.returns-in-Some-clause-fresh
returns-in-Some-clause-fresh g c = λ calm.
    let client = c.args.client in
    let route = c.args.route.now in
    let before = c.args.log.now in
    let t : LinkTelling = g.L.Link.tells c.args.link.now in
    let u : LinkTelling = g.L.Link.tells c.settle_pull.new.link in
    let none = none_pending before.pending (omega (arith, c.if-pending-gt0.false, c.pending-pending.ensures.count)) in
    let done : Settled Server route.server (pull_of client before) t u (Ok c.in-Ok.reply) = subst (λ (n : ℕ). Settled Server route.server (Pull client n) t u (Ok c.in-Ok.reply)) c.acked.ensures.acked c.in-Ok.ensures.settled in
    let told = settled_echoes Server route.server (pull_of client before) t u c.in-Ok.reply done in
    let last = c.in-Some.last in
    let seen = c.in-Some.rows in
    let end = c.take_snapshot.result in
    let after = c.take_snapshot.new.log in
    let is : c.in-Ok.reply ≡ Some (Snapshot client before.acked last seen) = found_snapshot client before.acked c.in-Ok.reply last seen told c.in-Some.ensures in
    told_as t.world u.world (λ x y. IfSome c.in-Ok.reply (IsFreshReply (Pull client c.acked.result) x y)) (λ x y. InStep client before x → IsNotOlder (end_of end))
    (c.in-Ok.ensures.direct calm)
    (λ x y fresh now. never_older client before none last seen x y
    (subst (λ (r : Option Message). IfSome r (IsFreshReply (pull_of client before) x y)) is (subst (λ (n : ℕ). IfSome c.in-Ok.reply (IsFreshReply (Pull client n) x y)) c.acked.ensures.acked fresh))
    now end after c.take_snapshot.ensures)

pub returns-in-Some-clause-leaves : goal.returns-in-Some-clause-leaves
returns-in-Some-clause-leaves g c =
    let client = c.args.client in
    let route = c.args.route.now in
    let before = c.args.log.now in
    let t : LinkTelling = g.L.Link.tells c.args.link.now in
    let u : LinkTelling = g.L.Link.tells c.settle_pull.new.link in
    let none = none_pending before.pending (omega (arith, c.if-pending-gt0.false, c.pending-pending.ensures.count)) in
    let done : Settled Server route.server (pull_of client before) t u (Ok c.in-Ok.reply) = subst (λ (n : ℕ). Settled Server route.server (Pull client n) t u (Ok c.in-Ok.reply)) c.acked.ensures.acked c.in-Ok.ensures.settled in
    let told = settled_echoes Server route.server (pull_of client before) t u c.in-Ok.reply done in
    let last = c.in-Some.last in
    let seen = c.in-Some.rows in
    let end = c.take_snapshot.result in
    let after = c.take_snapshot.new.log in
    let is : c.in-Ok.reply ≡ Some (Snapshot client before.acked last seen) = found_snapshot client before.acked c.in-Ok.reply last seen told c.in-Some.ensures in
    let valid = subst (λ (r : Option Message). IfSome r (λ (m : Message). IsValid m × Echoes (pull_of client before) m)) is told in
    pull_leaves before none last seen valid.0.body_fits.1 end after c.take_snapshot.ensures

pub returns-in-None-clause-did : goal.returns-in-None-clause-did
returns-in-None-clause-did g c = λ images keeps.
    let client = c.args.client in
    let route = c.args.route.now in
    let before = c.args.log.now in
    let t : LinkTelling = g.L.Link.tells c.args.link.now in
    let u : LinkTelling = g.L.Link.tells c.settle_pull.new.link in
    let none = none_pending before.pending (omega (arith, c.if-pending-gt0.false, c.pending-pending.ensures.count)) in
    let done : Settled Server route.server (pull_of client before) t u (Ok c.in-Ok.reply) = subst (λ (n : ℕ). Settled Server route.server (Pull client n) t u (Ok c.in-Ok.reply)) c.acked.ensures.acked c.in-Ok.ensures.settled in
    let told = settled_echoes Server route.server (pull_of client before) t u c.in-Ok.reply done in
    let is : c.in-Ok.reply ≡ None = found_none client before.acked c.in-Ok.reply told c.in-None.ensures in
    pull_unanswered client route before images keeps none t u (subst (λ (r : Option Message). Settled Server route.server (pull_of client before) t u (Ok r)) is done)

pub returns-in-None-clause-cause : goal.returns-in-None-clause-cause
returns-in-None-clause-cause g c = λ faults now.
    let client = c.args.client in
    let route = c.args.route.now in
    let before = c.args.log.now in
    let t : LinkTelling = g.L.Link.tells c.args.link.now in
    let u : LinkTelling = g.L.Link.tells c.settle_pull.new.link in
    let none = none_pending before.pending (omega (arith, c.if-pending-gt0.false, c.pending-pending.ensures.count)) in
    let done : Settled Server route.server (pull_of client before) t u (Ok c.in-Ok.reply) = subst (λ (n : ℕ). Settled Server route.server (Pull client n) t u (Ok c.in-Ok.reply)) c.acked.ensures.acked c.in-Ok.ensures.settled in
    let told = settled_echoes Server route.server (pull_of client before) t u c.in-Ok.reply done in
    let is : c.in-Ok.reply ≡ None = found_none client before.acked c.in-Ok.reply told c.in-None.ensures in
    (none, refl, settled_troubles Server route.server (pull_of client before) t u c.in-Ok.reply done is)

pub returns-in-None-clause-fresh : goal.returns-in-None-clause-fresh
returns-in-None-clause-fresh g c = λ calm.
    let client = c.args.client in
    let route = c.args.route.now in
    let before = c.args.log.now in
    let t : LinkTelling = g.L.Link.tells c.args.link.now in
    let u : LinkTelling = g.L.Link.tells c.settle_pull.new.link in
    let done : Settled Server route.server (pull_of client before) t u (Ok c.in-Ok.reply) = subst (λ (n : ℕ). Settled Server route.server (Pull client n) t u (Ok c.in-Ok.reply)) c.acked.ensures.acked c.in-Ok.ensures.settled in
    let told = settled_echoes Server route.server (pull_of client before) t u c.in-Ok.reply done in
    not_older client before t.world u.world _ Unanswered (λ path theirs ours is. absurd (cc)) done.told
