use Rattle.std.proofs.Common.{List, ℕ, is_some, sym, subst}
use Rattle.wire_frames.specs.declared.message.Message.TheVariants.{Store}
use Rattle.wire_frames.specs.declared.parts.Part.{Part}
use Rattle.wire_frames.specs.Frame.{IsValid}
use Rattle.world_rules.specs.declared.asking.Peer.TheVariants.{Server}
use Rattle.world_rules.specs.Telling.{LinkTelling}
use Rattle.world_rules.specs.Settling.{Settled}
use Rattle.world_rules.proofs.Sending.{sent_valid}
use Rattle.client_core.specs.Syncing.{store_of}
use Rattle.client_core.proofs.Firsts.{may_send}
use Rattle.client_core.proofs.Ships.{settled_window}
use Rattle.client_core.proofs.shipping.settle_window.Goals as goal

pub settle-settled-requires-clause-valid : goal.settle-settled-requires-clause-valid
settle-settled-requires-clause-valid g c =
    let client = c.args.client in
    let route = c.args.route.now in
    let log = c.args.log.now in
    let entry = c.args.entry.now in
    let found = c.in_ok-entries.ensures in
    subst (λ (parts : List Part). IsValid (Store client entry.seq parts)) (sym found.2)
    (sent_valid client (is_some route.surrogate) log (store_of client entry.seq found.0) c.requires.own_number.0 c.requires.own_number.1 c.requires.log
    (may_send client (is_some route.surrogate) route log entry found.0 c.requires.log c.requires.first found.1))

pub returns-clause-settled : goal.returns-clause-settled
returns-clause-settled g c =
    let client = c.args.client in
    let route = c.args.route.now in
    let log = c.args.log.now in
    let entry = c.args.entry.now in
    let found = c.in_ok-entries.ensures in
    let came = c.settle-settled.result in
    let t : LinkTelling = g.L.Link.tells c.args.link.now in
    let u : LinkTelling = g.L.Link.tells c.settle-settled.new.link in
    let done : Settled Server route.server (store_of client entry.seq found.0) t u came =
    subst (λ (a : List ℕ). Settled Server a (store_of client entry.seq found.0) t u came) c.bytes.ensures.value
    (subst (λ (parts : List Part). Settled Server c.bytes.result.now (Store client entry.seq parts) t u came) found.2 c.settle-settled.ensures.settled) in
    settled_window client route log entry found.0 found.1 came t u c.requires.log c.requires.first done
