use Rattle.std.proofs.Common.{Bool, Ok, subst}
use Rattle.world_rules.specs.Telling.{LinkTelling}
use Rattle.client_core.specs.Syncing.{StoreIsDue}
use Rattle.client_core.specs.Inside.{AskedFor, OperatesTo}
use Rattle.client_core.proofs.Ships.{stored}
use Rattle.client_core.proofs.shipping.ship.Goals as goal

pub returns-in-Ok-false-clause-shipped : goal.returns-in-Ok-false-clause-shipped
returns-in-Ok-false-clause-shipped g c =
    let client = c.args.client in
    let route = c.args.route.now in
    let log = c.args.log.now in
    let entry = c.args.entry.now in
    let t : LinkTelling = g.L.Link.tells c.args.link.now in
    let u : LinkTelling = g.L.Link.tells c.operate.new.link in
    let due : AskedFor client route log (StoreIsDue client route entry) t u =
    subst (λ (b : Bool). AskedFor client route log (OperatesTo client route log.pending entry (Ok b)) t u) c.in-Ok-false.field-0-test c.in-Ok-false.ensures.operated in
    stored client route log entry c.settle_window.result t u (g.L.Link.tells c.settle_window.new.link) due c.settle_window.ensures.settled
