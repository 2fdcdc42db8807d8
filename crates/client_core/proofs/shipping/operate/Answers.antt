use Rattle.std.proofs.Common.{List, ℕ, Result, Ok, Bool, false, sym, subst}
use Rattle.std.specs.declared.alloc.AllocError.{AllocError}
use Rattle.mod_log.proofs.Sketches.{short_contents}
use Rattle.wire_frames.specs.declared.message.Message.TheVariants.{Operate}
use Rattle.world_rules.specs.declared.asking.Peer.TheVariants.{Surrogate}
use Rattle.world_rules.specs.Telling.{LinkTelling}
use Rattle.world_rules.specs.Settling.{Settled}
use Rattle.world_rules.proofs.Sending.{operation_valid}
use Rattle.client_core.specs.Syncing.{IsLight}
use Rattle.client_core.specs.Inside.{AskedFor, OperatesTo, IsLightEntry}
use Rattle.client_core.proofs.Firsts.{first_in, store_valid}
use Rattle.client_core.proofs.Ships.{asked_none, operated}
use Rattle.client_core.proofs.Sketching.{light_so, heavy_due}
use Rattle.client_core.proofs.shipping.operate.Goals as goal

pub is_light-requires : goal.is_light-requires
is_light-requires g c = λ client low high. store_valid client c.args.log.now c.args.entry.now low high c.requires.log c.requires.first

pub returns-then-not-light-clause-operated : goal.returns-then-not-light-clause-operated
returns-then-not-light-clause-operated g c =
    let client = c.args.client in
    let route = c.args.route.now in
    let log = c.args.log.now in
    let entry = c.args.entry.now in
    asked_none client route log (OperatesTo client route log.pending entry (Ok false)) (g.L.Link.tells c.args.link.now)
    (heavy_due client route entry (λ (light : IsLightEntry client route entry). absurd (cc (c.if-not-light.true, (c.in_ok-light.ensures client c.requires.own_number.0 c.requires.own_number.1).1 light))))

pub sketch_entry-requires-clause-sizes : goal.sketch_entry-requires-clause-sizes
sketch_entry-requires-clause-sizes g c =
    let valid = store_valid c.args.client c.args.log.now c.args.entry.now c.requires.own_number.0 c.requires.own_number.1 c.requires.log c.requires.first in
    short_contents c.args.entry.now.effects valid.body_fits.each.0.0.each

pub settle_operation-requires-clause-valid : goal.settle_operation-requires-clause-valid
settle_operation-requires-clause-valid g c =
    let log = c.args.log.now in
    let entry = c.args.entry.now in
    operation_valid c.args.client c.requires.own_number.0 c.requires.own_number.1 log entry c.in_ok-sketched.sketched c.requires.log (first_in log.pending entry c.requires.first) c.in_ok-sketched.ensures

pub returns-clause-operated : goal.returns-clause-operated
returns-clause-operated g c =
    let client = c.args.client in
    let route = c.args.route.now in
    let log = c.args.log.now in
    let entry = c.args.entry.now in
    let address = c.in-Some.address in
    let sketched = c.in_ok-sketched.sketched in
    let t : LinkTelling = g.L.Link.tells c.args.link.now in
    let u : LinkTelling = g.L.Link.tells c.settle_operation.new.link in
    let found : IsLightEntry client route entry = (c.in_ok-light.ensures client c.requires.own_number.0 c.requires.own_number.1).0 c.if-not-light.false in
    let light : IsLight client route entry address sketched = light_so client route entry address sketched c.in-Some.is c.in_ok-sketched.ensures found in
    let told = c.settle_operation.ensures.settled in
    let done : Settled Surrogate address (Operate client sketched) t u told.0 =
    subst (λ (a : List ℕ). Settled Surrogate a (Operate client sketched) t u told.0) c.bytes.ensures.value told.1 in
    subst (λ (r : Result Bool AllocError). AskedFor client route log (OperatesTo client route log.pending entry r) t u) (sym told.2)
    (operated client route log entry address sketched light told.0 t u c.requires.log c.requires.first done)
