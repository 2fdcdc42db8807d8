use Rattle.std.proofs.Common.{arith}
use Rattle.client_core.specs.Inside.{IsLightEntry}
use Rattle.client_core.proofs.Firsts.{got_in, pending_store, store_valid}
use Rattle.client_core.proofs.Windows.{begun, found_all, found_full, found_room, found_light, joined}
use Rattle.client_core.proofs.window.window_count.Goals as goal

pub loop-count-init : goal.loop-count-init
loop-count-init c = record {
  few = omega arith;
  so_far = λ client low high.
      begun client c.args.route.now c.args.log.now.pending c.args.first.now c.room_beside-room.result c.requires.first
      (store_valid client c.args.log.now c.args.first.now low high c.requires.log c.requires.first).body_fits.each.0.0 c.room_beside-room.ensures.effects c.room_beside-room.ensures.content;
}

pub returns-in_default : goal.returns-in_default
returns-in_default c = λ client low high.
    found_all client c.args.route.now c.args.log.now.pending c.loop-count.count c.loop-count.room (c.loop-count.invariant.so_far client low high) c.loop-count.invariant.few c.in_default.ensures.entry

pub returns-in_default-room_behind : goal.returns-in_default-room_behind
returns-in_default-room_behind c = λ client low high.
    found_room client c.args.route.now c.args.log.now.pending c.loop-count.count c.loop-count.room (c.loop-count.invariant.so_far client low high) c.in-Some.entry.now c.loop-count.invariant.few c.in-Some.ensures.entry
    c.in_default-room_behind.ensures

pub is_light-requires : goal.is_light-requires
is_light-requires c = λ client low high.
    pending_store client c.args.log.now c.in-Some.entry.now low high c.requires.log (got_in c.args.log.now.pending c.loop-count.count c.in-Some.entry.now c.in-Some.ensures.entry)

pub returns-then-light : goal.returns-then-light
returns-then-light c = λ client low high.
    found_light client c.args.route.now c.args.log.now.pending c.loop-count.count c.loop-count.room (c.loop-count.invariant.so_far client low high) c.in-Some.entry.now c.loop-count.invariant.few c.in-Some.ensures.entry
    ((c.in_ok-light.ensures client low high).0 c.if-light.true)

pub loop-count-preserved : goal.loop-count-preserved
loop-count-preserved c = record {
  few = omega arith;
  so_far = λ client low high.
      joined client c.args.route.now c.args.log.now.pending c.loop-count.count c.loop-count.room (c.loop-count.invariant.so_far client low high) c.in-Some.entry.now c.in-Some-room_behind.left c.in-Some.ensures.entry
      c.in-Some-room_behind.ensures (λ (found : IsLightEntry client c.args.route.now c.in-Some.entry.now). absurd (cc (c.if-light.false, (c.in_ok-light.ensures client low high).1 found)));
}

pub returns : goal.returns
returns c = λ client low high.
    found_full client c.args.route.now c.args.log.now.pending c.loop-count.count c.loop-count.room (c.loop-count.invariant.so_far client low high) (omega arith)
