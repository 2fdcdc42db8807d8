-- What a delivery makes of the world, late or injected.
use Rattle.std.proofs.Common.{◌≡◌, Bool, true, false, [], ◌∷◌, ◌++◌, Option, Some, Result, Ok, Err, OnOk, refl, sym, ◌∙◌, ap, subst}
use Rattle.std.specs.Prelude.{if◌then◌else◌}
use Rattle.byte_fields.proofs.Facts.{eq_holds, eq_fails}
use Rattle.tree_values.specs.Lists.{IsIn}
use Rattle.wire_frames.specs.declared.message.Message.{Message}
use Rattle.wire_frames.specs.declared.message.Message.TheVariants.{Store, Pull}
use Rattle.wire_frames.specs.declared.message.FrameError.{FrameError}
use Rattle.wire_frames.specs.Frame.{client_of, IsValid}
use Rattle.world_rules.specs.Served.{answer}
use Rattle.world_rules.specs.World.{World, IsForServer, sent, delivered}
use Rattle.server_core.specs.Holding.{served}
use Rattle.mem_wires.specs.Wire.{Wire, world_of}
use Rattle.mem_wires.specs.Fates.{delivered_late, injected}
use Rattle.mem_wires.specs.Underway.{MovedFree, IsSent, is_store}
use Rattle.world_rules.proofs.Asks.{IsIn-last}
use Rattle.mem_wires.proofs.Steps.{free_none, free_as, free_then, free_handled, free_other, is_sent, sent_then}

-- ---- a message joins the packets

pub world-sent : (m : Message) (a d : Wire) → d ≡ record a { packets = a.packets ++ m ∷ [] } → world_of d ≡ sent m (world_of a)
world-sent m a d sending = ap world_of sending

pub sent_among : (m : Message) (a d : Wire) → d ≡ record a { packets = a.packets ++ m ∷ [] } → IsIn m d.packets
sent_among m a d sending = subst (λ (n : Wire). IsIn m n.packets) (sym sending) (IsIn-last m a.packets)

-- a request was handled, and its answer joined the packets
pub world-answered : (m reply : Message) (a b d : Wire) → world_of b ≡ delivered m false (world_of a) → reply ≡ answer m (served a.server) → d ≡ record b { packets = b.packets ++ reply ∷ [] }
    → world_of d ≡ delivered m true (world_of a)
world-answered m reply a b d first is joining =
    ap world_of joining ∙ ap (sent reply) first ∙ ap (λ (r : Message). sent r (delivered m false (world_of a))) is

pub moved-handled : (m : Message) (a b : Wire) → IsForServer m → IsIn m a.packets → world_of b ≡ delivered m false (world_of a) → MovedFree (world_of a) (world_of b)
moved-handled m a b for among is = free_as (world_of a) (delivered m false (world_of a)) (world_of b) (free_handled m (world_of a) for among) is

pub moved-same : (a d : Wire) → d ≡ a → MovedFree (world_of a) (world_of d)
moved-same a d same = free_as (world_of a) (world_of a) (world_of d) (free_none (world_of a)) (ap world_of same)

-- ---- a late packet

late_some : (m : Message) (w : World) → IsForServer m → delivered m true w ≡ delivered_late (Some m) w
late_some (Store client number parts) w for = refl
late_some (Pull client number) w for = refl
late_some _ w for = absurd for

-- a packet that is a request was delivered
pub late-delivered : (m : Message) (found : Option Message) (w : World) → found ≡ Some m → IsForServer m → delivered m true w ≡ delivered_late found w
late-delivered m found w is for = late_some m w for ∙ sym (ap (λ (o : Option Message). delivered_late o w) is)

-- ---- an injected message

inject_store : (m : Message) (w : World) → is_store m ≡ true → (client_of m ≡ w.client → ⊥) → delivered m true (sent m w) ≡ injected (Ok m) w
inject_store (Store client number parts) w is other =
    let m = Store client number parts in
    sym (ap (λ (b : Bool). if b then w else delivered m true (sent m w)) (eq_fails client w.client other))
inject_store _ w is other = absurd (cc)

inject_own : (m : Message) (w : World) → client_of m ≡ w.client → w ≡ injected (Ok m) w
inject_own (Store client number parts) w is =
    let m = Store client number parts in
    sym (ap (λ (b : Bool). if b then w else delivered m true (sent m w)) (eq_holds client w.client is))
inject_own _ w is = refl

inject_other : (m : Message) (w : World) → is_store m ≡ false → w ≡ injected (Ok m) w
inject_other (Store client number parts) w is = absurd (cc)
inject_other _ w is = refl

module _ (found : Result Message FrameError) (w : World) where
  as_found : (r : Result Message FrameError) → found ≡ r → injected r w ≡ injected found w
  as_found r is = sym (ap (λ (o : Result Message FrameError). injected o w) is)

  -- another client's store was sent and delivered
  pub injected-store : (m : Message) → found ≡ Ok m → is_store m ≡ true → (client_of m ≡ w.client → ⊥) → delivered m true (sent m w) ≡ injected found w
  injected-store m is store other = inject_store m w store other ∙ as_found (Ok m) is

  pub injected-own : (m : Message) → found ≡ Ok m → client_of m ≡ w.client → w ≡ injected found w
  injected-own m is own = inject_own m w own ∙ as_found (Ok m) is

  pub injected-other : (m : Message) → found ≡ Ok m → is_store m ≡ false → w ≡ injected found w
  injected-other m is other = inject_other m w other ∙ as_found (Ok m) is

-- the moves of an injection, as far as it came
pub moved-injected : (m : Message) (a b d : Wire) → (client_of m ≡ a.client → ⊥) → IsValid m → b ≡ record a { packets = a.packets ++ m ∷ [] } → MovedFree (world_of b) (world_of d) → MovedFree (world_of a) (world_of d)
moved-injected m a b d other valid sending later =
    free_then (world_of a) (world_of b) (world_of d) (free_as (world_of a) (sent m (world_of a)) (world_of b) (free_other m (world_of a) other valid) (world-sent m a b sending)) later

-- ---- a request that is asked

pub always : {T E : Type 0} (result : Result T E) (fact : Type 0) → fact → OnOk result fact
always (Ok x) fact is = is
always (Err e) fact is = tt

-- the request was sent, and the world went on
pub was_sent : (m : Message) (a b : Wire) (d : World) → b ≡ record a { packets = a.packets ++ m ∷ [] } → MovedFree (world_of b) d → IsSent m (world_of a) d
was_sent m a b d sending later = sent_then m (world_of a) (world_of b) d (subst (λ (w : World). IsSent m (world_of a) w) (sym (world-sent m a b sending)) (is_sent m (world_of a))) later
