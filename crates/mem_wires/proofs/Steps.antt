-- The steps that wires in memory make, and what they make of an ask.
use Rattle.std.proofs.Common.{◌≡◌, inl, inr, ⊎_elim, ℕ, zero, suc, ◌≤◌, true, false, List, [], ◌∷◌, length, Some, Result, Ok, Err, Vec, IfOk, refl, sym, ◌∙◌, ap, subst, arith}
use Rattle.std.specs.Prelude.{slice_get}
use Rattle.std.specs.declared.alloc.Global.{Global}
use Rattle.outside.specs.Outside.{Rose}
use Rattle.tree_values.specs.Lists.{IsIn}
use Rattle.vol_tree.proofs.Behind.{IsIn-left}
use Rattle.wire_frames.specs.declared.message.Message.{Message}
use Rattle.wire_frames.specs.declared.message.FrameError.{FrameError}
use Rattle.wire_frames.specs.Frame.{IsValid, Spells, client_of}
use Rattle.world_rules.specs.declared.asking.Peer.{Peer}
use Rattle.world_rules.specs.declared.asking.Ask.{Ask}
use Rattle.world_rules.specs.declared.asking.Answer.{Answer}
use Rattle.world_rules.specs.declared.asking.Answer.TheVariants.{Reply, Failed, Memory}
use Rattle.world_rules.specs.declared.link.LinkError.{LinkError}
use Rattle.world_rules.specs.declared.link.LinkError.TheVariants.{Failed as LinkFailed, Memory as LinkMemory}
use Rattle.world_rules.specs.Served.{answer}
use Rattle.world_rules.specs.World.{World, Send, Deliver, Other, IsForServer, sent, delivered, Is, MovedBy, Moved}
use Rattle.world_rules.specs.Asking.{ask_of, AsksOnce, IsDirect, IsReplyTo}
use Rattle.world_rules.proofs.Asks.{IsIn-last, moved_by_then, moved_by_none, moved_by_step, moved_by_noted, sendings-then, sendings-step}
use Rattle.mem_wires.specs.declared.fate.Fate.{Fate}
use Rattle.mem_wires.specs.declared.fate.Fate.TheVariants.{Pass, LoseRequest, LoseReply, Twice, Old, Late, Inject, Stop}
use Rattle.mem_wires.specs.Fates.{answered, IsAnswered, IsAnsweredByOld, is_trouble, troubles_after}
use Rattle.mem_wires.specs.Underway.{MovedFree, IsSent, AsksSent, MeetsUnlessMemory}
use Rattle.mem_wires.proofs.Taking.{answer-echoes, rose_if}

-- the answer spells what the server answers at some moment after the request was sent
pub record IsFreshSent (to : Peer) (address : List ℕ) (request reply : Message) (old new : World) : Type 0 where
  pub moment : World
  pub before : MovedBy (Is request) [] old moment
  pub after : MovedBy (Is request) (ask_of to address request (Reply reply) ∷ []) moment new
  pub is : reply ≡ answer request moment.served

abbrev pub IsDirectlySent : Peer → List ℕ → Message → World → World → Result (Vec ℕ Global) LinkError → Type 0
IsDirectlySent to address request old new (Ok frame) =
    (reply : Message) × Spells reply frame.items × IsFreshSent to address request reply old new
IsDirectlySent to address request old new (Err error) = Unit {0}

-- the packet of a number is among the packets
pub got_in : (xs : List Message) (k : ℕ) (x : Message) → slice_get xs k ≡ Some x → IsIn x xs
got_in [] k x is = absurd (cc)
got_in (y ∷ xs) zero x is = inl (cc)
got_in (y ∷ xs) (suc k) x is = inr (got_in xs k x is)

-- ---- single steps, and steps in a row

pub is_sent : (m : Message) (w : World) → IsSent m w (sent m w)
is_sent m w = record { moves = moved_by_step (Is m) (Send m) w refl; sent = omega (arith, sendings-step (Is m) (Send m) w refl) }

pub free_delivered : (m : Message) (w : World) → IsForServer m → IsIn m w.packets → MovedFree w (delivered m true w)
free_delivered m w for among any = moved_by_step (Is any) (Deliver m true) w (for, among)

pub free_handled : (m : Message) (w : World) → IsForServer m → IsIn m w.packets → MovedFree w (delivered m false w)
free_handled m w for among any = moved_by_step (Is any) (Deliver m false) w (for, among)

pub free_other : (m : Message) (w : World) → (client_of m ≡ w.client → ⊥) → IsValid m → MovedFree w (sent m w)
free_other m w other valid any = moved_by_step (Is any) (Other m) w (other, valid)

pub free_none : (w : World) → MovedFree w w
free_none w any = moved_by_none (Is any) w

pub free_then : (a b c : World) → MovedFree a b → MovedFree b c → MovedFree a c
free_then a b c first second any = moved_by_then (Is any) [] [] a b c (first any) (second any)

-- the same, where the new world is given by an equation
pub free_as : (a b c : World) → MovedFree a b → c ≡ b → MovedFree a c
free_as a b c moves is = subst (λ (w : World). MovedFree a w) (sym is) moves

-- the request was sent, and the world went on
pub sent_then : (m : Message) (a b c : World) → IsSent m a b → MovedFree b c → IsSent m a c
sent_then m a b c first second = record {
  moves = moved_by_then (Is m) [] [] a b c first.moves (second m);
  sent = omega (arith, first.sent, sendings-then (Is m) [] [] a b c first.moves (second m));
}

-- moves after the request was sent, in which one ask was made at most
pub moved_sent : (m : Message) (made : List Ask) (a b c : World) → length made ≤ 1 → ((ask : Ask) → IsIn ask made → ask.request ≡ m) → IsSent m a b → MovedBy (Is m) made b c → Moved m made a c
moved_sent m made a b c few asked first second = record {
  moves = moved_by_then (Is m) [] made a b c first.moves second;
  asked = asked;
  sent = omega (arith, few, first.sent, sendings-then (Is m) [] made a b c first.moves second);
}

-- ---- what is noted of an ask

pub noted_ask : (to : Peer) (address : List ℕ) (m : Message) (answer : Answer) (a b d : World) → MovedBy (Is m) [] a b → d ≡ answered to address m answer b
    → MovedBy (Is m) (ask_of to address m answer ∷ []) a d
noted_ask to address m answer a b d moves is =
    let ask = ask_of to address m answer in
    subst (λ (w : World). MovedBy (Is m) (ask ∷ []) a w) (sym is) (moved_by_noted (Is m) [] ask a b moves)

module _ (to : Peer) (address : List ℕ) (m : Message) where
  asked_once : (answer : Answer) (ask : Ask) → IsIn ask (ask_of to address m answer ∷ []) → ask.request ≡ m
  asked_once answer ask (inl is) = ap (λ (a : Ask). a.request) is
  asked_once answer ask (inr among) = absurd among

  one_sent : (answer : Answer) (a b d : World) → IsSent m a b → MovedBy (Is m) (ask_of to address m answer ∷ []) b d → Moved m (ask_of to address m answer ∷ []) a d
  one_sent answer a b d first then = moved_sent m (ask_of to address m answer ∷ []) a b d (omega arith) (asked_once answer) first then

  -- an ask whose request was sent before
  pub asks_on : (a b d : World) (result : Result (Vec ℕ Global) LinkError) → IsSent m a b → AsksSent to address m b d result → AsksOnce to address m a d result
  asks_on a b d (Ok bytes) first then = (then.0, then.1, then.2, then.3, one_sent (Reply then.0) a b d first then.4)
  asks_on a b d (Err LinkFailed) first then = one_sent Failed a b d first then
  asks_on a b d (Err LinkMemory) first then =
      ⊎_elim (λ (one : _). inl (one_sent Memory a b d first one)) (λ (one : _). inr (moved_sent m [] a b d (omega arith) (λ ask among. absurd among) first one)) then

  pub directly_on : (a b d : World) (result : Result (Vec ℕ Global) LinkError) → IsSent m a b → IsDirectlySent to address m b d result → IsDirect to address m a d result
  directly_on a b d (Ok bytes) first then =
      let given = then.2 in (
        then.0,
        then.1,
        record {
          moment = given.moment;
          before = moved_by_then (Is m) [] [] a b given.moment first.moves given.before;
          after = given.after;
          sent = omega (arith, first.sent, sendings-then (Is m) [] [] a b given.moment first.moves given.before);
          is = given.is;
        },
      )
  directly_on a b d (Err e) first then = tt

  -- an ask after what was done for it
  pub asks_later : (a b d : World) (result : Result (Vec ℕ Global) LinkError) → MovedBy (Is m) [] a b → AsksSent to address m b d result → AsksSent to address m a d result
  asks_later a b d (Ok bytes) first then = (then.0, then.1, then.2, then.3, moved_by_then (Is m) [] _ a b d first then.4)
  asks_later a b d (Err LinkFailed) first then = moved_by_then (Is m) [] _ a b d first then
  asks_later a b d (Err LinkMemory) first then =
      ⊎_elim (λ (one : _). inl (moved_by_then (Is m) [] _ a b d first one)) (λ (one : _). inr (moved_by_then (Is m) [] [] a b d first one)) then

  directly_later : (a b d : World) (result : Result (Vec ℕ Global) LinkError) → MovedBy (Is m) [] a b → IsDirectlySent to address m b d result → IsDirectlySent to address m a d result
  directly_later a b d (Ok bytes) first then =
      (then.0, then.1, record { moment = then.2.moment; before = moved_by_then (Is m) [] [] a b then.2.moment first then.2.before; after = then.2.after; is = then.2.is })
  directly_later a b d (Err e) first then = tt

  -- an ask that is lost
  pub lost_once : (a d : World) (result : Result (Vec ℕ Global) LinkError) → IsIn m a.packets
      → MeetsUnlessMemory LoseRequest to address m a d result → AsksSent to address m a d result
  lost_once a d (Ok bytes) among met = absurd met
  lost_once a d (Err LinkFailed) among met = noted_ask to address m Failed a a d (moved_by_none (Is m) a) met
  lost_once a d (Err LinkMemory) among met = met

module _ (to : Peer) (address : List ℕ) (m : Message) (for : IsForServer m) (valid : IsValid m) where
  -- a request that was handled is answered
  once-answered : (bytes : Vec ℕ Global) (a d : World) → IsIn m a.packets → IsAnswered to address m a d bytes.items → AsksSent to address m a d (Ok bytes)
  once-answered bytes a d among is =
      let reply = answer m a.served in (
        reply,
        is.0,
        answer-echoes m a.served for valid,
        subst (λ (w : World). IsIn reply w.packets) (sym is.1) (IsIn-last reply a.packets),
        noted_ask to address m (Reply reply) a (delivered m true a) d (free_delivered m a for among m) is.1,
      )

  once-old : (k : ℕ) (bytes : Vec ℕ Global) (a d : World) → IsIn m a.packets → IsAnsweredByOld k to address m a d bytes.items → AsksSent to address m a d (Ok bytes)
  once-old k bytes a d among is =
      let reply = is.0 in (
        reply,
        is.3,
        is.2,
        subst (λ (w : World). IsIn reply w.packets) (sym is.4) (got_in a.packets k reply is.1),
        noted_ask to address m (Reply reply) a a d (moved_by_none (Is m) a) is.4,
      )

  direct-answered : (bytes : Vec ℕ Global) (a d : World) → IsIn m a.packets → IsAnswered to address m a d bytes.items → IsDirectlySent to address m a d (Ok bytes)
  direct-answered bytes a d among is =
      let reply = answer m a.served in (
        reply,
        is.0,
        record {
          moment = a;
          before = moved_by_none (Is m) a;
          after = noted_ask to address m (Reply reply) a (delivered m true a) d (free_delivered m a for among m) is.1;
          is = refl;
        },
      )

  -- what becomes of an ask by its fate is what an ask may do
  pub asks_once : (fate : Fate) (a d : World) (result : Result (Vec ℕ Global) LinkError) → IsIn m a.packets → MeetsUnlessMemory fate to address m a d result → AsksSent to address m a d result
  asks_once fate a d (Err LinkMemory) among met = met
  asks_once Pass a d (Ok bytes) among met = once-answered bytes a d among met
  asks_once Pass a d (Err LinkFailed) among met = absurd met
  asks_once Twice a d (Ok bytes) among met =
      asks_later to address m a (delivered m true a) d (Ok bytes) (free_delivered m a for among m) (once-answered bytes (delivered m true a) d (IsIn-left m a.packets _ among) met)
  asks_once Twice a d (Err LinkFailed) among met = absurd met
  asks_once LoseRequest a d (Ok bytes) among met = absurd met
  asks_once LoseRequest a d (Err LinkFailed) among met = lost_once to address m a d (Err LinkFailed) among met
  asks_once LoseReply a d (Ok bytes) among met = absurd met
  asks_once LoseReply a d (Err LinkFailed) among met = noted_ask to address m Failed a (delivered m true a) d (free_delivered m a for among m) met
  asks_once (Old k) a d (Ok bytes) among met = once-old k bytes a d among met
  asks_once (Old k) a d (Err LinkFailed) among met = noted_ask to address m Failed a a d (moved_by_none (Is m) a) met.1
  asks_once (Late k) a d (Ok bytes) among met = absurd met
  asks_once (Late k) a d (Err LinkFailed) among met = absurd met
  asks_once (Inject frame) a d (Ok bytes) among met = absurd met
  asks_once (Inject frame) a d (Err LinkFailed) among met = absurd met
  asks_once Stop a d (Ok bytes) among met = absurd met
  asks_once Stop a d (Err LinkFailed) among met = lost_once to address m a d (Err LinkFailed) among met

  -- where the fate is no trouble, the answer is the server's
  pub asks_directly : (fate : Fate) (a d : World) (result : Result (Vec ℕ Global) LinkError) → IsIn m a.packets → MeetsUnlessMemory fate to address m a d result
      → is_trouble fate ≡ false → IsDirectlySent to address m a d result
  asks_directly fate a d (Err e) among met quiet = tt
  asks_directly Pass a d (Ok bytes) among met quiet = direct-answered bytes a d among met
  asks_directly Twice a d (Ok bytes) among met quiet =
      directly_later to address m a (delivered m true a) d (Ok bytes) (free_delivered m a for among m) (direct-answered bytes (delivered m true a) d (IsIn-left m a.packets _ among) met)
  asks_directly LoseRequest a d (Ok bytes) among met quiet = absurd met
  asks_directly LoseReply a d (Ok bytes) among met quiet = absurd met
  asks_directly (Old k) a d (Ok bytes) among met quiet = absurd (cc)
  asks_directly (Late k) a d (Ok bytes) among met quiet = absurd met
  asks_directly (Inject frame) a d (Ok bytes) among met quiet = absurd met
  asks_directly Stop a d (Ok bytes) among met quiet = absurd met

  -- and where the troubles did not rise
  pub calm_directly : (fate : Fate) (a d : World) (before : ℕ) (result : Result (Vec ℕ Global) LinkError) → IsIn m a.packets → MeetsUnlessMemory fate to address m a d result
      → (Rose before (troubles_after fate result before) → ⊥) → IsDirectlySent to address m a d result
  calm_directly fate a d before (Err e) among met calm = tt
  calm_directly fate a d before (Ok bytes) among met calm = asks_directly fate a d (Ok bytes) among met (rose_if (is_trouble fate) before calm)

-- after a first delivery
module _ (to : Peer) (address : List ℕ) (m : Message) (a b d : World) (for : IsForServer m) (among : IsIn m a.packets) (is : b ≡ delivered m true a) where
  first_delivery : MovedBy (Is m) [] a b
  first_delivery = subst (λ (w : World). MovedBy (Is m) [] a w) (sym is) (free_delivered m a for among m)

  pub delivered-among : IsIn m b.packets
  delivered-among = subst (λ (w : World). IsIn m w.packets) (sym is) (IsIn-left m a.packets _ among)

  pub met-lost-reply : (result : Result (Vec ℕ Global) LinkError) → MeetsUnlessMemory LoseRequest to address m b d result → MeetsUnlessMemory LoseReply to address m a d result
  met-lost-reply (Ok bytes) met = absurd met
  met-lost-reply (Err LinkFailed) met = met ∙ ap (answered to address m Failed) is
  met-lost-reply (Err LinkMemory) met = asks_later to address m a b d (Err LinkMemory) first_delivery met

  pub met-twice : (result : Result (Vec ℕ Global) LinkError) → MeetsUnlessMemory Pass to address m b d result → MeetsUnlessMemory Twice to address m a d result
  met-twice (Ok bytes) met = subst (λ (w : World). IsAnswered to address m w d bytes.items) is met
  met-twice (Err LinkFailed) met = absurd met
  met-twice (Err LinkMemory) met = asks_later to address m a b d (Err LinkMemory) first_delivery met

-- an answer is a reply to its request
pub replied : (to : Peer) (address : List ℕ) (m : Message) (a d : World) (result : Result (Vec ℕ Global) LinkError) → AsksSent to address m a d result → IfOk result (λ bytes. IsReplyTo m bytes.items)
replied to address m a d (Ok bytes) once = (once.0, once.1, once.2)
replied to address m a d (Err e) once = tt

-- what was read is the request that the frame spells
pub same_request : (read request : Message) → ◌≡◌ {A = Result Message FrameError} (Ok request) (Ok read) → request ≡ read
same_request read request is = cc
