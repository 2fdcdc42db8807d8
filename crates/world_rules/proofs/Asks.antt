-- How moves of the world and asks follow one another.
use Rattle.std.proofs.Common.{◌≡◌, ◌≢◌, ◌⊎◌, inl, inr, ⊎_elim, ◌+◌, ◌≤◌, true, false, List, [], ◌∷◌, ◌++◌, Option, None, Some, refl, sym, ◌∙◌, ap, subst, arith, append_assoc, length-append}
use Rattle.std.proofs.lemmas.List.{append-nil}
use Rattle.outside.specs.Outside.{Told}
use Rattle.tree_values.specs.Lists.{IsIn}
use Rattle.vol_tree.proofs.Behind.{IsIn-left}
use Rattle.wire_frames.specs.declared.message.Message.{Message}
use Rattle.world_rules.specs.declared.asking.Ask.{Ask}
use Rattle.world_rules.specs.declared.asking.Answer.{Answer}
use Rattle.world_rules.specs.declared.asking.Answer.TheVariants.{Reply, Failed, Memory}
use Rattle.world_rules.specs.World.{World, Step, Send, Deliver, Other, Relay, sent, delivered, noted, happens, happen, IsAllowed, AreAllowed, Is, MovedBy, sendings_in, sendings, Moved}
use Rattle.world_rules.specs.Asking.{ReplyStands, AnswersStand}

-- ---- what is among two lists in a row

pub IsIn-push : {X : Type 0} (x y : X) (xs : List X) → IsIn x (xs ++ y ∷ []) → IsIn x xs ⊎ (x ≡ y)
IsIn-push x y [] (inl is) = inr is
IsIn-push x y [] (inr among) = absurd among
IsIn-push x y (z ∷ xs) (inl is) = inl (inl is)
IsIn-push x y (z ∷ xs) (inr among) = ⊎_elim (λ old. inl (inr old)) (λ is. inr is) (IsIn-push x y xs among)

pub IsIn-last : {X : Type 0} (x : X) (xs : List X) → IsIn x (xs ++ x ∷ [])
IsIn-last x [] = inl refl
IsIn-last x (y ∷ xs) = inr (IsIn-last x xs)

pub in_either : {X : Type 0} (x : X) (xs ys : List X) → IsIn x (xs ++ ys) → IsIn x xs ⊎ IsIn x ys
in_either x [] ys among = inr among
in_either x (y ∷ xs) ys (inl is) = inl (inl is)
in_either x (y ∷ xs) ys (inr among) = ⊎_elim (λ first. inl (inr first)) (λ second. inr second) (in_either x xs ys among)

-- ---- steps in a row

pub happen-append : (before after : List Step) (world : World) → happen (before ++ after) world ≡ happen after (happen before world)
happen-append [] after world = refl
happen-append (step ∷ before) after world = happen-append before after (happens step world)

pub AreAllowed-append : (P : Message → Type 0) (before after : List Step) (world : World)
    → AreAllowed P world before → AreAllowed P (happen before world) after → AreAllowed P world (before ++ after)
AreAllowed-append P [] after world first then = then
AreAllowed-append P (step ∷ before) after world first then = (first.0, AreAllowed-append P before after (happens step world) first.1 then)

-- each packet stays
pub kept_packet : (step : Step) (world : World) (message : Message) → IsIn message world.packets → IsIn message (happens step world).packets
kept_packet (Send m) world message among = IsIn-left message world.packets _ among
kept_packet (Deliver m true) world message among = IsIn-left message world.packets _ among
kept_packet (Deliver m false) world message among = among
kept_packet (Other m) world message among = IsIn-left message world.packets _ among
kept_packet (Relay m) world message among = IsIn-left message world.packets _ among

pub kept_packets : (steps : List Step) (world : World) (message : Message) → IsIn message world.packets → IsIn message (happen steps world).packets
kept_packets [] world message among = among
kept_packets (step ∷ steps) world message among = kept_packets steps (happens step world) message (kept_packet step world message among)

-- ---- asks are noted beside the steps

pub noted-none : (world : World) → noted [] world ≡ world
noted-none world = λ i. record { client = world.client; opening = world.opening; taken = world.taken; served = world.served; packets = world.packets; asks = append-nil world.asks i }

pub noted-noted : (first second : List Ask) (world : World) → noted second (noted first world) ≡ noted (first ++ second) world
noted-noted first second world = λ i. record { client = world.client; opening = world.opening; taken = world.taken; served = world.served; packets = world.packets; asks = append_assoc world.asks first second i }

pub happens-noted : (made : List Ask) (step : Step) (world : World) → happens step (noted made world) ≡ noted made (happens step world)
happens-noted made (Send message) world = refl
happens-noted made (Deliver message joins) world = refl
happens-noted made (Other message) world = refl
happens-noted made (Relay message) world = refl

pub happen-noted : (made : List Ask) (steps : List Step) (world : World) → happen steps (noted made world) ≡ noted made (happen steps world)
happen-noted made [] world = refl
happen-noted made (step ∷ steps) world = ap (happen steps) (happens-noted made step world) ∙ happen-noted made steps (happens step world)

allowed-noted : (P : Message → Type 0) (made : List Ask) (step : Step) (world : World) → IsAllowed P (noted made world) step → IsAllowed P world step
allowed-noted P made (Send message) world may = may
allowed-noted P made (Deliver message joins) world may = may
allowed-noted P made (Other message) world may = may
allowed-noted P made (Relay message) world may = may

pub AreAllowed-noted : (P : Message → Type 0) (made : List Ask) (steps : List Step) (world : World) → AreAllowed P (noted made world) steps → AreAllowed P world steps
AreAllowed-noted P made [] world may = tt
AreAllowed-noted P made (step ∷ steps) world may =
    (allowed-noted P made step world may.0, AreAllowed-noted P made steps (happens step world) (subst (λ w. AreAllowed P w steps) (happens-noted made step world) may.1))

-- ---- moves in a row

-- packets stay over moves
pub moved_packets : (P : Message → Type 0) (made : List Ask) (old new : World) (message : Message) → MovedBy P made old new → IsIn message old.packets → IsIn message new.packets
moved_packets P made old new message moves among = subst (λ w. IsIn message w.packets) (sym moves.result) (kept_packets moves.steps old message among)

pub moved_by_then : (P : Message → Type 0) (m n : List Ask) (a b c : World) → MovedBy P m a b → MovedBy P n b c → MovedBy P (m ++ n) a c
moved_by_then P m n a b c first second = record {
  steps = first.steps ++ second.steps;
  allowed = AreAllowed-append P first.steps second.steps a first.allowed
      (AreAllowed-noted P m second.steps (happen first.steps a) (subst (λ w. AreAllowed P w second.steps) first.result second.allowed));
  result = second.result
      ∙ ap (λ w. noted n (happen second.steps w)) first.result
      ∙ ap (noted n) (happen-noted m second.steps (happen first.steps a))
      ∙ noted-noted m n (happen second.steps (happen first.steps a))
      ∙ ap (noted (m ++ n)) (sym (happen-append first.steps second.steps a));
}

pub moved_by_none : (P : Message → Type 0) (world : World) → MovedBy P [] world world
moved_by_none P world = record { steps = []; allowed = tt; result = sym (noted-none world) }

-- one more ask is noted
pub moved_by_noted : (P : Message → Type 0) (made : List Ask) (ask : Ask) (old new : World) → MovedBy P made old new → MovedBy P (made ++ ask ∷ []) old (noted (ask ∷ []) new)
moved_by_noted P made ask old new moves = record {
  steps = moves.steps;
  allowed = moves.allowed;
  result = ap (noted (ask ∷ [])) moves.result ∙ noted-noted made (ask ∷ []) (happen moves.steps old);
}

-- one more step
pub moved_by_step : (P : Message → Type 0) (step : Step) (old : World) → IsAllowed P old step → MovedBy P [] old (happens step old)
moved_by_step P step old may = record { steps = step ∷ []; allowed = (may, tt); result = sym (noted-none (happens step old)) }

-- ---- sendings

pub sendings-append : (before after : List Step) → sendings (before ++ after) ≡ sendings before + sendings after
sendings-append [] after = omega arith
sendings-append (step ∷ before) after = omega (arith, sendings-append before after)

pub sendings-then : (P : Message → Type 0) (m n : List Ask) (a b c : World) (first : MovedBy P m a b) (second : MovedBy P n b c)
    → sendings (moved_by_then P m n a b c first second).steps ≡ sendings first.steps + sendings second.steps
unfolding moved_by_then
sendings-then P m n a b c first second = sendings-append first.steps second.steps

pub sendings-step : (P : Message → Type 0) (step : Step) (old : World) (may : IsAllowed P old step) → sendings (moved_by_step P step old may).steps ≡ sendings_in step
unfolding moved_by_step
sendings-step P step old may = omega arith

pub moved_then : (request : Message) (m n : List Ask) (a b c : World) → Moved request m a b → Moved request n b c → Moved request (m ++ n) a c
moved_then request m n a b c first second = record {
  moves = moved_by_then (Is request) m n a b c first.moves second.moves;
  asked = λ ask among. ⊎_elim (λ is. first.asked ask is) (λ is. second.asked ask is) (in_either ask m n among);
  sent = omega (arith, first.sent, second.sent, length-append m n, sendings-then (Is request) m n a b c first.moves second.moves);
}

pub moved_none : (request : Message) (world : World) → Moved request [] world world
moved_none request world = record { moves = moved_by_none (Is request) world; asked = λ ask among. absurd among; sent = omega arith }

-- where the request was sent at all, it is among the packets
sent_in : (request : Message) (steps : List Step) (world : World) → AreAllowed (Is request) world steps → 1 ≤ sendings steps → IsIn request (happen steps world).packets
sent_in request [] world may some = absurd (omega (arith, some))
sent_in request (Send message ∷ steps) world may some =
    kept_packets steps (sent message world) request (subst (λ m. IsIn request (world.packets ++ m ∷ [])) (sym may.0) (IsIn-last request world.packets))
sent_in request (Deliver message joins ∷ steps) world may some = sent_in request steps (delivered message joins world) may.1 (omega (arith, some))
sent_in request (Other message ∷ steps) world may some = sent_in request steps (sent message world) may.1 (omega (arith, some))
sent_in request (Relay message ∷ steps) world may some = sent_in request steps (sent message world) may.1 (omega (arith, some))

pub asked_among : (request : Message) (made : List Ask) (old new : World) → Moved request made old new → made ≢ [] → IsIn request new.packets
asked_among request [] old new moved some = absurd (some refl)
asked_among request (ask ∷ made) old new moved some =
    subst (λ w. IsIn request w.packets) (sym moved.moves.result) (sent_in request moved.moves.steps old moved.moves.allowed (omega (arith, moved.sent)))

-- ---- over an object that tells

pub told_then : {A : Type 0} (a b c : Option A) (P Q R : A → A → Type 0) → Told a b P → Told b c Q
    → ((x y z : A) → P x y → Q y z → R x z) → Told a c R
told_then (Some x) (Some y) (Some z) P Q R p q goes_on = goes_on x y z p q
told_then (Some x) (Some y) None P Q R p q goes_on = q
told_then (Some x) None c P Q R p q goes_on = absurd p
told_then {A} None b c P Q R p q goes_on = subst (λ (o : Option A). Told o c Q) p q

pub told_start : {A : Type 0} (a : Option A) (P : A → A → Type 0) → ((x : A) → P x x) → Told a a P
told_start (Some x) P here = here x
told_start None P here = refl

pub told_as : {A : Type 0} (a b : Option A) (P Q : A → A → Type 0) → Told a b P → ((x y : A) → P x y → Q x y) → Told a b Q
told_as (Some x) (Some y) P Q p goes_on = goes_on x y p
told_as (Some x) None P Q p goes_on = p
told_as None b P Q p goes_on = p

-- ---- what was answered stays

pub answers_append : (xs ys : List Ask) (world : World) → AnswersStand world xs → AnswersStand world ys → AnswersStand world (xs ++ ys)
answers_append [] ys world first second = second
answers_append (x ∷ xs) ys world first second = (first.0, answers_append xs ys world first.1 second)

pub answers_front : (xs ys : List Ask) (world : World) → AnswersStand world (xs ++ ys) → AnswersStand world xs
answers_front [] ys world stand = tt
answers_front (x ∷ xs) ys world stand = (stand.0, answers_front xs ys world stand.1)

pub answers_end : (xs ys : List Ask) (world : World) → AnswersStand world (xs ++ ys) → AnswersStand world ys
answers_end [] ys world stand = stand
answers_end (x ∷ xs) ys world stand = answers_end xs ys world stand.1

reply_stays : (request : Message) (answer : Answer) (old new : World) → ((message : Message) → IsIn message old.packets → IsIn message new.packets) → ReplyStands old request answer → ReplyStands new request answer
reply_stays request (Reply reply) old new stay stands = (stay reply stands.0, stands.1)
reply_stays request Failed old new stay stands = tt
reply_stays request Memory old new stay stands = tt

pub answers_stay : (asks : List Ask) (old new : World) → ((message : Message) → IsIn message old.packets → IsIn message new.packets) → AnswersStand old asks → AnswersStand new asks
answers_stay [] old new stay stand = tt
answers_stay (ask ∷ asks) old new stay stand = (reply_stays ask.request ask.answer old new stay stand.0, answers_stay asks old new stay stand.1)
