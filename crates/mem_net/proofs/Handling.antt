-- What serving an operation over the wires comes to, once the surrogate's own asks are forgotten.
use Rattle.std.proofs.Common.{◌≡◌, inl, inr, ⊎_elim, ℕ, zero, suc, ◌≤◌, List, [], ◌∷◌, ◌++◌, length, take, Some, Result, Ok, Err, IfOk, OnOk, refl, sym, ◌∙◌, ap, subst, arith}
use Rattle.std.specs.Prelude.{OnErr}
use Rattle.std.specs.declared.alloc.AllocError.{AllocError}
use Rattle.outside.specs.Outside.{RoseBy}
use Rattle.tree_values.specs.Lists.{IsIn}
use Rattle.tree_values.specs.Tree.{Volume}
use Rattle.cmd_capture.specs.Runs.{RunnerTelling}
use Rattle.cmd_capture.specs.declared.runner.Run.{Run}
use Rattle.mod_log.specs.declared.sketching.SketchEntry.{SketchEntry}
use Rattle.replay_judge.proofs.Agreed.{all_fill}
use Rattle.wire_frames.specs.declared.message.Message.{Message}
use Rattle.wire_frames.specs.declared.message.Message.TheVariants.{Operate, Done, Declined}
use Rattle.wire_frames.specs.Frame.{IsValid, Echoes}
use Rattle.world_rules.specs.declared.asking.Peer.TheVariants.{Server, Surrogate}
use Rattle.world_rules.specs.declared.asking.Ask.{Ask}
use Rattle.world_rules.specs.declared.asking.Answer.{Answer}
use Rattle.world_rules.specs.declared.asking.Answer.TheVariants.{Reply, Failed, Memory}
use Rattle.world_rules.specs.Served.{answer}
use Rattle.world_rules.specs.World.{World, Other, Relay, sent, noted, happen, AreAllowed, MovedBy, MovedAlone, Is, IsFree}
use Rattle.world_rules.specs.Asking.{IsRequest, ask_of}
use Rattle.world_rules.specs.Settling.{failures, failed_asks, BreaksSettling}
use Rattle.world_rules.specs.Telling.{LinkTelling}
use Rattle.world_rules.proofs.Asks.{noted-none, happen-noted, AreAllowed-noted, moved_packets, moved_by_step, in_either}
use Rattle.surrogate_core.specs.Handling.{answering, Handling}
use Rattle.surrogate_core.specs.Serving.{MayAsk, Serves, ServesTo, WorldWent}
use Rattle.surrogate_core.specs.Laws.{EndsOperation}
use Rattle.surrogate_core.proofs.Copies.{keeps_the_copy, asks_the_server}
use Rattle.surrogate_core.proofs.Free.{handlings_move_alone, replies_are_free}
use Rattle.mem_wires.specs.Wire.{Wire, world_of}
use Rattle.mem_wires.specs.Spending.{IsAny, IsGivenAnswer, AreGiven, AreQuiet, TakesFront, Spends}
use Rattle.mem_net.specs.Scenes.{Scene, server_address, work_folder, HasServed, IsHandled, IsUnhandled, StaysButWorld}
use Rattle.mem_wires.specs.Underway.{MovedFree}
use Rattle.mem_net.specs.Inside.{GoesFree}
use Rattle.mem_wires.proofs.Taking.{take_front}
use Rattle.mem_wires.proofs.Steps.{free_then}
use Rattle.mem_wires.proofs.Spent.{asks_kept, moved_asks, one_made, taken_as}
use Rattle.world_rules.proofs.Allowing.{moved_as}

-- ---- asks that are forgotten

-- the world with these asks noted alone
abbrev pub with_asks : List Ask → World → World
with_asks asks world = record { client = world.client; opening = world.opening; taken = world.taken; served = world.served; packets = world.packets; asks = asks }

pub forgotten_moves : (P : Message → Type 0) (made : List Ask) (a b : World) → MovedBy P made a b → MovedBy P [] a (with_asks a.asks b)
forgotten_moves P made a b moves =
    let middle = happen moves.steps a in
    record {
      steps = moves.steps;
      allowed = moves.allowed;
      result = ap (with_asks a.asks) moves.result ∙ ap (λ (asks : List Ask). with_asks asks middle) (sym (asks_kept moves.steps a)) ∙ sym (noted-none middle);
    }

module _ (old new : World) where
  answer_forgotten : (request : Message) (came : Answer) → IsGivenAnswer request came old new → IsGivenAnswer request came old (with_asks old.asks new)
  answer_forgotten request (Reply reply) given =
      let first = given.before in
      let second = given.after in
      let middle = happen first.steps old in
      record {
        moment = middle;
        earlier = [];
        later = [];
        before = record { steps = first.steps; allowed = first.allowed; result = sym (noted-none middle) };
        after = record {
          steps = second.steps;
          allowed = AreAllowed-noted IsAny given.earlier second.steps middle (subst (λ w. AreAllowed IsAny w second.steps) first.result second.allowed);
          result = ap (with_asks old.asks) (second.result ∙ ap (λ w. noted given.later (happen second.steps w)) first.result
              ∙ ap (noted given.later) (happen-noted given.earlier second.steps middle))
              ∙ ap (λ l. with_asks l (happen second.steps middle)) (sym (asks_kept second.steps middle ∙ asks_kept first.steps old))
              ∙ sym (noted-none (happen second.steps middle));
        };
        is = given.is ∙ ap (λ w. answer request w.served) first.result;
      }
  answer_forgotten request Failed given = tt
  answer_forgotten request Memory given = tt

  pub all_forgotten : (asks : List Ask) → AreGiven asks old new → AreGiven asks old (with_asks old.asks new)
  all_forgotten [] given = tt
  all_forgotten (ask ∷ asks) given = (answer_forgotten ask.request ask.answer given.0, all_forgotten asks given.1)

-- ---- of whom a handling asks

abbrev pub AreOfServer : List Ask → Type 0
AreOfServer asks = (ask : Ask) → IsIn ask asks → ask.to ≡ Server

of_both : (xs ys : List Ask) → AreOfServer xs → AreOfServer ys → AreOfServer (xs ++ ys)
of_both xs ys first second = λ ask among. ⊎_elim (λ is. first ask is) (λ is. second ask is) (in_either ask xs ys among)

failures_of : (address : List ℕ) (request : Message) (count : ℕ) → AreOfServer (failures Server address request count)
failures_of address request zero ask among = absurd among
failures_of address request (suc count) ask (inl is) = ap (λ (a : Ask). a.to) is
failures_of address request (suc count) ask (inr among) = failures_of address request count ask among

one_of : (address : List ℕ) (request : Message) (came : Answer) → AreOfServer (ask_of Server address request came ∷ [])
one_of address request came ask (inl is) = ap (λ (a : Ask). a.to) is
one_of address request came ask (inr none) = absurd none

broken_of : (address : List ℕ) (request : Message) (asks : List Ask) → BreaksSettling Server address request asks → AreOfServer asks
broken_of address request asks breaks =
    ⊎_elim
    (λ none. subst AreOfServer (sym none) (failures_of address request breaks.0))
    (λ one. subst AreOfServer (sym one.1) (of_both (failures Server address request breaks.0) (ask_of Server address request one.0 ∷ []) (failures_of address request breaks.0) (one_of address request one.0)))
    breaks.2

module _ (client : ℕ) (sketched : SketchEntry) (copy after : Volume) (runs : List Run) (asks : List Ask) where
  pub of_server : (result : Result Message AllocError) → ServesTo server_address work_folder copy (Operate client sketched) runs asks result after → AreOfServer asks
  of_server (Ok reply) handling = λ ask among. (asks_the_server all_fill client sketched copy server_address work_folder runs asks (answering after reply) handling ask among).0
  of_server (Err refused) broken =
      subst AreOfServer (sym broken.asks_are)
      (of_both broken.earlier broken.broken
      (λ ask among. (asks_the_server all_fill client sketched copy server_address work_folder runs broken.earlier _ broken.handled ask among).0)
      (broken_of server_address broken.request broken.broken broken.breaks))

  -- the reply is one to the operation
  ends_echoing : (reply : Message) → EndsOperation client sketched copy asks after reply → Echoes (Operate client sketched) reply
  ends_echoing (Declined of number cause) ends = (tt, sym ends.0, sym ends.1, omega arith)
  ends_echoing (Done of number) ends = (tt, sym ends.0, sym ends.1, omega arith)
  ends_echoing _ ends = absurd ends

  pub handling_echoes : (reply : Message) → Handling server_address work_folder copy client sketched runs asks reply after → Echoes (Operate client sketched) reply
  handling_echoes reply handling = ends_echoing reply (keeps_the_copy all_fill client sketched copy server_address work_folder runs asks reply after handling)

-- ---- what the wires keep

-- the surrogate asked over the wires, and what it asked was forgotten
module _ (old served new : Wire) (client : ℕ) (sketched : SketchEntry) (asks : List Ask) (valid : IsValid (Operate client sketched)) (operated : IsIn (Operate client sketched) old.packets)
    (went : WorldWent (Operate client sketched) asks (world_of old) (world_of served)) (spends : Spends old served) (of : AreOfServer asks)
    (forgets : new ≡ record served { asks = take (length old.asks) served.asks }) where
  front : take (length old.asks) served.asks ≡ old.asks
  front = ap (take (length old.asks)) (moved_asks (MayAsk client sketched) asks (world_of old) (world_of served) went.0) ∙ take_front old.asks asks

  pub world_forgotten : world_of new ≡ with_asks old.asks (world_of served)
  world_forgotten = ap world_of forgets ∙ ap (λ (l : List Ask). with_asks l (world_of served)) front

  pub went_alone : MovedAlone [] (world_of old) (world_of new)
  went_alone =
      subst (MovedAlone [] (world_of old)) (sym world_forgotten)
      (forgotten_moves (λ message. ⊥) asks (world_of old) (world_of served)
      (handlings_move_alone client sketched asks (world_of old) (world_of served) valid (λ own. operated) went.0))

  pub went_free : MovedFree (world_of old) (world_of new)
  went_free request = moved_as (λ message. ⊥) (Is request) (λ message may. absurd may) [] (world_of old) (world_of new) went_alone

  same_made : spends.made ≡ asks
  same_made = one_made IsAny (MayAsk client sketched) spends.made asks (world_of old) (world_of served) spends.moved went.0

  all_served : (ask : Ask) → IsIn ask spends.made → ask.to ≡ Server
  all_served ask among = of ask (subst (λ (l : List Ask). IsIn ask l) same_made among)

  same_fates : new.fates ≡ served.fates
  same_fates = ap (λ (w : Wire). w.fates) forgets

  same_troubles : new.troubles ≡ served.troubles
  same_troubles = ap (λ (w : Wire). w.troubles) forgets

  pub takes_of : TakesFront old.fates new.fates old.troubles new.troubles
  takes_of = record {
    taken = spends.taken;
    split = taken_as spends.taken old.fates served.fates new.fates spends.split same_fates;
    later = subst (λ (n : ℕ). old.troubles ≤ n) (sym same_troubles) spends.later;
    calm = λ quiet. same_troubles ∙ (spends.calm quiet all_served).0;
  }

  pub given_of : AreQuiet takes_of.taken → AreGiven asks (world_of old) (world_of new)
  unfolding takes_of
  given_of quiet =
      subst (AreGiven asks (world_of old)) (sym world_forgotten)
      (all_forgotten (world_of old) (world_of served) asks
      (subst (λ (l : List Ask). AreGiven l (world_of old) (world_of served)) same_made (spends.calm quiet all_served).1))

-- ---- serving

-- what the wires tell as a link
abbrev pub tells_of : Wire → LinkTelling
tells_of wires = record { world = Some (world_of wires); troubles = wires.troubles }

abbrev pub scene_by : Wire → Volume → RunnerTelling → Scene
scene_by wires copy runner = record { world = world_of wires; fates = wires.fates; troubles = wires.troubles; copy = copy; runner = runner }

-- a scene is as itself
pub stays_as_it_is : (scene : Scene) (request : Message) → IsUnhandled request scene scene
stays_as_it_is scene request = inl refl

-- where fates and troubles are as before all but the world is
pub stays_by : (a b : Wire) (copy : Volume) (runner : RunnerTelling) → b.fates ≡ a.fates → b.troubles ≡ a.troubles → StaysButWorld (scene_by a copy runner) (scene_by b copy runner)
stays_by a b copy runner fates troubles = λ i. record { world = world_of b; fates = fates i; troubles = troubles i; copy = copy; runner = runner }

module _ (old served new : Wire) (copy after : Volume) (runner ran : RunnerTelling) (spends : Spends old served) (forgets : new ≡ record served { asks = take (length old.asks) served.asks }) where
  abbrev pub Served : Message → Result Message AllocError → Type 0
  Served request result = Serves server_address work_folder copy request result after runner ran (tells_of old) (tells_of served)

  -- the moves, also where memory ran out
  pub serve_goes : (request : Message) (result : Result Message AllocError) → IsRequest Surrogate request → IsValid request → IsIn request old.packets → Served request result → GoesFree old new
  serve_goes (Operate client sketched) result asked valid operated serves =
      let of = of_server client sketched copy after serves.runs serves.asks result serves.serves in
      record {
        moved = went_free old served new client sketched serves.asks valid operated serves.went spends of forgets;
        takes = takes_of old served new client sketched serves.asks valid operated serves.went spends of forgets;
      }
  serve_goes _ result asked valid operated serves = absurd asked

  pub has_served : (request : Message) (result : Result Message AllocError) → IsRequest Surrogate request → IsValid request → IsIn request old.packets → IfOk result IsValid → Served request result
      → HasServed request result (scene_by old copy runner) (scene_by new after ran)
  has_served (Operate client sketched) result asked valid operated is_valid serves =
      let of = of_server client sketched copy after serves.runs serves.asks result serves.serves in
      record {
        runs = serves.runs;
        asks = serves.asks;
        serves = serves.serves;
        valid = is_valid;
        has_run = serves.has_run;
        moved = went_alone old served new client sketched serves.asks valid operated serves.went spends of forgets;
        takes = takes_of old served new client sketched serves.asks valid operated serves.went spends of forgets;
        rose = subst (λ (n : ℕ). RoseBy (failed_asks serves.asks) old.troubles n) (sym (same_troubles old served new client sketched serves.asks valid operated serves.went spends of forgets)) serves.had_troubles;
        given = given_of old served new client sketched serves.asks valid operated serves.went spends of forgets;
      }
  has_served _ result asked valid operated is_valid serves = absurd asked

  echo_one : (request reply : Message) → IsRequest Surrogate request → Served request (Ok reply) → Echoes request reply
  echo_one (Operate client sketched) reply asked serves = handling_echoes client sketched copy after serves.runs serves.asks reply serves.serves
  echo_one _ reply asked serves = absurd asked

  pub serve_echoes : (request : Message) (result : Result Message AllocError) → IsRequest Surrogate request → Served request result → IfOk result (Echoes request)
  serve_echoes request (Ok reply) asked serves = echo_one request reply asked serves
  serve_echoes request (Err refused) asked serves = tt

  -- the reply is one that a surrogate may send then
  free_one : (request reply : Message) → IsRequest Surrogate request → IsValid request → IsIn request old.packets → IsValid reply → Served request (Ok reply) → IsFree (world_of new) reply
  free_one (Operate client sketched) reply asked valid operated is_valid serves =
      let of = of_server client sketched copy after serves.runs serves.asks (Ok reply) serves.serves in
      subst (λ (w : World). IsFree w reply) (sym (world_forgotten old served new client sketched serves.asks valid operated serves.went spends of forgets))
      (replies_are_free server_address work_folder copy after client sketched serves.runs serves.asks reply (world_of served)
      (λ own. moved_packets (MayAsk client sketched) serves.asks (world_of old) (world_of served) (Operate client sketched) serves.went.0 operated)
      serves.went.1 serves.serves is_valid)
  free_one _ reply asked valid operated is_valid serves = absurd asked

  pub serve_free : (request : Message) (result : Result Message AllocError) → IsRequest Surrogate request → IsValid request → IsIn request old.packets → IfOk result IsValid → Served request result
      → IfOk result (IsFree (world_of new))
  serve_free request (Ok reply) asked valid operated is_valid serves = free_one request reply asked valid operated is_valid serves
  serve_free request (Err refused) asked valid operated is_valid serves = tt

-- ---- a reply that joins the packets

module _ (old : Wire) (a b : Wire) (copy : Volume) (runner : RunnerTelling) (request reply : Message) where
  pub joined_handled : (start : Scene) (result : Result Message AllocError) → HasServed request (Ok reply) start (scene_by a copy runner) → IfOk result (λ packet. packet ≡ reply)
      → OnOk result (b ≡ record a { packets = a.packets ++ reply ∷ [] }) → IfOk result (λ packet. IsHandled request packet start (scene_by b copy runner))
  joined_handled start (Ok packet) served is joined =
      subst (λ (r : Message). IsHandled request r start (scene_by b copy runner)) (sym is)
      (scene_by a copy runner, served, ap (λ (w : Wire). scene_by w copy runner) joined)
  joined_handled start (Err refused) served is joined = tt

  -- or does not, for want of memory
  pub joined_not : (start : Scene) (result : Result Message AllocError) → HasServed request (Ok reply) start (scene_by a copy runner) → OnErr result (b ≡ a)
      → OnErr result (IsUnhandled request start (scene_by b copy runner))
  joined_not start (Ok packet) served same = tt
  joined_not start (Err refused) served same = inr (Ok reply, subst (λ (w : Wire). HasServed request (Ok reply) start (scene_by w copy runner)) (sym same) served)

-- what a surrogate may send joins the packets by a step of no client's own
pub free_joins : (reply : Message) (w : World) → IsFree w reply → MovedFree w (sent reply w)
free_joins reply w free any =
    ⊎_elim (λ licensed. moved_by_step (Is any) (Relay reply) w (licensed, free.0)) (λ differs. moved_by_step (Is any) (Other reply) w (differs, free.0)) free.1

same_goes : (old a b : Wire) → MovedFree (world_of old) (world_of b) → GoesFree old a → b.fates ≡ a.fates → b.troubles ≡ a.troubles → GoesFree old b
same_goes old a b moved goes fates troubles = record {
  moved = moved;
  takes = record {
    taken = goes.takes.taken;
    split = taken_as goes.takes.taken old.fates a.fates b.fates goes.takes.split fates;
    later = subst (λ (n : ℕ). old.troubles ≤ n) (sym troubles) goes.takes.later;
    calm = λ quiet. troubles ∙ goes.takes.calm quiet;
  };
}

pub joined_goes : (old a b : Wire) (reply : Message) (result : Result Message AllocError) → GoesFree old a → IsFree (world_of a) reply
    → OnOk result (b ≡ record a { packets = a.packets ++ reply ∷ [] }) → OnErr result (b ≡ a) → GoesFree old b
joined_goes old a b reply (Ok packet) goes free joined same =
    same_goes old a b
    (subst (λ (w : World). MovedFree (world_of old) w) (sym (ap world_of joined))
    (free_then (world_of old) (world_of a) (sent reply (world_of a)) goes.moved (free_joins reply (world_of a) free)))
    goes (ap (λ (w : Wire). w.fates) joined) (ap (λ (w : Wire). w.troubles) joined)
joined_goes old a b reply (Err refused) goes free joined same = subst (GoesFree old) (sym same) goes
