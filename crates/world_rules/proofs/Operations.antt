-- A client without a surrogate sends no operation.
use Rattle.std.proofs.Common.{◌≡◌, ◌≢◌, ⊎_elim, ℕ, Bool, true, false, true≢false, List, [], ◌∷◌, ◌++◌, refl, sym, ◌∙◌, subst}
use Rattle.std.specs.Prelude.{if◌then◌else◌}
use Rattle.tree_values.specs.Lists.{IsIn}
use Rattle.mod_log.specs.declared.log.Entry.{Entry}
use Rattle.mod_log.specs.declared.sketching.SketchEntry.{SketchEntry}
use Rattle.mod_log.specs.Log.{Log}
use Rattle.wire_frames.specs.declared.message.Message.{Message}
use Rattle.wire_frames.specs.declared.message.Message.TheVariants.{Store, Operate, Pull, Unfit, Full}
use Rattle.wire_frames.specs.Frame.{client_of}
use Rattle.world_rules.specs.declared.asking.Ask.{Ask}
use Rattle.world_rules.specs.Served.{Served, StoreVerdict, Repeated, Early, Outdated, Refused, Taken, served_through, verdict_through, is_want_of_room, end_of, reply, answer}
use Rattle.world_rules.specs.World.{Step, Send, Deliver, Other, Relay, happens, IsForServer, IsLicensed, IsAllowed}
use Rattle.world_rules.specs.InStep.{MaySend, HasNoOperation, HasNoCollision}
use Rattle.world_rules.specs.Run.{State, Move, Network, Notes, Logs, Acknowledges, Pulls, Saves, moved, IsPossible, AllPossible, moved_by, MaySendKept, Runs}
use Rattle.world_rules.proofs.Asks.{IsIn-push}
use Rattle.world_rules.proofs.Free.{same_client}

-- an operation of this client
abbrev IsOperation : ℕ → Message → Type 0
IsOperation client (Operate of sketched) = of ≡ client
IsOperation client _ = ⊥

-- ---- what joins the packets is no operation of the client

sent_is_none : (client : ℕ) (log : Log) (message : Message) → MaySend client false log message → IsOperation client message → ⊥
sent_is_none client log (Operate of sketched) may is = absurd (true≢false (sym may.3))
sent_is_none client log _ may is = is

relay_is_none : (client : ℕ) (packets : List Message) (message : Message) → IsLicensed client packets message → IsOperation client message → ⊥
relay_is_none client packets (Operate of sketched) may is = may
relay_is_none client packets _ may is = is

other_is_none : (client : ℕ) (message : Message) → client_of message ≢ client → IsOperation client message → ⊥
other_is_none client (Operate of sketched) differs is = differs is
other_is_none client _ differs is = is

reply_is_none : (client of number end last : ℕ) (judgement : StoreVerdict) → IsOperation client (reply of number end last judgement) → ⊥
reply_is_none client of number end last Repeated is = is
reply_is_none client of number end last Early is = is
reply_is_none client of number end last (Outdated conflict) is = is
reply_is_none client of number end last (Taken volume) is = is
reply_is_none client of number end last (Refused cause) is = by (is_want_of_room cause.1) is
  where
    by : (full : Bool) → IsOperation client (if full then Full of number last cause.0 cause.1 else Unfit of number last cause.0 cause.1) → ⊥
    by true is = is
    by false is = is

answer_is_none : (client : ℕ) (message : Message) (served : Served) → IsForServer message → IsOperation client (answer message served) → ⊥
answer_is_none client (Store of number parts) served for is = reply_is_none client of number (end_of number parts) ((served_through of number parts served).last of) (verdict_through of number parts served) is
answer_is_none client (Pull of number) served for is = is
answer_is_none client _ served for is = for

-- ---- so each was there before

module _ (client : ℕ) (sketched : SketchEntry) where
  -- where another message joined
  before_joined : (message : Message) (packets : List Message) → (IsOperation client message → ⊥) → IsIn (Operate client sketched) (packets ++ message ∷ []) → IsIn (Operate client sketched) packets
  before_joined message packets other among =
      ⊎_elim (λ old. old) (λ here. absurd (other (subst (IsOperation client) here refl))) (IsIn-push (Operate client sketched) message packets among)

  before_step : (state : State) (step : Step) → state.world.client ≡ client → IsAllowed (MaySendKept client false state) state.world step
      → IsIn (Operate client sketched) (happens step state.world).packets → IsIn (Operate client sketched) state.world.packets
  before_step state (Send message) about may among = before_joined message state.world.packets (sent_is_none client state.log message may.0) among
  before_step state (Deliver message true) about may among = before_joined (answer message state.world.served) state.world.packets (answer_is_none client message state.world.served may.0) among
  before_step state (Deliver message false) about may among = among
  before_step state (Other message) about may among = before_joined message state.world.packets (other_is_none client message (λ own. may.0 (own ∙ sym about))) among
  before_step state (Relay message) about may among =
      before_joined message state.world.packets (relay_is_none client state.world.packets message (subst (λ c. IsLicensed c state.world.packets message) about may.0)) among

  before_move : (state : State) (move : Move) → state.world.client ≡ client → IsPossible client false state move
      → IsIn (Operate client sketched) (moved move state).world.packets → IsIn (Operate client sketched) state.world.packets
  before_move state (Network step) about may among = before_step state step about may among
  before_move state (Notes ask) about may among = among
  before_move state (Logs entry) about may among = among
  before_move state (Acknowledges upto reply) about may among = among
  before_move state (Pulls last seen) about may among = among
  before_move state Saves about may among = among

  about_move : (state : State) (move : Move) → (moved move state).world.client ≡ state.world.client
  about_move state (Network step) = same_client step state.world
  about_move state (Notes ask) = refl
  about_move state (Logs entry) = refl
  about_move state (Acknowledges upto reply) = refl
  about_move state (Pulls last seen) = refl
  about_move state Saves = refl

  before_moves : (moves : List Move) (state : State) → state.world.client ≡ client → AllPossible client false state moves
      → IsIn (Operate client sketched) (moved_by moves state).world.packets → IsIn (Operate client sketched) state.world.packets
  before_moves [] state about may among = among
  before_moves (move ∷ moves) state about may among =
      before_move state move about may.0 (before_moves moves (moved move state) (about_move state move ∙ about) may.1 among)

pub operated_before : (client : ℕ) (entries : List Entry) (made : List Ask) (old new : State) (sketched : SketchEntry) → old.world.client ≡ client → Runs client false entries made old new
    → IsIn (Operate client sketched) new.world.packets → IsIn (Operate client sketched) old.world.packets
operated_before client entries made old new sketched about runs among =
    before_moves client sketched runs.moves old about runs.possible (subst (λ s. IsIn (Operate client sketched) s.world.packets) runs.result among)

pub never_collides : (client : ℕ) (entries : List Entry) (made : List Ask) (old new : State) (all : List Entry) → old.world.client ≡ client → HasNoOperation client old.world.packets
    → Runs client false entries made old new → HasNoCollision client all new.world.packets
never_collides client entries made old new all about none runs sketched among = absurd (none sketched (operated_before client entries made old new sketched about runs among))
