-- Where nobody else writes, no entry of the client is refused.
use Rattle.std.proofs.Common.{◌≡◌, ⊎_elim, ℕ, ◌+◌, ◌≤◌, true, false, List, [], ◌∷◌, ◌++◌, refl, sym, ◌∙◌, ap, subst, arith, append-nil}
use Rattle.std.specs.Prelude.{Bool, nat_le, if◌then◌else◌}
use Rattle.byte_fields.proofs.Facts.{le_of, not_le_of}
use Rattle.tree_values.specs.Tree.{Volume, version_at}
use Rattle.tree_values.specs.Lists.{IsIn}
use Rattle.vol_tree.specs.Behind.{IsAhead}
use Rattle.vol_tree.proofs.Behind.{IsIn-left, IsIn-right}
use Rattle.mod_log.specs.declared.log.Entry.{Entry}
use Rattle.mod_log.specs.Log.{Log, tree_at}
use Rattle.wire_frames.specs.declared.message.Message.{Message}
use Rattle.wire_frames.specs.declared.message.Message.TheVariants.{Store, Operate, Pull, Stale, Unfit, Full}
use Rattle.wire_frames.specs.Frame.{client_of}
use Rattle.world_rules.specs.declared.asking.Ask.{Ask}
use Rattle.world_rules.specs.Served.{Served, StoreVerdict, Repeated, Early, Outdated, Refused, Taken, served_through, verdict_through, is_want_of_room, end_of, reply, answer}
use Rattle.world_rules.specs.World.{World, Step, Send, Deliver, Other, Relay, happens, IsForServer, IsLicensed, IsAllowed}
use Rattle.world_rules.specs.InStep.{InStep, MaySend, IsRefusal, HasNoCollision}
use Rattle.world_rules.specs.Run.{State, Move, Network, Notes, Logs, Acknowledges, Pulls, Saves, moved, IsPossible, AllPossible, moved_by, entry_in, ask_in, taken_in_move, taken_in, AreAllOf, Runs}
use Rattle.world_rules.proofs.Asks.{IsIn-push}
use Rattle.world_rules.proofs.Relaying.{relay_refuses_none}
use Rattle.world_rules.proofs.Colliding.{IsApart, apart_here, apart_first, apart_next, run_apart}
use Rattle.world_rules.proofs.Runs.{allowed_log, move_keeps, lone_tree}
use Rattle.world_rules.proofs.Replying.{refused_ahead}

-- no path of a tree is ahead of it
pub never_ahead : (a b : Volume) → a ≡ b → IsAhead a b → ⊥
never_ahead a b same ahead = absurd (omega (arith, ahead.1, ap (λ (v : Volume). version_at v ahead.0) same))

-- ---- what refuses

pub refusal_client : (client number : ℕ) (message : Message) → IsRefusal client number message → client_of message ≡ client
refusal_client client number (Stale of stored upto path theirs ours) is = is.0
refusal_client client number (Unfit of stored upto index fault) is = is.0
refusal_client client number (Full of stored upto index fault) is = is.0
refusal_client client number _ is = absurd is

pub sent_refuses_none : (client : ℕ) (ships : Bool) (log : Log) (number : ℕ) (message : Message) → MaySend client ships log message → IsRefusal client number message → ⊥
sent_refuses_none client ships log number (Store of stored parts) may is = is
sent_refuses_none client ships log number (Operate of sketched) may is = is
sent_refuses_none client ships log number (Pull of known) may is = is
sent_refuses_none client ships log number _ may is = may

-- where the served tree is the client's, none refuses an entry that is not acknowledged
refused_before : (client : ℕ) (log : Log) (world : World) → InStep client log world → world.served.volume ≡ tree_at (world.served.last client) log
    → (number : ℕ) (message : Message) → IsRefusal client number message → IsIn message world.packets → number ≤ log.acked
refused_before client log world now same number message is among = by (nat_le number log.acked) refl
  where
    by : (b : Bool) → nat_le number log.acked ≡ b → number ≤ log.acked
    by true e = le_of number log.acked e
    by false e =
        absurd (never_ahead world.served.volume (tree_at (world.served.last client) log) same
        (refused_ahead client log world number message now (not_le_of number log.acked e) is among))

-- ---- a refusal that the server gives is of the entry behind those that it has taken

pub refuses_next : (client number of stored end last : ℕ) (judgement : StoreVerdict) → IsRefusal client number (reply of stored end last judgement) → (of ≡ client) × (last + 1 ≡ number)
refuses_next client number of stored end last Repeated is = absurd is
refuses_next client number of stored end last Early is = absurd is
refuses_next client number of stored end last (Outdated conflict) is = is
refuses_next client number of stored end last (Taken volume) is = absurd is
refuses_next client number of stored end last (Refused cause) is = by (is_want_of_room cause.1) is
  where
    by : (full : Bool) → IsRefusal client number (if full then Full of stored last cause.0 cause.1 else Unfit of stored last cause.0 cause.1) → (of ≡ client) × (last + 1 ≡ number)
    by true is = is
    by false is = is

-- ---- no refusal joins

module _ (client : ℕ) (log : Log) (world : World) (now : InStep client log world) where
  -- in a step after which the served tree is the client's
  step_back : (ships : Bool) (step : Step) → IsAllowed (MaySend client ships log) world step → InStep client log (happens step world)
      → (happens step world).served.volume ≡ tree_at ((happens step world).served.last client) log
      → (number : ℕ) (message : Message) → IsRefusal client number message → IsIn message (happens step world).packets → IsIn message world.packets
  step_back ships (Send m) may next same number message is among =
      ⊎_elim (λ old. old) (λ (here : message ≡ m). absurd (sent_refuses_none client ships log number m may (subst (IsRefusal client number) here is))) (IsIn-push message m world.packets among)
  step_back ships (Other m) may next same number message is among =
      ⊎_elim (λ old. old) (λ (here : message ≡ m). absurd (may.0 (refusal_client client number m (subst (IsRefusal client number) here is) ∙ sym now.about))) (IsIn-push message m world.packets among)
  step_back ships (Relay m) may next same number message is among =
      ⊎_elim (λ old. old) (λ (here : message ≡ m). absurd (relay_refuses_none client number world.packets m (subst (λ (c : ℕ). IsLicensed c world.packets m) now.about may.0) (subst (IsRefusal client number) here is)))
      (IsIn-push message m world.packets among)
  step_back ships (Deliver m false) may next same number message is among = among
  step_back ships (Deliver m true) may next same number message is among =
      ⊎_elim (λ old. old) (λ (here : message ≡ answer m world.served). absurd (answered m may.0 may.1 next same (subst (IsRefusal client number) here is) (subst (λ (x : Message). IsIn x (happens (Deliver m true) world).packets) here among)))
      (IsIn-push message (answer m world.served) world.packets among)
    where
      answered : (m : Message) → IsForServer m → IsIn m world.packets → InStep client log (happens (Deliver m true) world)
          → (happens (Deliver m true) world).served.volume ≡ tree_at ((happens (Deliver m true) world).served.last client) log
          → IsRefusal client number (answer m world.served) → IsIn (answer m world.served) (happens (Deliver m true) world).packets → ⊥
      answered (Store of stored parts) for sent next same is among =
          let after : Served = served_through of stored parts world.served in
          let told = refuses_next client number of stored (end_of stored parts) (after.last of) (verdict_through of stored parts world.served) is in
          let last_is : after.last of ≡ after.last client = ap after.last told.0 in
          let before = refused_before client log (happens (Deliver (Store of stored parts) true) world) next same number (answer (Store of stored parts) world.served) is among in
          absurd (omega (arith, told.1, last_is, next.not_lower, before))
      answered (Pull of known) for sent next same is among = is
      answered _ for sent next same is among = for

module _ (client : ℕ) (ships : Bool) where
  abbrev IsTheirs : State → Type 0
  IsTheirs state = state.world.served.volume ≡ tree_at (state.world.served.last client) state.log

  move_theirs : (move : Move) (state : State) → InStep client state.log state.world → IsPossible client ships state move → IsApart client (move ∷ []) state
      → AreAllOf client (taken_in_move move state) → IsTheirs state → IsTheirs (moved move state)
  move_theirs move state now may apart alone same =
      lone_tree client ships (entry_in move) (ask_in move) state (moved move state) now
      (record { moves = move ∷ []; entries = append-nil (entry_in move); asks = append-nil (ask_in move); possible = (may, tt); result = refl })
      (λ message among. alone message (subst (IsIn message) (append-nil (taken_in_move move state)) among)) same
      (subst (λ (es : List Entry). HasNoCollision client (state.log.pending ++ es) (moved move state).world.packets) (append-nil (entry_in move)) apart)

  move_back : (move : Move) (state : State) → InStep client state.log state.world → IsPossible client ships state move → HasNoCollision client state.log.pending (moved move state).world.packets → IsTheirs (moved move state)
      → (number : ℕ) (message : Message) → IsRefusal client number message → IsIn message (moved move state).world.packets → IsIn message state.world.packets
  move_back (Network step) state now may none same number message is among =
      step_back client state.log state.world now ships step (allowed_log client ships state step may) (move_keeps client ships state (Network step) now may none) same number message is among
  move_back (Notes ask) state now may none same number message is among = among
  move_back (Logs entry) state now may none same number message is among = among
  move_back (Acknowledges upto reply) state now may none same number message is among = among
  move_back (Pulls last seen) state now may none same number message is among = among
  move_back Saves state now may none same number message is among = among

  moves_back : (moves : List Move) (state : State) → InStep client state.log state.world → AllPossible client ships state moves → IsApart client moves state
      → AreAllOf client (taken_in moves state) → IsTheirs state
      → (number : ℕ) (message : Message) → IsRefusal client number message → IsIn message (moved_by moves state).world.packets → IsIn message state.world.packets
  moves_back [] state now may apart alone same number message is among = among
  moves_back (move ∷ moves) state now may apart alone same number message is among =
      let none = apart_here client move moves state apart in
      let after = move_keeps client ships state move now may.0 none in
      let theirs = move_theirs move state now may.0 (apart_first client move moves state apart) (λ m at. alone m (IsIn-left m _ _ at)) same in
      move_back move state now may.0 none theirs number message is
      (moves_back moves (moved move state) after may.1 (apart_next client move moves state apart) (λ m at. alone m (IsIn-right m _ _ at)) theirs number message is among)

  pub lone_unrefused : (entries : List Entry) (made : List Ask) (old new : State) → InStep client old.log old.world → (runs : Runs client ships entries made old new)
      → AreAllOf client (taken_in runs.moves old)
      → old.world.served.volume ≡ tree_at (old.world.served.last client) old.log
      → HasNoCollision client (old.log.pending ++ entries) new.world.packets
      → (number : ℕ) (message : Message) → IsRefusal client number message → IsIn message new.world.packets → number ≤ old.log.acked
  lone_unrefused entries made old new now runs alone same none number message is among =
      refused_before client old.log old.world now same number message is
      (moves_back runs.moves old now runs.possible (run_apart client ships entries made old new runs none) alone same number message is (subst (λ s. IsIn message s.world.packets) runs.result among))
