-- Where no content is taken for another at the end of some moves, none is on the way.
use Rattle.std.proofs.Common.{◌≡◌, ◌⊎◌, inl, inr, ⊎_elim, ℕ, zero, suc, ◌-◌, Bool, List, [], ◌∷◌, ◌++◌, drop, sym, subst, append_assoc}
use Rattle.tree_values.specs.Lists.{IsIn}
use Rattle.vol_tree.proofs.Behind.{IsIn-left, IsIn-right}
use Rattle.mod_log.specs.declared.log.Entry.{Entry}
use Rattle.mod_log.specs.Log.{Log}
use Rattle.wire_frames.specs.declared.message.Message.{Message}
use Rattle.wire_frames.specs.declared.message.Message.TheVariants.{Operate}
use Rattle.world_rules.specs.declared.asking.Ask.{Ask}
use Rattle.world_rules.specs.InStep.{HasNoCollision}
use Rattle.world_rules.specs.Run.{State, Move, Network, Notes, Logs, Acknowledges, Pulls, Saves, moved, moved_by, entry_in, entries_in, Runs}
use Rattle.world_rules.proofs.Asks.{in_either, kept_packet}

-- ---- what is in lists

in_drop : {X : Type 0} (count : ℕ) (x : X) (xs : List X) → IsIn x (drop count xs) → IsIn x xs
in_drop zero x xs among = among
in_drop (suc count) x [] among = absurd among
in_drop (suc count) x (y ∷ xs) among = inr (in_drop count x xs among)

-- ---- each packet stays

packet_stays : (move : Move) (state : State) (message : Message) → IsIn message state.world.packets → IsIn message (moved move state).world.packets
packet_stays (Network step) state message among = kept_packet step state.world message among
packet_stays (Notes ask) state message among = among
packet_stays (Logs entry) state message among = among
packet_stays (Acknowledges upto reply) state message among = among
packet_stays (Pulls last seen) state message among = among
packet_stays Saves state message among = among

pub packets_stay : (moves : List Move) (state : State) (message : Message) → IsIn message state.world.packets → IsIn message (moved_by moves state).world.packets
packets_stay [] state message among = among
packets_stay (move ∷ moves) state message among = packets_stay moves (moved move state) message (packet_stays move state message among)

-- ---- which entries are pending

-- what is pending after a move was pending before it, or is logged in it
pending_before : (move : Move) (state : State) (entry : Entry) → IsIn entry (moved move state).log.pending → IsIn entry (state.log.pending ++ entry_in move)
pending_before (Network step) state entry among = IsIn-left entry state.log.pending [] among
pending_before (Notes ask) state entry among = IsIn-left entry state.log.pending [] among
pending_before (Logs logged) state entry among = among
pending_before (Acknowledges upto reply) state entry among = IsIn-left entry state.log.pending [] (in_drop (upto - state.log.acked) entry state.log.pending among)
pending_before (Pulls last seen) state entry among = IsIn-left entry state.log.pending [] among
pending_before Saves state entry among = IsIn-left entry state.log.pending [] among

-- and what is pending in the kept log was in one of both logs
kept_before : (move : Move) (state : State) (entry : Entry) → IsIn entry (moved move state).kept.pending → IsIn entry state.kept.pending ⊎ IsIn entry state.log.pending
kept_before (Network step) state entry among = inl among
kept_before (Notes ask) state entry among = inl among
kept_before (Logs logged) state entry among = inl among
kept_before (Acknowledges upto reply) state entry among = inl among
kept_before (Pulls last seen) state entry among = inl among
kept_before Saves state entry among = inr among

later_before : (move : Move) (moves : List Move) (state : State) (entry : Entry) → IsIn entry ((moved move state).log.pending ++ entries_in moves) → IsIn entry (state.log.pending ++ (entry_in move ++ entries_in moves))
later_before move moves state entry among =
    subst (IsIn entry) (append_assoc state.log.pending (entry_in move) (entries_in moves))
    (⊎_elim (λ now. IsIn-left entry (state.log.pending ++ entry_in move) (entries_in moves) (pending_before move state entry now))
    (λ later. IsIn-right entry (state.log.pending ++ entry_in move) (entries_in moves) later)
    (in_either entry (moved move state).log.pending (entries_in moves) among))

-- ---- fewer entries and fewer packets

pub fewer_collide : (client : ℕ) (fewer entries : List Entry) (before packets : List Message) → ((entry : Entry) → IsIn entry fewer → IsIn entry entries)
    → ((message : Message) → IsIn message before → IsIn message packets) → HasNoCollision client entries packets → HasNoCollision client fewer before
fewer_collide client fewer entries before packets are stay none sketched among x y writes carried same =
    none sketched (stay (Operate client sketched) among) x y
    (writes.0, are writes.0 writes.1, writes.2, writes.3) (carried.0, stay carried.0 carried.1, carried.2) same

-- without entries there is nothing to be taken for another
pub none_collides : (client : ℕ) (packets : List Message) → HasNoCollision client [] packets
none_collides client packets sketched among x y writes carried same = absurd writes.1

module _ (client : ℕ) where
  -- of what is pending in memory or logged in these moves
  abbrev pub IsApart : List Move → State → Type 0
  IsApart moves state = HasNoCollision client (state.log.pending ++ entries_in moves) (moved_by moves state).world.packets

  -- and of what is pending in the kept log
  abbrev pub AreApart : List Move → State → Type 0
  AreApart moves state = HasNoCollision client (state.kept.pending ++ (state.log.pending ++ entries_in moves)) (moved_by moves state).world.packets

  pub apart_here : (move : Move) (moves : List Move) (state : State) → IsApart (move ∷ moves) state → HasNoCollision client state.log.pending (moved move state).world.packets
  apart_here move moves state apart =
      fewer_collide client state.log.pending (state.log.pending ++ entries_in (move ∷ moves)) (moved move state).world.packets (moved_by moves (moved move state)).world.packets
      (λ entry among. IsIn-left entry state.log.pending (entries_in (move ∷ moves)) among) (packets_stay moves (moved move state)) apart

  -- of the first move alone
  pub apart_first : (move : Move) (moves : List Move) (state : State) → IsApart (move ∷ moves) state → IsApart (move ∷ []) state
  apart_first move moves state apart =
      fewer_collide client (state.log.pending ++ (entry_in move ++ [])) (state.log.pending ++ (entry_in move ++ entries_in moves)) (moved move state).world.packets (moved_by moves (moved move state)).world.packets
      (λ entry among. ⊎_elim (λ now. IsIn-left entry state.log.pending (entry_in move ++ entries_in moves) now)
      (λ logged. IsIn-right entry state.log.pending (entry_in move ++ entries_in moves)
      (⊎_elim (λ here. IsIn-left entry (entry_in move) (entries_in moves) here) (λ never. absurd never) (in_either entry (entry_in move) [] logged)))
      (in_either entry state.log.pending (entry_in move ++ []) among))
      (packets_stay moves (moved move state)) apart

  pub apart_next : (move : Move) (moves : List Move) (state : State) → IsApart (move ∷ moves) state → IsApart moves (moved move state)
  apart_next move moves state apart =
      let packets = (moved_by moves (moved move state)).world.packets in
      fewer_collide client ((moved move state).log.pending ++ entries_in moves) (state.log.pending ++ entries_in (move ∷ moves)) packets packets
      (later_before move moves state) (λ message among. among) apart

  pub apart_in_memory : (moves : List Move) (state : State) → AreApart moves state → IsApart moves state
  apart_in_memory moves state apart =
      let packets = (moved_by moves state).world.packets in
      fewer_collide client (state.log.pending ++ entries_in moves) (state.kept.pending ++ (state.log.pending ++ entries_in moves)) packets packets
      (λ entry among. IsIn-right entry state.kept.pending (state.log.pending ++ entries_in moves) among) (λ message among. among) apart

  pub kept_apart : (move : Move) (moves : List Move) (state : State) → AreApart (move ∷ moves) state → HasNoCollision client state.kept.pending (moved move state).world.packets
  kept_apart move moves state apart =
      fewer_collide client state.kept.pending (state.kept.pending ++ (state.log.pending ++ entries_in (move ∷ moves))) (moved move state).world.packets (moved_by moves (moved move state)).world.packets
      (λ entry among. IsIn-left entry state.kept.pending (state.log.pending ++ entries_in (move ∷ moves)) among) (packets_stay moves (moved move state)) apart

  pub both_apart : (move : Move) (moves : List Move) (state : State) → AreApart (move ∷ moves) state → AreApart moves (moved move state)
  both_apart move moves state apart =
      let packets = (moved_by moves (moved move state)).world.packets in
      let all = state.log.pending ++ entries_in (move ∷ moves) in
      fewer_collide client ((moved move state).kept.pending ++ ((moved move state).log.pending ++ entries_in moves)) (state.kept.pending ++ all) packets packets
      (λ entry among. ⊎_elim
      (λ kept. ⊎_elim (λ before. IsIn-left entry state.kept.pending all before)
      (λ pending. IsIn-right entry state.kept.pending all (IsIn-left entry state.log.pending (entries_in (move ∷ moves)) pending)) (kept_before move state entry kept))
      (λ later. IsIn-right entry state.kept.pending all (later_before move moves state entry later))
      (in_either entry (moved move state).kept.pending ((moved move state).log.pending ++ entries_in moves) among))
      (λ message among. among) apart

  -- ---- of whole runs

  pub run_apart : (ships : Bool) (entries : List Entry) (made : List Ask) (old new : State) (runs : Runs client ships entries made old new) → HasNoCollision client (old.log.pending ++ entries) new.world.packets
      → IsApart runs.moves old
  run_apart ships entries made old new runs none =
      subst (λ es. HasNoCollision client (old.log.pending ++ es) (moved_by runs.moves old).world.packets) (sym runs.entries)
      (subst (λ s. HasNoCollision client (old.log.pending ++ entries) s.world.packets) runs.result none)

  pub run_both_apart : (ships : Bool) (entries : List Entry) (made : List Ask) (old new : State) (runs : Runs client ships entries made old new)
      → HasNoCollision client (old.kept.pending ++ (old.log.pending ++ entries)) new.world.packets → AreApart runs.moves old
  run_both_apart ships entries made old new runs none =
      subst (λ es. HasNoCollision client (old.kept.pending ++ (old.log.pending ++ es)) (moved_by runs.moves old).world.packets) (sym runs.entries)
      (subst (λ s. HasNoCollision client (old.kept.pending ++ (old.log.pending ++ entries)) s.world.packets) runs.result none)

-- where the kept log is the one in memory, its entries are no more
pub kept_none : (client : ℕ) (entries : List Entry) (old new : State) → old.kept ≡ old.log → HasNoCollision client (old.log.pending ++ entries) new.world.packets
    → HasNoCollision client (old.kept.pending ++ (old.log.pending ++ entries)) new.world.packets
kept_none client entries old new begins none =
    fewer_collide client (old.kept.pending ++ (old.log.pending ++ entries)) (old.log.pending ++ entries) new.world.packets new.world.packets
    (λ entry among. ⊎_elim
    (λ kept. IsIn-left entry old.log.pending entries (subst (λ (log : Log). IsIn entry log.pending) begins kept))
    (λ logged. logged)
    (in_either entry old.kept.pending (old.log.pending ++ entries) among))
    (λ message among. among) none
