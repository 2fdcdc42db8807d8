-- The first pending entry, where others wrote at a path that it rests on, is never taken.
use Rattle.std.proofs.Common.{Bool, true, false, cond, ◌≡◌, ◌⊎◌, inl, inr, ⊎_elim, ℕ, ◌+◌, ◌-◌, List, [], ◌∷◌, ◌++◌, drop, Option, Some, None, Result, Ok, Err, refl, sym, ◌∙◌, ap, subst, arith, eqb-true}
use Rattle.std.specs.Prelude.{◌==◌, if◌then◌else◌, nat_le, nat_lt}
use Rattle.tree_values.specs.Tree.{Volume, version_at}
use Rattle.tree_values.specs.Effects.{Conflict, apply_all, first_conflict}
use Rattle.tree_values.specs.Lists.{IsIn}
use Rattle.tree_values.specs.declared.node.Effect.{Effect}
use Rattle.tree_values.specs.declared.node.Base.{Base}
use Rattle.tree_values.specs.declared.node.TreeError.{TreeError}
use Rattle.vol_tree.specs.Behind.{IsBehind}
use Rattle.vol_tree.proofs.Behind.{IsBehind-refl, IsBehind-trans, IsBehind-after, applied-changes}
use Rattle.mod_log.specs.declared.log.Entry.{Entry}
use Rattle.wire_frames.specs.declared.message.Message.{Message}
use Rattle.wire_frames.specs.declared.message.Message.TheVariants.{Store}
use Rattle.wire_frames.specs.declared.parts.Part.{Part}
use Rattle.world_rules.specs.Served.{Served, StoreVerdict, Repeated, Early, Outdated, Refused, Taken, judged, verdict, passes, served_after, served_through, state_after, TakenEntry, entry_stored, taken_if, taken_through, taken_of}
use Rattle.world_rules.specs.World.{World, Step, Send, Deliver, Other, Relay, happens}
use Rattle.world_rules.specs.InStep.{InStep, HasNoCollision}
use Rattle.world_rules.specs.Run.{State, Move, Network, Notes, Logs, Acknowledges, Pulls, Saves, moved, IsPossible, AllPossible, moved_by, taken_by, own}
use Rattle.world_rules.proofs.Colliding.{IsApart, apart_here, apart_next, run_apart}
use Rattle.world_rules.proofs.Next.{TakesInOrder}
use Rattle.world_rules.proofs.Events.{steps_on}
use Rattle.world_rules.proofs.Runs.{told_at_most, allowed_log, move_keeps, runs_in_step}
use Rattle.client_core.specs.Syncing.{IsFirst}
use Rattle.client_core.specs.Laws.{RestsBelow, OvertakenEntriesAreNeverTaken}
use Rattle.client_core.proofs.Firsts.{first_number, first_some}

-- ---- what a store that is taken rests on

in_order : (b : Bool) (rest : Option Conflict) (c : Conflict) → cond b rest (Some c) ≡ None → (b ≡ true) × (rest ≡ None)
in_order true rest c is = (refl, is)
in_order false rest c is = absurd (cc)

-- without a conflict each version is the volume's
no_conflict : (bases : List Base) (rows : Volume) (base : Base) → first_conflict bases rows ≡ None → IsIn base bases → version_at rows base.path ≡ base.version
no_conflict [] rows base none among = absurd among
no_conflict (first ∷ bases) rows base none among =
    let parts = in_order (version_at rows first.path == first.version) _ _ none in
    ⊎_elim (λ (is : base ≡ first). subst (λ (b : Base). version_at rows b.path ≡ b.version) (sym is) (eqb-true _ _ parts.0))
    (λ (later : IsIn base bases). no_conflict bases rows base parts.1 later) among

-- what is taken of one client begins with the first entry, or with one behind it
own_first : (client : ℕ) (stored entry : TakenEntry) (later more : List TakenEntry) → own client (stored ∷ later) ≡ entry ∷ more → (stored ≡ entry) ⊎ (((stored.client == client) ≡ false) × (own client later ≡ entry ∷ more))
own_first client stored entry later more = by (stored.client == client) refl
  where
    by : (mine : Bool) → (stored.client == client) ≡ mine → (if mine then stored ∷ own client later else own client later) ≡ entry ∷ more → (stored ≡ entry) ⊎ (((stored.client == client) ≡ false) × (own client later ≡ entry ∷ more))
    by true test is = inl (cc)
    by false test is = inr (test, is)

-- of another client's store nothing is taken of this one
others_none : (client of : ℕ) → (of == client) ≡ false → (number : ℕ) (parts : List Part) (served : Served) → own client (taken_through of number parts served) ≡ []
others_none client of differ number [] served = refl
others_none client of differ number (part ∷ parts) served =
    let judgement = verdict of number part.effects part.base served in
    by judgement (others_none client of differ (number + 1) parts (served_after of number judgement served))
  where
    by : (judgement : StoreVerdict) → own client (taken_through of (number + 1) parts (served_after of number judgement served)) ≡ []
        → own client (taken_if judgement (entry_stored of number part.effects part.base) ++ (if passes judgement then taken_through of (number + 1) parts (served_after of number judgement served) else [])) ≡ []
    by Repeated rest = rest
    by Early rest = refl
    by (Outdated conflict) rest = refl
    by (Refused cause) rest = refl
    by (Taken volume) rest =
        let stored = entry_stored of number part.effects part.base in
        let later = taken_through of (number + 1) parts (served_after of number (Taken volume) served) in
        ap (λ (mine : Bool). if mine then stored ∷ own client later else own client later) differ ∙ rest

module _ (client : ℕ) (entry : TakenEntry) (more : List TakenEntry) where
  -- the first entry of the client that is taken of a store has no conflict
  store_based : (of number : ℕ) (parts : List Part) (served : Served) → own client (taken_through of number parts served) ≡ entry ∷ more → first_conflict entry.base served.volume ≡ None
  store_based of number [] served is = absurd (cc)
  store_based of number (part ∷ parts) served is =
      by (nat_le number (served.last of)) (nat_lt (served.last of + 1) number) (first_conflict part.base served.volume) (apply_all 0 part.effects served.volume) refl (store_based of (number + 1) parts served) is
    where
      none_left : entry ∷ more ≡ [] → first_conflict entry.base served.volume ≡ None
      none_left none = absurd (cc none)

      by : (repeated beyond : Bool) (conflict : Option Conflict) (applied : Result Volume (ℕ × TreeError)) → first_conflict part.base served.volume ≡ conflict
          → (own client (taken_through of (number + 1) parts served) ≡ entry ∷ more → first_conflict entry.base served.volume ≡ None)
          → let judgement = judged repeated beyond conflict applied in
          own client (taken_if judgement (entry_stored of number part.effects part.base) ++ (if passes judgement then taken_through of (number + 1) parts (served_after of number judgement served) else [])) ≡ entry ∷ more
          → first_conflict entry.base served.volume ≡ None
      by true beyond conflict applied at rest is = rest is
      by false true conflict applied at rest is = absurd (cc)
      by false false (Some conflict) applied at rest is = absurd (cc)
      by false false None (Err cause) at rest is = absurd (cc)
      by false false None (Ok volume) at rest is =
          let stored = entry_stored of number part.effects part.base in
          let next = served_after of number (Taken volume) served in
          let later = taken_through of (number + 1) parts next in
          ⊎_elim (λ (here : stored ≡ entry). subst (λ (e : TakenEntry). first_conflict e.base served.volume ≡ None) here at)
          (λ behind. none_left (sym behind.1 ∙ others_none client of behind.0 (number + 1) parts next)) (own_first client stored entry later more is)

  message_based : (message : Message) (served : Served) → own client (taken_of message served) ≡ entry ∷ more → first_conflict entry.base served.volume ≡ None
  message_based (Store of number parts) served is = store_based of number parts served is
  message_based _ served is = absurd (cc)

  step_based : (step : Step) (served : Served) → own client (taken_by step served) ≡ entry ∷ more → first_conflict entry.base served.volume ≡ None
  step_based (Deliver message joins) served is = message_based message served is
  step_based _ served is = absurd (cc)

-- ---- versions only rise

entry_grows : (of number : ℕ) (effects : List Effect) (served : Served) (repeated beyond : Bool) (conflict : Option Conflict) (applied : Result Volume (ℕ × TreeError)) → apply_all 0 effects served.volume ≡ applied
    → IsBehind served.volume (served_after of number (judged repeated beyond conflict applied) served).volume
entry_grows of number effects served true beyond conflict applied at = IsBehind-refl served.volume
entry_grows of number effects served false true conflict applied at = IsBehind-refl served.volume
entry_grows of number effects served false false (Some conflict) applied at = IsBehind-refl served.volume
entry_grows of number effects served false false None (Err cause) at = IsBehind-refl served.volume
entry_grows of number effects served false false None (Ok volume) at =
    subst (IsBehind served.volume) (sym (applied-changes effects 0 served.volume volume at)) (IsBehind-after effects served.volume)

store_grows : (of number : ℕ) (parts : List Part) (served : Served) → IsBehind served.volume (served_through of number parts served).volume
store_grows of number [] served = IsBehind-refl served.volume
store_grows of number (part ∷ parts) served =
    let judgement = verdict of number part.effects part.base served in
    by judgement
    (entry_grows of number part.effects served (nat_le number (served.last of)) (nat_lt (served.last of + 1) number) (first_conflict part.base served.volume) (apply_all 0 part.effects served.volume) refl)
    (store_grows of (number + 1) parts (served_after of number judgement served))
  where
    by : (judgement : StoreVerdict) → IsBehind served.volume (served_after of number judgement served).volume
        → IsBehind (served_after of number judgement served).volume (served_through of (number + 1) parts (served_after of number judgement served)).volume
        → IsBehind served.volume (if passes judgement then served_through of (number + 1) parts (served_after of number judgement served) else served_after of number judgement served).volume
    by Repeated one rest = rest
    by (Taken volume) one rest = IsBehind-trans served.volume _ _ one rest
    by Early one rest = one
    by (Outdated conflict) one rest = one
    by (Refused cause) one rest = one

message_grows : (message : Message) (served : Served) → IsBehind served.volume (state_after message served).volume
message_grows (Store of number parts) served = store_grows of number parts served
message_grows _ served = IsBehind-refl served.volume

step_grows : (step : Step) (world : World) → IsBehind world.served.volume (happens step world).served.volume
step_grows (Deliver message joins) world = message_grows message world.served
step_grows (Send message) world = IsBehind-refl world.served.volume
step_grows (Other message) world = IsBehind-refl world.served.volume
step_grows (Relay message) world = IsBehind-refl world.served.volume

-- ---- an entry that rests on less

first_same : (pending : List Entry) (first entry : Entry) (entries : List Entry) → IsFirst first pending → pending ≡ entry ∷ entries → entry ≡ first
first_same [] first entry entries is at = absurd is
first_same (e ∷ es) first entry entries is at = let same : e ≡ entry = cc in sym same ∙ is

first_stays : (pending : List Entry) (first entry : Entry) → IsFirst first pending → IsFirst first (pending ++ entry ∷ [])
first_stays [] first entry is = absurd is
first_stays (e ∷ es) first entry is = is

module _ (client : ℕ) (ships : Bool) (first : Entry) where
  -- it is the first pending one, was not taken, and rests on less than what is served
  record IsOvertakenAt (state : State) : Type 0 where
    first_is : IsFirst first state.log.pending
    untaken : state.world.served.last client ≡ state.log.acked
    below : RestsBelow first state.world.served.volume

  -- a step takes nothing of the client
  step_untaken : (state : State) (step : Step) → IsOvertakenAt state → InStep client state.log state.world → IsPossible client ships state (Network step) → HasNoCollision client state.log.pending (happens step state.world).packets
      → (happens step state.world).served.last client ≡ state.log.acked
  step_untaken state step at now may none =
      by (own client (taken_by step state.world.served)) refl (steps_on client ships state.log state.world step now (allowed_log client ships state step may) none).takes
    where
      by : (taken : List TakenEntry) → own client (taken_by step state.world.served) ≡ taken → TakesInOrder client state.log (state.world.served.last client) ((happens step state.world).served.last client) taken
          → (happens step state.world).served.last client ≡ state.log.acked
      by [] is takes = takes ∙ at.untaken
      by (one ∷ more) is takes =
          let none_before : state.world.served.last client - state.log.acked ≡ 0 = omega (arith, at.untaken) in
          let begins : state.log.pending ≡ takes.0 ∷ takes.1.rest = sym (ap (λ (n : ℕ). drop n state.log.pending) none_before) ∙ takes.1.is in
          let same = first_same state.log.pending first takes.0 takes.1.rest at.first_is begins in
          let based : one.base ≡ first.base = ap (λ (e : TakenEntry). e.base) takes.2 ∙ ap (λ (e : Entry). e.base) same in
          let free = step_based client one more step state.world.served is in
          let agrees = no_conflict first.base state.world.served.volume at.below.0 (subst (λ (bases : List Base). first_conflict bases state.world.served.volume ≡ None) based free) at.below.1 in
          absurd (omega (arith, agrees, at.below.2))

  move_overtaken : (state : State) (move : Move) → IsOvertakenAt state → InStep client state.log state.world → IsPossible client ships state move → HasNoCollision client state.log.pending (moved move state).world.packets
      → IsOvertakenAt (moved move state)
  move_overtaken state (Network step) at now may none = record {
    first_is = at.first_is;
    untaken = step_untaken state step at now may none;
    below = (at.below.0, at.below.1, omega (arith, at.below.2, (step_grows step state.world).versions at.below.0.path));
  }
  move_overtaken state (Notes ask) at now may none = record { first_is = at.first_is; untaken = at.untaken; below = at.below }
  move_overtaken state (Logs entry) at now may none = record { first_is = first_stays state.log.pending first entry at.first_is; untaken = at.untaken; below = at.below }
  move_overtaken state (Acknowledges upto reply) at now may none =
      let high = told_at_most client state.log state.world upto reply now may.1 may.2 in
      let none_more : 0 ≡ upto - state.log.acked = omega (arith, high, at.untaken) in record {
        first_is = subst (λ (n : ℕ). IsFirst first (drop n state.log.pending)) none_more at.first_is;
        untaken = omega (arith, high, at.untaken, may.0);
        below = at.below;
      }
  move_overtaken state (Pulls last seen) at now may none = absurd (first_some state.log.pending first at.first_is may.0)
  move_overtaken state Saves at now may none = record { first_is = at.first_is; untaken = at.untaken; below = at.below }

  moves_overtaken : (moves : List Move) (state : State) → IsOvertakenAt state → InStep client state.log state.world → AllPossible client ships state moves → IsApart client moves state → IsOvertakenAt (moved_by moves state)
  moves_overtaken [] state at now may apart = at
  moves_overtaken (move ∷ moves) state at now may apart =
      let none = apart_here client move moves state apart in
      moves_overtaken moves (moved move state) (move_overtaken state move at now may.0 none) (move_keeps client ships state move now may.0 none) may.1 (apart_next client move moves state apart)

pub overtaken_never_taken : OvertakenEntriesAreNeverTaken
overtaken_never_taken client ships entries made old new first now runs none first_is untaken below =
    let begun : IsOvertakenAt client ships first old = record { first_is = first_is; untaken = untaken; below = below } in
    let end = subst (IsOvertakenAt client ships first) (sym runs.result) (moves_overtaken client ships first runs.moves old begun now runs.possible (run_apart client ships entries made old new runs none)) in
    let last = runs_in_step client ships entries made old new now runs none in (
      end.first_is,
      end.untaken,
      end.below,
      λ reply upto tells covers among. absurd (omega (arith, told_at_most client new.log new.world upto reply last tells among, covers, end.untaken, first_number new.log first last.log_is end.first_is)),
    )
