-- A path that is ahead of the client's tree stays so until a pull: entries that are taken raise both versions, others raise the served one.
use Rattle.std.proofs.Common.{Bool, true, false, ◌≡◌, ◌⊎◌, inl, inr, ⊎_elim, ℕ, ◌+◌, ◌-◌, ◌<◌, ◌≤◌, List, [], ◌∷◌, ◌++◌, length, Option, Some, None, Result, Ok, Err, refl, sym, ◌∙◌, ap, subst, arith}
use Rattle.std.specs.Prelude.{◌==◌, if◌then◌else◌, nat_le, nat_lt}
use Rattle.std.proofs.Math.Nat.{le_refl}
use Rattle.std.proofs.lemmas.Bool.{cases_lt}
use Rattle.file_paths.specs.Path.{FilePath}
use Rattle.tree_values.specs.Tree.{Volume, version_at}
use Rattle.tree_values.specs.Effects.{Conflict, changed_all, apply_all, first_conflict}
use Rattle.tree_values.specs.Lists.{IsIn}
use Rattle.tree_values.specs.declared.node.Effect.{Effect}
use Rattle.tree_values.specs.declared.node.TreeError.{TreeError}
use Rattle.vol_tree.specs.Behind.{IsBehind, IsAhead}
use Rattle.vol_tree.proofs.Behind.{IsBehind-after, applied-changes, lt-changes, same-changes}
use Rattle.mod_log.specs.declared.log.Entry.{Entry}
use Rattle.mod_log.specs.Log.{Log, after, tree_of, tree_at, pulled}
use Rattle.mod_log.proofs.Entries.{after-append, acknowledged_keeps, pulled_replaces}
use Rattle.wire_frames.specs.declared.message.Message.{Message}
use Rattle.wire_frames.specs.declared.message.Message.TheVariants.{Store, Pull}
use Rattle.wire_frames.specs.declared.parts.Part.{Part}
use Rattle.world_rules.specs.Served.{Served, Taken, judged, passes, served_after, served_through, verdict_through, end_of, reply, answer, state_after, TakenEntry, entry_stored, taken_if, taken_through, taken_of}
use Rattle.world_rules.specs.World.{World, Step, Send, Deliver, Other, Relay, happens, IsForServer, IsLicensed, IsAllowed}
use Rattle.world_rules.specs.InStep.{InStep, MaySend, IsRefusal, HasNoCollision}
use Rattle.world_rules.specs.Run.{State, Move, Network, Notes, Logs, Acknowledges, Pulls, Saves, moved, IsPossible, AllPossible, moved_by, entry_in, entries_in, taken_by, own}
use Rattle.world_rules.proofs.Asks.{IsIn-push}
use Rattle.world_rules.proofs.Client.{tree_at-logged}
use Rattle.world_rules.proofs.Colliding.{IsApart, apart_here, apart_next, run_apart}
use Rattle.world_rules.proofs.Events.{agree, steps_on}
use Rattle.world_rules.proofs.Next.{TakesInOrder, tree_at-next, tree_at-acked, tree_at-acknowledged}
use Rattle.world_rules.proofs.Relaying.{relay_refuses_none}
use Rattle.world_rules.proofs.Replying.{refused_ahead}
use Rattle.world_rules.proofs.Runs.{told_at_most, allowed_log, move_keeps}
use Rattle.world_rules.proofs.Unrefused.{refusal_client, sent_refuses_none, refuses_next}
use Rattle.client_core.specs.Honest.{IsOvertaken}
use Rattle.client_core.specs.Overtaken.{HasPulledNothing, OvertakenClientsStaySo, RefusedClientsAreOvertaken}

-- ---- versions after the same entries

module _ (path : FilePath) where
  lt_after : (entries : List Entry) (x v : Volume) → version_at x path < version_at v path → version_at (after entries x) path < version_at (after entries v) path
  lt_after [] x v less = less
  lt_after (entry ∷ entries) x v less = lt_after entries (changed_all entry.effects x) (changed_all entry.effects v) (lt-changes entry.effects x v path less)

  same_after : (entries : List Entry) (x v : Volume) → version_at x path ≡ version_at v path → version_at (after entries x) path ≡ version_at (after entries v) path
  same_after [] x v same = same
  same_after (entry ∷ entries) x v same = same_after entries (changed_all entry.effects x) (changed_all entry.effects v) (same-changes entry.effects x v path same)

  le_after : (entries : List Entry) (x v : Volume) → version_at x path ≤ version_at v path → version_at (after entries x) path ≤ version_at (after entries v) path
  le_after entries x v most =
      ⊎_elim (λ (less : version_at x path < version_at v path). omega (arith, lt_after entries x v less))
      (λ (high : version_at v path ≤ version_at x path). omega (arith, same_after entries x v (omega (arith, most, high))))
      (cases_lt (version_at x path) (version_at v path))

-- ---- entries that are taken

module _ (client : ℕ) (log : Log) (path : FilePath) where
  -- the path is ahead of the tree after this entry
  abbrev IsAheadAt : ℕ → Served → Type 0
  IsAheadAt last served = version_at (tree_at last log) path < version_at served.volume path

  -- one more entry is taken
  module _ (of number : ℕ) (part : Part) (served : Served) (volume : Volume) (applied : apply_all 0 part.effects served.volume ≡ Ok volume) where
    changes : volume ≡ changed_all part.effects served.volume
    changes = applied-changes part.effects 0 served.volume volume applied

    -- of another client
    other_ahead : (last : ℕ) → IsAheadAt last served → version_at (tree_at last log) path < version_at volume path
    other_ahead last less =
        let grows : IsBehind served.volume (changed_all part.effects served.volume) = IsBehind-after part.effects served.volume in
        omega (arith, less, grows.versions path, ap (λ (v : Volume). version_at v path) changes)

    -- of this one
    own_ahead : (last : ℕ) → log.acked ≤ last → (next : ℕ) (later : List TakenEntry) → TakesInOrder client log last next (entry_stored of number part.effects part.base ∷ later) → IsAheadAt last served
        → version_at (tree_at (last + 1) log) path < version_at volume path
    own_ahead last low next later takes less =
        let entry : Entry = takes.0 in
        let same : part.effects ≡ entry.effects = ap (λ (e : TakenEntry). e.effects) takes.2 in
        let rises : version_at (changed_all entry.effects (tree_at last log)) path < version_at (changed_all entry.effects served.volume) path = lt-changes entry.effects (tree_at last log) served.volume path less in
        let is : volume ≡ changed_all entry.effects served.volume = changes ∙ ap (λ (es : List Effect). changed_all es served.volume) same in
        omega (arith, rises, ap (λ (v : Volume). version_at v path) is, ap (λ (v : Volume). version_at v path) (tree_at-next log last entry low takes.1))

  store_ahead : (of number : ℕ) (parts : List Part) (served : Served) (last next : ℕ) → log.acked ≤ last → TakesInOrder client log last next (own client (taken_through of number parts served)) → IsAheadAt last served
      → IsAheadAt next (served_through of number parts served)
  store_ahead of number [] served last next low takes less = subst (λ (n : ℕ). IsAheadAt n served) (sym takes) less
  store_ahead of number (part ∷ parts) served last next low takes less =
      by (nat_le number (served.last of)) (nat_lt (served.last of + 1) number) (first_conflict part.base served.volume) (apply_all 0 part.effects served.volume) refl
      (λ state from high more ahead. store_ahead of (number + 1) parts state from next high more ahead) takes
    where
      owned : (volume : Volume) → apply_all 0 part.effects served.volume ≡ Ok volume
          → ((state : Served) (from : ℕ) → log.acked ≤ from → TakesInOrder client log from next (own client (taken_through of (number + 1) parts state)) → IsAheadAt from state
          → IsAheadAt next (served_through of (number + 1) parts state))
          → (mine : Bool)
          → TakesInOrder client log last next
          (if mine then entry_stored of number part.effects part.base ∷ own client (taken_through of (number + 1) parts (served_after of number (Taken volume) served))
          else own client (taken_through of (number + 1) parts (served_after of number (Taken volume) served)))
          → IsAheadAt next (served_through of (number + 1) parts (served_after of number (Taken volume) served))
      owned volume at rest true takes =
          rest (served_after of number (Taken volume) served) (last + 1) (omega (arith, low)) takes.3
          (own_ahead of number part served volume at last low next (own client (taken_through of (number + 1) parts (served_after of number (Taken volume) served))) takes less)
      owned volume at rest false takes = rest (served_after of number (Taken volume) served) last low takes (other_ahead of number part served volume at last less)

      by : (repeated beyond : Bool) (conflict : Option Conflict) (applied : Result Volume (ℕ × TreeError)) → apply_all 0 part.effects served.volume ≡ applied
          → ((state : Served) (from : ℕ) → log.acked ≤ from → TakesInOrder client log from next (own client (taken_through of (number + 1) parts state)) → IsAheadAt from state
          → IsAheadAt next (served_through of (number + 1) parts state))
          → let judgement = judged repeated beyond conflict applied in
          TakesInOrder client log last next
          (own client (taken_if judgement (entry_stored of number part.effects part.base) ++ (if passes judgement then taken_through of (number + 1) parts (served_after of number judgement served) else [])))
          → IsAheadAt next (if passes judgement then served_through of (number + 1) parts (served_after of number judgement served) else served_after of number judgement served)
      by true beyond conflict applied at rest takes = rest served last low takes less
      by false true conflict applied at rest takes = subst (λ (n : ℕ). IsAheadAt n served) (sym takes) less
      by false false (Some conflict) applied at rest takes = subst (λ (n : ℕ). IsAheadAt n served) (sym takes) less
      by false false None (Err cause) at rest takes = subst (λ (n : ℕ). IsAheadAt n served) (sym takes) less
      by false false None (Ok volume) at rest takes = owned volume at rest (of == client) takes

  message_ahead : (message : Message) (served : Served) (last next : ℕ) → log.acked ≤ last → TakesInOrder client log last next (own client (taken_of message served)) → IsAheadAt last served → IsAheadAt next (state_after message served)
  message_ahead (Store of number parts) served last next low takes less = store_ahead of number parts served last next low takes less
  message_ahead _ served last next low takes less = subst (λ (n : ℕ). IsAheadAt n served) (sym takes) less

  step_ahead : (step : Step) (world : World) (next : ℕ) → log.acked ≤ world.served.last client → TakesInOrder client log (world.served.last client) next (own client (taken_by step world.served)) → IsAheadAt (world.served.last client) world.served
      → IsAheadAt next (happens step world).served
  step_ahead (Deliver message joins) world next low takes less = message_ahead message world.served (world.served.last client) next low takes less
  step_ahead (Send message) world next low takes less = subst (λ (n : ℕ). IsAheadAt n world.served) (sym takes) less
  step_ahead (Other message) world next low takes less = subst (λ (n : ℕ). IsAheadAt n world.served) (sym takes) less
  step_ahead (Relay message) world next low takes less = subst (λ (n : ℕ). IsAheadAt n world.served) (sym takes) less

module _ (client : ℕ) (ships : Bool) where
  -- ---- no pull brings a version

  -- a move that is possible never lowers one
  move_tree : (state : State) (move : Move) → IsPossible client ships state move → (path : FilePath) → version_at (after (entry_in move) (tree_of state.log)) path ≤ version_at (tree_of (moved move state).log) path
  move_tree state (Network step) may path = le_refl (version_at (tree_of state.log) path)
  move_tree state (Notes ask) may path = le_refl (version_at (tree_of state.log) path)
  move_tree state (Logs entry) may path = omega (arith, ap (λ (v : Volume). version_at v path) (after-append state.log.pending (entry ∷ []) state.log.base))
  move_tree state (Acknowledges upto reply) may path = omega (arith, ap (λ (v : Volume). version_at v path) (acknowledged_keeps state.log upto))
  move_tree state (Pulls last seen) may path =
      let idle : tree_of state.log ≡ state.log.base = ap (λ (es : List Entry). after es state.log.base) may.0 in
      omega (arith, ap (λ (v : Volume). version_at v path) idle, ap (λ (v : Volume). version_at v path) (pulled_replaces state.log seen may.0), may.3 path)
  move_tree state Saves may path = le_refl (version_at (tree_of state.log) path)

  moves_tree : (moves : List Move) (state : State) → AllPossible client ships state moves → (path : FilePath) → version_at (after (entries_in moves) (tree_of state.log)) path ≤ version_at (tree_of (moved_by moves state).log) path
  moves_tree [] state may path = le_refl (version_at (tree_of state.log) path)
  moves_tree (move ∷ moves) state may path =
      omega (
        arith,
        ap (λ (v : Volume). version_at v path) (after-append (entry_in move) (entries_in moves) (tree_of state.log)),
        le_after path (entries_in moves) (after (entry_in move) (tree_of state.log)) (tree_of (moved move state).log) (move_tree state move may.0 path),
        moves_tree moves (moved move state) may.1 path,
      )

  -- at the end of these moves the tree has the versions that the entries make
  abbrev PullsNothing : List Move → State → Type 0
  PullsNothing moves state = HasPulledNothing (entries_in moves) state.log (moved_by moves state).log

  -- so it has after the first of them
  so_here : (move : Move) (moves : List Move) (state : State) → AllPossible client ships state (move ∷ moves) → PullsNothing (move ∷ moves) state → HasPulledNothing (entry_in move) state.log (moved move state).log
  so_here move moves state may ends path =
      let before : Volume = after (entry_in move) (tree_of state.log) in
      let now : Volume = tree_of (moved move state).log in
      ⊎_elim (λ (less : version_at before path < version_at now path).
      absurd (omega (
        arith,
        lt_after path (entries_in moves) before now less,
        moves_tree moves (moved move state) may.1 path,
        ends path,
        ap (λ (v : Volume). version_at v path) (after-append (entry_in move) (entries_in moves) (tree_of state.log)),
      )))
      (λ (high : version_at now path ≤ version_at before path). omega (arith, high, move_tree state move may.0 path)) (cases_lt (version_at before path) (version_at now path))

  -- and it ends so behind that
  so_next : (move : Move) (moves : List Move) (state : State) → AllPossible client ships state (move ∷ moves) → PullsNothing (move ∷ moves) state → PullsNothing moves (moved move state)
  so_next move moves state may ends path =
      omega (
        arith,
        ends path,
        ap (λ (v : Volume). version_at v path) (after-append (entry_in move) (entries_in moves) (tree_of state.log)),
        same_after path (entries_in moves) (tree_of (moved move state).log) (after (entry_in move) (tree_of state.log)) (so_here move moves state may ends path),
      )

  -- ---- a path that is ahead stays so

  abbrev Overtaken : State → Type 0
  Overtaken state = IsOvertaken client state.log state.world

  move_stays : (state : State) (move : Move) → InStep client state.log state.world → IsPossible client ships state move → HasNoCollision client state.log.pending (moved move state).world.packets
      → HasPulledNothing (entry_in move) state.log (moved move state).log → Overtaken state → Overtaken (moved move state)
  move_stays state (Network step) now may none same ahead = (
    ahead.0,
    step_ahead client state.log ahead.0 step state.world ((happens step state.world).served.last client) now.not_lower
        (steps_on client ships state.log state.world step now (allowed_log client ships state step may) none).takes ahead.1,
  )
  move_stays state (Notes ask) now may none same ahead = ahead
  move_stays state (Logs entry) now may none same ahead =
      subst (IsAhead state.world.served.volume)
      (sym (tree_at-logged client state.log (state.world.served.last client) state.world.served.volume state.world.packets (agree client state.log state.world now) entry)) ahead
  move_stays state (Acknowledges upto reply) now may none same ahead =
      subst (IsAhead state.world.served.volume)
      (sym (tree_at-acknowledged state.log upto (state.world.served.last client) may.0 (told_at_most client state.log state.world upto reply now may.1 may.2))) ahead
  move_stays state (Pulls last seen) now may none same ahead =
      let path : FilePath = ahead.0 in
      let count : ℕ = state.world.served.last client in
      let idle : tree_of state.log ≡ state.log.base = ap (λ (es : List Entry). after es state.log.base) may.0 in
      let acked : count ≡ state.log.acked = omega (arith, now.not_lower, now.not_higher.at_most_logged, ap (λ (es : List Entry). length es) may.0) in
      let before : version_at (tree_at count state.log) path ≡ version_at (tree_of state.log) path = ap (λ (v : Volume). version_at v path) (tree_at-acked state.log count acked ∙ sym idle) in
      let later : version_at (tree_at count (pulled seen state.log)) path ≡ version_at (tree_of (pulled seen state.log)) path =
      ap (λ (v : Volume). version_at v path) (tree_at-acked (pulled seen state.log) count acked ∙ sym (pulled_replaces state.log seen may.0)) in
      (path, omega (arith, before, later, same path, ahead.1))
  move_stays state Saves now may none same ahead = ahead

  moves_stay : (moves : List Move) (state : State) → InStep client state.log state.world → AllPossible client ships state moves → IsApart client moves state → PullsNothing moves state → Overtaken state → Overtaken (moved_by moves state)
  moves_stay [] state now may apart ends ahead = ahead
  moves_stay (move ∷ moves) state now may apart ends ahead =
      let none = apart_here client move moves state apart in
      moves_stay moves (moved move state) (move_keeps client ships state move now may.0 none) may.1 (apart_next client move moves state apart) (so_next move moves state may ends)
      (move_stays state move now may.0 none (so_here move moves state may ends) ahead)

  -- ---- a refusal shows it

  module _ (number : ℕ) (refused : Message) (is : IsRefusal client number refused) where
    -- one that joins in a step
    step_refuses : (log : Log) (world : World) (step : Step) → world.client ≡ client → IsAllowed (MaySend client ships log) world step → InStep client log (happens step world) → IsIn refused (happens step world).packets
        → IsOvertaken client log (happens step world) ⊎ IsIn refused world.packets
    step_refuses log world (Send m) about may next among =
        ⊎_elim (λ old. inr old) (λ (here : refused ≡ m). absurd (sent_refuses_none client ships log number m may (subst (IsRefusal client number) here is))) (IsIn-push refused m world.packets among)
    step_refuses log world (Other m) about may next among =
        ⊎_elim (λ old. inr old) (λ (here : refused ≡ m). absurd (may.0 (refusal_client client number m (subst (IsRefusal client number) here is) ∙ sym about))) (IsIn-push refused m world.packets among)
    step_refuses log world (Relay m) about may next among =
        ⊎_elim (λ old. inr old)
        (λ (here : refused ≡ m). absurd (relay_refuses_none client number world.packets m (subst (λ (c : ℕ). IsLicensed c world.packets m) about may.0) (subst (IsRefusal client number) here is)))
        (IsIn-push refused m world.packets among)
    step_refuses log world (Deliver m false) about may next among = inr among
    step_refuses log world (Deliver m true) about may next among =
        ⊎_elim (λ old. inr old) (λ (here : refused ≡ answer m world.served). inl (answered m may.0 next among (subst (IsRefusal client number) here is))) (IsIn-push refused (answer m world.served) world.packets among)
      where
        answered : (m : Message) → IsForServer m → InStep client log (happens (Deliver m true) world) → IsIn refused (happens (Deliver m true) world).packets → IsRefusal client number (answer m world.served)
            → IsOvertaken client log (happens (Deliver m true) world)
        answered (Store of stored parts) for next among refuses =
            let now : Served = served_through of stored parts world.served in
            let told = refuses_next client number of stored (end_of stored parts) (now.last of) (verdict_through of stored parts world.served) refuses in
            let last_is : now.last of ≡ now.last client = ap now.last told.0 in
            refused_ahead client log (happens (Deliver (Store of stored parts) true) world) number refused next (omega (arith, told.1, last_is, next.not_lower)) is among
        answered (Pull of known) for next among refuses = absurd refuses
        answered _ for next among refuses = absurd for

    move_refuses : (state : State) (move : Move) → InStep client state.log state.world → IsPossible client ships state move → HasNoCollision client state.log.pending (moved move state).world.packets
        → IsIn refused (moved move state).world.packets → Overtaken (moved move state) ⊎ IsIn refused state.world.packets
    move_refuses state (Network step) now may none among =
        step_refuses state.log state.world step now.about (allowed_log client ships state step may) (move_keeps client ships state (Network step) now may none) among
    move_refuses state (Notes ask) now may none among = inr among
    move_refuses state (Logs entry) now may none among = inr among
    move_refuses state (Acknowledges upto reply) now may none among = inr among
    move_refuses state (Pulls last seen) now may none among = inr among
    move_refuses state Saves now may none among = inr among

    -- it was there before, or shows it at the end
    moves_refuse : (moves : List Move) (state : State) → InStep client state.log state.world → AllPossible client ships state moves → IsApart client moves state → PullsNothing moves state
        → IsIn refused (moved_by moves state).world.packets → Overtaken (moved_by moves state) ⊎ IsIn refused state.world.packets
    moves_refuse [] state now may apart ends among = inr among
    moves_refuse (move ∷ moves) state now may apart ends among =
        let none = apart_here client move moves state apart in
        let next = move_keeps client ships state move now may.0 none in
        let later = apart_next client move moves state apart in
        let so = so_next move moves state may ends in
        ⊎_elim (λ (over : Overtaken (moved_by moves (moved move state))). inl over)
        (λ (here : IsIn refused (moved move state).world.packets).
        ⊎_elim (λ (ahead : Overtaken (moved move state)). inl (moves_stay moves (moved move state) next may.1 later so ahead)) (λ (old : IsIn refused state.world.packets). inr old)
        (move_refuses state move now may.0 none here))
        (moves_refuse moves (moved move state) next may.1 later so among)

-- ---- the laws

-- what was pulled, told of the moves of a run
moves_end : (client : ℕ) (ships : Bool) (entries : List Entry) (moves : List Move) (old new : State) → entries_in moves ≡ entries → new ≡ moved_by moves old → HasPulledNothing entries old.log new.log → PullsNothing client ships moves old
moves_end client ships entries moves old new logs is same =
    subst (λ (s : State). HasPulledNothing (entries_in moves) old.log s.log) is (subst (λ (es : List Entry). HasPulledNothing es old.log new.log) (sym logs) same)

pub overtaken_stay : OvertakenClientsStaySo
overtaken_stay client ships entries made old new now runs none same ahead =
    subst (λ (s : State). IsOvertaken client s.log s.world) (sym runs.result)
    (moves_stay client ships runs.moves old now runs.possible (run_apart client ships entries made old new runs none) (moves_end client ships entries runs.moves old new runs.entries runs.result same) ahead)

pub refused_overtaken : RefusedClientsAreOvertaken
refused_overtaken client ships entries made old new now runs none same number refused is among less =
    let apart = run_apart client ships entries made old new runs none in
    let ends = moves_end client ships entries runs.moves old new runs.entries runs.result same in
    subst (λ (s : State). IsOvertaken client s.log s.world) (sym runs.result)
    (⊎_elim (λ (over : IsOvertaken client (moved_by runs.moves old).log (moved_by runs.moves old).world). over)
    (λ (first : IsIn refused old.world.packets). moves_stay client ships runs.moves old now runs.possible apart ends (refused_ahead client old.log old.world number refused now less is first))
    (moves_refuse client ships number refused is runs.moves old now runs.possible apart ends (subst (λ (s : State). IsIn refused s.world.packets) runs.result among)))
