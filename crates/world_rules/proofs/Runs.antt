-- Every run of a client in its world keeps its log in step, takes the client's entries in order, and leaves what it wrote alone.
use Rattle.std.proofs.Common.{true, false, true≢false, ◌≡◌, ◌≢◌, inl, inr, ⊎_elim, ℕ, zero, suc, ◌+◌, ◌-◌, ◌≤◌, List, [], ◌∷◌, ◌++◌, length, take, drop, refl, sym, ◌∙◌, ap, subst, arith, append_assoc, append-nil, length-append, length-drop, length-take}
use Rattle.std.specs.Prelude.{Bool, IsTrue, ◌==◌, if◌then◌else◌}
use Rattle.std.proofs.lemmas.Bool.Decides.{nat_tests}
use Rattle.std.proofs.lemmas.List.{length-take-le, take-append-le, drop-append-le, drop_all}
use Rattle.std.proofs.lemmas.List.Elements.{filter-append}
use Rattle.file_paths.specs.Path.{FilePath}
use Rattle.tree_values.specs.Tree.{Volume, version_at, IsTree}
use Rattle.tree_values.specs.Effects.{changed_all}
use Rattle.vol_tree.specs.Behind.{IsBehind}
use Rattle.tree_values.specs.Lists.{IsIn}
use Rattle.vol_tree.proofs.Behind.{IsIn-left, IsIn-right, applied_all-tree, same_volume}
use Rattle.mod_log.specs.declared.log.Entry.{Entry}
use Rattle.mod_log.specs.Log.{Log, IsLog, AreEntriesOf, after, tree_at, pulled, new_log}
use Rattle.wire_frames.specs.declared.message.Message.{Message}
use Rattle.wire_frames.specs.declared.message.Message.TheVariants.{Store, Operate, Pull, Accepted, Stale, Unfit, Snapshot, Done, Full}
use Rattle.wire_frames.specs.Frame.{client_of, IsValid}
use Rattle.world_rules.specs.declared.asking.Ask.{Ask}
use Rattle.world_rules.specs.Served.{TakenEntry, entry_stored, IsServed}
use Rattle.world_rules.specs.World.{World, Step, Send, Deliver, Other, Relay, happens, happen, noted, Is, IsAllowed, AreAllowed, MovedBy, Moved}
use Rattle.world_rules.specs.Asking.{AnswersStand}
use Rattle.world_rules.specs.InStep.{InStep, MaySend, TellsTaken, HasNoCollision}
use Rattle.world_rules.specs.Run.{State, kept_at, restarted, AreInStep, MaySendKept, Move, Network, Notes, Logs, Acknowledges, Pulls, Saves, moved, IsPossible, AllPossible, moved_by, entry_in, entries_in, ask_in, asks_in, taken_by, taken_in_move, taken_in, own, numbered, entries_between, AreAllOf, OthersSpare, IsSameAt, Runs}
use Rattle.world_rules.proofs.Asks.{in_either, asked_among, noted-none, noted-noted, answers_stay, answers_append}
use Rattle.world_rules.proofs.Next.{take_next, drop_within, drop_twice, tree_at-acked, tree_at-acknowledged, TakesInOrder, takes_up}
use Rattle.world_rules.proofs.Steps.{Agree}
use Rattle.world_rules.proofs.Client.{logged_agree, tree_at-logged, acknowledged_agree, pulled_agree, IsLog-new, new_behind}
use Rattle.world_rules.proofs.Events.{agree, in_step, steps_on, noted_in_step}
use Rattle.world_rules.proofs.Colliding.{packets_stay, IsApart, AreApart, apart_here, apart_next, apart_in_memory, kept_apart, both_apart, run_apart, run_both_apart, kept_none}
use Rattle.mod_log.proofs.Entries.{legal_each}

-- ---- the client's moves on a log in step

-- what a reply tells to be taken was taken
pub told_at_most : (client : ℕ) (log : Log) (world : World) (number : ℕ) (reply : Message) → InStep client log world → TellsTaken client number reply → IsIn reply world.packets → number ≤ world.served.last client
told_at_most client log world number (Accepted of stored upto) now is among = omega (arith, now.fitting (Accepted of stored upto) among is.0, is.1)
told_at_most client log world number (Stale of stored upto path theirs ours) now is among = omega (arith, (now.fitting (Stale of stored upto path theirs ours) among is.0).0.at_most_taken, is.1)
told_at_most client log world number (Unfit of stored upto index fault) now is among = omega (arith, (now.fitting (Unfit of stored upto index fault) among is.0).0.at_most_taken, is.1)
told_at_most client log world number (Full of stored upto index fault) now is among = omega (arith, (now.fitting (Full of stored upto index fault) among is.0).0.at_most_taken, is.1)
told_at_most client log world number (Done of accepted) now is among = omega (arith, now.fitting (Done of accepted) among is.0, is.1)
told_at_most client log world number _ now is among = absurd is

pulled_idle : (client acked : ℕ) (tree : Volume) (pending : List Entry) (seen : Volume) (last : ℕ) (volume : Volume) (packets : List Message) (upto : ℕ) → pending ≡ [] → IsIn (Snapshot client acked upto seen) packets
    → Agree client (record { acked = acked; base = tree; pending = pending }) last volume packets → Agree client (record { acked = acked; base = seen; pending = pending }) last volume packets
pulled_idle client acked tree [] seen last volume packets upto none among now = pulled_agree client acked tree seen last volume packets acked upto among now
pulled_idle client acked tree (entry ∷ entries) seen last volume packets upto none among now = absurd (cc)

-- ---- moves keep in step

-- a log in step gives way to another that agrees with the world
same_world : (client : ℕ) (log next : Log) (world : World) → InStep client log world → Agree client next (world.served.last client) world.served.volume world.packets → InStep client next world
same_world client log next world now agrees = in_step client next world now.about now.own_number now.valid now.served_is agrees

-- what the kept log may send, the log in memory may send, and so may the kept one
pub allowed_log : (client : ℕ) (ships : Bool) (state : State) (step : Step) → IsAllowed (MaySendKept client ships state) state.world step → IsAllowed (MaySend client ships state.log) state.world step
allowed_log client ships state (Send message) may = may.0
allowed_log client ships state (Deliver message joins) may = may
allowed_log client ships state (Other message) may = may
allowed_log client ships state (Relay message) may = may

pub allowed_kept : (client : ℕ) (ships : Bool) (state : State) (step : Step) → IsAllowed (MaySendKept client ships state) state.world step → IsAllowed (MaySend client ships state.kept) state.world step
allowed_kept client ships state (Send message) may = subst (λ log. MaySend client ships log message) (sym may.1) may.0
allowed_kept client ships state (Deliver message joins) may = may
allowed_kept client ships state (Other message) may = may
allowed_kept client ships state (Relay message) may = may

pub move_keeps : (client : ℕ) (ships : Bool) (state : State) (move : Move) → InStep client state.log state.world → IsPossible client ships state move
    → HasNoCollision client state.log.pending (moved move state).world.packets → InStep client (moved move state).log (moved move state).world
move_keeps client ships state (Network step) now may none = (steps_on client ships state.log state.world step now (allowed_log client ships state step may) none).in_step
move_keeps client ships state (Notes ask) now may none = noted_in_step client state.log state.world (ask ∷ []) now
move_keeps client ships state (Logs entry) now may none = same_world client state.log _ state.world now (logged_agree client state.log _ _ _ (agree client state.log state.world now) entry may)
move_keeps client ships state (Acknowledges upto reply) now may none = same_world client state.log _ state.world now
    (acknowledged_agree client state.log upto _ _ _ may.0 (told_at_most client state.log state.world upto reply now may.1 may.2) (agree client state.log state.world now))
move_keeps client ships state (Pulls last seen) now may none = same_world client state.log _ state.world now
    (pulled_idle client state.log.acked state.log.base state.log.pending seen _ _ _ last may.0 may.2 (agree client state.log state.world now))
move_keeps client ships state Saves now may none = now

pub moves_keep : (client : ℕ) (ships : Bool) (moves : List Move) (state : State) → InStep client state.log state.world → AllPossible client ships state moves → IsApart client moves state → InStep client (moved_by moves state).log (moved_by moves state).world
moves_keep client ships [] state now may apart = now
moves_keep client ships (move ∷ moves) state now may apart =
    moves_keep client ships moves (moved move state) (move_keeps client ships state move now may.0 (apart_here client move moves state apart)) may.1 (apart_next client move moves state apart)

-- ---- and so does what is kept

kept_moves : (client : ℕ) (ships : Bool) (state : State) (move : Move) → AreInStep client state → IsPossible client ships state move → HasNoCollision client state.kept.pending (moved move state).world.packets → InStep client (moved move state).kept (moved move state).world
kept_moves client ships state (Network step) now may none = (steps_on client ships state.kept state.world step now.kept (allowed_kept client ships state step may) none).in_step
kept_moves client ships state (Notes ask) now may none = noted_in_step client state.kept state.world (ask ∷ []) now.kept
kept_moves client ships state (Logs entry) now may none = now.kept
kept_moves client ships state (Acknowledges upto reply) now may none = now.kept
kept_moves client ships state (Pulls last seen) now may none = now.kept
kept_moves client ships state Saves now may none = now.in_memory

both_keep : (client : ℕ) (ships : Bool) (state : State) (move : Move) → AreInStep client state → IsPossible client ships state move
    → HasNoCollision client state.log.pending (moved move state).world.packets → HasNoCollision client state.kept.pending (moved move state).world.packets → AreInStep client (moved move state)
both_keep client ships state move now may none none_kept = record { in_memory = move_keeps client ships state move now.in_memory may none; kept = kept_moves client ships state move now may none_kept }

-- both logs stay in step in the first of some moves
keep_first : (client : ℕ) (ships : Bool) (move : Move) (moves : List Move) (state : State) → AreInStep client state → IsPossible client ships state move → AreApart client (move ∷ moves) state → AreInStep client (moved move state)
keep_first client ships move moves state now may apart =
    both_keep client ships state move now may (apart_here client move moves state (apart_in_memory client (move ∷ moves) state apart)) (kept_apart client move moves state apart)

moves_keep_both : (client : ℕ) (ships : Bool) (moves : List Move) (state : State) → AreInStep client state → AllPossible client ships state moves → AreApart client moves state → AreInStep client (moved_by moves state)
moves_keep_both client ships [] state now may apart = now
moves_keep_both client ships (move ∷ moves) state now may apart =
    moves_keep_both client ships moves (moved move state) (keep_first client ships move moves state now may.0 apart) may.1 (both_apart client move moves state apart)

-- ---- what is taken of the client are its entries, in order

length-numbered : (client number : ℕ) (entries : List Entry) → length (numbered client number entries) ≡ length entries
length-numbered client number [] = refl
length-numbered client number (entry ∷ entries) = ap suc (length-numbered client (number + 1) entries)

numbered-push : (client number : ℕ) (entries : List Entry) (entry : Entry) (next : ℕ) → next ≡ number + length entries
    → numbered client number (entries ++ entry ∷ []) ≡ numbered client number entries ++ entry_stored client next entry.effects entry.base ∷ []
numbered-push client number [] entry next e = let same : number ≡ next = omega arith in ap (λ n. entry_stored client n entry.effects entry.base ∷ []) same
numbered-push client number (first ∷ entries) entry next e = ap (λ ms. entry_stored client number first.effects first.base ∷ ms) (numbered-push client (number + 1) entries entry next (omega arith))

module _ (client acked first : ℕ) (low : acked ≤ first) where
  taken_next : (last : ℕ) (entered rest : List Entry) (entry : Entry) → first ≤ last → drop (last - acked) entered ≡ entry ∷ rest
      → entries_between client acked first (last + 1) entered ≡ entries_between client acked first last entered ++ entry_stored client (last + 1) entry.effects entry.base ∷ []
  taken_next last entered rest entry above is =
      let count = last - acked in
      let more : last + 1 - acked ≡ suc (last - acked) = omega arith in
      let within = drop_within count entered entry rest is in
      let long : length (take count entered) ≡ count = length-take-le count entered (omega arith) in
      let taken : take (last + 1 - acked) entered ≡ take (last - acked) entered ++ entry ∷ [] = ap (λ k. take k entered) more ∙ take_next count entered entry rest is in
      ap (λ es. drop (first - acked) (numbered client (acked + 1) es)) taken
      ∙ ap (drop (first - acked)) (numbered-push client (acked + 1) (take count entered) entry (last + 1) (omega (arith, long)))
      ∙ drop-append-le (first - acked) (numbered client (acked + 1) (take count entered)) _ (omega (arith, length-numbered client (acked + 1) (take count entered), long))

  -- what is pending are the entries after the acknowledged one, and what was taken are those up to the last
  record InOrder (state : State) (entered : List Entry) (taken : List TakenEntry) : Type 0 where
    above : acked ≤ state.log.acked
    within : state.log.acked ≤ acked + length entered
    last_above : first ≤ state.world.served.last client
    pending : state.log.pending ≡ drop (state.log.acked - acked) entered
    own_taken : own client taken ≡ entries_between client acked first (state.world.served.last client) entered

  taken_more : (taken news are more : List TakenEntry) → own client taken ≡ are → own client news ≡ more → own client (taken ++ news) ≡ are ++ more
  taken_more taken news are more e f = filter-append (λ (entry : TakenEntry). entry.client == client) taken news ∙ cc

  abbrev last_of : State → ℕ
  last_of state = state.world.served.last client

  -- the entries up to a number, and those that are taken behind it
  taken_in_order : (log : Log) (entered : List Entry) (last next : ℕ) (taken : List TakenEntry) → acked ≤ log.acked → log.pending ≡ drop (log.acked - acked) entered → log.acked ≤ last → first ≤ last
      → TakesInOrder client log last next taken → entries_between client acked first next entered ≡ entries_between client acked first last entered ++ taken
  taken_in_order log entered last next [] above pending low from takes = ap (λ n. entries_between client acked first n entered) takes ∙ sym (append-nil _)
  taken_in_order log entered last next (one ∷ more) above pending low from takes =
      let entry = takes.0 in
      let count : (log.acked - acked) + (last - log.acked) ≡ last - acked = omega (arith, above, low) in
      let is : drop (last - acked) entered ≡ entry ∷ takes.1.rest =
      ap (λ n. drop n entered) (sym count) ∙ sym (drop_twice (log.acked - acked) (last - log.acked) entered) ∙ ap (drop (last - log.acked)) (sym pending) ∙ takes.1.is in
      let here = taken_next last entered takes.1.rest entry from is in
      let later = taken_in_order log entered (last + 1) next more above pending (omega (arith, low)) (omega (arith, from)) takes.3 in
      later
      ∙ ap (λ before. before ++ more) (here ∙ ap (λ (t : TakenEntry). entries_between client acked first last entered ++ t ∷ []) (sym takes.2))
      ∙ append_assoc (entries_between client acked first last entered) (one ∷ []) more

  step_in_order : (state : State) (step : Step) (entered : List Entry) (taken news : List TakenEntry) → state.log.acked ≤ last_of state
      → TakesInOrder client state.log (last_of state) (last_of (moved (Network step) state)) (own client news) → InOrder state entered taken → InOrder (moved (Network step) state) entered (taken ++ news)
  step_in_order state step entered taken news low takes told = record {
    above = told.above;
    within = told.within;
    last_above = omega (arith, told.last_above, takes_up client state.log (last_of state) (last_of (moved (Network step) state)) (own client news) takes);
    pending = told.pending;
    own_taken = taken_more taken news _ (own client news) told.own_taken refl
        ∙ sym (taken_in_order state.log entered (last_of state) (last_of (moved (Network step) state)) (own client news) told.above told.pending low told.last_above takes);
  }

  -- after an entry is logged the ones up to the last are the same
  taken_same : (last : ℕ) (entered : List Entry) (entry : Entry) → last ≤ acked + length entered → entries_between client acked first last (entered ++ entry ∷ []) ≡ entries_between client acked first last entered
  taken_same last entered entry within =
      let short : last - acked ≤ length entered = omega arith in
      ap (λ es. drop (first - acked) (numbered client (acked + 1) es)) (take-append-le (last - acked) entered (entry ∷ []) short)

  own_nil : (taken are : List TakenEntry) → own client taken ≡ are → own client (taken ++ []) ≡ are
  own_nil taken are e = ap (own client) (append-nil taken) ∙ e

  logs_in_order : (state : State) (entry : Entry) (entered : List Entry) (taken : List TakenEntry) → InStep client state.log state.world → InOrder state entered taken → InOrder (moved (Logs entry) state) (entered ++ entry ∷ []) (taken ++ [])
  logs_in_order state entry entered taken now told =
      let long = length-append entered (entry ∷ []) in
      let pending_long : length state.log.pending ≡ length entered - (state.log.acked - acked) = ap length told.pending ∙ length-drop (state.log.acked - acked) entered in
      record {
        above = told.above;
        within = omega (arith, told.within, long);
        last_above = told.last_above;
        pending = ap (λ es. es ++ entry ∷ []) told.pending ∙ sym (drop-append-le (state.log.acked - acked) entered (entry ∷ []) (omega (arith, told.within, told.above)));
        own_taken = own_nil taken _ told.own_taken ∙ sym (taken_same (last_of state) entered entry (omega (arith, now.not_higher.at_most_logged, pending_long, told.within, told.above)));
      }

  -- the acknowledged number goes up
  acknowledged_in_order : (state : State) (upto : ℕ) (reply : Message) (entered : List Entry) (taken : List TakenEntry) → state.log.acked ≤ upto → upto ≤ state.log.acked + length state.log.pending
      → InOrder state entered taken → InOrder (moved (Acknowledges upto reply) state) entered taken
  acknowledged_in_order state upto reply entered taken low within told =
      let long : length state.log.pending ≡ length entered - (state.log.acked - acked) = ap length told.pending ∙ length-drop (state.log.acked - acked) entered in
      let count : (state.log.acked - acked) + (upto - state.log.acked) ≡ upto - acked = omega (arith, told.above, low) in
      record {
        above = omega (arith, told.above, low);
        within = omega (arith, told.above, told.within, within, long);
        last_above = told.last_above;
        pending = ap (drop (upto - state.log.acked)) told.pending ∙ drop_twice (state.log.acked - acked) (upto - state.log.acked) entered ∙ ap (λ n. drop n entered) count;
        own_taken = told.own_taken;
      }

  InOrder-nil : (state : State) (entered : List Entry) (taken : List TakenEntry) → InOrder state entered taken → InOrder state (entered ++ []) (taken ++ [])
  InOrder-nil state entered taken told = subst (λ es. InOrder state es (taken ++ [])) (sym (append-nil entered)) (subst (λ ms. InOrder state entered ms) (sym (append-nil taken)) told)

  move_in_order : (ships : Bool) (state : State) (move : Move) (entered : List Entry) (taken : List TakenEntry)
      → InStep client state.log state.world → IsPossible client ships state move → HasNoCollision client state.log.pending (moved move state).world.packets
      → InOrder state entered taken → InOrder (moved move state) (entered ++ entry_in move) (taken ++ taken_in_move move state)
  move_in_order ships state (Network step) entered taken now may none told =
      let on = steps_on client ships state.log state.world step now (allowed_log client ships state step may) none in
      subst (λ es. InOrder (moved (Network step) state) es (taken ++ taken_by step state.world.served)) (sym (append-nil entered))
      (step_in_order state step entered taken (taken_by step state.world.served) now.not_lower on.takes told)
  move_in_order ships state (Notes ask) entered taken now may none told =
      InOrder-nil _ entered taken (record { above = told.above; within = told.within; last_above = told.last_above; pending = told.pending; own_taken = told.own_taken })
  move_in_order ships state (Logs entry) entered taken now may none told = logs_in_order state entry entered taken now told
  move_in_order ships state (Acknowledges upto reply) entered taken now may none told =
      let high = told_at_most client state.log state.world upto reply now may.1 may.2 in
      InOrder-nil _ entered taken (acknowledged_in_order state upto reply entered taken may.0 (omega (arith, high, now.not_higher.at_most_logged)) told)
  move_in_order ships state (Pulls last seen) entered taken now may none told =
      InOrder-nil _ entered taken (record { above = told.above; within = told.within; last_above = told.last_above; pending = told.pending; own_taken = told.own_taken })
  move_in_order ships state Saves entered taken now may none told =
      InOrder-nil _ entered taken (record { above = told.above; within = told.within; last_above = told.last_above; pending = told.pending; own_taken = told.own_taken })

  moves_in_order : (ships : Bool) (moves : List Move) (state : State) (entered : List Entry) (taken : List TakenEntry)
      → InStep client state.log state.world → AllPossible client ships state moves → IsApart client moves state
      → InOrder state entered taken → InOrder (moved_by moves state) (entered ++ entries_in moves) (taken ++ taken_in moves state)
  moves_in_order ships [] state entered taken now may apart told = InOrder-nil state entered taken told
  moves_in_order ships (move ∷ moves) state entered taken now may apart told =
      let none = apart_here client move moves state apart in
      let rest = moves_in_order ships moves (moved move state) (entered ++ entry_in move) (taken ++ taken_in_move move state)
      (move_keeps client ships state move now may.0 none) may.1 (apart_next client move moves state apart) (move_in_order ships state move entered taken now may.0 none told) in
      subst (λ es. InOrder (moved_by moves (moved move state)) es (taken ++ taken_in (move ∷ moves) state)) (append_assoc entered (entry_in move) (entries_in moves))
      (subst (λ ms. InOrder (moved_by moves (moved move state)) ((entered ++ entry_in move) ++ entries_in moves) ms) (append_assoc taken (taken_in_move move state) (taken_in moves (moved move state))) rest)

-- ---- a path that no other client writes stays as the client's tree has it

-- the path has one version in the served volume and in the client's tree
abbrev pub IsSameVersion : ℕ → Log → World → FilePath → Type 0
IsSameVersion client log world path = version_at (tree_at (world.served.last client) log) path ≡ version_at world.served.volume path

pulled_same : (client : ℕ) (log : Log) (seen : Volume) (last : ℕ) (volume : Volume) (packets : List Message) (upto : ℕ) (path : FilePath) → log.pending ≡ []
    → IsIn (Snapshot client log.acked upto seen) packets → version_at log.base path ≤ version_at seen path → Agree client log last volume packets
    → version_at (tree_at last log) path ≡ version_at volume path → version_at (tree_at last (pulled seen log)) path ≡ version_at volume path
pulled_same client log seen last volume packets upto path none among newer now e =
    let fits = now.fitting (Snapshot client log.acked upto seen) among refl in
    let is : last ≡ log.acked = omega (arith, now.not_lower, now.not_higher.at_most_logged, ap length none) in
    let base : version_at log.base path ≡ version_at volume path = ap (λ t. version_at t path) (sym (tree_at-acked log last is)) ∙ e in
    ap (λ t. version_at t path) (tree_at-acked (pulled seen log) last is) ∙ omega (arith, newer, base, fits.2.versions path)

move_spares : (client : ℕ) (ships : Bool) (path : FilePath) (state : State) (move : Move) → OthersSpare client path (taken_in_move move state)
    → InStep client state.log state.world → IsPossible client ships state move → HasNoCollision client state.log.pending (moved move state).world.packets
    → IsSameVersion client state.log state.world path → IsSameVersion client (moved move state).log (moved move state).world path
move_spares client ships path state (Network step) spare now may none same = (steps_on client ships state.log state.world step now (allowed_log client ships state step may) none).same path spare same
move_spares client ships path state (Notes ask) spare now may none same = same
move_spares client ships path state (Logs entry) spare now may none same = ap (λ t. version_at t path) (tree_at-logged client state.log _ _ _ (agree client state.log state.world now) entry) ∙ same
move_spares client ships path state (Acknowledges upto reply) spare now may none same =
    ap (λ t. version_at t path) (tree_at-acknowledged state.log upto (state.world.served.last client) may.0 (told_at_most client state.log state.world upto reply now may.1 may.2)) ∙ same
move_spares client ships path state (Pulls last seen) spare now may none same = pulled_same client state.log seen _ _ _ last path may.0 may.2 (may.3 path) (agree client state.log state.world now) same
move_spares client ships path state Saves spare now may none same = same

moves_spare : (client : ℕ) (ships : Bool) (path : FilePath) (moves : List Move) (state : State) → OthersSpare client path (taken_in moves state)
    → InStep client state.log state.world → AllPossible client ships state moves → IsApart client moves state
    → IsSameVersion client state.log state.world path → IsSameVersion client (moved_by moves state).log (moved_by moves state).world path
moves_spare client ships path [] state spare now may apart same = same
moves_spare client ships path (move ∷ moves) state spare now may apart same =
    let none = apart_here client move moves state apart in
    let next = move_keeps client ships state move now may.0 none in
    let same_next = move_spares client ships path state move (λ message among. spare message (IsIn-left message _ _ among)) now may.0 none same in
    moves_spare client ships path moves (moved move state) (λ message among. spare message (IsIn-right message _ _ among)) next may.1 (apart_next client move moves state apart) same_next

-- what is kept has the path's version, too
kept_spares : (client : ℕ) (ships : Bool) (path : FilePath) (state : State) (move : Move) → OthersSpare client path (taken_in_move move state) → AreInStep client state → IsPossible client ships state move
    → HasNoCollision client state.kept.pending (moved move state).world.packets → IsSameVersion client state.log state.world path → IsSameVersion client state.kept state.world path → IsSameVersion client (moved move state).kept (moved move state).world path
kept_spares client ships path state (Network step) spare now may none same kept = (steps_on client ships state.kept state.world step now.kept (allowed_kept client ships state step may) none).same path spare kept
kept_spares client ships path state (Notes ask) spare now may none same kept = kept
kept_spares client ships path state (Logs entry) spare now may none same kept = kept
kept_spares client ships path state (Acknowledges upto reply) spare now may none same kept = kept
kept_spares client ships path state (Pulls last seen) spare now may none same kept = kept
kept_spares client ships path state Saves spare now may none same kept = same

kept_moves_spare : (client : ℕ) (ships : Bool) (path : FilePath) (moves : List Move) (state : State) → OthersSpare client path (taken_in moves state) → AreInStep client state → AllPossible client ships state moves → AreApart client moves state
    → IsSameVersion client state.log state.world path → IsSameVersion client state.kept state.world path → IsSameVersion client (moved_by moves state).kept (moved_by moves state).world path
kept_moves_spare client ships path [] state spare now may apart same kept = kept
kept_moves_spare client ships path (move ∷ moves) state spare now may apart same kept =
    let first = λ (entry : TakenEntry) (among : IsIn entry (taken_in_move move state)). spare entry (IsIn-left entry _ _ among) in
    kept_moves_spare client ships path moves (moved move state) (λ message among. spare message (IsIn-right message _ _ among)) (keep_first client ships move moves state now may.0 apart) may.1
    (both_apart client move moves state apart)
    (move_spares client ships path state move first now.in_memory may.0 (apart_here client move moves state (apart_in_memory client (move ∷ moves) state apart)) same)
    (kept_spares client ships path state move first now may.0 (kept_apart client move moves state apart) same kept)

-- ---- whole runs

pub both_in_step : (client : ℕ) (ships : Bool) (entries : List Entry) (made : List Ask) (old new : State) → AreInStep client old → Runs client ships entries made old new
    → HasNoCollision client (old.kept.pending ++ (old.log.pending ++ entries)) new.world.packets → AreInStep client new
both_in_step client ships entries made old new now runs none =
    subst (AreInStep client) (sym runs.result) (moves_keep_both client ships runs.moves old now runs.possible (run_both_apart client ships entries made old new runs none))

pub restarts : (client : ℕ) (state : State) → AreInStep client state → AreInStep client (restarted state)
restarts client state now = record { in_memory = now.kept; kept = now.kept }

pub runs_in_step : (client : ℕ) (ships : Bool) (entries : List Entry) (made : List Ask) (old new : State) → InStep client old.log old.world → Runs client ships entries made old new
    → HasNoCollision client (old.log.pending ++ entries) new.world.packets → InStep client new.log new.world
runs_in_step client ships entries made old new now runs none =
    subst (λ s. InStep client s.log s.world) (sym runs.result) (moves_keep client ships runs.moves old now runs.possible (run_apart client ships entries made old new runs none))

in_order_at_end : (client : ℕ) (ships : Bool) (entries : List Entry) (made : List Ask) (old new : State) (now : InStep client old.log old.world) → (runs : Runs client ships entries made old new)
    → HasNoCollision client (old.log.pending ++ entries) new.world.packets → InOrder client old.log.acked (old.world.served.last client) now.not_lower new (old.log.pending ++ entries) (taken_in runs.moves old)
in_order_at_end client ships entries made old new now runs none =
    let acked = old.log.acked in
    let last = old.world.served.last client in
    let zero_is : acked - acked ≡ 0 = omega arith in
    let short : length (numbered client (acked + 1) (take (last - acked) old.log.pending)) ≤ last - acked = omega (arith, length-numbered client (acked + 1) (take (last - acked) old.log.pending), length-take (last - acked) old.log.pending) in
    let told : InOrder client old.log.acked (old.world.served.last client) now.not_lower old old.log.pending [] =
    record {
      above = omega arith;
      within = omega arith;
      last_above = omega arith;
      pending = ap (λ k. drop k old.log.pending) (sym zero_is);
      own_taken = sym (drop_all _ _ short);
    } in
    subst (λ es. InOrder client acked last now.not_lower new (old.log.pending ++ es) (taken_in runs.moves old)) runs.entries
    (subst (λ s. InOrder client acked last now.not_lower s (old.log.pending ++ entries_in runs.moves) (taken_in runs.moves old)) (sym runs.result)
    (moves_in_order client acked last now.not_lower ships runs.moves old old.log.pending [] now runs.possible (run_apart client ships entries made old new runs none) told))

pub entries_in_order : (client : ℕ) (ships : Bool) (entries : List Entry) (made : List Ask) (old new : State) → InStep client old.log old.world → (runs : Runs client ships entries made old new)
    → HasNoCollision client (old.log.pending ++ entries) new.world.packets
    → own client (taken_in runs.moves old) ≡ entries_between client old.log.acked (old.world.served.last client) (new.world.served.last client) (old.log.pending ++ entries)
entries_in_order client ships entries made old new now runs none = (in_order_at_end client ships entries made old new now runs none).own_taken

pub pending_later : (client : ℕ) (ships : Bool) (entries : List Entry) (made : List Ask) (old new : State) → InStep client old.log old.world → Runs client ships entries made old new → HasNoCollision client (old.log.pending ++ entries) new.world.packets
    → (old.log.acked ≤ new.log.acked) × (new.log.pending ≡ drop (new.log.acked - old.log.acked) (old.log.pending ++ entries))
pending_later client ships entries made old new now runs none = let told = in_order_at_end client ships entries made old new now runs none in (told.above, told.pending)

-- no entry is lost: the last number, acknowledged or pending, grew by those that were logged
pub counted_later : (client : ℕ) (ships : Bool) (entries : List Entry) (made : List Ask) (old new : State) → InStep client old.log old.world → Runs client ships entries made old new → HasNoCollision client (old.log.pending ++ entries) new.world.packets
    → new.log.acked + length new.log.pending ≡ old.log.acked + length old.log.pending + length entries
counted_later client ships entries made old new now runs none =
    let told = in_order_at_end client ships entries made old new now runs none in
    omega (arith, told.above, told.within, ap length told.pending, length-drop (new.log.acked - old.log.acked) (old.log.pending ++ entries), length-append old.log.pending entries)

pub path_is_same : (client : ℕ) (ships : Bool) (entries : List Entry) (made : List Ask) (old new : State) (path : FilePath) → InStep client old.log old.world → (runs : Runs client ships entries made old new)
    → version_at old.world.served.volume path ≡ version_at (tree_at (old.world.served.last client) old.log) path → OthersSpare client path (taken_in runs.moves old)
    → HasNoCollision client (old.log.pending ++ entries) new.world.packets → IsSameAt client new.log new.world path
path_is_same client ships entries made old new path now runs e spare none =
    let same = moves_spare client ships path runs.moves old spare now runs.possible (run_apart client ships entries made old new runs none) (sym e) in
    let same_new = subst (λ s. IsSameVersion client s.log s.world path) (sym runs.result) same in
    let end = runs_in_step client ships entries made old new now runs none in
    record { version = sym same_new; node = sym (end.behind.nodes path same_new) }

pub path_is_kept : (client : ℕ) (ships : Bool) (entries : List Entry) (made : List Ask) (old new : State) (path : FilePath) → AreInStep client old → old.kept ≡ old.log → (runs : Runs client ships entries made old new)
    → version_at old.world.served.volume path ≡ version_at (tree_at (old.world.served.last client) old.log) path → OthersSpare client path (taken_in runs.moves old)
    → HasNoCollision client (old.log.pending ++ entries) new.world.packets → IsSameAt client new.kept new.world path
path_is_kept client ships entries made old new path now begins runs e spare none =
    let none_kept = kept_none client entries old new begins none in
    let same_kept = subst (λ log. IsSameVersion client log old.world path) (sym begins) (sym e) in
    let same = kept_moves_spare client ships path runs.moves old spare now runs.possible (run_both_apart client ships entries made old new runs none_kept) (sym e) same_kept in
    let same_new = subst (λ s. IsSameVersion client s.kept s.world path) (sym runs.result) same in
    let end = (both_in_step client ships entries made old new now runs none_kept).kept in
    record { version = sym same_new; node = sym (end.behind.nodes path same_new) }

-- ---- a client that writes alone

-- the client's tree after some of its entries is a tree
after-tree : (k number : ℕ) (entries : List Entry) (volume : Volume) → IsTree volume → AreEntriesOf number volume entries → IsTree (after (take k entries) volume)
after-tree zero number entries volume tree are = tree
after-tree (suc k) number [] volume tree are = tree
after-tree (suc k) number (entry ∷ entries) volume tree are =
    after-tree k (number + 1) entries (changed_all entry.effects volume) (applied_all-tree entry.effects 0 volume _ tree (legal_each entry.effects are.0.fits.each) are.0.applies) are.1

pub tree_at-tree : (number : ℕ) (log : Log) → IsLog log → IsTree (tree_at number log)
tree_at-tree number log is = after-tree (number - log.acked) (log.acked + 1) log.pending log.base is.base_is is.entries

-- a log in step that has at each path the served version has the served tree
served_tree : (client : ℕ) (log : Log) (world : World) → InStep client log world → ((path : FilePath) → IsSameAt client log world path) → world.served.volume ≡ tree_at (world.served.last client) log
served_tree client log world now at =
    sym (same_volume (tree_at (world.served.last client) log) world.served.volume now.behind (tree_at-tree (world.served.last client) log now.log_is) now.served_is.tree
    (λ path. omega (arith, (at path).version)))

pub lone_tree : (client : ℕ) (ships : Bool) (entries : List Entry) (made : List Ask) (old new : State) → InStep client old.log old.world → (runs : Runs client ships entries made old new)
    → AreAllOf client (taken_in runs.moves old)
    → old.world.served.volume ≡ tree_at (old.world.served.last client) old.log → HasNoCollision client (old.log.pending ++ entries) new.world.packets
    → new.world.served.volume ≡ tree_at (new.world.served.last client) new.log
lone_tree client ships entries made old new now runs alone same none =
    served_tree client new.log new.world (runs_in_step client ships entries made old new now runs none)
    (λ path. path_is_same client ships entries made old new path now runs (ap (λ v. version_at v path) same) (λ message among differ. absurd (differ (alone message among))) none)

pub lone_kept : (client : ℕ) (ships : Bool) (entries : List Entry) (made : List Ask) (old new : State) → AreInStep client old → old.kept ≡ old.log → (runs : Runs client ships entries made old new)
    → AreAllOf client (taken_in runs.moves old)
    → old.world.served.volume ≡ tree_at (old.world.served.last client) old.log → HasNoCollision client (old.log.pending ++ entries) new.world.packets
    → new.world.served.volume ≡ tree_at (new.world.served.last client) new.kept
lone_kept client ships entries made old new now begins runs alone same none =
    served_tree client new.kept new.world (both_in_step client ships entries made old new now runs (kept_none client entries old new begins none)).kept
    (λ path. path_is_kept client ships entries made old new path now begins runs (ap (λ v. version_at v path) same) (λ message among differ. absurd (differ (alone message among))) none)

test_is : (client of : ℕ) → of ≡ client → (of == client) ≡ true
test_is client of is = grind (arith, nat_tests)

own-all : (client : ℕ) (taken : List TakenEntry) → AreAllOf client taken → own client taken ≡ taken
own-all client [] alone = refl
own-all client (entry ∷ taken) alone =
    let P : Bool → Type 0 = λ b. (if b then entry ∷ own client taken else own client taken) ≡ entry ∷ taken in
    subst P (sym (test_is client entry.client (alone entry (inl refl)))) (ap (λ rest. entry ∷ rest) (own-all client taken (λ other among. alone other (inr among))))

pub lone_entries : (client : ℕ) (ships : Bool) (entries : List Entry) (made : List Ask) (old new : State) → InStep client old.log old.world → (runs : Runs client ships entries made old new)
    → AreAllOf client (taken_in runs.moves old) → HasNoCollision client (old.log.pending ++ entries) new.world.packets
    → taken_in runs.moves old ≡ entries_between client old.log.acked (old.world.served.last client) (new.world.served.last client) (old.log.pending ++ entries)
lone_entries client ships entries made old new now runs alone none = sym (own-all client (taken_in runs.moves old) alone) ∙ entries_in_order client ships entries made old new now runs none

-- ---- a new client

pub new_in_step : (client : ℕ) (world : World) → world.client ≡ client → 1 ≤ client → client ≤ 64 → IsServed world.served → world.served.last client ≡ 0
    → ((message : Message) → IsIn message world.packets → (client_of message ≢ client) × IsValid message) → InStep client new_log world
new_in_step client world about low high served_is none_taken others = record {
  about = about;
  own_number = (low, high);
  not_lower = omega arith;
  not_higher = record { at_most_ahead = omega arith; at_most_logged = omega arith };
  behind = subst (λ t. IsBehind t world.served.volume) (sym (tree_at-acked new_log (world.served.last client) none_taken)) (new_behind world.served.volume served_is.tree);
  fitting = λ message among own. absurd ((others message among).0 own);
  valid = λ message among. (others message among).1;
  log_is = IsLog-new;
  served_is = served_is;
}

-- ---- a pull

-- the snapshot's last is the acknowledged number where the reply echoes the pull
pub pulled_last : (client : ℕ) (log : Log) (world : World) (last : ℕ) (seen : Volume) → InStep client log world → log.pending ≡ [] → IsIn (Snapshot client log.acked last seen) world.packets → last ≡ log.acked
pulled_last client log world last seen now none among =
    let fits = now.fitting (Snapshot client log.acked last seen) among refl in
    omega (arith, fits.0, fits.1, now.not_higher.at_most_logged, ap length none)

-- ---- runs join

moved_by-append : (before after : List Move) (state : State) → moved_by (before ++ after) state ≡ moved_by after (moved_by before state)
moved_by-append [] after state = refl
moved_by-append (move ∷ before) after state = moved_by-append before after (moved move state)

AllPossible-append : (client : ℕ) (ships : Bool) (before after : List Move) (state : State) → AllPossible client ships state before → AllPossible client ships (moved_by before state) after → AllPossible client ships state (before ++ after)
AllPossible-append client ships [] after state first second = second
AllPossible-append client ships (move ∷ before) after state first second = (first.0, AllPossible-append client ships before after (moved move state) first.1 second)

entries_in-append : (before after : List Move) → entries_in (before ++ after) ≡ entries_in before ++ entries_in after
entries_in-append [] after = refl
entries_in-append (move ∷ before) after = ap (λ es. entry_in move ++ es) (entries_in-append before after) ∙ sym (append_assoc (entry_in move) (entries_in before) (entries_in after))

asks_in-append : (before after : List Move) → asks_in (before ++ after) ≡ asks_in before ++ asks_in after
asks_in-append [] after = refl
asks_in-append (move ∷ before) after = ap (λ asks. ask_in move ++ asks) (asks_in-append before after) ∙ sym (append_assoc (ask_in move) (asks_in before) (asks_in after))

pub runs_none : (client : ℕ) (ships : Bool) (state : State) → Runs client ships [] [] state state
runs_none client ships state = record { moves = []; entries = refl; asks = refl; possible = tt; result = refl }

pub runs_then : (client : ℕ) (ships : Bool) (es fs : List Entry) (m n : List Ask) (old mid new : State) → Runs client ships es m old mid → Runs client ships fs n mid new → Runs client ships (es ++ fs) (m ++ n) old new
runs_then client ships es fs m n old mid new first second = record {
  moves = first.moves ++ second.moves;
  entries = entries_in-append first.moves second.moves ∙ ap (λ gs. gs ++ entries_in second.moves) first.entries ∙ ap (λ gs. es ++ gs) second.entries;
  asks = asks_in-append first.moves second.moves ∙ ap (λ asks. asks ++ asks_in second.moves) first.asks ∙ ap (λ asks. m ++ asks) second.asks;
  possible = AllPossible-append client ships first.moves second.moves old first.possible (subst (λ s. AllPossible client ships s second.moves) first.result second.possible);
  result = second.result ∙ ap (moved_by second.moves) first.result ∙ sym (moved_by-append first.moves second.moves old);
}

-- one possible move
pub runs_once : (client : ℕ) (ships : Bool) (state : State) (move : Move) → IsPossible client ships state move → Runs client ships (entry_in move) (ask_in move) state (moved move state)
runs_once client ships state move may = record { moves = move ∷ []; entries = append-nil (entry_in move); asks = append-nil (ask_in move); possible = (may, tt); result = refl }

-- ---- a client that may ship more

may_send_more : (client : ℕ) (ships more : Bool) (log : Log) (message : Message) → (IsTrue ships → IsTrue more) → MaySend client ships log message → MaySend client more log message
may_send_more client ships more log (Store of number parts) grows may = may
may_send_more client ships more log (Operate of sketched) grows may = (may.0, may.1, may.2, grows may.3)
may_send_more client ships more log (Pull of number) grows may = may
may_send_more client ships more log _ grows may = absurd may

allowed_more : (client : ℕ) (ships more : Bool) (state : State) (step : Step) → (IsTrue ships → IsTrue more) → IsAllowed (MaySendKept client ships state) state.world step → IsAllowed (MaySendKept client more state) state.world step
allowed_more client ships more state (Send message) grows may = (may_send_more client ships more state.log message grows may.0, may.1)
allowed_more client ships more state (Deliver message joins) grows may = may
allowed_more client ships more state (Other message) grows may = may
allowed_more client ships more state (Relay message) grows may = may

possible_more : (client : ℕ) (ships more : Bool) (state : State) (move : Move) → (IsTrue ships → IsTrue more) → IsPossible client ships state move → IsPossible client more state move
possible_more client ships more state (Network step) grows may = allowed_more client ships more state step grows may
possible_more client ships more state (Notes ask) grows may = may
possible_more client ships more state (Logs entry) grows may = may
possible_more client ships more state (Acknowledges upto reply) grows may = may
possible_more client ships more state (Pulls last seen) grows may = may
possible_more client ships more state Saves grows may = may

all_more : (client : ℕ) (ships more : Bool) (moves : List Move) (state : State) → (IsTrue ships → IsTrue more) → AllPossible client ships state moves → AllPossible client more state moves
all_more client ships more [] state grows may = tt
all_more client ships more (move ∷ moves) state grows may = (possible_more client ships more state move grows may.0, all_more client ships more moves (moved move state) grows may.1)

pub runs_more : (client : ℕ) (ships more : Bool) (entries : List Entry) (made : List Ask) (old new : State) → (IsTrue ships → IsTrue more) → Runs client ships entries made old new → Runs client more entries made old new
runs_more client ships more entries made old new grows runs =
    record { moves = runs.moves; entries = runs.entries; asks = runs.asks; possible = all_more client ships more runs.moves old grows runs.possible; result = runs.result }

pub runs_without : (client : ℕ) (ships : Bool) (entries : List Entry) (made : List Ask) (old new : State) → Runs client false entries made old new → Runs client ships entries made old new
runs_without client ships entries made old new runs = runs_more client false ships entries made old new (λ never. absurd (true≢false (sym never))) runs

-- ---- what a link tells of one request that the kept log may send

request_allowed : (client : ℕ) (ships : Bool) (log : Log) (request : Message) (world : World) (step : Step) → MaySend client ships log request → IsAllowed (Is request) world step → IsAllowed (MaySendKept client ships (kept_at log world)) world step
request_allowed client ships log request world (Send message) may is = (subst (MaySend client ships log) (sym is) may, refl)
request_allowed client ships log request world (Deliver message joins) may is = is
request_allowed client ships log request world (Other message) may is = is
request_allowed client ships log request world (Relay message) may is = is

steps_run : (client : ℕ) (ships : Bool) (log : Log) (request : Message) (steps : List Step) (world : World) → MaySend client ships log request → AreAllowed (Is request) world steps
    → Runs client ships [] [] (kept_at log world) (kept_at log (happen steps world))
steps_run client ships log request [] world may are = runs_none client ships (kept_at log world)
steps_run client ships log request (step ∷ steps) world may are =
    runs_then client ships [] [] [] [] (kept_at log world) (kept_at log (happens step world)) (kept_at log (happen steps (happens step world)))
    (runs_once client ships (kept_at log world) (Network step) (request_allowed client ships log request world step may are.0))
    (steps_run client ships log request steps (happens step world) may are.1)

notes_run : (client : ℕ) (ships : Bool) (log : Log) (made : List Ask) (world : World) → ((ask : Ask) → IsIn ask made → IsIn ask.request world.packets) → AnswersStand world made → Runs client ships [] made (kept_at log world) (kept_at log (noted made world))
notes_run client ships log [] world sent stand =
    subst (λ w. Runs client ships [] [] (kept_at log world) (kept_at log w)) (sym (noted-none world)) (runs_none client ships (kept_at log world))
notes_run client ships log (ask ∷ made) world sent stand =
    let rest = notes_run client ships log made (noted (ask ∷ []) world) (λ other among. sent other (inr among)) (answers_stay made world (noted (ask ∷ []) world) (λ message among. among) stand.1) in
    subst (λ w. Runs client ships [] (ask ∷ made) (kept_at log world) (kept_at log w)) (noted-noted (ask ∷ []) made world)
    (runs_then client ships [] [] (ask ∷ []) made (kept_at log world) (kept_at log (noted (ask ∷ []) world)) (kept_at log (noted made (noted (ask ∷ []) world)))
    (runs_once client ships (kept_at log world) (Notes ask) (sent ask (inl refl), stand.0)) rest)

-- while a request is asked that the kept log may send, and what is answered stands, the world goes on by possible moves
pub moved_by_runs : (client : ℕ) (ships : Bool) (log : Log) (request : Message) (made : List Ask) (old new : World) → MaySend client ships log request → MovedBy (Is request) made old new
    → ((ask : Ask) → IsIn ask made → IsIn ask.request new.packets) → AnswersStand new made
    → Runs client ships [] made (kept_at log old) (kept_at log new)
moved_by_runs client ships log request made old new may moves sent stand =
    subst (λ w. Runs client ships [] made (kept_at log old) (kept_at log w)) (sym moves.result)
    (runs_then client ships [] [] [] made (kept_at log old) (kept_at log (happen moves.steps old)) (kept_at log (noted made (happen moves.steps old)))
    (steps_run client ships log request moves.steps old may moves.allowed)
    (notes_run client ships log made (happen moves.steps old) (λ ask among. subst (λ w. IsIn ask.request w.packets) moves.result (sent ask among))
    (answers_stay made (noted made (happen moves.steps old)) (happen moves.steps old) (λ message among. among) (subst (λ w. AnswersStand w made) moves.result stand))))

pub moved_runs : (client : ℕ) (ships : Bool) (log : Log) (request : Message) (made : List Ask) (old new : World) → MaySend client ships log request → Moved request made old new → AnswersStand new made
    → Runs client ships [] made (kept_at log old) (kept_at log new)
moved_runs client ships log request made old new may moved stand =
    moved_by_runs client ships log request made old new may moved.moves
    (λ ask among. subst (λ m. IsIn m new.packets) (sym (moved.asked ask among)) (asked_among request made old new moved (λ none. subst (IsIn ask) none among))) stand

-- ---- the world's list of taken entries grows by those of the run

taken_by_step : (step : Step) (world : World) → (happens step world).taken ≡ world.taken ++ taken_by step world.served
taken_by_step (Send message) world = sym (append-nil world.taken)
taken_by_step (Deliver message joins) world = refl
taken_by_step (Other message) world = sym (append-nil world.taken)
taken_by_step (Relay message) world = sym (append-nil world.taken)

taken_by_move : (move : Move) (state : State) → (moved move state).world.taken ≡ state.world.taken ++ taken_in_move move state
taken_by_move (Network step) state = taken_by_step step state.world
taken_by_move (Notes ask) state = sym (append-nil state.world.taken)
taken_by_move (Logs entry) state = sym (append-nil state.world.taken)
taken_by_move (Acknowledges upto reply) state = sym (append-nil state.world.taken)
taken_by_move (Pulls last seen) state = sym (append-nil state.world.taken)
taken_by_move Saves state = sym (append-nil state.world.taken)

taken_grows : (moves : List Move) (state : State) → (moved_by moves state).world.taken ≡ state.world.taken ++ taken_in moves state
taken_grows [] state = sym (append-nil state.world.taken)
taken_grows (move ∷ moves) state =
    taken_grows moves (moved move state) ∙ ap (λ ts. ts ++ taken_in moves (moved move state)) (taken_by_move move state) ∙ append_assoc state.world.taken (taken_in_move move state) (taken_in moves (moved move state))

pub run_taken : (client : ℕ) (ships : Bool) (entries : List Entry) (made : List Ask) (old new : State) → (runs : Runs client ships entries made old new) → new.world.taken ≡ old.world.taken ++ taken_in runs.moves old
run_taken client ships entries made old new runs = ap (λ s. s.world.taken) runs.result ∙ taken_grows runs.moves old

-- ---- the world's asks grow by those of the run

pub asked_by_step : (step : Step) (world : World) → (happens step world).asks ≡ world.asks
asked_by_step (Send message) world = refl
asked_by_step (Deliver message joins) world = refl
asked_by_step (Other message) world = refl
asked_by_step (Relay message) world = refl

asked_by_move : (move : Move) (state : State) → (moved move state).world.asks ≡ state.world.asks ++ ask_in move
asked_by_move (Network step) state = asked_by_step step state.world ∙ sym (append-nil state.world.asks)
asked_by_move (Notes ask) state = refl
asked_by_move (Logs entry) state = sym (append-nil state.world.asks)
asked_by_move (Acknowledges upto reply) state = sym (append-nil state.world.asks)
asked_by_move (Pulls last seen) state = sym (append-nil state.world.asks)
asked_by_move Saves state = sym (append-nil state.world.asks)

asks_grow : (moves : List Move) (state : State) → (moved_by moves state).world.asks ≡ state.world.asks ++ asks_in moves
asks_grow [] state = sym (append-nil state.world.asks)
asks_grow (move ∷ moves) state =
    asks_grow moves (moved move state) ∙ ap (λ asks. asks ++ asks_in moves) (asked_by_move move state) ∙ append_assoc state.world.asks (ask_in move) (asks_in moves)

pub run_asked : (client : ℕ) (ships : Bool) (entries : List Entry) (made : List Ask) (old new : State) → Runs client ships entries made old new → new.world.asks ≡ old.world.asks ++ made
run_asked client ships entries made old new runs = ap (λ s. s.world.asks) runs.result ∙ asks_grow runs.moves old ∙ ap (λ asks. old.world.asks ++ asks) runs.asks

-- ---- each packet stays

pub run_packets : (client : ℕ) (ships : Bool) (entries : List Entry) (made : List Ask) (old new : State) (message : Message) → Runs client ships entries made old new → IsIn message old.world.packets → IsIn message new.world.packets
run_packets client ships entries made old new message runs among = subst (λ s. IsIn message s.world.packets) (sym runs.result) (packets_stay runs.moves old message among)

-- ---- what was answered stands

module _ (client : ℕ) (ships : Bool) where
  answer_in : (move : Move) (moves : List Move) (state : State) → IsPossible client ships state move → AnswersStand (moved_by moves (moved move state)).world (ask_in move)
  answer_in (Notes ask) moves state may =
      answers_stay (ask ∷ []) state.world (moved_by moves (moved (Notes ask) state)).world (λ message among. packets_stay moves (moved (Notes ask) state) message among) (may.1, tt)
  answer_in (Network step) moves state may = tt
  answer_in (Logs entry) moves state may = tt
  answer_in (Acknowledges upto reply) moves state may = tt
  answer_in (Pulls last seen) moves state may = tt
  answer_in Saves moves state may = tt

  answers_in : (moves : List Move) (state : State) → AllPossible client ships state moves → AnswersStand (moved_by moves state).world (asks_in moves)
  answers_in [] state may = tt
  answers_in (move ∷ moves) state may = answers_append (ask_in move) (asks_in moves) (moved_by moves (moved move state)).world (answer_in move moves state may.0) (answers_in moves (moved move state) may.1)

  pub run_answers : (entries : List Entry) (made : List Ask) (old new : State) → Runs client ships entries made old new → AnswersStand new.world made
  run_answers entries made old new runs =
      subst (λ s. AnswersStand s.world made) (sym runs.result) (subst (AnswersStand (moved_by runs.moves old).world) runs.asks (answers_in runs.moves old runs.possible))

  -- ---- what was asked was sent

  request_in : (move : Move) (moves : List Move) (state : State) (ask : Ask) → IsPossible client ships state move → IsIn ask (ask_in move) → IsIn ask.request (moved_by moves (moved move state)).world.packets
  request_in (Notes asked) moves state ask may (inl is) =
      subst (λ a. IsIn a.request (moved_by moves (moved (Notes asked) state)).world.packets) (sym is) (packets_stay moves (moved (Notes asked) state) asked.request may.0)
  request_in (Notes asked) moves state ask may (inr among) = absurd among
  request_in (Network step) moves state ask may among = absurd among
  request_in (Logs entry) moves state ask may among = absurd among
  request_in (Acknowledges upto reply) moves state ask may among = absurd among
  request_in (Pulls last seen) moves state ask may among = absurd among
  request_in Saves moves state ask may among = absurd among

  requests_in : (moves : List Move) (state : State) (ask : Ask) → AllPossible client ships state moves → IsIn ask (asks_in moves) → IsIn ask.request (moved_by moves state).world.packets
  requests_in [] state ask may among = absurd among
  requests_in (move ∷ moves) state ask may among =
      ⊎_elim (λ here. request_in move moves state ask may.0 here) (λ later. requests_in moves (moved move state) ask may.1 later) (in_either ask (ask_in move) (asks_in moves) among)

  pub run_requests : (entries : List Entry) (made : List Ask) (old new : State) (ask : Ask) → Runs client ships entries made old new → IsIn ask made → IsIn ask.request new.world.packets
  run_requests entries made old new ask runs among =
      subst (λ s. IsIn ask.request s.world.packets) (sym runs.result) (requests_in runs.moves old ask runs.possible (subst (IsIn ask) (sym runs.asks) among))
