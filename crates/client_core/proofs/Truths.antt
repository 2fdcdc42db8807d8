-- What the ends of syncs and pulls tell a client that is in step.
use Rattle.std.proofs.Common.{Bool, true, false, ◌≡◌, ◌⊎◌, inl, inr, ⊎_elim, ℕ, zero, suc, ◌+◌, ◌≤◌, List, [], ◌++◌, Option, Some, None, refl, sym, ◌∙◌, ap, subst, arith}
use Rattle.std.specs.Prelude.{if◌then◌else◌, nat_lt}
use Rattle.std.proofs.lemmas.List.{append-nil}
use Rattle.outside.specs.Outside.{RoseBy, Rose}
use Rattle.outside.specs.Keeper.{Images}
use Rattle.tree_values.specs.Lists.{IsIn}
use Rattle.mod_log.specs.declared.log.Entry.{Entry}
use Rattle.mod_log.specs.Log.{Log, tree_at}
use Rattle.wire_frames.specs.declared.message.Message.{Message}
use Rattle.wire_frames.specs.declared.message.Message.TheVariants.{Accepted, Stale, Unfit, Gap, Snapshot, Full}
use Rattle.wire_frames.specs.Frame.{client_of, AnswersStore}
use Rattle.world_rules.specs.declared.asking.Peer.TheVariants.{Server}
use Rattle.world_rules.specs.declared.asking.Ask.{Ask}
use Rattle.world_rules.specs.World.{World}
use Rattle.world_rules.specs.Telling.{LinkTelling, IsCalm}
use Rattle.world_rules.specs.Asking.{AnswersStand}
use Rattle.world_rules.specs.Settling.{failed_asks}
use Rattle.world_rules.specs.InStep.{InStep, HasNoCollision}
use Rattle.world_rules.specs.Run.{kept_at}
use Rattle.world_rules.proofs.Asks.{told_as, answers_front, answers_end}
use Rattle.world_rules.proofs.Settled.{failed-append}
use Rattle.world_rules.proofs.Runs.{runs_in_step, run_answers, lone_tree, pulled_last}
use Rattle.world_rules.proofs.Replying.{no_gap, stale_ahead, refused_ahead}
use Rattle.world_rules.proofs.Unrefused.{never_ahead}
use Rattle.client_core.specs.declared.syncing.SyncEnd.{SyncEnd}
use Rattle.client_core.specs.declared.syncing.SyncEnd.TheVariants as ends
use Rattle.client_core.specs.declared.route.Route.{Route}
use Rattle.client_core.specs.declared.pulling.PullEnd.{PullEnd}
use Rattle.client_core.specs.declared.pulling.PullEnd.TheVariants as pulls
use Rattle.client_core.specs.Trace.{Trace, nothing, followed, asking, changing}
use Rattle.client_core.specs.Syncing.{taken_upto, log_behind, end_by, Ships, EntryTurn, Acknowledges, acknowledging, EndsSync, SyncTurn, BreaksTurn, SyncEnds, is_broken_sync}
use Rattle.client_core.specs.Pulling.{pull_of, PullTurn, PullEnds, is_broken_pull}
use Rattle.client_core.specs.Causes.{HasSyncCause}
use Rattle.client_core.specs.Goes.{WorldGoes, Went, stand}
use Rattle.client_core.specs.Laws.{CalmSyncsAreComplete}
use Rattle.client_core.specs.Honest.{FromInStepApart, IsOvertaken, IsTrueSync, IsComplete, IsNotOtherLast}
use Rattle.client_core.proofs.Ships.{ending_stands, ships_failed}
use Rattle.client_core.proofs.Standing.{settled_stands}

-- ---- nothing is logged

-- so there are no more entries than those that were pending
no_more : (client : ℕ) (pending entries : List Entry) (world : World) → entries ≡ [] → HasNoCollision client pending world.packets → HasNoCollision client (pending ++ entries) world.packets
no_more client pending entries world none apart =
    subst (λ (es : List Entry). HasNoCollision client (pending ++ es) world.packets) (sym none)
    (subst (λ (es : List Entry). HasNoCollision client es world.packets) (sym (append-nil pending)) apart)

both_no : (xs ys : List Entry) → xs ≡ [] → ys ≡ [] → xs ++ ys ≡ []
both_no xs ys none is = ap (λ (es : List Entry). es ++ ys) none ∙ is

pub acknowledges_none : (client : ℕ) (route : Route) (count : ℕ) (before after : Log) (trace : Trace) → Acknowledges client route count before after trace → trace.entries ≡ []
acknowledges_none client route zero before after trace so = ap (λ (n : Trace). n.entries) so.1
acknowledges_none client route (suc count) before after trace so =
    ap (λ (n : Trace). n.entries) so.5 ∙ both_no so.1.entries [] (acknowledges_none client route count before so.0 so.1 so.3) refl

acknowledging_logs_none : (before after : Log) → (acknowledging before after).entries ≡ []
acknowledging_logs_none before after = by (nat_lt before.acked after.acked)
  where
    by : (more : Bool) → (if more then changing after else nothing).entries ≡ []
    by true = refl
    by false = refl

ends_none : (client : ℕ) (route : Route) (before after : Log) (end : SyncEnd) (trace : Trace) → EndsSync client route before end after trace → trace.entries ≡ []
ends_none client route before after end trace (inl synced) = ap (λ (n : Trace). n.entries) synced.3
ends_none client route before after end trace (inr last) = ap (λ (n : Trace). n.entries) last.2 ∙ acknowledging_logs_none before after

breaks_none : (client : ℕ) (route : Route) (before after : Log) (trace : Trace) → BreaksTurn client route before after trace → trace.entries ≡ []
breaks_none client route before after trace (inl stays) = ap (λ (n : Trace). n.entries) stays.1
breaks_none client route before after trace (inr (inl shipping)) = ap (λ (n : Trace). n.entries) shipping.1.4
breaks_none client route before after trace (inr (inr keeping)) = ap (λ (n : Trace). n.entries) keeping.4

pub sync_logs_none : (client : ℕ) (route : Route) (before after kept : Log) (end : SyncEnd) (trace : Trace) → SyncEnds client route before end after kept trace → trace.entries ≡ []
sync_logs_none client route before after kept end trace (inl turn) =
    ap (λ (n : Trace). n.entries) turn.0.6
    ∙ both_no turn.0.2.entries turn.0.3.entries (acknowledges_none client route turn.0.0 before turn.0.1 turn.0.2 turn.0.4) (ends_none client route turn.0.1 after end turn.0.3 turn.0.5)
sync_logs_none client route before after kept end trace (inr broken) =
    ap (λ (n : Trace). n.entries) broken.1.6
    ∙ both_no broken.1.2.entries broken.1.3.entries (acknowledges_none client route broken.1.0 before broken.1.1 broken.1.2 broken.1.4) (breaks_none client route broken.1.1 after broken.1.3 broken.1.5)

-- ---- in step

-- what a client did keeps it in step
pub goes_in_step : (client : ℕ) (ships : Bool) (before after kept : Log) (trace : Trace) (t u : ℕ) (x y : World) → WorldGoes client ships before after kept trace t u x y
    → InStep client before x → HasNoCollision client (before.pending ++ trace.entries) y.packets → InStep client after y
goes_in_step client ships before after kept trace t u x y goes now apart = runs_in_step client ships trace.entries trace.asks (kept_at before x) (stand after kept y) now goes.runs apart

-- Of a log that acknowledges what a reply tells to be taken.
module _ (client : ℕ) (log : Log) (world : World) (now : InStep client log world) (acked : ℕ) where
  true_end : (reply : Message) (end : SyncEnd) → log.acked ≡ taken_upto acked (Some reply) → Some end ≡ end_by (log.acked + 1) (Some reply) → IsIn reply world.packets → AnswersStore reply → client ≡ client_of reply
      → IsTrueSync end client log world
  true_end (Accepted of number upto) end left is among answers mine = absurd (cc)
  true_end (Stale of number upto path theirs ours) end left is among answers mine =
      let same : ends.Stale (log.acked + 1) path theirs ours ≡ end = cc in
      subst (λ (e : SyncEnd). IsTrueSync e client log world) same
      (stale_ahead client log world number upto path theirs ours now (omega (arith, left)) (subst (λ (c : ℕ). IsIn (Stale c number upto path theirs ours) world.packets) (sym mine) among))
  true_end (Unfit of number upto index fault) end left is among answers mine =
      let same : ends.Unfit (log.acked + 1) index fault ≡ end = cc in
      subst (λ (e : SyncEnd). IsTrueSync e client log world) same (refused_ahead client log world (upto + 1) (Unfit of number upto index fault) now (omega (arith, left)) (sym mine, refl) among)
  true_end (Full of number upto index fault) end left is among answers mine =
      let same : ends.Full (log.acked + 1) index fault ≡ end = cc in
      subst (λ (e : SyncEnd). IsTrueSync e client log world) same (refused_ahead client log world (upto + 1) (Full of number upto index fault) now (omega (arith, left)) (sym mine, refl) among)
  true_end (Gap of number last) end left is among answers mine =
      absurd (no_gap client log world number last now (subst (λ (c : ℕ). IsIn (Gap c number last) world.packets) (sym mine) among))
  true_end _ end left is among answers mine = absurd answers

  -- a reply that ends a sync shows what others wrote
  overtaken : (reply : Message) (end : SyncEnd) → log.acked ≡ taken_upto acked (Some reply) → Some end ≡ end_by (log.acked + 1) (Some reply) → IsIn reply world.packets → AnswersStore reply → client ≡ client_of reply
      → IsOvertaken client log world
  overtaken (Accepted of number upto) end left is among answers mine = absurd (cc)
  overtaken (Stale of number upto path theirs ours) end left is among answers mine =
      refused_ahead client log world (upto + 1) (Stale of number upto path theirs ours) now (omega (arith, left)) (sym mine, refl) among
  overtaken (Unfit of number upto index fault) end left is among answers mine =
      refused_ahead client log world (upto + 1) (Unfit of number upto index fault) now (omega (arith, left)) (sym mine, refl) among
  overtaken (Full of number upto index fault) end left is among answers mine =
      refused_ahead client log world (upto + 1) (Full of number upto index fault) now (omega (arith, left)) (sym mine, refl) among
  overtaken (Gap of number last) end left is among answers mine =
      absurd (no_gap client log world number last now (subst (λ (c : ℕ). IsIn (Gap c number last) world.packets) (sym mine) among))
  overtaken _ end left is among answers mine = absurd answers

-- ---- the turns of a sync, where their answers stand

module _ (client : ℕ) (route : Route) (before after : Log) (end : SyncEnd) (asks : List Ask) (world : World) (turn : EntryTurn client route before after (Some end) asks) (stand : AnswersStand world asks) (now : InStep client after world) where
  pub turn_true : IsTrueSync end client after world
  turn_true = by turn.came turn.ships turn.after_is turn.end_is
    where
      by : (came : Option Message) → Ships client route before.pending turn.entry came asks → after ≡ log_behind came before → end_by (after.acked + 1) came ≡ Some end → IsTrueSync end client after world
      by None shipped left is =
          let same : ends.Unanswered (after.acked + 1) ≡ end = cc in
          subst (λ (e : SyncEnd). IsTrueSync e client after world) same tt
      by (Some reply) shipped left is =
          let known = ending_stands client route before.pending turn.entry world reply asks stand (after.acked + 1) end (sym is) shipped in
          true_end client after world now before.acked reply end (ap (λ (l : Log). l.acked) left) (sym is) known.0 known.2.2.0 known.2.2.1

  -- eight asks failed, or a path is ahead
  pub turn_overtaken : (8 ≤ failed_asks asks → ⊥) → IsOvertaken client after world
  turn_overtaken few = by turn.came turn.ships turn.after_is turn.end_is
    where
      by : (came : Option Message) → Ships client route before.pending turn.entry came asks → after ≡ log_behind came before → end_by (after.acked + 1) came ≡ Some end → IsOvertaken client after world
      by None shipped left is = absurd (few (ships_failed client route before.pending turn.entry asks shipped))
      by (Some reply) shipped left is =
          let known = ending_stands client route before.pending turn.entry world reply asks stand (after.acked + 1) end (sym is) shipped in
          overtaken client after world now before.acked reply end (ap (λ (l : Log). l.acked) left) (sym is) known.0 known.2.2.0 known.2.2.1

-- no reply was a Gap
module _ (client : ℕ) (number : ℕ) (log : Log) (world : World) (now : InStep client log world) (seq last : ℕ) where
  no_behind : (reply : Message) → IsIn reply world.packets → client ≡ client_of reply → end_by number (Some reply) ≡ Some (ends.Behind seq last) → ⊥
  no_behind (Gap of refused beyond) among mine is = no_gap client log world refused beyond now (subst (λ (c : ℕ). IsIn (Gap c refused beyond) world.packets) (sym mine) among)
  no_behind _ among mine is = absurd (cc)

-- ---- a whole sync

module _ (client : ℕ) (route : Route) (before after : Log) where
  -- the asks of the last turn, where the asks of all stand
  last_stand : (earlier trace last more : Trace) (asks : List Ask) (world : World) → trace ≡ followed earlier last → last ≡ followed (asking asks) more → AnswersStand world trace.asks → AnswersStand world asks
  last_stand earlier trace last more asks world is ends_so stand =
      answers_front asks more.asks world (subst (AnswersStand world) (ap (λ (t : Trace). t.asks) ends_so) (answers_end earlier.asks last.asks world (subst (AnswersStand world) (ap (λ (t : Trace). t.asks) is) stand)))

  pub sync_behind : (log : Log) (seq last : ℕ) (trace : Trace) (world : World) → SyncTurn client route before (ends.Behind seq last) after trace → AnswersStand world trace.asks → InStep client log world → ⊥
  sync_behind log seq last trace world turn stand now = by turn.5
    where
      of_turn : (asks : List Ask) → AnswersStand world asks → (pending : List Entry) (entry : Entry) (came : Option Message) → Ships client route pending entry came asks → end_by (after.acked + 1) came ≡ Some (ends.Behind seq last) → ⊥
      of_turn asks stands pending entry None shipped is = absurd (cc)
      of_turn asks stands pending entry (Some reply) shipped is =
          let known = ending_stands client route pending entry world reply asks stands (after.acked + 1) (ends.Behind seq last) (sym is) shipped in
          no_behind client (after.acked + 1) log world now seq last reply known.0 known.2.2.1 is

      by : EndsSync client route turn.1 (ends.Behind seq last) after turn.3 → ⊥
      by (inl synced) = absurd (cc (synced.1))
      by (inr ends_so) =
          of_turn ends_so.0 (last_stand turn.2 trace turn.3 (acknowledging turn.1 after) ends_so.0 world turn.6 ends_so.2 stand) turn.1.pending ends_so.1.entry ends_so.1.came ends_so.1.ships ends_so.1.end_is

  pub sync_true : (end : SyncEnd) (trace : Trace) (world : World) → SyncTurn client route before end after trace → AnswersStand world trace.asks → InStep client after world → IsTrueSync end client after world
  sync_true end trace world turn stand now = by turn.5
    where
      by : EndsSync client route turn.1 end after turn.3 → IsTrueSync end client after world
      by (inl synced) = subst (λ (e : SyncEnd). IsTrueSync e client after world) (sym synced.1) tt
      by (inr ends_so) =
          turn_true client route turn.1 after end ends_so.0 world ends_so.1 (last_stand turn.2 trace turn.3 (acknowledging turn.1 after) ends_so.0 world turn.6 ends_so.2 stand) now

  -- where fewer than eight asks failed, and no path is ahead
  pub sync_complete : (end : SyncEnd) (trace : Trace) (world : World) → SyncTurn client route before end after trace → AnswersStand world trace.asks → InStep client after world
      → (8 ≤ failed_asks trace.asks → ⊥) → (IsOvertaken client after world → ⊥) → (end ≡ ends.Synced after.acked) × (after.pending ≡ [])
  sync_complete end trace world turn stand now few none_ahead = by turn.5
    where
      failed : (asks more : List Ask) → turn.3.asks ≡ asks ++ more → failed_asks asks ≤ failed_asks trace.asks
      failed asks more is =
          let all : failed_asks trace.asks ≡ failed_asks (turn.2.asks ++ turn.3.asks) = ap (λ (t : Trace). failed_asks t.asks) turn.6 in
          omega (arith, failed-append turn.2.asks turn.3.asks, all, ap failed_asks is, failed-append asks more)

      by : EndsSync client route turn.1 end after turn.3 → (end ≡ ends.Synced after.acked) × (after.pending ≡ [])
      by (inl synced) = (synced.1 ∙ ap (λ (l : Log). ends.Synced l.acked) (sym synced.2), ap (λ (l : Log). l.pending) synced.2 ∙ synced.0)
      by (inr ends_so) =
          let less : failed_asks ends_so.0 ≤ failed_asks trace.asks = failed ends_so.0 (acknowledging turn.1 after).asks (ap (λ (t : Trace). t.asks) ends_so.2) in
          absurd (none_ahead
          (turn_overtaken client route turn.1 after end ends_so.0 world ends_so.1 (last_stand turn.2 trace turn.3 (acknowledging turn.1 after) ends_so.0 world turn.6 ends_so.2 stand) now (λ eight. few (omega (arith, eight, less)))))

-- a sync that was broken off tells nothing of the world
broken_true : (client : ℕ) (log : Log) (world : World) (end : SyncEnd) → is_broken_sync end ≡ true → IsTrueSync end client log world
broken_true client log world ends.KeepFault is = tt
broken_true client log world ends.Memory is = tt
broken_true client log world (ends.Synced number) is = absurd (cc)
broken_true client log world (ends.Stale number path theirs ours) is = absurd (cc)
broken_true client log world (ends.Unfit number index fault) is = absurd (cc)
broken_true client log world (ends.Full number index fault) is = absurd (cc)
broken_true client log world (ends.Unanswered number) is = absurd (cc)
broken_true client log world (ends.Behind number last) is = absurd (cc)

-- without a fault of the keeper memory was wanted
broken_memory : (end : SyncEnd) (after : Log) (t v p q : ℕ) → is_broken_sync end ≡ true → HasSyncCause end after t v p q → (Rose p q → ⊥) → end ≡ ends.Memory
broken_memory ends.KeepFault after t v p q is cause sound = absurd (sound cause)
broken_memory ends.Memory after t v p q is cause sound = refl
broken_memory (ends.Synced number) after t v p q is cause sound = absurd (cc)
broken_memory (ends.Stale number path theirs ours) after t v p q is cause sound = absurd (cc)
broken_memory (ends.Unfit number index fault) after t v p q is cause sound = absurd (cc)
broken_memory (ends.Full number index fault) after t v p q is cause sound = absurd (cc)
broken_memory (ends.Unanswered number) after t v p q is cause sound = absurd (cc)
broken_memory (ends.Behind number last) after t v p q is cause sound = absurd (cc)

module _ (client : ℕ) (ships : Bool) (route : Route) (before after : Log) (end : SyncEnd) where
  -- of what a client did, in two worlds
  module _ (kept : Log) (trace : Trace) (turn : SyncEnds client route before end after kept trace) (t u : ℕ) (rose : RoseBy (failed_asks trace.asks) t u) (x y : World)
      (goes : WorldGoes client ships before after kept trace t u x y) where
    stands : AnswersStand y trace.asks
    stands = run_answers client ships trace.entries trace.asks (kept_at before x) (stand after kept y) goes.runs

    few_failed : (Rose t u → ⊥) → 8 ≤ failed_asks trace.asks → ⊥
    few_failed calm eight = calm (omega (arith, rose, eight))

    apart_then : HasNoCollision client before.pending y.packets → HasNoCollision client (before.pending ++ trace.entries) y.packets
    apart_then apart = no_more client before.pending trace.entries y (sync_logs_none client route before after kept end trace turn) apart

    then_in_step : InStep client before x → HasNoCollision client before.pending y.packets → InStep client after y
    then_in_step now apart = goes_in_step client ships before after kept trace t u x y goes now (apart_then apart)

    goes_true : InStep client before x → HasNoCollision client before.pending y.packets → IsTrueSync end client after y
    goes_true now apart = by turn
      where
        by : SyncEnds client route before end after kept trace → IsTrueSync end client after y
        by (inl turn) = sync_true client route before after end trace y turn.0 stands (then_in_step now apart)
        by (inr broken) = broken_true client after y end broken.0

    goes_complete : InStep client before x → HasNoCollision client before.pending y.packets → (Rose t u → ⊥) → (IsOvertaken client after y → ⊥) → ((end ≡ ends.Synced after.acked) × (after.pending ≡ [])) ⊎ (is_broken_sync end ≡ true)
    goes_complete now apart calm none_ahead = by turn
      where
        by : SyncEnds client route before end after kept trace → ((end ≡ ends.Synced after.acked) × (after.pending ≡ [])) ⊎ (is_broken_sync end ≡ true)
        by (inl turn) = inl (sync_complete client route before after end trace y turn.0 stands (then_in_step now apart) (few_failed calm) none_ahead)
        by (inr broken) = inr broken.0

  -- over any link
  module _ (name : List ℕ) (i j : Option Images) (t u : LinkTelling) (went : Went client ships name (SyncEnds client route before end after) before after i j t u) where
    abbrev kept_log : Log
    kept_log = went.0

    abbrev steps : Trace
    steps = went.1.trace

    pub went_true : FromInStepApart client before t u (IsTrueSync end client after)
    went_true = told_as t.world u.world (WorldGoes client ships before after kept_log steps t.troubles u.troubles) (λ x y. InStep client before x → HasNoCollision client before.pending y.packets → IsTrueSync end client after y) went.1.told
        (λ x y. goes_true kept_log steps went.1.turn t.troubles u.troubles went.1.rose x y)

    pub went_complete : (p q : ℕ) → HasSyncCause end after t.troubles u.troubles p q → IsCalm t u → (Rose p q → ⊥) → FromInStepApart client before t u (IsComplete end client after)
    went_complete p q cause calm sound = told_as t.world u.world (WorldGoes client ships before after kept_log steps t.troubles u.troubles)
        (λ x y. InStep client before x → HasNoCollision client before.pending y.packets → IsComplete end client after y) went.1.told
        (λ x y goes now apart none_ahead. ⊎_elim (λ all. inl all) (λ broken. inr (broken_memory end after t.troubles u.troubles p q broken cause sound))
        (goes_complete kept_log steps went.1.turn t.troubles u.troubles went.1.rose x y goes now apart calm none_ahead))

pub calm_complete : CalmSyncsAreComplete
calm_complete client ships route before after kept end trace troubles later old new turn rose goes now apart calm alone served =
    goes_complete client ships route before after end kept trace turn troubles later rose old new goes now apart calm
    (never_ahead new.served.volume (tree_at (new.served.last client) after)
    (lone_tree client ships trace.entries trace.asks (kept_at before old) (stand after kept new) now goes.runs alone served
    (no_more client before.pending trace.entries new (sync_logs_none client route before after kept end trace turn) apart)))

-- ---- a pull

module _ (client : ℕ) (route : Route) (before after : Log) where
  pub pull_met_last : (end : PullEnd) (trace : Trace) (world : World) → PullTurn client route before end after trace → AnswersStand world trace.asks → InStep client before world → IsNotOtherLast end
  pull_met_last (pulls.OtherLast other acked) trace world turn stand now last known is =
      let asks : List Ask = turn.asks in
      let stands : AnswersStand world asks = answers_front asks [] world (subst (AnswersStand world) (ap (λ (t : Trace). t.asks) turn.trace_is) stand) in
      let sent = settled_stands Server route.server (pull_of client before) world (Some (Snapshot client before.acked turn.last turn.seen)) asks turn.settling stands in
      absurd (turn.met.0 (pulled_last client before world turn.last turn.seen now turn.idle sent.0))
  pull_met_last (pulls.Pulled count) trace world turn stand now last known is = absurd (cc)
  pull_met_last (pulls.Pending count) trace world turn stand now last known is = absurd (cc)
  pull_met_last (pulls.Older path theirs ours) trace world turn stand now last known is = absurd (cc)
  pull_met_last pulls.Unanswered trace world turn stand now last known is = absurd (cc)
  pull_met_last pulls.KeepFault trace world turn stand now last known is = absurd (cc)
  pull_met_last pulls.Memory trace world turn stand now last known is = absurd (cc)

  -- the log is as before but where rows were taken
  unpulled_log : (other acked : ℕ) (trace : Trace) → PullTurn client route before (pulls.OtherLast other acked) after trace → after ≡ before
  unpulled_log other acked trace turn = turn.met.3

  goes_not_other : (ships : Bool) (end : PullEnd) (kept : Log) (trace : Trace) → PullEnds client route before end after kept trace → (t u : ℕ) (x y : World)
      → WorldGoes client ships before after kept trace t u x y → InStep client before x → HasNoCollision client before.pending y.packets → IsNotOtherLast end
  goes_not_other ships end kept trace turn t u x y goes now apart last acked is = by turn
    where
      by : PullEnds client route before end after kept trace → ⊥
      by (inl turn) =
          let met : PullTurn client route before (pulls.OtherLast last acked) after trace = subst (λ (e : PullEnd). PullTurn client route before e after trace) is turn.0 in
          let none : trace.entries ≡ [] = ap (λ (n : Trace). n.entries) met.trace_is in
          let later : InStep client after y = goes_in_step client ships before after kept trace t u x y goes now (no_more client before.pending trace.entries y none apart) in
          pull_met_last (pulls.OtherLast last acked) trace y met (run_answers client ships trace.entries trace.asks (kept_at before x) (stand after kept y) goes.runs)
          (subst (λ (log : Log). InStep client log y) (unpulled_log last acked trace met) later) last acked refl
      by (inr broken) =
          let quiet : is_broken_pull end ≡ false = ap is_broken_pull is in
          absurd (cc (quiet, broken.0))

  pub pull_not_other : (ships : Bool) (name : List ℕ) (end : PullEnd) (i j : Option Images) (t u : LinkTelling) → Went client ships name (PullEnds client route before end after) before after i j t u
      → FromInStepApart client before t u (λ new. IsNotOtherLast end)
  pull_not_other ships name end i j t u went = told_as t.world u.world (WorldGoes client ships before after went.0 went.1.trace t.troubles u.troubles)
      (λ x y. InStep client before x → HasNoCollision client before.pending y.packets → IsNotOtherLast end) went.1.told
      (λ x y. goes_not_other ships end went.0 went.1.trace went.1.turn t.troubles u.troubles x y)
