-- What a pull makes of its settling.
use Rattle.std.proofs.Common.{Bool, false, is_some, ◌≡◌, ◌≢◌, ◌⊎◌, inl, inr, ℕ, ◌≤◌, List, [], ◌∷◌, length, Option, Some, None, IfSome, Result, Ok, Err, IfOk, refl, sym, ◌∙◌, ap, subst, arith}
use Rattle.std.specs.Prelude.{unwrap_or}
use Rattle.std.specs.declared.alloc.AllocError.{AllocError}
use Rattle.outside.specs.Outside.{Told, Rose}
use Rattle.outside.specs.Keeper.{Images, IsPut}
use Rattle.outside.specs.declared.errors.KeepError.{KeepError}
use Rattle.outside.specs.declared.errors.KeepError.TheVariants as keepers
use Rattle.tree_values.specs.Lists.{IsIn}
use Rattle.tree_values.specs.Tree.{Volume, version_at, IsTree, AreInOrder}
use Rattle.tree_values.specs.declared.node.Row.{Row}
use Rattle.mod_log.specs.declared.log.Entry.{Entry}
use Rattle.store_image.specs.Spelling.{client as image}
use Rattle.mod_log.specs.Log.{Log, IsLog, pulled, tree_of}
use Rattle.wire_frames.specs.declared.message.Message.{Message}
use Rattle.wire_frames.specs.declared.message.Message.TheVariants.{Pull, Snapshot}
use Rattle.wire_frames.specs.Frame.{IsValid, Echoes}
use Rattle.world_rules.specs.declared.asking.Answer.TheVariants.{Reply}
use Rattle.world_rules.specs.declared.asking.Peer.TheVariants.{Server}
use Rattle.world_rules.specs.World.{World, Moved}
use Rattle.world_rules.specs.Telling.{LinkTelling, ToldWorlds, IsCalm}
use Rattle.world_rules.specs.Asking.{AnswersStand}
use Rattle.world_rules.specs.Settling.{Settled, IsFreshReply}
use Rattle.world_rules.specs.InStep.{InStep, MaySend}
use Rattle.world_rules.specs.Run.{Runs, kept_at, Pulls}
use Rattle.world_rules.proofs.Runs.{runs_none, runs_once, moved_runs, pulled_last}
use Rattle.world_rules.proofs.Asks.{told_as}
use Rattle.world_rules.proofs.Replying.{fresh_newer}
use Rattle.world_rules.proofs.Sending.{sent_valid}
use Rattle.client_core.specs.declared.route.Route.{Route}
use Rattle.client_core.specs.declared.pulling.PullEnd.{PullEnd}
use Rattle.client_core.specs.declared.pulling.PullEnd.TheVariants as ends
use Rattle.client_core.specs.declared.pulling.Pulling.{Pulling}
use Rattle.client_core.specs.declared.pulling.Pulling.TheVariants.{Replaced, Ended}
use Rattle.client_core.specs.Trace.{Trace, followed, asking, pulling}
use Rattle.client_core.specs.Pulling.{pull_of, Meets, IsKeptBase, PullChanges, pulled_end, is_broken_pull, PullsSnapshot, PullTurn, PullAsks, PullEnds}
use Rattle.client_core.specs.Keeping.{IsKept, Keeping, WritesNext, StaysOrPuts}
use Rattle.client_core.specs.Goes.{Goes, Went, stand, no_runner}
use Rattle.client_core.specs.Causes.{TakesRows, HasPullCause, PullKeeps, PullWrites}
use Rattle.client_core.specs.Honest.{IsNotOtherLast, IsNotOlder}
use Rattle.client_core.specs.Inside.{end_of, MeetsEnds, ReplacesUnkept, PullLeaves, first_lower, snapshot_of}
use Rattle.client_core.proofs.Going.{changed_so, keeping_none, keeping_unkept, keeping_saved, goes_none, goes_as, goes_asked, Met, goes_pulled, goes_saved}
use Rattle.client_core.proofs.Standing.{settled_stands}
use Rattle.client_core.proofs.Olders.{nowhere_older, first_older}
use Rattle.client_core.proofs.Journal.{KeepsLog}

-- ---- nothing is pending

pub none_pending : (entries : List Entry) → length entries ≡ 0 → entries ≡ []
none_pending [] is = refl
none_pending (entry ∷ entries) is = absurd (omega arith)

pub some_pending : (entries : List Entry) → 1 ≤ length entries → entries ≢ []
some_pending [] some = absurd (omega arith)
some_pending (entry ∷ entries) some = λ none. absurd (cc)

pub pull_sends : (client : ℕ) (ships : Bool) (log : Log) → log.pending ≡ [] → MaySend client ships log (pull_of client log)
pull_sends client ships log none = (refl, refl, none)

pub pull_valid : (client : ℕ) (log : Log) → 1 ≤ client → client ≤ 64 → IsLog log → log.pending ≡ [] → IsValid (pull_of client log)
pull_valid client log low high is none = sent_valid client false log (pull_of client log) low high is (pull_sends client false log none)

-- ---- what a log makes of a snapshot

pub meets_older : (log : Log) (seen : Volume) (row : Row) (end : PullEnd) → AreInOrder log.base → first_lower log.base seen ≡ Some row
    → (end ≡ ends.Older row.path (version_at seen row.path) row.version) ⊎ (end ≡ ends.Memory) → MeetsEnds log log.acked seen (Ended end) log
meets_older log seen row end order found (inl is) =
    let first = first_older log.base seen row order found in
    subst (λ (e : PullEnd). MeetsEnds log log.acked seen (Ended e) log) (sym is) (inl ((refl, first.0, refl, sym first.1, refl), tt))
meets_older log seen row end order found (inr is) = inr (ap Ended is, refl)

pub meets_newer : (log after : Log) (seen : Volume) (count : ℕ) → (IsKeptBase log seen → ⊥) → first_lower log.base seen ≡ None → count ≡ length seen → after ≡ pulled seen log
    → MeetsEnds log log.acked seen (Replaced count) after
meets_newer log after seen count other none is pulls = inl ((refl, nowhere_older log.base seen none, is, pulls), other)

-- the rows of its base change nothing
pulled_same : (log : Log) (seen : Volume) → seen ≡ log.base → pulled seen log ≡ log
pulled_same log seen is = λ k. record { acked = log.acked; base = is k; pending = log.pending }

pub meets_kept : (log : Log) (seen tree : Volume) (count : ℕ) → log.pending ≡ [] → IsKeptBase log seen → tree ≡ tree_of log → count ≡ length tree → MeetsEnds log log.acked seen (Ended (ends.Pulled count)) log
meets_kept log seen tree count none kept tree_is count_is =
    inl ((refl, λ path. subst (λ (v : Volume). version_at log.base path ≤ version_at v path) (sym kept.0) (omega arith), counted, sym (pulled_same log seen kept.0)), kept)
  where
    base_is : tree_of log ≡ log.base
    base_is = ap (λ (entries : List Entry). tree_of (record { acked = log.acked; base = log.base; pending = entries })) none

    counted : count ≡ length seen
    counted = count_is ∙ ap length (tree_is ∙ base_is ∙ sym kept.0)

-- ---- what a pull meets from in step

module _ (client : ℕ) (before : Log) (none : before.pending ≡ []) (last : ℕ) (seen : Volume) where
  met_not_older : (x y : World) → IsFreshReply (pull_of client before) x y (Snapshot client before.acked last seen) → InStep client before x → (end : PullEnd) (after : Log) → Meets before last seen end after → IsNotOlder end
  met_not_older x y fresh now end after met = λ path theirs ours is.
      let same : Meets before last seen (ends.Older path theirs ours) after = subst (λ (e : PullEnd). Meets before last seen e after) is met in
      let newer : version_at before.base path ≤ version_at seen path = fresh_newer client before fresh.0 x y last seen path now none fresh.1 in
      let lower = same.1.lower in
      absurd (omega (arith, newer, lower))

  pub never_older : (x y : World) → IsFreshReply (pull_of client before) x y (Snapshot client before.acked last seen) → InStep client before x → (came : Pulling) (after : Log) → MeetsEnds before last seen came after
      → IsNotOlder (end_of came)
  never_older x y fresh now came after (inl met) = met_not_older x y fresh now (end_of came) after met.0
  never_older x y fresh now came after (inr broken) = λ path theirs ours is.
      let memory : end_of came ≡ ends.Memory = ap end_of broken.0 in
      absurd (cc)

  -- nor another last number than that of a snapshot among the packets
  never_other : (y : World) → InStep client before y → IsIn (Snapshot client before.acked last seen) y.packets → (end : PullEnd) (after : Log) → Meets before last seen end after → IsNotOtherLast end
  never_other y now among end after met other acked is =
      let same : Meets before last seen (ends.OtherLast other acked) after = subst (λ (e : PullEnd). Meets before last seen e after) is met in
      same.0 (pulled_last client before y last seen now none among)

-- what is told, and what is told beside it under a premise
told_beside : {A : Type 0} (a b : Option A) (C : Type 0) (P Q : A → A → Type 0) → Told a b P → (C → Told a b Q) → Told a b (λ x y. P x y × (C → Q x y))
told_beside (Some x) (Some y) C P Q p q = (p, q)
told_beside (Some x) None C P Q p q = p
told_beside None b C P Q p q = p

-- ---- the turn of a pull

module _ (client : ℕ) (route : Route) (before : Log) (i : Option Images) (keeps : IsKept i route.image client before) where
  abbrev name : List ℕ
  name = route.image

  abbrev ships : Bool
  ships = is_some route.surrogate

  -- what a pull did over the link before it kept anything
  abbrev Asks : PullEnd → Log → LinkTelling → LinkTelling → Type 0
  Asks end after t u = Goes client ships name (PullAsks client route before end after) before after before i i no_runner no_runner t u

  -- entries are pending
  pub pull_waits : (count : ℕ) → before.pending ≢ [] → count ≡ length before.pending → (t : LinkTelling) → Asks (ends.Pending count) before t t
  pull_waits count some is t = goes_none name client ships (PullAsks client route before (ends.Pending count) before) before i no_runner t keeps (inl (some, is, refl, refl))

  module _ (none : before.pending ≡ []) (t u : LinkTelling) where
    abbrev request : Message
    request = pull_of client before

    abbrev Pulls_so : PullEnd → Log → Type 0
    Pulls_so end after = Asks end after t u

    -- the asks of a settling, which change nothing
    asked : (end : PullEnd) (result : Result (Option Message) AllocError) (done : Settled Server route.server request t u result) → PullAsks client route before end before (asking done.asks) → Pulls_so end before
    asked end result done turn =
        goes_asked name client ships (PullAsks client route before end before) done.asks before i no_runner t u keeps
        (told_as t.world u.world (λ x y. Moved request done.asks x y × AnswersStand y done.asks) (λ x y. Runs client ships [] done.asks (kept_at before x) (kept_at before y)) done.told
        (λ x y moved. moved_runs client ships before request done.asks x y (pull_sends client ships before none) moved.0 moved.1))
        done.rose turn

    -- eight asks failed
    pub pull_unanswered : Settled Server route.server request t u (Ok None) → Pulls_so ends.Unanswered before
    pull_unanswered done = asked ends.Unanswered (Ok None) done (inl (none, (done.asks, done.settling, refl, refl)))

    -- memory was wanted in the settling
    pub pull_breaks : (e : AllocError) → Settled Server route.server request t u (Err e) → Pulls_so ends.Memory before
    pull_breaks e done = asked ends.Memory (Err e) done (inr (refl, (done.asks, none, refl, done.settling, refl)))

    module _ (last : ℕ) (seen : Volume) (done : Settled Server route.server request t u (Ok (Some (Snapshot client before.acked last seen))))
        (direct : IsCalm t u → ToldWorlds t u (λ x y. IsFreshReply request x y (Snapshot client before.acked last seen))) where
      snapshot : (end : PullEnd) (after : Log) (changes : List Log) → Meets before last seen end after → PullChanges before seen end after changes → PullsSnapshot client route before end after (followed (asking done.asks) (pulling end changes))
      snapshot end after changes met changed =
          record { last = last; seen = seen; asks = done.asks; idle = none; settling = done.settling; met = met; changes = changes; changed = changed; trace_is = refl }

      -- a snapshot came, and the log met it
      came : (end : PullEnd) (after : Log) (changes : List Log) → Meets before last seen end after → PullChanges before seen end after changes → Keeping name client before after before changes i i
          → ((y : World) → IsIn (Snapshot client before.acked last seen) y.packets → Runs client ships [] [] (kept_at before y) (stand after before y))
          → ((trace : Trace) → PullsSnapshot client route before end after trace → PullTurn client route before end after trace) → Pulls_so end after
      came end after changes met changed keeping runs turned =
          goes_pulled name client ships (PullAsks client route before end after) end done.asks changes before after i no_runner t u keeping
          (told_as t.world u.world (λ x y. (Moved request done.asks x y × AnswersStand y done.asks) × (IsCalm t u → IsFreshReply request x y (Snapshot client before.acked last seen)))
          (Met name client ships done.asks end before after t.troubles u.troubles)
          (told_beside t.world u.world (IsCalm t u) (λ x y. Moved request done.asks x y × AnswersStand y done.asks) (λ x y. IsFreshReply request x y (Snapshot client before.acked last seen)) done.told direct)
          (λ x y so.
          let stands = settled_stands Server route.server request y (Some (Snapshot client before.acked last seen)) done.asks done.settling so.0.1 in (
            moved_runs client ships before request done.asks x y (pull_sends client ships before none) so.0.0 so.0.1,
            runs y stands.0,
            λ begun now. (never_other client before none last seen y now stands.0 end after met, λ calm. met_not_older client before none last seen x y (so.1 calm) begun end after met),
          )))
          done.rose
          (inl (turned (followed (asking done.asks) (pulling end changes)) (snapshot end after changes met changed)))

      -- the log stays
      stays : (end : PullEnd) → Meets before last seen end before → PullChanges before seen end before []
          → ((trace : Trace) → PullsSnapshot client route before end before trace → PullTurn client route before end before trace) → Pulls_so end before
      stays end met changed turned = came end before [] met changed (keeping_none name client before i keeps) (λ y among. runs_none client ships (kept_at before y)) turned

      -- a pull that replaces the base
      replaces : (count : ℕ) → (IsKeptBase before seen → ⊥) → Meets before last seen (ends.Pulled count) (pulled seen before) → Pulls_so (ends.Pulled count) (pulled seen before)
      replaces count other met =
          let after : Log = pulled seen before in
          came (ends.Pulled count) after (after ∷ []) met (inr (other, refl)) (keeping_unkept name client before after i keeps) (λ y among. runs_once client ships (kept_at before y) (Pulls last seen) (none, met.0, among, met.1)) (λ trace turn. turn)

      by_end : (taken : Pulling) (after : Log) → Meets before last seen (end_of taken) after → ReplacesUnkept before seen taken → Pulls_so (end_of taken) after
      by_end (Replaced count) after met other =
          subst (Pulls_so (ends.Pulled count)) (sym met.3) (replaces count other (subst (Meets before last seen (ends.Pulled count)) met.3 met))
      by_end (Ended (ends.Pulled count)) after met kept =
          let same : after ≡ before = met.3 ∙ pulled_same before seen kept.0 in
          subst (Pulls_so (ends.Pulled count)) (sym same) (stays (ends.Pulled count) (subst (Meets before last seen (ends.Pulled count)) same met) (inl (kept, refl)) (λ trace turn. turn))
      by_end (Ended (ends.OtherLast other acked)) after met so =
          subst (Pulls_so (ends.OtherLast other acked)) (sym met.3) (stays (ends.OtherLast other acked) (subst (Meets before last seen (ends.OtherLast other acked)) met.3 met) refl (λ trace turn. turn))
      by_end (Ended (ends.Older path theirs ours)) after met so =
          subst (Pulls_so (ends.Older path theirs ours)) (sym met.4) (stays (ends.Older path theirs ours) (subst (Meets before last seen (ends.Older path theirs ours)) met.4 met) refl (λ trace turn. turn))
      by_end (Ended (ends.Pending count)) after met so = absurd met
      by_end (Ended ends.Unanswered) after met so = absurd met
      by_end (Ended ends.KeepFault) after met so = absurd met
      by_end (Ended ends.Memory) after met so = absurd met

      -- memory was wanted once the snapshot had come
      unread : Pulls_so ends.Memory before
      unread =
          let made = done.settling in
          asked ends.Memory (Ok (Some (Snapshot client before.acked last seen))) done
          (inr (refl, (done.asks, none, refl, (made.0, made.1, inr (Reply (Snapshot client before.acked last seen), made.4)), refl)))

      pub pull_met : (taken : Pulling) (after : Log) → MeetsEnds before last seen taken after → Pulls_so (end_of taken) after
      pull_met taken after (inl met) = by_end taken after met.0 met.1
      pull_met taken after (inr broken) =
          subst (λ (l : Log). Pulls_so (end_of taken) l) (sym broken.1) (subst (λ (p : Pulling). Pulls_so (end_of p) before) (sym broken.0) unread)

-- ---- causes

module _ (before : Log) (t u p q : ℕ) (none : before.pending ≡ []) where
  met_cause : (last : ℕ) (seen : Volume) → IsTree seen → (end : PullEnd) (after : Log) → Meets before last seen end after → HasPullCause end before after t u p q
  met_cause last seen tree (ends.Pulled count) after met = (none, (last, seen, tree, met))
  met_cause last seen tree (ends.OtherLast other acked) after met = (none, (last, seen, tree, met))
  met_cause last seen tree (ends.Older path theirs ours) after met = (none, (last, seen, tree, met))
  met_cause last seen tree (ends.Pending count) after met = absurd met
  met_cause last seen tree ends.Unanswered after met = absurd met
  met_cause last seen tree ends.KeepFault after met = absurd met
  met_cause last seen tree ends.Memory after met = absurd met

  pub pull_cause : (last : ℕ) (seen : Volume) → IsTree seen → (taken : Pulling) (after : Log) → MeetsEnds before last seen taken after → HasPullCause (end_of taken) before after t u p q
  pull_cause last seen tree taken after (inl met) = met_cause last seen tree (end_of taken) after met.0
  pull_cause last seen tree taken after (inr broken) = subst (λ (n : Pulling). HasPullCause (end_of n) before after t u p q) (sym broken.0) (none, inl broken.1)

-- ---- what a pull leaves before it keeps anything

module _ (before : Log) (none : before.pending ≡ []) (last : ℕ) (seen : Volume) (tree : IsTree seen) where
  met_leaves : (taken : Pulling) (after : Log) → Meets before last seen (end_of taken) after → ReplacesUnkept before seen taken → PullLeaves taken before after
  met_leaves (Replaced count) after met other =
      (none, (last, seen, count, tree, met), λ kept. other (subst (λ (v : Volume). IsKeptBase before v) (ap (λ (l : Log). l.base) met.3) kept))
  met_leaves (Ended (ends.Pulled count)) after met kept =
      (met.3 ∙ pulled_same before seen kept.0, subst (λ (v : Volume). IsKeptBase before v) (sym (ap (λ (l : Log). l.base) met.3)) kept)
  met_leaves (Ended (ends.OtherLast other acked)) after met so = met.3
  met_leaves (Ended (ends.Older path theirs ours)) after met so = met.4
  met_leaves (Ended (ends.Pending count)) after met so = absurd met
  met_leaves (Ended ends.Unanswered) after met so = absurd met
  met_leaves (Ended ends.KeepFault) after met so = absurd met
  met_leaves (Ended ends.Memory) after met so = absurd met

  pub pull_leaves : (taken : Pulling) (after : Log) → MeetsEnds before last seen taken after → PullLeaves taken before after
  pull_leaves taken after (inl met) = met_leaves taken after met.0 met.1
  pull_leaves taken after (inr broken) = subst (λ (p : Pulling). PullLeaves p before after) (sym broken.0) broken.1

-- ---- the keeping behind a pull

-- rows were taken, and the log was to be kept
pub pulled_went : (client : ℕ) (route : Route) (before after : Log) (i l : Option Images) (t u : LinkTelling) (count : ℕ) (r : Result (Unit {0}) KeepError) → (IsKeptBase before after.base → ⊥)
    → Told i l (KeepsLog route.image client after r)
    → Goes client (is_some route.surrogate) route.image (PullAsks client route before (ends.Pulled count) after) before after before i i no_runner no_runner t u
    → Went client (is_some route.surrogate) route.image (PullEnds client route before (pulled_end count r) after) before after i l t u
pulled_went client route before after i l t u count r other save goes =
    by r (goes_saved route.image client (is_some route.surrogate) (PullAsks client route before (ends.Pulled count) after) before after before i i l no_runner no_runner t u r goes (changed goes.trace goes.turn) save)
  where
    snapshot : (trace : Trace) → PullAsks client route before (ends.Pulled count) after trace → PullsSnapshot client route before (ends.Pulled count) after trace
    snapshot trace (inl turn) = turn
    snapshot trace (inr broken) = absurd (cc (broken.0))

    unkept : (trace : Trace) (came : PullsSnapshot client route before (ends.Pulled count) after trace) → IsKeptBase before came.seen → ⊥
    unkept trace came = λ kept. other (subst (λ (v : Volume). IsKeptBase before v) (sym (ap (λ (l : Log). l.base) came.met.3)) kept)

    changed_by : (trace : Trace) (came : PullsSnapshot client route before (ends.Pulled count) after trace) → PullChanges before came.seen (ends.Pulled count) after came.changes → trace.changes ≢ []
    changed_by trace came (inl kept) = absurd (unkept trace came kept.0)
    changed_by trace came (inr more) = changed_so trace.changes after [] (ap (λ (n : Trace). n.changes) came.trace_is ∙ more.1)

    changed : (trace : Trace) → PullAsks client route before (ends.Pulled count) after trace → trace.changes ≢ []
    changed trace asks = let came = snapshot trace asks in changed_by trace came came.changed

    by : (r : Result (Unit {0}) KeepError) → (now : Log) × Goes client (is_some route.surrogate) route.image (PullAsks client route before (ends.Pulled count) after) before after now i l no_runner no_runner t u × IfOk r (λ done. now ≡ after)
        → Went client (is_some route.surrogate) route.image (PullEnds client route before (pulled_end count r) after) before after i l t u
    by (Ok done) saved = (
      saved.0,
      goes_as route.image client (is_some route.surrogate) (PullAsks client route before (ends.Pulled count) after) (PullEnds client route before (ends.Pulled count) after saved.0) before after saved.0 i l no_runner no_runner t u saved.1
          (λ trace turn. inl (snapshot trace turn, saved.2)),
    )
    by (Err keepers.Failed) saved = (
      saved.0,
      goes_as route.image client (is_some route.surrogate) (PullAsks client route before (ends.Pulled count) after) (PullEnds client route before ends.KeepFault after saved.0) before after saved.0 i l no_runner no_runner t u saved.1
          (λ trace turn. inr (refl, inr (count, snapshot trace turn, unkept trace (snapshot trace turn)))),
    )
    by (Err keepers.Memory) saved = (
      saved.0,
      goes_as route.image client (is_some route.surrogate) (PullAsks client route before (ends.Pulled count) after) (PullEnds client route before ends.Memory after saved.0) before after saved.0 i l no_runner no_runner t u saved.1
          (λ trace turn. inr (refl, inr (count, snapshot trace turn, unkept trace (snapshot trace turn)))),
    )

-- where nothing is to be kept, the log is as before
module _ (before after : Log) where
  pub leaves_same : (end : PullEnd) → PullLeaves (Ended end) before after → after ≡ before
  leaves_same (ends.Pulled count) leaves = leaves.0
  leaves_same (ends.OtherLast last acked) leaves = leaves
  leaves_same (ends.Older path theirs ours) leaves = leaves
  leaves_same (ends.Pending count) leaves = leaves
  leaves_same ends.Unanswered leaves = leaves
  leaves_same ends.KeepFault leaves = absurd leaves
  leaves_same ends.Memory leaves = leaves

-- a pull that changed nothing
pub unchanged_went : (client : ℕ) (route : Route) (before after : Log) (i : Option Images) (t u : LinkTelling) (end : PullEnd) → PullLeaves (Ended end) before after
    → Goes client (is_some route.surrogate) route.image (PullAsks client route before end after) before after before i i no_runner no_runner t u
    → Went client (is_some route.surrogate) route.image (PullEnds client route before end after) before after i i t u
unchanged_went client route before after i t u end leaves goes =
    (before, goes_as route.image client (is_some route.surrogate) (PullAsks client route before end after) (PullEnds client route before end after before) before after before i i no_runner no_runner t u goes (λ trace turn. kept_so trace turn))
  where
    kept_so : (trace : Trace) → PullAsks client route before end after trace → PullEnds client route before end after before trace
    kept_so trace (inl turn) = inl (turn, sym (leaves_same before after end leaves))
    kept_so trace (inr broken) = inr (ap is_broken_pull broken.0, inl broken.1)

-- what is kept behind a pull
module _ (name : List ℕ) (client : ℕ) (before after : Log) (i l : Option Images) (keeps : IsKept i name client before) where
  pub pull_keeps_same : (end : PullEnd) → PullLeaves (Ended end) before after → PullKeeps name client before end after i i
  pull_keeps_same end leaves =
      subst (λ (log : Log). PullKeeps name client before end log i i) (sym (leaves_same before after end leaves))
      (record { kept = before; changes = []; replaced_so = inl refl; keeping = keeping_none name client before i keeps; whole = λ is. refl })

  pub pull_keeps : (count : ℕ) (r : Result (Unit {0}) KeepError) → TakesRows before after → Told i l (KeepsLog name client after r) → PullKeeps name client before (pulled_end count r) after i l
  pull_keeps count r takes save =
      by r (keeping_saved name client before after before (after ∷ []) (λ none. absurd (cc)) i i l r (keeping_unkept name client before after i keeps) save)
    where
      so : (after ∷ [] ≡ []) ⊎ ((seen : Volume) × (after ∷ [] ≡ pulled seen before ∷ []))
      so = inr (takes.1, ap (λ (log : Log). log ∷ []) takes.4.3)

      by : (r : Result (Unit {0}) KeepError) → Keeping name client before after after (after ∷ []) i l ⊎ (IfOk r (λ done. ⊥) × Keeping name client before after before (after ∷ []) i l)
          → PullKeeps name client before (pulled_end count r) after i l
      by (Ok done) (inl now) = record { kept = after; changes = after ∷ []; replaced_so = so; keeping = now; whole = λ is. refl }
      by (Ok done) (inr still) = absurd still.0
      by (Err keepers.Failed) (inl now) = record { kept = after; changes = after ∷ []; replaced_so = so; keeping = now; whole = λ is. refl }
      by (Err keepers.Failed) (inr still) = record { kept = before; changes = after ∷ []; replaced_so = so; keeping = still.1; whole = λ is. absurd (cc) }
      by (Err keepers.Memory) (inl now) = record { kept = after; changes = after ∷ []; replaced_so = so; keeping = now; whole = λ is. refl }
      by (Err keepers.Memory) (inr still) = record { kept = before; changes = after ∷ []; replaced_so = so; keeping = still.1; whole = λ is. absurd (cc) }

-- why a pull that changed nothing, or took rows, ends so
pub pulled_cause : (before after : Log) (t u p q count : ℕ) (r : Result (Unit {0}) KeepError) → HasPullCause (ends.Pulled count) before after t u p q → TakesRows before after → (r ≡ Err keepers.Failed → Rose p q)
    → HasPullCause (pulled_end count r) before after t u p q
pulled_cause before after t u p q count (Ok done) cause takes rose = cause
pulled_cause before after t u p q count (Err keepers.Failed) cause takes rose = (cause.0, takes, rose refl)
pulled_cause before after t u p q count (Err keepers.Memory) cause takes rose = (cause.0, inr takes)

-- a settled pull came to a snapshot, or to nothing
pub found_snapshot : (client acked : ℕ) (reply : Option Message) (last : ℕ) (seen : Volume) → IfSome reply (λ m. IsValid m × Echoes (Pull client acked) m) → Some (last, seen) ≡ snapshot_of reply → reply ≡ Some (Snapshot client acked last seen)
found_snapshot client acked None last seen told is = absurd (cc)
found_snapshot client acked (Some (Snapshot of number then rows)) last seen told is =
    let same_last : then ≡ last = ap (λ (o : Option (ℕ × Volume)). (unwrap_or o (0, [])).0) (sym is) in
    let same_rows : rows ≡ seen = ap (λ (o : Option (ℕ × Volume)). (unwrap_or o (0, [])).1) (sym is) in
    λ i. Some (Snapshot (sym told.1.1 i) (sym told.1.2 i) (same_last i) (same_rows i))
found_snapshot client acked (Some _) last seen told is = absurd told.1.0

pub found_none : (client acked : ℕ) (reply : Option Message) → IfSome reply (λ m. IsValid m × Echoes (Pull client acked) m) → None ≡ snapshot_of reply → reply ≡ None
found_none client acked None told is = refl
found_none client acked (Some (Snapshot of number then rows)) told is = absurd (cc)
found_none client acked (Some _) told is = absurd told.1.0

pulled_not_older : (count : ℕ) (r : Result (Unit {0}) KeepError) → IsNotOlder (pulled_end count r)
pulled_not_older count (Ok done) = λ path theirs ours is. absurd (cc)
pulled_not_older count (Err keepers.Failed) = λ path theirs ours is. absurd (cc)
pulled_not_older count (Err keepers.Memory) = λ path theirs ours is. absurd (cc)

-- over any link
pub not_older : (client : ℕ) (before : Log) (w v : Option World) (P : World → World → Type 0) (end : PullEnd) → IsNotOlder end → Told w v P → Told w v (λ x y. InStep client before x → IsNotOlder end)
not_older client before w v P end never told = told_as w v P (λ x y. InStep client before x → IsNotOlder end) told (λ x y p now. never)

pub older_never : (client : ℕ) (before : Log) (w v : Option World) (P : World → World → Type 0) (count : ℕ) (r : Result (Unit {0}) KeepError) (end : PullEnd) → end ≡ pulled_end count r → Told w v P
    → Told w v (λ x y. InStep client before x → IsNotOlder end)
older_never client before w v P count r end is told = not_older client before w v P end (subst IsNotOlder (sym is) (pulled_not_older count r)) told

-- a pull that took rows ends as such, or was broken off
pub kept_pulled : (count : ℕ) (r : Result (Unit {0}) KeepError) → is_broken_pull (pulled_end count r) ≡ false → ((n : ℕ) → pulled_end count r ≢ ends.Pulled n) → ⊥
kept_pulled count (Ok done) whole other = other count refl
kept_pulled count (Err keepers.Failed) whole other = absurd (cc)
kept_pulled count (Err keepers.Memory) whole other = absurd (cc)

-- ---- what a pull writes

module _ (name : List ℕ) (client : ℕ) (before after : Log) where
  -- nothing
  pub unchanged_writes : (i : Option Images) (end : PullEnd) → PullLeaves (Ended end) before after → PullWrites name client before end after i i
  unchanged_writes i (ends.Pulled count) leaves = inl (leaves.1, refl)
  unchanged_writes i (ends.OtherLast last acked) leaves = tt
  unchanged_writes i (ends.Older path theirs ours) leaves = tt
  unchanged_writes i (ends.Pending count) leaves = tt
  unchanged_writes i ends.Unanswered leaves = tt
  unchanged_writes i ends.KeepFault leaves = absurd leaves
  unchanged_writes i ends.Memory leaves = inl refl

  -- or the client's image, unless the save is refused
  refused_writes : (e : KeepError) (i l : Option Images) → Told i l (WritesNext name client after None (Err e)) → StaysOrPuts name (image (record { client = client; log = after })) i l
  refused_writes e (Some x) (Some y) (inl same) = inl (ap Some same)
  refused_writes e (Some x) (Some y) (inr put) = inr put
  refused_writes e (Some x) None told = absurd told
  refused_writes e None l told = inl told

  pub pulled_writes : (i l : Option Images) (count : ℕ) (r : Result (Unit {0}) KeepError) → (IsKeptBase before after.base → ⊥) → Told i l (WritesNext name client after None r)
      → PullWrites name client before (pulled_end count r) after i l
  pulled_writes i l count (Ok done) other told = inr (other, told_as i l _ (IsPut name (image (record { client = client; log = after }))) told (λ x y put. put))
  pulled_writes i l count (Err keepers.Failed) other told = refused_writes keepers.Failed i l told
  pulled_writes i l count (Err keepers.Memory) other told = refused_writes keepers.Memory i l told
