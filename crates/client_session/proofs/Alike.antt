-- The lines, the asks and the runs of a session make all of it.
use Rattle.std.proofs.Common.{◌≡◌, ◌≢◌, ◌⊎◌, inl, inr, ℕ, zero, suc, ◌+◌, Bool, true, false, nat_lt, List, [], ◌∷◌, ◌++◌, length, map, find, Option, None, Some, Result, Ok, Err, refl, sym, ◌∙◌, ap, subst, arith, append_assoc}
use Rattle.std.proofs.lemmas.List.{append-nil}
use Rattle.std.proofs.lemmas.Bool.Decides.{nat_tests}
use Rattle.std.specs.declared.cmp.Ordering.{Ordering}
use Rattle.std.specs.declared.cmp.Ordering.TheVariants.{Less, Equal, Greater}
use Rattle.std.specs.Ordering.{ordering_reverse}
use Rattle.file_paths.specs.Path.{FilePath, path_cmp}
use Rattle.file_paths.specs.declared.path.PathError.{PathError}
use Rattle.file_paths.proofs.Order.{paths_total, same_path}
use Rattle.tree_values.specs.Tree.{Volume, version_at}
use Rattle.tree_values.specs.declared.node.Effect.{Effect}
use Rattle.cmd_capture.specs.declared.command.Command.{Command}
use Rattle.cmd_capture.specs.declared.job.Job.{Job}
use Rattle.cmd_capture.specs.declared.job.RawRow.{RawRow}
use Rattle.cmd_capture.specs.declared.runner.Run.{Run}
use Rattle.cmd_capture.specs.declared.capturing.CaptureError.{CaptureError}
use Rattle.cmd_capture.specs.Capture.{capture}
use Rattle.cmd_capture.specs.Rows.{AreLegal, IsFirstOdd}
use Rattle.work_area.specs.declared.jobs.JobError.{JobError}
use Rattle.work_area.specs.declared.rows.RowsFault.TheVariants as rows_faults
use Rattle.work_area.specs.Jobs.{job_of}
use Rattle.work_area.specs.Changes.{clashes, first_path}
use Rattle.work_area.specs.Outcomes.{IsRowsFault}
use Rattle.mod_log.specs.declared.log.Entry.{Entry}
use Rattle.mod_log.specs.declared.log.LogError.{LogError}
use Rattle.mod_log.specs.declared.sketching.SketchEntry.{SketchEntry}
use Rattle.mod_log.specs.Log.{Log, tree_of}
use Rattle.mod_log.proofs.Sketches.{one_sketch_of}
use Rattle.wire_frames.specs.declared.message.Message.{Message}
use Rattle.wire_frames.specs.declared.message.Message.TheVariants as messages
use Rattle.wire_frames.specs.declared.message.Message.TheVariants.{Snapshot}
use Rattle.world_rules.specs.declared.asking.Peer.TheVariants.{Server, Surrogate}
use Rattle.world_rules.specs.declared.asking.Ask.{Ask}
use Rattle.world_rules.specs.Settling.{IsSettling}
use Rattle.client_core.specs.declared.route.Route.{Route}
use Rattle.client_core.specs.declared.syncing.SyncEnd.{SyncEnd}
use Rattle.client_core.specs.declared.pulling.PullEnd.{PullEnd}
use Rattle.client_core.specs.declared.pulling.PullEnd.TheVariants.{Pulled, Pending, OtherLast, Older, Unanswered, KeepFault, Memory}
use Rattle.client_core.specs.declared.running.RunEnd.{RunEnd}
use Rattle.client_core.specs.declared.running.RunEnd.TheVariants as runs
use Rattle.client_core.specs.Trace.{Trace, nothing, followed, asking, changing, logging, running, pulling}
use Rattle.client_core.specs.Running.{IsRunOf, changes_of, first_clash, RanEnd, ran_trace, RunTurn}
use Rattle.client_core.specs.Logging.{local_entry, LocalTurn}
use Rattle.client_core.specs.Syncing.{store_of, IsFirst, log_behind, end_by, IsNotDone, SettlesOperation, StoreIsDue, Ships, EntryTurn, Acknowledges, acknowledging, EndsSync, SyncTurn}
use Rattle.client_core.specs.Pulling.{pull_of, IsFirstOlder, Meets, PullChanges, PullsSnapshot, PullTurn}
use Rattle.client_core.proofs.Going.{followed-nothing, followed-assoc}
use Rattle.client_core.proofs.Runs.{ran_alone}
use Rattle.shell_lang.specs.declared.line.Line.{Line}
use Rattle.shell_lang.specs.declared.line.Line.TheVariants as lines
use Rattle.shell_lang.specs.declared.line.LineError.{LineError}
use Rattle.shell_lang.specs.declared.answer.LineAnswer.{LineAnswer}
use Rattle.client_session.specs.Session.{SessionState, with_log, put_effect, make_effect, remove_effect, move_effect, sync_answer, pull_answer, local_answer, run_answer, is_unrun, LogTurn, CommandTurn, LineTurn, Chain}
use Rattle.client_session.specs.Laws.{AsksAndRunsMakeSessions}
use Rattle.client_session.proofs.Counted.{local_other}
use Rattle.client_session.proofs.Settlings.{same_settling}
use Rattle.client_session.proofs.Acknowledged.{acknowledging_asks}
use Rattle.client_session.proofs.Windows.{one_window}

-- ---- the turn of an entry

first_one : (entries : List Entry) (a b : Entry) → IsFirst a entries → IsFirst b entries → a ≡ b
first_one [] a b p q = absurd p
first_one (e ∷ entries) a b p q = sym p ∙ q

none_first : (log : Log) (entry : Entry) → log.pending ≡ [] → IsFirst entry log.pending → ⊥
none_first log entry none first = subst (IsFirst entry) none first

module _ (client : ℕ) (route : Route) (entry : Entry) where
  -- an entry has one operation, which is settled in one way
  same_operation : (came other : Option Message) (ks bs xs ys : List Ask) → SettlesOperation client route entry came ks → SettlesOperation client route entry other bs → ks ++ xs ≡ bs ++ ys
      → (came ≡ other) × (ks ≡ bs) × (xs ≡ ys)
  same_operation came other ks bs xs ys p q is =
      let address : q.0 ≡ p.0 = cc (sym q.2.surrogate ∙ p.2.surrogate) in
      let sketched : q.1 ≡ p.1 = one_sketch_of entry q.1 p.1 q.2.sketch p.2.sketch in
      let settling : IsSettling Surrogate p.0 (messages.Operate client p.1) other bs =
      subst (λ (to : List ℕ). IsSettling Surrogate to (messages.Operate client p.1) other bs) address (subst (λ (e : SketchEntry). IsSettling Surrogate q.0 (messages.Operate client e) other bs) sketched q.3) in
      same_settling Surrogate p.0 (messages.Operate client p.1) came other ks bs xs ys p.3 settling is

  -- what stands before its store is one
  same_due : (ks bs xs ys : List Ask) → StoreIsDue client route entry ks → StoreIsDue client route entry bs → ks ++ xs ≡ bs ++ ys → (ks ≡ bs) × (xs ≡ ys)
  same_due ks bs xs ys (inl p) (inl q) is = (p.1 ∙ sym q.1, sym (ap (λ (l : List Ask). l ++ xs) p.1) ∙ is ∙ ap (λ (l : List Ask). l ++ ys) q.1)
  same_due ks bs xs ys (inl p) (inr q) is = absurd (p.0 q.2.0 q.2.1 q.2.2)
  same_due ks bs xs ys (inr p) (inl q) is = absurd (q.0 p.2.0 p.2.1 p.2.2)
  same_due ks bs xs ys (inr p) (inr q) is = let same = same_operation p.0 q.0 ks bs xs ys p.2 q.2 is in (same.1, same.2)

  -- an operation that is done leaves no store due
  done_or_due : (came : Option Message) (ks bs xs ys : List Ask) → came ≡ Some (messages.Done client entry.seq) → SettlesOperation client route entry came ks → StoreIsDue client route entry bs → ks ++ xs ≡ bs ++ ys → ⊥
  done_or_due came ks bs xs ys done p (inl q) is = q.0 p.0 p.1 p.2
  done_or_due came ks bs xs ys done p (inr q) is = let same = same_operation came q.0 ks bs xs ys p q.2 is in subst IsNotDone (sym same.0 ∙ done) q.1

  module _ (pending : List Entry) where
    same_shipping : (came other : Option Message) (ks bs xs ys : List Ask) → Ships client route pending entry came ks → Ships client route pending entry other bs → ks ++ xs ≡ bs ++ ys → (came ≡ other) × (ks ≡ bs) × (xs ≡ ys)
    same_shipping came other ks bs xs ys (inl p) (inl q) is = same_operation came other ks bs xs ys p.1 q.1 is
    same_shipping came other ks bs xs ys (inl p) (inr q) is = absurd (done_or_due came ks q.0 xs (q.1 ++ ys) p.0 p.1 q.3 (is ∙ ap (λ (l : List Ask). l ++ ys) q.6 ∙ append_assoc q.0 q.1 ys))
    same_shipping came other ks bs xs ys (inr p) (inl q) is = absurd (done_or_due other bs p.0 ys (p.1 ++ xs) q.0 q.1 p.3 (sym is ∙ ap (λ (l : List Ask). l ++ xs) p.6 ∙ append_assoc p.0 p.1 xs))
    same_shipping came other ks bs xs ys (inr p) (inr q) is =
        let whole : p.0 ++ (p.1 ++ xs) ≡ q.0 ++ (q.1 ++ ys) =
        sym (append_assoc p.0 p.1 xs) ∙ sym (ap (λ (l : List Ask). l ++ xs) p.6) ∙ is ∙ ap (λ (l : List Ask). l ++ ys) q.6 ∙ append_assoc q.0 q.1 ys in
        let before = same_due p.0 q.0 (p.1 ++ xs) (q.1 ++ ys) p.3 q.3 whole in
        let window : q.2 ≡ p.2 = one_window client route pending q.2 p.2 q.4 p.4 in
        let settling : IsSettling Server route.server (store_of client entry.seq p.2) other q.1 = subst (λ (es : List Entry). IsSettling Server route.server (store_of client entry.seq es) other q.1) window q.5 in
        let store = same_settling Server route.server (store_of client entry.seq p.2) came other p.1 q.1 xs ys p.5 settling before.1 in
        (store.0, p.6 ∙ ap (λ (l : List Ask). l ++ p.1) before.0 ∙ ap (λ (l : List Ask). q.0 ++ l) store.1 ∙ sym q.6, store.2)

module _ (client : ℕ) (route : Route) where
  same_entry : (log a b : Log) (d e : Option SyncEnd) (ks bs xs ys : List Ask) → EntryTurn client route log a d ks → EntryTurn client route log b e bs → ks ++ xs ≡ bs ++ ys → (a ≡ b) × (d ≡ e) × (ks ≡ bs) × (xs ≡ ys)
  same_entry log a b d e ks bs xs ys p q is =
      let one : p.entry ≡ q.entry = first_one log.pending p.entry q.entry p.first q.first in
      let ships : Ships client route log.pending p.entry q.came bs = subst (λ (n : Entry). Ships client route log.pending n q.came bs) (sym one) q.ships in
      let same = same_shipping client route p.entry log.pending p.came q.came ks bs xs ys p.ships ships is in
      let after : a ≡ b = p.after_is ∙ ap (λ (came : Option Message). log_behind came log) same.0 ∙ sym q.after_is in
      (after, sym p.end_is ∙ ap (λ (l : Log). end_by (l.acked + 1) p.came) after ∙ ap (end_by (b.acked + 1)) same.0 ∙ q.end_is, same.1, same.2)

-- ---- acknowledgements, the first one first

abbrev AcksOn : ℕ → Route → ℕ → Log → Log → Trace → Type 0
AcksOn client route zero before after trace = (after ≡ before) × (trace ≡ nothing)
AcksOn client route (suc count) before after trace =
    (middle : Log) × (asks : List Ask) × (rest : Trace) × EntryTurn client route before middle None asks × AcksOn client route count middle after rest
    × (trace ≡ followed (followed (asking asks) (changing middle)) rest)

acks_more : (client : ℕ) (route : Route) (count : ℕ) (before middle after : Log) (earlier : Trace) (asks : List Ask) → AcksOn client route count before middle earlier → EntryTurn client route middle after None asks
    → AcksOn client route (suc count) before after (followed earlier (followed (asking asks) (changing after)))
acks_more client route zero before middle after earlier asks first turn = (
  after,
  asks,
  nothing,
  subst (λ (log : Log). EntryTurn client route log after None asks) first.0 turn,
  (refl, refl),
  ap (λ (t : Trace). followed t (followed (asking asks) (changing after))) first.1 ∙ followed-nothing (followed (asking asks) (changing after)),
)
acks_more client route (suc count) before middle after earlier asks first turn = (
  first.0,
  first.1,
  followed first.2 (followed (asking asks) (changing after)),
  first.3,
  acks_more client route count first.0 middle after first.2 asks first.4 turn,
  ap (λ (t : Trace). followed t (followed (asking asks) (changing after))) first.5 ∙ followed-assoc (followed (asking first.1) (changing first.0)) first.2 (followed (asking asks) (changing after)),
)

acks_on : (client : ℕ) (route : Route) (count : ℕ) (before after : Log) (trace : Trace) → Acknowledges client route count before after trace → AcksOn client route count before after trace
acks_on client route zero before after trace turn = turn
acks_on client route (suc count) before after trace turn =
    subst (λ (t : Trace). AcksOn client route (suc count) before after t) (sym turn.5)
    (acks_more client route count before turn.0 after turn.1 turn.2 (acks_on client route count before turn.0 turn.1 turn.3) turn.4)

cons_asks : (asks : List Ask) (log : Log) (rest trace : Trace) (ls xs : List Ask) → trace ≡ followed (followed (asking asks) (changing log)) rest → (trace.asks ++ ls) ++ xs ≡ asks ++ ((rest.asks ++ ls) ++ xs)
cons_asks asks log rest trace ls xs is =
    ap (λ (t : Trace). (t.asks ++ ls) ++ xs) is ∙ ap (λ (l : List Ask). ((l ++ rest.asks) ++ ls) ++ xs) (append-nil asks) ∙ ap (λ (l : List Ask). l ++ xs) (append_assoc asks rest.asks ls)
    ∙ append_assoc asks (rest.asks ++ ls) xs

-- ---- a sync

-- what a last turn asks
last_asks : (before after : Log) (asks : List Ask) (trace : Trace) → trace ≡ followed (asking asks) (acknowledging before after) → trace.asks ≡ asks
last_asks before after asks trace is = ap (λ (t : Trace). t.asks) is ∙ ap (λ (l : List Ask). asks ++ l) (acknowledging_asks before after) ∙ append-nil asks

module _ (client : ℕ) (route : Route) where
  same_end : (log a b : Log) (d e : SyncEnd) (u v : Trace) (xs ys : List Ask) → EndsSync client route log d a u → EndsSync client route log e b v → u.asks ++ xs ≡ v.asks ++ ys → (a ≡ b) × (u ≡ v) × (d ≡ e) × (xs ≡ ys)
  same_end log a b d e u v xs ys (inl p) (inl q) is =
      (p.2 ∙ sym q.2, p.3 ∙ sym q.3, p.1 ∙ sym q.1, sym (ap (λ (r : Trace). r.asks ++ xs) p.3) ∙ is ∙ ap (λ (r : Trace). r.asks ++ ys) q.3)
  same_end log a b d e u v xs ys (inl p) (inr q) is = absurd (none_first log q.1.entry p.0 q.1.first)
  same_end log a b d e u v xs ys (inr p) (inl q) is = absurd (none_first log p.1.entry q.0 p.1.first)
  same_end log a b d e u v xs ys (inr p) (inr q) is =
      let whole : p.0 ++ xs ≡ q.0 ++ ys = sym (ap (λ (l : List Ask). l ++ xs) (last_asks log a p.0 u p.2)) ∙ is ∙ ap (λ (l : List Ask). l ++ ys) (last_asks log b q.0 v q.2) in
      let same = same_entry client route log a b (Some d) (Some e) p.0 q.0 xs ys p.1 q.1 whole in
      let traces : u ≡ v = p.2 ∙ ap (λ (l : List Ask). followed (asking l) (acknowledging log a)) same.2 ∙ ap (λ (l : Log). followed (asking q.0) (acknowledging log l)) same.0 ∙ sym q.2 in
      (same.0, traces, cc (same.1), same.3)

  ends_or_goes : (log a b : Log) (d : SyncEnd) (u : Trace) (ks xs ys : List Ask) → EndsSync client route log d a u → EntryTurn client route log b None ks → u.asks ++ xs ≡ ks ++ ys → ⊥
  ends_or_goes log a b d u ks xs ys (inl p) turn is = none_first log turn.entry p.0 turn.first
  ends_or_goes log a b d u ks xs ys (inr p) turn is =
      let whole : p.0 ++ xs ≡ ks ++ ys = sym (ap (λ (l : List Ask). l ++ xs) (last_asks log a p.0 u p.2)) ∙ is in
      absurd (cc ((same_entry client route log a b (Some d) None p.0 ks xs ys p.1 turn whole).1))

  same_sync : (n m : ℕ) (before a b c f : Log) (s t u v : Trace) (xs ys : List Ask) (d e : SyncEnd) → AcksOn client route n before a s → EndsSync client route a d c u → AcksOn client route m before b t
      → EndsSync client route b e f v → (s.asks ++ u.asks) ++ xs ≡ (t.asks ++ v.asks) ++ ys → (c ≡ f) × (s ≡ t) × (u ≡ v) × (d ≡ e) × (xs ≡ ys)
  same_sync zero zero before a b c f s t u v xs ys d e p end_p q end_q is =
      let whole : u.asks ++ xs ≡ v.asks ++ ys = sym (ap (λ (r : Trace). (r.asks ++ u.asks) ++ xs) p.1) ∙ is ∙ ap (λ (r : Trace). (r.asks ++ v.asks) ++ ys) q.1 in
      let same = same_end before c f d e u v xs ys (subst (λ (log : Log). EndsSync client route log d c u) p.0 end_p) (subst (λ (log : Log). EndsSync client route log e f v) q.0 end_q) whole in
      (same.0, p.1 ∙ sym q.1, same.1, same.2, same.3)
  same_sync zero (suc m) before a b c f s t u v xs ys d e p end_p q end_q is =
      absurd (ends_or_goes before c q.0 d u q.1 xs ((q.2.asks ++ v.asks) ++ ys) (subst (λ (log : Log). EndsSync client route log d c u) p.0 end_p) q.3
      (sym (ap (λ (r : Trace). (r.asks ++ u.asks) ++ xs) p.1) ∙ is ∙ cons_asks q.1 q.0 q.2 t v.asks ys q.5))
  same_sync (suc n) zero before a b c f s t u v xs ys d e p end_p q end_q is =
      absurd (ends_or_goes before f p.0 e v p.1 ys ((p.2.asks ++ u.asks) ++ xs) (subst (λ (log : Log). EndsSync client route log e f v) q.0 end_q) p.3
      (sym (ap (λ (r : Trace). (r.asks ++ v.asks) ++ ys) q.1) ∙ sym is ∙ cons_asks p.1 p.0 p.2 s u.asks xs p.5))
  same_sync (suc n) (suc m) before a b c f s t u v xs ys d e p end_p q end_q is =
      let whole : p.1 ++ ((p.2.asks ++ u.asks) ++ xs) ≡ q.1 ++ ((q.2.asks ++ v.asks) ++ ys) = sym (cons_asks p.1 p.0 p.2 s u.asks xs p.5) ∙ is ∙ cons_asks q.1 q.0 q.2 t v.asks ys q.5 in
      let same = same_entry client route before p.0 q.0 None None p.1 q.1 ((p.2.asks ++ u.asks) ++ xs) ((q.2.asks ++ v.asks) ++ ys) p.3 q.3 whole in
      let later : AcksOn client route m p.0 b q.2 = subst (λ (log : Log). AcksOn client route m log b q.2) (sym same.0) q.4 in
      let rest = same_sync n m p.0 a b c f p.2 q.2 u v xs ys d e p.4 end_p later end_q same.3 in (
        rest.0,
        p.5 ∙ ap (λ (ks : List Ask). followed (followed (asking ks) (changing p.0)) p.2) same.2 ∙ ap (λ (log : Log). followed (followed (asking q.1) (changing log)) p.2) same.0
            ∙ ap (λ (r : Trace). followed (followed (asking q.1) (changing q.0)) r) rest.1 ∙ sym q.5,
        rest.2,
        rest.3,
        rest.4,
      )

  same_sync_turn : (before a b : Log) (d e : SyncEnd) (p q : Trace) (xs ys : List Ask) → SyncTurn client route before d a p → SyncTurn client route before e b q → p.asks ++ xs ≡ q.asks ++ ys
      → (d ≡ e) × (a ≡ b) × (p ≡ q) × (xs ≡ ys)
  same_sync_turn before a b d e p q xs ys s t is =
      let whole : (s.2.asks ++ s.3.asks) ++ xs ≡ (t.2.asks ++ t.3.asks) ++ ys = sym (ap (λ (r : Trace). r.asks ++ xs) s.6) ∙ is ∙ ap (λ (r : Trace). r.asks ++ ys) t.6 in
      let same = same_sync s.0 t.0 before s.1 t.1 a b s.2 t.2 s.3 t.3 xs ys d e (acks_on client route s.0 before s.1 s.2 s.4) s.5 (acks_on client route t.0 before t.1 t.2 t.4) t.5 whole in
      (same.3, same.0, s.6 ∙ ap (λ (r : Trace). followed r s.3) same.1 ∙ ap (followed t.2) same.2 ∙ sym t.6, same.4)

-- ---- a pull

first_older : (base seen : Volume) (p q : FilePath) → IsFirstOlder base seen p → IsFirstOlder base seen q → p ≡ q
first_older base seen p q a b = by (path_cmp p q) refl
  where
    by : (o : Ordering) → path_cmp p q ≡ o → p ≡ q
    by Equal is = same_path p q is
    by Less is = absurd (omega (arith, a.lower, b.first p is))
    by Greater is = absurd (omega (arith, b.lower, a.first q (paths_total.antisymm q p ∙ ap ordering_reverse is)))

same_met : (before : Log) (last : ℕ) (seen : Volume) (d e : PullEnd) (a b : Log) → Meets before last seen d a → Meets before last seen e b → (d ≡ e) × (a ≡ b)
same_met before last seen (OtherLast l m) (OtherLast n o) a b p q = (ap (λ (k : ℕ). OtherLast k m) (p.1 ∙ sym q.1) ∙ ap (OtherLast n) (p.2 ∙ sym q.2), p.3 ∙ sym q.3)
same_met before last seen (OtherLast l m) (Older path t o) a b p q = absurd (p.0 q.0)
same_met before last seen (OtherLast l m) (Pulled n) a b p q = absurd (p.0 q.0)
same_met before last seen (Older path t o) (OtherLast l m) a b p q = absurd (q.0 p.0)
same_met before last seen (Older path t o) (Older other u v) a b p q =
    let one : path ≡ other = first_older before.base seen path other p.1 q.1 in
    let theirs : t ≡ u = p.2 ∙ ap (version_at seen) one ∙ sym q.2 in
    let ours : o ≡ v = p.3 ∙ ap (version_at before.base) one ∙ sym q.3 in
    (ap (λ (x : FilePath). Older x t o) one ∙ ap (λ (n : ℕ). Older other n o) theirs ∙ ap (Older other u) ours, p.4 ∙ sym q.4)
same_met before last seen (Older path t o) (Pulled n) a b p q = absurd (omega (arith, p.1.lower, q.1 path))
same_met before last seen (Pulled n) (OtherLast l m) a b p q = absurd (q.0 p.0)
same_met before last seen (Pulled n) (Older path t o) a b p q = absurd (omega (arith, q.1.lower, p.1 path))
same_met before last seen (Pulled n) (Pulled m) a b p q = (ap Pulled (p.2 ∙ sym q.2), p.3 ∙ sym q.3)
same_met before last seen (Pending n) e a b p q = absurd p
same_met before last seen Unanswered e a b p q = absurd p
same_met before last seen KeepFault e a b p q = absurd p
same_met before last seen Memory e a b p q = absurd p
same_met before last seen (OtherLast l m) (Pending n) a b p q = absurd q
same_met before last seen (OtherLast l m) Unanswered a b p q = absurd q
same_met before last seen (OtherLast l m) KeepFault a b p q = absurd q
same_met before last seen (OtherLast l m) Memory a b p q = absurd q
same_met before last seen (Older path t o) (Pending n) a b p q = absurd q
same_met before last seen (Older path t o) Unanswered a b p q = absurd q
same_met before last seen (Older path t o) KeepFault a b p q = absurd q
same_met before last seen (Older path t o) Memory a b p q = absurd q
same_met before last seen (Pulled n) (Pending m) a b p q = absurd q
same_met before last seen (Pulled n) Unanswered a b p q = absurd q
same_met before last seen (Pulled n) KeepFault a b p q = absurd q
same_met before last seen (Pulled n) Memory a b p q = absurd q

-- what the log makes of a snapshot tells what it changes
same_changes : (before : Log) (seen : Volume) (end : PullEnd) (after : Log) (xs ys : List Log) → PullChanges before seen end after xs → PullChanges before seen end after ys → xs ≡ ys
same_changes before seen (Pulled n) after xs ys (inl p) (inl q) = p.1 ∙ sym q.1
same_changes before seen (Pulled n) after xs ys (inl p) (inr q) = absurd (q.0 p.0)
same_changes before seen (Pulled n) after xs ys (inr p) (inl q) = absurd (p.0 q.0)
same_changes before seen (Pulled n) after xs ys (inr p) (inr q) = p.1 ∙ sym q.1
same_changes before seen (Pending n) after xs ys p q = p ∙ sym q
same_changes before seen (OtherLast l m) after xs ys p q = p ∙ sym q
same_changes before seen (Older path t o) after xs ys p q = p ∙ sym q
same_changes before seen Unanswered after xs ys p q = p ∙ sym q
same_changes before seen KeepFault after xs ys p q = p ∙ sym q
same_changes before seen Memory after xs ys p q = p ∙ sym q

-- how a pull goes: it waits, or eight asks fail, or a snapshot comes
abbrev Waits : Log → PullEnd → Log → Trace → Type 0
Waits before end after trace = (before.pending ≢ []) × (end ≡ Pending (length before.pending)) × (after ≡ before) × (trace ≡ nothing)

abbrev Fails : ℕ → Route → Log → PullEnd → Log → Trace → Type 0
Fails client route before end after trace =
    (asks : List Ask) × (before.pending ≡ []) × IsSettling Server route.server (pull_of client before) None asks × (end ≡ Unanswered) × (after ≡ before) × (trace ≡ asking asks)

module _ (client : ℕ) (route : Route) (before : Log) where
  kind_of : (end : PullEnd) (after : Log) (trace : Trace) → PullTurn client route before end after trace → Waits before end after trace ⊎ Fails client route before end after trace ⊎ PullsSnapshot client route before end after trace
  kind_of (Pending n) after trace turn = inl (turn.0, ap Pending turn.1, turn.2, turn.3)
  kind_of Unanswered after trace turn = let failed = turn.1 in inr (inl (failed.0, turn.0, failed.1, refl, failed.2, failed.3))
  kind_of (Pulled n) after trace turn = inr (inr turn)
  kind_of (OtherLast l m) after trace turn = inr (inr turn)
  kind_of (Older path t o) after trace turn = inr (inr turn)
  kind_of KeepFault after trace turn = inr (inr turn)
  kind_of Memory after trace turn = inr (inr turn)

  snapshot_asks : (end : PullEnd) (after : Log) (trace : Trace) (p : PullsSnapshot client route before end after trace) → trace.asks ≡ p.asks
  snapshot_asks end after trace p = ap (λ (t : Trace). t.asks) p.trace_is ∙ append-nil p.asks

  same_pull : (d e : PullEnd) (a b : Log) (p q : Trace) (xs ys : List Ask) → Waits before d a p ⊎ Fails client route before d a p ⊎ PullsSnapshot client route before d a p
      → Waits before e b q ⊎ Fails client route before e b q ⊎ PullsSnapshot client route before e b q → p.asks ++ xs ≡ q.asks ++ ys → (d ≡ e) × (a ≡ b) × (p ≡ q) × (xs ≡ ys)
  same_pull d e a b p q xs ys (inl s) (inl t) is =
      (s.1 ∙ sym t.1, s.2 ∙ sym t.2, s.3 ∙ sym t.3, sym (ap (λ (r : Trace). r.asks ++ xs) s.3) ∙ is ∙ ap (λ (r : Trace). r.asks ++ ys) t.3)
  same_pull d e a b p q xs ys (inl s) (inr (inl t)) is = absurd (s.0 t.1)
  same_pull d e a b p q xs ys (inl s) (inr (inr t)) is = absurd (s.0 t.idle)
  same_pull d e a b p q xs ys (inr (inl s)) (inl t) is = absurd (t.0 s.1)
  same_pull d e a b p q xs ys (inr (inr s)) (inl t) is = absurd (t.0 s.idle)
  same_pull d e a b p q xs ys (inr (inl s)) (inr (inl t)) is =
      let whole : s.0 ++ xs ≡ t.0 ++ ys = sym (ap (λ (r : Trace). r.asks ++ xs) s.5) ∙ is ∙ ap (λ (r : Trace). r.asks ++ ys) t.5 in
      let same = same_settling Server route.server (pull_of client before) None None s.0 t.0 xs ys s.2 t.2 whole in
      (s.3 ∙ sym t.3, s.4 ∙ sym t.4, s.5 ∙ ap asking same.1 ∙ sym t.5, same.2)
  same_pull d e a b p q xs ys (inr (inl s)) (inr (inr t)) is =
      let whole : s.0 ++ xs ≡ t.asks ++ ys = sym (ap (λ (r : Trace). r.asks ++ xs) s.5) ∙ is ∙ ap (λ (l : List Ask). l ++ ys) (snapshot_asks e b q t) in
      absurd (cc ((same_settling Server route.server (pull_of client before) None (Some (Snapshot client before.acked t.last t.seen)) s.0 t.asks xs ys s.2 t.settling whole).0))
  same_pull d e a b p q xs ys (inr (inr s)) (inr (inl t)) is =
      let whole : s.asks ++ xs ≡ t.0 ++ ys = sym (ap (λ (l : List Ask). l ++ xs) (snapshot_asks d a p s)) ∙ is ∙ ap (λ (r : Trace). r.asks ++ ys) t.5 in
      absurd (cc ((same_settling Server route.server (pull_of client before) (Some (Snapshot client before.acked s.last s.seen)) None s.asks t.0 xs ys s.settling t.2 whole).0))
  same_pull d e a b p q xs ys (inr (inr s)) (inr (inr t)) is =
      let whole : s.asks ++ xs ≡ t.asks ++ ys = sym (ap (λ (l : List Ask). l ++ xs) (snapshot_asks d a p s)) ∙ is ∙ ap (λ (l : List Ask). l ++ ys) (snapshot_asks e b q t) in
      let same = same_settling Server route.server (pull_of client before) (Some (Snapshot client before.acked s.last s.seen)) (Some (Snapshot client before.acked t.last t.seen)) s.asks t.asks xs ys s.settling t.settling whole in
      let last : s.last ≡ t.last = cc (same.0) in
      let seen : s.seen ≡ t.seen = cc (same.0) in
      let met : Meets before t.last t.seen d a = subst (λ (n : ℕ). Meets before n t.seen d a) last (subst (λ (v : Volume). Meets before s.last v d a) seen s.met) in
      let ends = same_met before t.last t.seen d e a b met t.met in
      let changed : PullChanges before t.seen e b s.changes = subst (λ (x : PullEnd). PullChanges before t.seen x b s.changes) ends.0
      (subst (λ (x : Log). PullChanges before t.seen d x s.changes) ends.1 (subst (λ (v : Volume). PullChanges before v d a s.changes) seen s.changed)) in
      let changes : s.changes ≡ t.changes = same_changes before t.seen e b s.changes t.changes changed t.changed in (
        ends.0,
        ends.1,
        s.trace_is ∙ ap (λ (l : List Ask). followed (asking l) (pulling d s.changes)) same.1 ∙ ap (λ (x : PullEnd). followed (asking t.asks) (pulling x s.changes)) ends.0 ∙ ap (λ (l : List Log). followed (asking t.asks) (pulling e l)) changes ∙ sym t.trace_is,
        same.2,
      )

-- ---- a run

-- the run with this index is the first odd one
first_odd : (raws : List RawRow) (m n : ℕ) → IsFirstOdd raws m → IsFirstOdd raws n → m ≡ n
first_odd raws m n p q = by (nat_lt m n) (nat_lt n m) refl refl
  where
    by : (less more : Bool) → nat_lt m n ≡ less → nat_lt n m ≡ more → m ≡ n
    by true more less_is more_is = absurd (cc (sym p.odd ∙ q.first m (grind (arith, nat_tests))))
    by false true less_is more_is = absurd (cc (sym q.odd ∙ p.first n (grind (arith, nat_tests))))
    by false false less_is more_is = grind (arith, nat_tests)

same_odd : (raws : List RawRow) (i j : ℕ) → IsRowsFault raws (rows_faults.OddTree i) → IsRowsFault raws (rows_faults.OddTree j) → i ≡ j
same_odd raws i j p q = let one : p.0 ≡ q.0 = first_odd raws p.0 q.0 p.2 q.2 in cc (p.1, q.1, one)

odd_or_legal : (raws : List RawRow) (i : ℕ) → IsRowsFault raws (rows_faults.OddTree i) → AreLegal raws → ⊥
odd_or_legal raws i odd legal = absurd (cc (sym odd.2.odd ∙ legal odd.0 odd.2.within))

none_clash : (before : Log) (run : Run) (effect : Effect) → changes_of run ≡ [] → first_clash before run ≡ Some effect → ⊥
none_clash before run effect none is = absurd (cc (sym (ap (find (clashes (tree_of before) run.job.rows)) none) ∙ is))

-- what is made of a run is told by the run
same_ran : (command : Command) (before : Log) (run : Run) (d e : RunEnd) (a b : Log) → RanEnd command before run d a → RanEnd command before run e b → (d ≡ e) × (a ≡ b)
same_ran command before run (runs.OddTree i) (runs.OddTree j) a b p q =
    (ap runs.OddTree (same_odd run.outcome.rows i j p.0 q.0), p.1 ∙ sym q.1)
same_ran command before run (runs.OddTree i) (runs.Nothing s) a b p q = absurd (odd_or_legal run.outcome.rows i p.0 q.0)
same_ran command before run (runs.OddTree i) (runs.Clash path) a b p q = absurd (odd_or_legal run.outcome.rows i p.0 q.0)
same_ran command before run (runs.OddTree i) (runs.Refused f) a b p q = absurd (odd_or_legal run.outcome.rows i p.0 q.0.legal)
same_ran command before run (runs.OddTree i) (runs.Logged n s) a b p q = absurd (odd_or_legal run.outcome.rows i p.0 q.0.legal)
same_ran command before run (runs.Nothing s) (runs.OddTree j) a b p q = absurd (odd_or_legal run.outcome.rows j q.0 p.0)
same_ran command before run (runs.Nothing s) (runs.Nothing t) a b p q = (ap runs.Nothing (p.2 ∙ sym q.2), p.3 ∙ sym q.3)
same_ran command before run (runs.Nothing s) (runs.Clash path) a b p q = absurd (none_clash before run q.1.0 p.1 q.1.1)
same_ran command before run (runs.Nothing s) (runs.Refused f) a b p q = absurd (q.0.some p.1)
same_ran command before run (runs.Nothing s) (runs.Logged n t) a b p q = absurd (q.0.some p.1)
same_ran command before run (runs.Clash path) (runs.OddTree j) a b p q = absurd (odd_or_legal run.outcome.rows j q.0 p.0)
same_ran command before run (runs.Clash path) (runs.Nothing t) a b p q = absurd (none_clash before run p.1.0 q.1 p.1.1)
same_ran command before run (runs.Clash path) (runs.Clash other) a b p q =
    let one : p.1.0 ≡ q.1.0 = cc (sym p.1.1 ∙ q.1.1) in
    (ap runs.Clash (p.1.2 ∙ ap first_path one ∙ sym q.1.2), p.2 ∙ sym q.2)
same_ran command before run (runs.Clash path) (runs.Refused f) a b p q = absurd (cc (sym p.1.1 ∙ q.0.clear))
same_ran command before run (runs.Clash path) (runs.Logged n t) a b p q = absurd (cc (sym p.1.1 ∙ q.0.clear))
same_ran command before run (runs.Refused f) (runs.OddTree j) a b p q = absurd (odd_or_legal run.outcome.rows j q.0 p.0.legal)
same_ran command before run (runs.Refused f) (runs.Nothing t) a b p q = absurd (p.0.some q.1)
same_ran command before run (runs.Refused f) (runs.Clash other) a b p q = absurd (cc (sym q.1.1 ∙ p.0.clear))
same_ran command before run (runs.Refused f) (runs.Refused g) a b p q = let one : f ≡ g = cc (sym p.1 ∙ q.1) in (ap runs.Refused one, p.2 ∙ sym q.2)
same_ran command before run (runs.Refused f) (runs.Logged n t) a b p q = absurd (cc (sym p.1 ∙ q.1))
same_ran command before run (runs.Logged n s) (runs.OddTree j) a b p q = absurd (odd_or_legal run.outcome.rows j q.0 p.0.legal)
same_ran command before run (runs.Logged n s) (runs.Nothing t) a b p q = absurd (p.0.some q.1)
same_ran command before run (runs.Logged n s) (runs.Clash other) a b p q = absurd (cc (sym q.1.1 ∙ p.0.clear))
same_ran command before run (runs.Logged n s) (runs.Refused g) a b p q = absurd (cc (sym p.1 ∙ q.1))
same_ran command before run (runs.Logged n s) (runs.Logged m t) a b p q =
    let log : a ≡ b = cc (sym p.1 ∙ q.1) in
    (ap (λ (k : ℕ). runs.Logged k s) (p.2 ∙ sym q.2) ∙ ap (runs.Logged m) (p.3 ∙ sym q.3), log)
same_ran command before run (runs.NoJob f) e a b p q = absurd p
same_ran command before run runs.NotRun e a b p q = absurd p
same_ran command before run runs.Memory e a b p q = absurd p
same_ran command before run d (runs.NoJob f) a b p q = absurd q
same_ran command before run d runs.NotRun a b p q = absurd q
same_ran command before run d runs.Memory a b p q = absurd q

-- it is never told as `not run`
ran_other : (command : Command) (before : Log) (run : Run) (end : RunEnd) (after : Log) → RanEnd command before run end after → is_unrun (run_answer end) ≡ false
ran_other command before run (runs.OddTree i) after ran = refl
ran_other command before run (runs.Nothing s) after ran = refl
ran_other command before run (runs.Clash path) after ran = refl
ran_other command before run (runs.Refused f) after ran = local_other (Err f)
ran_other command before run (runs.Logged n s) after ran = refl
ran_other command before run (runs.NoJob f) after ran = absurd ran
ran_other command before run runs.NotRun after ran = absurd ran
ran_other command before run runs.Memory after ran = absurd ran

ran_asks : (command : Command) (before : Log) (run : Run) (end : RunEnd) (after : Log) → (ran_trace command before run end after).asks ≡ []
ran_asks command before run (runs.Logged n s) after = refl
ran_asks command before run (runs.OddTree i) after = refl
ran_asks command before run (runs.Nothing s) after = refl
ran_asks command before run (runs.Clash path) after = refl
ran_asks command before run (runs.Refused f) after = refl
ran_asks command before run (runs.NoJob f) after = refl
ran_asks command before run runs.NotRun after = refl
ran_asks command before run runs.Memory after = refl

-- how a command goes: it has no job, or is not run, or is run
abbrev HasNoJob : Command → Log → RunEnd → Log → Trace → Type 0
HasNoJob command before end after trace = (fault : JobError) × (job_of (tree_of before) command ≡ Err fault) × (end ≡ runs.NoJob fault) × (after ≡ before) × (trace ≡ nothing)

abbrev IsNotRun : Command → Log → RunEnd → Log → Trace → Type 0
IsNotRun command before end after trace = (job : Job) × (job_of (tree_of before) command ≡ Ok job) × (end ≡ runs.NotRun) × (after ≡ before) × (trace ≡ running [] 1)

abbrev IsRun : List ℕ → Command → Log → RunEnd → Log → Trace → Type 0
IsRun work command before end after trace = (run : Run) × IsRunOf work command before run × RanEnd command before run end after × (trace ≡ ran_trace command before run end after)

run_kind : (work : List ℕ) (command : Command) (before : Log) (end : RunEnd) (after : Log) (trace : Trace) → RunTurn work command before end after trace
    → HasNoJob command before end after trace ⊎ IsNotRun command before end after trace ⊎ IsRun work command before end after trace
run_kind work command before (runs.NoJob f) after trace turn = inl (f, turn.0, refl, turn.1, turn.2)
run_kind work command before runs.NotRun after trace turn = inr (inl (turn.0.0, turn.0.1, refl, turn.1, turn.2))
run_kind work command before (runs.Logged n s) after trace turn = inr (inr turn)
run_kind work command before (runs.OddTree i) after trace turn = inr (inr turn)
run_kind work command before (runs.Nothing s) after trace turn = inr (inr turn)
run_kind work command before (runs.Clash path) after trace turn = inr (inr turn)
run_kind work command before (runs.Refused f) after trace turn = inr (inr turn)
run_kind work command before runs.Memory after trace turn = inr (inr turn)

abbrev first_run : Run → List Run → Run
first_run other [] = other
first_run other (run ∷ more) = run

abbrev all_but_first : List Run → List Run
all_but_first [] = []
all_but_first (run ∷ more) = more

-- ---- a line

-- the same answer, state and trace, and the same asks and runs behind it
abbrev Same : Option LineAnswer → Option LineAnswer → SessionState → SessionState → Trace → Trace → List Ask → List Ask → List Run → List Run → Type 0
Same x y a b p q m n g h = (x ≡ y) × (a ≡ b) × (p ≡ q) × (m ≡ n) × (g ≡ h)

module _ (before a b : SessionState) (x y : Option LineAnswer) (p q : Trace) (m n : List Ask) (g h : List Run) (is : p.asks ++ m ≡ q.asks ++ n) (ran : p.runs ++ g ≡ q.runs ++ h) where
  -- of lines with these runs
  behind_runs : (rs : List Run) → p.runs ≡ rs → q.runs ≡ rs → g ≡ h
  behind_runs rs left right = same_behind rs (sym (ap (λ (l : List Run). l ++ g) left) ∙ ran ∙ ap (λ (l : List Run). l ++ h) right)
    where
      same_behind : (rs : List Run) → rs ++ g ≡ rs ++ h → g ≡ h
      same_behind [] same = same
      same_behind (r ∷ rs) same = same_behind rs (ap all_but_first same)

  behind_asks : p.asks ≡ [] → q.asks ≡ [] → m ≡ n
  behind_asks left right = sym (ap (λ (l : List Ask). l ++ m) left) ∙ is ∙ ap (λ (l : List Ask). l ++ n) right

  -- lines that ask nothing and run nothing
  quiet : (told : Option LineAnswer) (s : SessionState) (t : Trace) → t.asks ≡ [] → t.runs ≡ [] → x ≡ told → a ≡ s → p ≡ t → y ≡ told → b ≡ s → q ≡ t → Same x y a b p q m n g h
  quiet told s t none still xs ks ps ys bs qs = (
    xs ∙ sym ys,
    ks ∙ sym bs,
    ps ∙ sym qs,
    behind_asks (ap (λ (r : Trace). r.asks) ps ∙ none) (ap (λ (r : Trace). r.asks) qs ∙ none),
    behind_runs [] (ap (λ (r : Trace). r.runs) ps ∙ still) (ap (λ (r : Trace). r.runs) qs ∙ still),
  )

  same_local : (effect : Effect) (r s : Result ℕ LogError) → LocalTurn (effect ∷ []) before.client.log r a.client.log p → LocalTurn (effect ∷ []) before.client.log s b.client.log q → a ≡ with_log before a.client.log → b ≡ with_log before b.client.log
      → x ≡ local_answer r → y ≡ local_answer s → Same x y a b p q m n g h
  same_local effect (Ok i) (Ok j) t u ks bs xs ys =
      let log : b.client.log ≡ a.client.log = cc (sym u.0 ∙ t.0) in
      quiet (local_answer (Ok i)) (with_log before a.client.log) (logging (local_entry (effect ∷ []) before.client.log) a.client.log) refl refl xs ks t.2
      (ys ∙ ap (λ (k : ℕ). local_answer (Ok k)) (u.1 ∙ sym t.1)) (bs ∙ ap (with_log before) log) (u.2 ∙ ap (logging (local_entry (effect ∷ []) before.client.log)) log)
  same_local effect (Ok i) (Err f) t u ks bs xs ys = absurd (cc (sym t.0 ∙ u.0))
  same_local effect (Err e) (Ok j) t u ks bs xs ys = absurd (cc (sym t.0 ∙ u.0))
  same_local effect (Err e) (Err f) t u ks bs xs ys =
      let one : f ≡ e = cc (sym u.0 ∙ t.0) in
      quiet (local_answer (Err e)) (with_log before before.client.log) nothing refl refl xs (ks ∙ ap (with_log before) t.1) t.2 (ys ∙ ap (λ (c : LogError). local_answer (Err c)) one) (bs ∙ ap (with_log before) u.1) u.2

  same_log : (named : Result Effect PathError) → LogTurn named before x a p → LogTurn named before y b q → Same x y a b p q m n g h
  same_log (Ok effect) t u = same_local effect t.0 u.0 t.1 u.1 t.2 u.2 t.3 u.3
  same_log (Err refusal) t u = quiet _ before nothing refl refl t.0 t.1 t.2 u.0 u.1 u.2

  -- lines of one trace
  same_behind : p ≡ q → g ≡ h
  same_behind same = behind_runs q.runs (ap (λ (r : Trace). r.runs) same) refl

  -- lines that run a command, of which none or both were not run
  module _ (work : List ℕ) (command : Command) (one : is_unrun x ≡ is_unrun y) (d e : RunEnd) (shown : x ≡ run_answer d) (told : y ≡ run_answer e) (left : a ≡ with_log before a.client.log) (right : b ≡ with_log before b.client.log) where
    same_ending : d ≡ e → a.client.log ≡ b.client.log → p ≡ q → p.asks ≡ [] → Same x y a b p q m n g h
    same_ending ends logs traces none = (
      shown ∙ ap run_answer ends ∙ sym told,
      left ∙ ap (with_log before) logs ∙ sym right,
      traces,
      behind_asks none (sym (ap (λ (r : Trace). r.asks) traces) ∙ none),
      same_behind traces,
    )

    one_ran : (run : Run) → d ≡ runs.NotRun → RanEnd command before.client.log run e b.client.log → ⊥
    one_ran run unrun end = absurd (cc (sym (ap is_unrun (shown ∙ ap run_answer unrun)) ∙ one ∙ ap is_unrun told ∙ ran_other command before.client.log run e b.client.log end))

    other_ran : (run : Run) → e ≡ runs.NotRun → RanEnd command before.client.log run d a.client.log → ⊥
    other_ran run unrun end = absurd (cc (sym (ap is_unrun (told ∙ ap run_answer unrun)) ∙ sym one ∙ ap is_unrun shown ∙ ran_other command before.client.log run d a.client.log end))

    same_run : HasNoJob command before.client.log d a.client.log p ⊎ IsNotRun command before.client.log d a.client.log p ⊎ IsRun work command before.client.log d a.client.log p
        → HasNoJob command before.client.log e b.client.log q ⊎ IsNotRun command before.client.log e b.client.log q ⊎ IsRun work command before.client.log e b.client.log q → Same x y a b p q m n g h
    same_run (inl t) (inl u) = let fault : t.0 ≡ u.0 = cc (sym t.1 ∙ u.1) in same_ending (t.2 ∙ ap runs.NoJob fault ∙ sym u.2) (t.3 ∙ sym u.3) (t.4 ∙ sym u.4) (ap (λ (r : Trace). r.asks) t.4)
    same_run (inl t) (inr (inl u)) = absurd (cc (sym t.1 ∙ u.1))
    same_run (inl t) (inr (inr u)) = absurd (cc (sym t.1 ∙ u.1.job_is))
    same_run (inr (inl t)) (inl u) = absurd (cc (sym t.1 ∙ u.1))
    same_run (inr (inr t)) (inl u) = absurd (cc (sym u.1 ∙ t.1.job_is))
    same_run (inr (inl t)) (inr (inl u)) = same_ending (t.2 ∙ sym u.2) (t.3 ∙ sym u.3) (t.4 ∙ sym u.4) (ap (λ (r : Trace). r.asks) t.4)
    same_run (inr (inl t)) (inr (inr u)) = absurd (one_ran u.0 t.2 u.2)
    same_run (inr (inr t)) (inr (inl u)) = absurd (other_ran t.0 u.2 t.2)
    same_run (inr (inr t)) (inr (inr u)) =
        let log = before.client.log in
        let first : t.0 ∷ g ≡ u.0 ∷ h =
        sym (ap (λ (l : List Run). l ++ g) (ap (λ (r : Trace). r.runs) t.3 ∙ ran_alone command log t.0 d a.client.log)) ∙ ran ∙ ap (λ (l : List Run). l ++ h) (ap (λ (r : Trace). r.runs) u.3 ∙ ran_alone command log u.0 e b.client.log) in
        let run : t.0 ≡ u.0 = ap (first_run t.0) first in
        let ends = same_ran command log u.0 d e a.client.log b.client.log (subst (λ (r : Run). RanEnd command log r d a.client.log) run t.2) u.2 in
        let traces : p ≡ q = t.3 ∙ ap (λ (r : Run). ran_trace command log r d a.client.log) run ∙ ap (λ (f : RunEnd). ran_trace command log u.0 f a.client.log) ends.0 ∙ ap (ran_trace command log u.0 e) ends.1 ∙ sym u.3 in
        same_ending ends.0 ends.1 traces (ap (λ (r : Trace). r.asks) t.3 ∙ ran_asks command log t.0 d a.client.log)

  same_command : (route : Route) (made : Result Command CaptureError) → is_unrun x ≡ is_unrun y → CommandTurn route made before x a p → CommandTurn route made before y b q → Same x y a b p q m n g h
  same_command route (Ok command) one t u =
      same_run route.work command one t.0 u.0 t.3 u.3 t.2 u.2 (run_kind route.work command before.client.log t.0 a.client.log p t.1) (run_kind route.work command before.client.log u.0 b.client.log q u.1)
  same_command route (Err refusal) one t u = quiet _ before nothing refl refl t.0 t.1 t.2 u.0 u.1 u.2

  same_line : (route : Route) (line : Result Line LineError) → is_unrun x ≡ is_unrun y → LineTurn route before line x a p → LineTurn route before line y b q → Same x y a b p q m n g h
  same_line route (Err refusal) one t u = quiet _ before nothing refl refl t.0 t.1 t.2 u.0 u.1 u.2
  same_line route (Ok lines.Empty) one t u = quiet None before nothing refl refl t.0 t.1 t.2 u.0 u.1 u.2
  same_line route (Ok (lines.Put word text)) one t u = same_log (put_effect before.folder word text) t u
  same_line route (Ok (lines.Make word)) one t u = same_log (make_effect before.folder word) t u
  same_line route (Ok (lines.Remove word)) one t u = same_log (remove_effect before.folder word) t u
  same_line route (Ok (lines.Move from to)) one t u = same_log (move_effect before.folder from to) t u
  same_line route (Ok (lines.Cat word)) one t u = quiet _ before nothing refl refl t.0 t.1 t.2 u.0 u.1 u.2
  same_line route (Ok (lines.List word)) one t u = quiet _ before nothing refl refl t.0 t.1 t.2 u.0 u.1 u.2
  same_line route (Ok (lines.Enter word)) one t u = quiet _ _ nothing refl refl t.0 t.1 t.2 u.0 u.1 u.2
  same_line route (Ok (lines.Run words)) one t u = same_command route (capture words before.folder) one t u
  same_line route (Ok lines.Status) one t u = quiet _ before nothing refl refl t.0 t.1 t.2 u.0 u.1 u.2
  same_line route (Ok lines.Quit) one t u = quiet None before nothing refl refl t.0 t.1 t.2 u.0 u.1 u.2
  same_line route (Ok lines.Sync) one t u =
      let same = same_sync_turn before.client.number route before.client.log a.client.log b.client.log t.0 u.0 p q m n t.1 u.1 is in
      (t.3 ∙ ap sync_answer same.0 ∙ sym u.3, t.2 ∙ ap (with_log before) same.1 ∙ sym u.2, same.2, same.3, same_behind same.2)
  same_line route (Ok lines.Pull) one t u =
      let client = before.client.number in
      let log = before.client.log in
      let same = same_pull client route log t.0 u.0 a.client.log b.client.log p q m n (kind_of client route log t.0 a.client.log p t.1) (kind_of client route log u.0 b.client.log q u.1) is in
      (t.3 ∙ ap pull_answer same.0 ∙ sym u.3, t.2 ∙ ap (with_log before) same.1 ∙ sym u.2, same.2, same.3, same_behind same.2)

-- ---- a session

abbrev first_is : List Bool → Bool
first_is [] = false
first_is (b ∷ bs) = b

abbrev but_first : List Bool → List Bool
but_first [] = []
but_first (b ∷ bs) = bs

first_unrun : (x y : Option LineAnswer) (xs ys : List (Option LineAnswer)) → map is_unrun (x ∷ xs) ≡ map is_unrun (y ∷ ys) → (is_unrun x ≡ is_unrun y) × (map is_unrun xs ≡ map is_unrun ys)
first_unrun x y xs ys same = (ap first_is same, ap but_first same)

same_chain : (route : Route) (before : SessionState) (asked : List (Result Line LineError)) (xs ys : List (Option LineAnswer)) (a b : SessionState) (p q : Trace) (m n : List Ask) (g h : List Run) → Chain route before asked xs a p
    → Chain route before asked ys b q → p.asks ++ m ≡ q.asks ++ n → p.runs ++ g ≡ q.runs ++ h → map is_unrun xs ≡ map is_unrun ys → (xs ≡ ys) × (a ≡ b) × (p ≡ q) × (m ≡ n) × (g ≡ h)
same_chain route before [] xs ys a b p q m n g h s t is ran same = (
  s.0 ∙ sym t.0,
  s.1 ∙ sym t.1,
  s.2 ∙ sym t.2,
  sym (ap (λ (r : Trace). r.asks ++ m) s.2) ∙ is ∙ ap (λ (r : Trace). r.asks ++ n) t.2,
  sym (ap (λ (r : Trace). r.runs ++ g) s.2) ∙ ran ∙ ap (λ (r : Trace). r.runs ++ h) t.2,
)
same_chain route before (line ∷ asked) xs ys a b p q m n g h s t is ran same =
    let whole : s.1.asks ++ (s.2.asks ++ m) ≡ t.1.asks ++ (t.2.asks ++ n) =
    sym (append_assoc s.1.asks s.2.asks m) ∙ sym (ap (λ (r : Trace). r.asks ++ m) s.8) ∙ is ∙ ap (λ (r : Trace). r.asks ++ n) t.8 ∙ append_assoc t.1.asks t.2.asks n in
    let all : s.1.runs ++ (s.2.runs ++ g) ≡ t.1.runs ++ (t.2.runs ++ h) =
    sym (append_assoc s.1.runs s.2.runs g) ∙ sym (ap (λ (r : Trace). r.runs ++ g) s.8) ∙ ran ∙ ap (λ (r : Trace). r.runs ++ h) t.8 ∙ append_assoc t.1.runs t.2.runs h in
    let unrun = first_unrun s.3 t.3 s.4 t.4 (sym (ap (map is_unrun) s.7) ∙ same ∙ ap (map is_unrun) t.7) in
    let one = same_line before s.0 t.0 s.3 t.3 s.1 t.1 (s.2.asks ++ m) (t.2.asks ++ n) (s.2.runs ++ g) (t.2.runs ++ h) whole all route line unrun.0 s.5 t.5 in
    let later = subst (λ (z : SessionState). Chain route z asked t.4 b t.2) (sym one.1) t.6 in
    let rest = same_chain route s.0 asked s.4 t.4 a b s.2 t.2 m n g h s.6 later one.3 one.4 unrun.1 in (
      s.7 ∙ ap (λ (x : Option LineAnswer). x ∷ s.4) one.0 ∙ ap (λ (l : List (Option LineAnswer)). t.3 ∷ l) rest.0 ∙ sym t.7,
      rest.1,
      s.8 ∙ ap (λ (r : Trace). followed r s.2) one.2 ∙ ap (followed t.1) rest.2 ∙ sym t.8,
      rest.3,
      rest.4,
    )

pub asks_and_runs_make_sessions : AsksAndRunsMakeSessions
asks_and_runs_make_sessions route before asked xs ys a b p q s t is ran same =
    let all = same_chain route before asked xs ys a b p q [] [] [] [] s t (ap (λ (l : List Ask). l ++ []) is) (ap (λ (l : List Run). l ++ []) ran) same in (all.0, all.1, all.2)
