-- What the lines of a session change of the log.
use Rattle.std.proofs.Common.{◌≡◌, inl, inr, ℕ, zero, suc, List, [], ◌∷◌, ◌++◌, Option, Some, None, Result, Ok, Err, refl, sym, ◌∙◌, ap, subst}
use Rattle.file_paths.specs.declared.path.PathError.{PathError}
use Rattle.tree_values.specs.Tree.{Volume}
use Rattle.tree_values.specs.declared.node.Effect.{Effect}
use Rattle.cmd_capture.specs.declared.command.Command.{Command}
use Rattle.cmd_capture.specs.declared.capturing.CaptureError.{CaptureError}
use Rattle.cmd_capture.specs.Capture.{capture}
use Rattle.mod_log.specs.declared.log.Entry.{Entry}
use Rattle.mod_log.specs.declared.log.LogError.{LogError}
use Rattle.mod_log.specs.Log.{Log, pulled}
use Rattle.world_rules.specs.declared.asking.Ask.{Ask}
use Rattle.client_core.specs.declared.route.Route.{Route}
use Rattle.client_core.specs.declared.syncing.SyncEnd.{SyncEnd}
use Rattle.client_core.specs.declared.pulling.PullEnd.{PullEnd}
use Rattle.client_core.specs.declared.pulling.PullEnd.TheVariants.{Pulled, Pending, OtherLast, Older, Unanswered, KeepFault, Memory}
use Rattle.client_core.specs.declared.running.RunEnd.{RunEnd}
use Rattle.client_core.specs.declared.running.RunEnd.TheVariants as runs
use Rattle.client_core.specs.Running.{origin_of, changes_of, run_entry, RunTurn}
use Rattle.client_core.specs.Trace.{Trace, nothing}
use Rattle.client_core.specs.Logging.{local_entry, LocalTurn}
use Rattle.client_core.specs.Syncing.{EntryTurn, Acknowledges, EndsSync, SyncTurn}
use Rattle.client_core.specs.Pulling.{PullChanges, PullsSnapshot, PullTurn}
use Rattle.client_core.proofs.Acknowledging.{turn_some, turn_rises}
use Rattle.client_core.proofs.Locals.{appended-is}
use Rattle.shell_lang.specs.declared.line.Line.{Line}
use Rattle.shell_lang.specs.declared.line.Line.TheVariants as lines
use Rattle.shell_lang.specs.declared.line.LineError.{LineError}
use Rattle.shell_lang.specs.declared.answer.LineAnswer.{LineAnswer}
use Rattle.client_session.specs.Session.{SessionState, with_log, put_effect, make_effect, remove_effect, move_effect, LogTurn, CommandTurn, LineTurn}
use Rattle.client_session.specs.Laws.{IsChange, ChangesLeadTo, SessionsChangeSo}
use Rattle.client_session.proofs.Acknowledged.{turn_unrisen, acknowledging_so}

leads_then : (a b c : Log) (xs ys : List Log) → ChangesLeadTo a xs b → ChangesLeadTo b ys c → ChangesLeadTo a (xs ++ ys) c
leads_then a b c [] ys first second = subst (λ (log : Log). ChangesLeadTo log ys c) first second
leads_then a b c (x ∷ xs) ys first second = (first.0, leads_then x b c xs ys first.1 second)

-- nothing is changed
still : (before after : Log) (trace : Trace) → after ≡ before → trace ≡ nothing → ChangesLeadTo before trace.changes after
still before after trace same none = subst (λ (t : Trace). ChangesLeadTo before t.changes after) (sym none) same

-- ---- a sync and a pull

turn_leads : (client : ℕ) (route : Route) (before after : Log) (asks : List Ask) → EntryTurn client route before after None asks → IsChange before after
turn_leads client route before after asks turn = inr (inl (turn_some client route before after None asks turn, turn_rises client route before after asks turn))

pub acknowledged_leads : (client : ℕ) (route : Route) (count : ℕ) (before after : Log) (trace : Trace) → Acknowledges client route count before after trace → ChangesLeadTo before trace.changes after
acknowledged_leads client route zero before after trace turn = still before after trace turn.0 turn.1
acknowledged_leads client route (suc count) before after trace turn =
    subst (λ (t : Trace). ChangesLeadTo before t.changes after) (sym turn.5)
    (leads_then before turn.0 after turn.1.changes (after ∷ []) (acknowledged_leads client route count before turn.0 turn.1 turn.3) (turn_leads client route turn.0 after turn.2 turn.4, refl))

ended_leads : (client : ℕ) (route : Route) (before : Log) (end : SyncEnd) (after : Log) (trace : Trace) → EndsSync client route before end after trace → ChangesLeadTo before trace.changes after
ended_leads client route before end after trace (inl synced) = still before after trace synced.2 synced.3
ended_leads client route before end after trace (inr ended) =
    subst (λ (t : Trace). ChangesLeadTo before t.changes after) (sym ended.2)
    (acknowledging_so (λ (t : Trace). ChangesLeadTo before t.changes after) before after
    (λ less. (inr (inl (turn_some client route before after (Some end) ended.0 ended.1, less)), refl))
    (λ none. turn_unrisen client route before after (Some end) ended.0 ended.1 none))

synced_leads : (client : ℕ) (route : Route) (before : Log) (end : SyncEnd) (after : Log) (trace : Trace) → SyncTurn client route before end after trace → ChangesLeadTo before trace.changes after
synced_leads client route before end after trace turn =
    subst (λ (t : Trace). ChangesLeadTo before t.changes after) (sym turn.6)
    (leads_then before turn.1 after turn.2.changes turn.3.changes (acknowledged_leads client route turn.0 before turn.1 turn.2 turn.4) (ended_leads client route turn.1 end after turn.3 turn.5))

-- rows that are kept already change nothing
snapshot_changes : (before : Log) (seen : Volume) (count : ℕ) (after : Log) (changes : List Log) → after ≡ pulled seen before → PullChanges before seen (Pulled count) after changes → ChangesLeadTo before changes after
snapshot_changes before seen count after changes is (inl kept) =
    subst (λ (list : List Log). ChangesLeadTo before list after) (sym kept.1) (is ∙ (λ k. record { acked = before.acked; base = kept.0.0 k; pending = before.pending }))
snapshot_changes before seen count after changes is (inr more) = subst (λ (list : List Log). ChangesLeadTo before list after) (sym more.1) (inr (inr (seen, is)), refl)

snapshot_leads : (client : ℕ) (route : Route) (before : Log) (end : PullEnd) (after : Log) (trace : Trace) → PullsSnapshot client route before end after trace → ChangesLeadTo before trace.changes after
snapshot_leads client route before (Pulled count) after trace turn = subst (λ (t : Trace). ChangesLeadTo before t.changes after) (sym turn.trace_is) (snapshot_changes before turn.seen count after turn.changes turn.met.3 turn.changed)
snapshot_leads client route before (OtherLast last acked) after trace turn =
    subst (λ (t : Trace). ChangesLeadTo before t.changes after) (sym turn.trace_is) (subst (λ (list : List Log). ChangesLeadTo before list after) (sym turn.changed) turn.met.3)
snapshot_leads client route before (Older path theirs ours) after trace turn =
    subst (λ (t : Trace). ChangesLeadTo before t.changes after) (sym turn.trace_is) (subst (λ (list : List Log). ChangesLeadTo before list after) (sym turn.changed) turn.met.4)
snapshot_leads client route before (Pending count) after trace turn = absurd turn.met
snapshot_leads client route before Unanswered after trace turn = absurd turn.met
snapshot_leads client route before KeepFault after trace turn = absurd turn.met
snapshot_leads client route before Memory after trace turn = absurd turn.met

pull_leads : (client : ℕ) (route : Route) (before : Log) (end : PullEnd) (after : Log) (trace : Trace) → PullTurn client route before end after trace → ChangesLeadTo before trace.changes after
pull_leads client route before (Pending count) after trace turn = still before after trace turn.2 turn.3
pull_leads client route before Unanswered after trace turn = subst (λ (t : Trace). ChangesLeadTo before t.changes after) (sym turn.1.3) turn.1.2
pull_leads client route before (Pulled count) after trace turn = snapshot_leads client route before (Pulled count) after trace turn
pull_leads client route before (OtherLast last acked) after trace turn = snapshot_leads client route before (OtherLast last acked) after trace turn
pull_leads client route before (Older path theirs ours) after trace turn = snapshot_leads client route before (Older path theirs ours) after trace turn
pull_leads client route before KeepFault after trace turn = snapshot_leads client route before KeepFault after trace turn
pull_leads client route before Memory after trace turn = snapshot_leads client route before Memory after trace turn

-- ---- a run

run_leads : (work : List ℕ) (command : Command) (before : Log) (end : RunEnd) (after : Log) (trace : Trace) → RunTurn work command before end after trace → ChangesLeadTo before trace.changes after
run_leads work command before (runs.Logged seq status) after trace turn =
    let entry : Entry = run_entry command turn.0 before in
    subst (λ (t : Trace). ChangesLeadTo before t.changes after) (sym turn.3)
    (inl (entry, refl, sym (appended-is (Some (origin_of command turn.0)) (changes_of turn.0) before after turn.2.1)), refl)
run_leads work command before (runs.Nothing status) after trace turn = subst (λ (t : Trace). ChangesLeadTo before t.changes after) (sym turn.3) turn.2.3
run_leads work command before (runs.OddTree n) after trace turn = subst (λ (t : Trace). ChangesLeadTo before t.changes after) (sym turn.3) turn.2.1
run_leads work command before (runs.Clash path) after trace turn = subst (λ (t : Trace). ChangesLeadTo before t.changes after) (sym turn.3) turn.2.2
run_leads work command before (runs.Refused refusal) after trace turn = subst (λ (t : Trace). ChangesLeadTo before t.changes after) (sym turn.3) turn.2.2
run_leads work command before (runs.NoJob fault) after trace turn = still before after trace turn.1 turn.2
run_leads work command before runs.NotRun after trace turn = subst (λ (t : Trace). ChangesLeadTo before t.changes after) (sym turn.2) turn.1
run_leads work command before runs.Memory after trace turn = absurd turn.2

-- ---- a line

module _ (before after : SessionState) (trace : Trace) where
  abbrev LineLeads : Type 0
  LineLeads = ChangesLeadTo before.client.log trace.changes after.client.log

  untouched : after ≡ before → trace ≡ nothing → LineLeads
  untouched same none = still before.client.log after.client.log trace (ap (λ (s : SessionState). s.client.log) same) none

  local_leads : (effect : Effect) (result : Result ℕ LogError) → LocalTurn (effect ∷ []) before.client.log result after.client.log trace → LineLeads
  local_leads effect (Ok number) turn =
      let entry : Entry = local_entry (effect ∷ []) before.client.log in
      subst (λ (t : Trace). ChangesLeadTo before.client.log t.changes after.client.log) (sym turn.2)
      (inl (entry, refl, sym (appended-is None (effect ∷ []) before.client.log after.client.log turn.0)), refl)
  local_leads effect (Err refusal) turn = still before.client.log after.client.log trace turn.1 turn.2

  log_leads : (named : Result Effect PathError) (answer : Option LineAnswer) → LogTurn named before answer after trace → LineLeads
  log_leads (Ok effect) answer turn = local_leads effect turn.0 turn.1
  log_leads (Err refusal) answer turn = untouched turn.1 turn.2

  command_leads : (route : Route) (made : Result Command CaptureError) (answer : Option LineAnswer) → CommandTurn route made before answer after trace → LineLeads
  command_leads route (Ok command) answer turn = run_leads route.work command before.client.log turn.0 after.client.log trace turn.1
  command_leads route (Err refusal) answer turn = untouched turn.1 turn.2

  pub line_leads : (route : Route) (line : Result Line LineError) (answer : Option LineAnswer) → LineTurn route before line answer after trace → LineLeads
  line_leads route (Err refusal) answer turn = untouched turn.1 turn.2
  line_leads route (Ok lines.Empty) answer turn = untouched turn.1 turn.2
  line_leads route (Ok (lines.Put word text)) answer turn = log_leads (put_effect before.folder word text) answer turn
  line_leads route (Ok (lines.Make word)) answer turn = log_leads (make_effect before.folder word) answer turn
  line_leads route (Ok (lines.Remove word)) answer turn = log_leads (remove_effect before.folder word) answer turn
  line_leads route (Ok (lines.Move from to)) answer turn = log_leads (move_effect before.folder from to) answer turn
  line_leads route (Ok (lines.Cat word)) answer turn = untouched turn.1 turn.2
  line_leads route (Ok (lines.List word)) answer turn = untouched turn.1 turn.2
  line_leads route (Ok (lines.Enter word)) answer turn = still before.client.log after.client.log trace (ap (λ (s : SessionState). s.client.log) turn.1) turn.2
  line_leads route (Ok (lines.Run words)) answer turn = command_leads route (capture words before.folder) answer turn
  line_leads route (Ok lines.Status) answer turn = untouched turn.1 turn.2
  line_leads route (Ok lines.Sync) answer turn = synced_leads before.client.number route before.client.log turn.0 after.client.log trace turn.1
  line_leads route (Ok lines.Pull) answer turn = pull_leads before.client.number route before.client.log turn.0 after.client.log trace turn.1
  line_leads route (Ok lines.Quit) answer turn = untouched turn.1 turn.2

-- ---- the client's number stays

with_number : (before : SessionState) (log : Log) (after : SessionState) → after ≡ with_log before log → after.client.number ≡ before.client.number
with_number before log after is = ap (λ (s : SessionState). s.client.number) is

module _ (before after : SessionState) (trace : Trace) where
  log_number : (named : Result Effect PathError) (answer : Option LineAnswer) → LogTurn named before answer after trace → after.client.number ≡ before.client.number
  log_number (Ok effect) answer turn = with_number before after.client.log after turn.2
  log_number (Err refusal) answer turn = ap (λ (s : SessionState). s.client.number) turn.1

  command_number : (route : Route) (made : Result Command CaptureError) (answer : Option LineAnswer) → CommandTurn route made before answer after trace → after.client.number ≡ before.client.number
  command_number route (Ok command) answer turn = with_number before after.client.log after turn.2
  command_number route (Err refusal) answer turn = ap (λ (s : SessionState). s.client.number) turn.1

  pub line_number : (route : Route) (line : Result Line LineError) (answer : Option LineAnswer) → LineTurn route before line answer after trace → after.client.number ≡ before.client.number
  line_number route (Err refusal) answer turn = ap (λ (s : SessionState). s.client.number) turn.1
  line_number route (Ok lines.Empty) answer turn = ap (λ (s : SessionState). s.client.number) turn.1
  line_number route (Ok (lines.Put word text)) answer turn = log_number (put_effect before.folder word text) answer turn
  line_number route (Ok (lines.Make word)) answer turn = log_number (make_effect before.folder word) answer turn
  line_number route (Ok (lines.Remove word)) answer turn = log_number (remove_effect before.folder word) answer turn
  line_number route (Ok (lines.Move from to)) answer turn = log_number (move_effect before.folder from to) answer turn
  line_number route (Ok (lines.Cat word)) answer turn = ap (λ (s : SessionState). s.client.number) turn.1
  line_number route (Ok (lines.List word)) answer turn = ap (λ (s : SessionState). s.client.number) turn.1
  line_number route (Ok (lines.Enter word)) answer turn = ap (λ (s : SessionState). s.client.number) turn.1
  line_number route (Ok (lines.Run words)) answer turn = command_number route (capture words before.folder) answer turn
  line_number route (Ok lines.Status) answer turn = ap (λ (s : SessionState). s.client.number) turn.1
  line_number route (Ok lines.Sync) answer turn = with_number before after.client.log after turn.2
  line_number route (Ok lines.Pull) answer turn = with_number before after.client.log after turn.2
  line_number route (Ok lines.Quit) answer turn = ap (λ (s : SessionState). s.client.number) turn.1

-- ---- a session

pub sessions_change_so : SessionsChangeSo
sessions_change_so route before [] answers after trace chain = untouched before after trace chain.1 chain.2
sessions_change_so route before (line ∷ lines) answers after trace chain =
    let middle : SessionState = chain.0 in
    let first : Trace = chain.1 in
    let rest : Trace = chain.2 in
    subst (λ (t : Trace). ChangesLeadTo before.client.log t.changes after.client.log) (sym chain.8)
    (leads_then before.client.log middle.client.log after.client.log first.changes rest.changes (line_leads before middle first route line chain.3 chain.5)
    (sessions_change_so route middle lines chain.4 after rest chain.6))
