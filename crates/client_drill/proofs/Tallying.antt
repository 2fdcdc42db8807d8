-- How many entries of a session are acknowledged and pending.
use Rattle.std.proofs.Common.{◌≡◌, inl, inr, ℕ, zero, suc, ◌+◌, ◌-◌, List, [], ◌∷◌, length, length-append, Option, Some, None, Result, Ok, Err, refl, sym, ◌∙◌, ap, subst, arith}
use Rattle.std.proofs.lemmas.List.{length-drop}
use Rattle.tree_values.specs.declared.node.Effect.{Effect}
use Rattle.file_paths.specs.declared.path.PathError.{PathError}
use Rattle.cmd_capture.specs.declared.command.Command.{Command}
use Rattle.cmd_capture.specs.declared.capturing.CaptureError.{CaptureError}
use Rattle.cmd_capture.specs.Capture.{capture}
use Rattle.mod_log.specs.declared.log.Entry.{Entry}
use Rattle.mod_log.specs.declared.log.LogError.{LogError}
use Rattle.mod_log.specs.Log.{Log, logged}
use Rattle.client_core.specs.declared.route.Route.{Route}
use Rattle.client_core.specs.declared.syncing.SyncEnd.{SyncEnd}
use Rattle.client_core.specs.declared.pulling.PullEnd.{PullEnd}
use Rattle.client_core.specs.declared.pulling.PullEnd.TheVariants.{Pulled, Pending, OtherLast, Older, Unanswered, KeepFault, Memory}
use Rattle.client_core.specs.declared.running.RunEnd.{RunEnd}
use Rattle.client_core.specs.declared.running.RunEnd.TheVariants as runs
use Rattle.client_core.specs.Causes.{AcknowledgesSome}
use Rattle.client_core.specs.Running.{origin_of, changes_of, RunTurn}
use Rattle.client_core.specs.Trace.{Trace, nothing, followed, asking, changing}
use Rattle.client_core.specs.Logging.{LocalTurn}
use Rattle.client_core.specs.Syncing.{Acknowledges, EndsSync, SyncTurn}
use Rattle.client_core.specs.Pulling.{PullsSnapshot, PullTurn}
use Rattle.client_core.proofs.Acknowledging.{turn_some}
use Rattle.client_core.proofs.Locals.{appended-is}
use Rattle.shell_lang.specs.declared.line.Line.{Line}
use Rattle.shell_lang.specs.declared.line.Line.TheVariants as lines
use Rattle.shell_lang.specs.declared.line.LineError.{LineError}
use Rattle.shell_lang.specs.declared.answer.LineAnswer.{LineAnswer}
use Rattle.client_session.specs.Session.{SessionState, put_effect, make_effect, remove_effect, move_effect, LogTurn, CommandTurn, LineTurn, Chain}
use Rattle.client_session.proofs.Acknowledged.{acknowledging_so}

-- how many entries a log ever had
abbrev total : Log → ℕ
total log = log.acked + length log.pending

-- there are as many more as the trace logs
abbrev Tallies : Log → Log → Trace → Type 0
Tallies before after trace = total after ≡ total before + length trace.entries

same_total : (before after : Log) → after ≡ before → total after ≡ total before
same_total before after is = ap total is

-- nothing is changed, and nothing logged
still : (before after : Log) (trace : Trace) → after ≡ before → trace ≡ nothing → Tallies before after trace
still before after trace same none = omega (arith, same_total before after same, ap (λ (t : Trace). length t.entries) none)

-- none is logged
silent : (before after : Log) (trace : Trace) → total after ≡ total before → length trace.entries ≡ 0 → Tallies before after trace
silent before after trace same none = omega (arith, same, none)

-- one is logged
once : (before after : Log) (trace : Trace) (entry : Entry) → after ≡ logged entry before → length trace.entries ≡ 1 → Tallies before after trace
once before after trace entry is one =
    omega (arith, ap (λ (log : Log). log.acked) is, ap (λ (log : Log). length log.pending) is, length-append before.pending (entry ∷ []), one)

-- one after the other
joined : (a b c : Log) (first second : Trace) → Tallies a b first → Tallies b c second → Tallies a c (followed first second)
joined a b c first second one other = omega (arith, one, other, length-append first.entries second.entries)

-- ---- a sync and a pull

some_tallies : (before after : Log) → AcknowledgesSome before after → total after ≡ total before
some_tallies before after some =
    omega (arith, some.1, some.2, ap (λ (log : Log). log.acked) some.3, ap (λ (log : Log). length log.pending) some.3, length-drop (some.0 - before.acked) before.pending)

acks_tally : (client : ℕ) (route : Route) (count : ℕ) (before after : Log) (trace : Trace) → Acknowledges client route count before after trace → Tallies before after trace
acks_tally client route zero before after trace turn = still before after trace turn.0 turn.1
acks_tally client route (suc count) before after trace turn =
    subst (λ (t : Trace). Tallies before after t) (sym turn.5)
    (joined before turn.0 after turn.1 (followed (asking turn.2) (changing after)) (acks_tally client route count before turn.0 turn.1 turn.3)
    (silent turn.0 after (followed (asking turn.2) (changing after)) (some_tallies turn.0 after (turn_some client route turn.0 after None turn.2 turn.4)) refl))

ended_tallies : (client : ℕ) (route : Route) (before : Log) (end : SyncEnd) (after : Log) (trace : Trace) → EndsSync client route before end after trace → Tallies before after trace
ended_tallies client route before end after trace (inl synced) = still before after trace synced.2 synced.3
ended_tallies client route before end after trace (inr ended) =
    silent before after trace (some_tallies before after (turn_some client route before after (Some end) ended.0 ended.1))
    (ap (λ (t : Trace). length t.entries) ended.2 ∙ acknowledging_so (λ (t : Trace). length t.entries ≡ 0) before after (λ less. refl) (λ none. refl))

sync_tallies : (client : ℕ) (route : Route) (before : Log) (end : SyncEnd) (after : Log) (trace : Trace) → SyncTurn client route before end after trace → Tallies before after trace
sync_tallies client route before end after trace turn =
    subst (λ (t : Trace). Tallies before after t) (sym turn.6)
    (joined before turn.1 after turn.2 turn.3 (acks_tally client route turn.0 before turn.1 turn.2 turn.4) (ended_tallies client route turn.1 end after turn.3 turn.5))

snapshot_tallies : (client : ℕ) (route : Route) (before : Log) (end : PullEnd) (after : Log) (trace : Trace) → PullsSnapshot client route before end after trace → Tallies before after trace
snapshot_tallies client route before (Pulled count) after trace turn =
    silent before after trace (ap total turn.met.3) (ap (λ (t : Trace). length t.entries) turn.trace_is)
snapshot_tallies client route before (OtherLast last acked) after trace turn =
    silent before after trace (ap total turn.met.3) (ap (λ (t : Trace). length t.entries) turn.trace_is)
snapshot_tallies client route before (Older path theirs ours) after trace turn =
    silent before after trace (ap total turn.met.4) (ap (λ (t : Trace). length t.entries) turn.trace_is)
snapshot_tallies client route before (Pending count) after trace turn = absurd turn.met
snapshot_tallies client route before Unanswered after trace turn = absurd turn.met
snapshot_tallies client route before KeepFault after trace turn = absurd turn.met
snapshot_tallies client route before Memory after trace turn = absurd turn.met

pull_tallies : (client : ℕ) (route : Route) (before : Log) (end : PullEnd) (after : Log) (trace : Trace) → PullTurn client route before end after trace → Tallies before after trace
pull_tallies client route before (Pending count) after trace turn = still before after trace turn.2 turn.3
pull_tallies client route before Unanswered after trace turn =
    silent before after trace (ap total turn.1.2) (ap (λ (t : Trace). length t.entries) turn.1.3)
pull_tallies client route before (Pulled count) after trace turn = snapshot_tallies client route before (Pulled count) after trace turn
pull_tallies client route before (OtherLast last acked) after trace turn = snapshot_tallies client route before (OtherLast last acked) after trace turn
pull_tallies client route before (Older path theirs ours) after trace turn = snapshot_tallies client route before (Older path theirs ours) after trace turn
pull_tallies client route before KeepFault after trace turn = snapshot_tallies client route before KeepFault after trace turn
pull_tallies client route before Memory after trace turn = snapshot_tallies client route before Memory after trace turn

-- ---- a run

run_tallies : (work : List ℕ) (command : Command) (before : Log) (end : RunEnd) (after : Log) (trace : Trace) → RunTurn work command before end after trace → Tallies before after trace
run_tallies work command before (runs.Logged seq status) after trace turn =
    once before after trace _ (sym (appended-is (Some (origin_of command turn.0)) (changes_of turn.0) before after turn.2.1)) (ap (λ (t : Trace). length t.entries) turn.3)
run_tallies work command before (runs.Nothing status) after trace turn = silent before after trace (ap total turn.2.3) (ap (λ (t : Trace). length t.entries) turn.3)
run_tallies work command before (runs.OddTree n) after trace turn = silent before after trace (ap total turn.2.1) (ap (λ (t : Trace). length t.entries) turn.3)
run_tallies work command before (runs.Clash path) after trace turn = silent before after trace (ap total turn.2.2) (ap (λ (t : Trace). length t.entries) turn.3)
run_tallies work command before (runs.Refused refusal) after trace turn = silent before after trace (ap total turn.2.2) (ap (λ (t : Trace). length t.entries) turn.3)
run_tallies work command before (runs.NoJob fault) after trace turn = still before after trace turn.1 turn.2
run_tallies work command before runs.NotRun after trace turn = silent before after trace (ap total turn.1) (ap (λ (t : Trace). length t.entries) turn.2)
run_tallies work command before runs.Memory after trace turn = absurd turn.2

-- ---- a line

module _ (before after : SessionState) (trace : Trace) where
  abbrev LineTallies : Type 0
  LineTallies = Tallies before.client.log after.client.log trace

  untouched : after ≡ before → trace ≡ nothing → LineTallies
  untouched same none = still before.client.log after.client.log trace (ap (λ (s : SessionState). s.client.log) same) none

  local_tallies : (effect : Effect) (result : Result ℕ LogError) → LocalTurn (effect ∷ []) before.client.log result after.client.log trace → LineTallies
  local_tallies effect (Ok number) turn =
      once before.client.log after.client.log trace _ (sym (appended-is None (effect ∷ []) before.client.log after.client.log turn.0)) (ap (λ (t : Trace). length t.entries) turn.2)
  local_tallies effect (Err refusal) turn = still before.client.log after.client.log trace turn.1 turn.2

  log_tallies : (named : Result Effect PathError) (answer : Option LineAnswer) → LogTurn named before answer after trace → LineTallies
  log_tallies (Ok effect) answer turn = local_tallies effect turn.0 turn.1
  log_tallies (Err refusal) answer turn = untouched turn.1 turn.2

  command_tallies : (route : Route) (made : Result Command CaptureError) (answer : Option LineAnswer) → CommandTurn route made before answer after trace → LineTallies
  command_tallies route (Ok command) answer turn = run_tallies route.work command before.client.log turn.0 after.client.log trace turn.1
  command_tallies route (Err refusal) answer turn = untouched turn.1 turn.2

  line_tallies : (route : Route) (line : Result Line LineError) (answer : Option LineAnswer) → LineTurn route before line answer after trace → LineTallies
  line_tallies route (Err refusal) answer turn = untouched turn.1 turn.2
  line_tallies route (Ok lines.Empty) answer turn = untouched turn.1 turn.2
  line_tallies route (Ok (lines.Put word text)) answer turn = log_tallies (put_effect before.folder word text) answer turn
  line_tallies route (Ok (lines.Make word)) answer turn = log_tallies (make_effect before.folder word) answer turn
  line_tallies route (Ok (lines.Remove word)) answer turn = log_tallies (remove_effect before.folder word) answer turn
  line_tallies route (Ok (lines.Move from to)) answer turn = log_tallies (move_effect before.folder from to) answer turn
  line_tallies route (Ok (lines.Cat word)) answer turn = untouched turn.1 turn.2
  line_tallies route (Ok (lines.List word)) answer turn = untouched turn.1 turn.2
  line_tallies route (Ok (lines.Enter word)) answer turn = still before.client.log after.client.log trace (ap (λ (s : SessionState). s.client.log) turn.1) turn.2
  line_tallies route (Ok (lines.Run words)) answer turn = command_tallies route (capture words before.folder) answer turn
  line_tallies route (Ok lines.Status) answer turn = untouched turn.1 turn.2
  line_tallies route (Ok lines.Sync) answer turn = sync_tallies before.client.number route before.client.log turn.0 after.client.log trace turn.1
  line_tallies route (Ok lines.Pull) answer turn = pull_tallies before.client.number route before.client.log turn.0 after.client.log trace turn.1
  line_tallies route (Ok lines.Quit) answer turn = untouched turn.1 turn.2

-- ---- a session

-- As many entries more are acknowledged and pending at the end of a session as it logged.
pub session_tallies : (route : Route) (before : SessionState) (lines : List (Result Line LineError)) (answers : List (Option LineAnswer)) (after : SessionState) (trace : Trace)
    → Chain route before lines answers after trace → Tallies before.client.log after.client.log trace
session_tallies route before [] answers after trace chain = untouched before after trace chain.1 chain.2
session_tallies route before (line ∷ lines) answers after trace chain =
    subst (λ (t : Trace). Tallies before.client.log after.client.log t) (sym chain.8)
    (joined before.client.log chain.0.client.log after.client.log chain.1 chain.2 (line_tallies before chain.0 chain.1 route line chain.3 chain.5)
    (session_tallies route chain.0 lines chain.4 after chain.2 chain.6))
