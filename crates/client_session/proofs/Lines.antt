-- What a line does: nothing to the log, one entry that is logged, a sync, or a pull.
use Rattle.std.proofs.Common.{◌≡◌, ◌⊎◌, inl, inr, ℕ, zero, suc, ◌+◌, ◌-◌, [], ◌∷◌, length, Option, Some, None, Result, Ok, Err, refl, sym, ap, subst, arith, length-drop}
use Rattle.file_paths.specs.declared.path.PathError.{PathError}
use Rattle.tree_values.specs.declared.node.Effect.{Effect}
use Rattle.tree_values.specs.Tree.{Volume}
use Rattle.tree_values.specs.Lists.{IsIn}
use Rattle.cmd_capture.specs.declared.command.Command.{Command}
use Rattle.cmd_capture.specs.declared.capturing.CaptureError.{CaptureError}
use Rattle.cmd_capture.specs.Capture.{capture}
use Rattle.mod_log.specs.declared.log.Entry.{Entry}
use Rattle.mod_log.specs.declared.log.LogError.{LogError}
use Rattle.mod_log.specs.Log.{Log, logged, pulled}
use Rattle.client_core.specs.declared.route.Route.{Route}
use Rattle.client_core.specs.declared.syncing.SyncEnd.{SyncEnd}
use Rattle.client_core.specs.declared.pulling.PullEnd.{PullEnd}
use Rattle.client_core.specs.declared.pulling.PullEnd.TheVariants as pulls
use Rattle.client_core.specs.declared.running.RunEnd.{RunEnd}
use Rattle.client_core.specs.declared.running.RunEnd.TheVariants as runs
use Rattle.client_core.specs.Running.{origin_of, changes_of, run_entry, RunTurn}
use Rattle.client_core.specs.Trace.{Trace, nothing}
use Rattle.client_core.specs.Logging.{local_entry, LocalTurn}
use Rattle.client_core.specs.Syncing.{Acknowledges, EndsSync, SyncTurn}
use Rattle.client_core.specs.Pulling.{PullsSnapshot, PullTurn}
use Rattle.client_core.specs.Causes.{AcknowledgesSome}
use Rattle.client_core.proofs.Acknowledging.{some_none, some_then, turn_some}
use Rattle.client_core.proofs.Locals.{appended-is}
use Rattle.shell_lang.specs.declared.line.Line.{Line}
use Rattle.shell_lang.specs.declared.line.Line.TheVariants as lines
use Rattle.shell_lang.specs.declared.line.LineError.{LineError}
use Rattle.shell_lang.specs.declared.answer.LineAnswer.{LineAnswer}
use Rattle.client_session.specs.Session.{SessionState, put_effect, make_effect, remove_effect, move_effect, LogTurn, CommandTurn, LineTurn}

-- nothing is asked, and the log stays
pub record Stays (before after : Log) (trace : Trace) : Type 0 where
  pub same : after ≡ before
  pub asks : trace.asks ≡ []
  pub entries : trace.entries ≡ []

-- one entry is logged, with the next number
pub record LogsOne (before after : Log) (trace : Trace) : Type 0 where
  pub entry : Entry
  pub number : entry.seq ≡ before.acked + length before.pending + 1
  pub log : after ≡ logged entry before
  pub asks : trace.asks ≡ []
  pub entries : trace.entries ≡ entry ∷ []

abbrev pub LineDoes : Route → SessionState → SessionState → Trace → Type 0
LineDoes route before after trace =
    Stays before.client.log after.client.log trace ⊎ LogsOne before.client.log after.client.log trace
    ⊎ ((end : SyncEnd) × SyncTurn before.client.number route before.client.log end after.client.log trace)
    ⊎ ((end : PullEnd) × PullTurn before.client.number route before.client.log end after.client.log trace)

-- ---- which it is

module _ (route : Route) (before after : SessionState) (trace : Trace) where
  idle : after.client.log ≡ before.client.log → trace ≡ nothing → LineDoes route before after trace
  idle same none = inl (record { same = same; asks = ap (λ (t : Trace). t.asks) none; entries = ap (λ (t : Trace). t.entries) none })

  untouched : after ≡ before → trace ≡ nothing → LineDoes route before after trace
  untouched same none = idle (ap (λ (s : SessionState). s.client.log) same) none

  local_does : (effect : Effect) (result : Result ℕ LogError) → LocalTurn (effect ∷ []) before.client.log result after.client.log trace → LineDoes route before after trace
  local_does effect (Ok number) turn = inr (inl (record {
    entry = local_entry (effect ∷ []) before.client.log;
    number = refl;
    log = sym (appended-is None (effect ∷ []) before.client.log after.client.log turn.0);
    asks = ap (λ (t : Trace). t.asks) turn.2;
    entries = ap (λ (t : Trace). t.entries) turn.2;
  }))
  local_does effect (Err refusal) turn = idle turn.1 turn.2

  log_does : (named : Result Effect PathError) (answer : Option LineAnswer) → LogTurn named before answer after trace → LineDoes route before after trace
  log_does (Ok effect) answer turn = local_does effect turn.0 turn.1
  log_does (Err refusal) answer turn = untouched turn.1 turn.2

  -- a run without an entry
  ran : after.client.log ≡ before.client.log → trace.asks ≡ [] → trace.entries ≡ [] → LineDoes route before after trace
  ran same asks entries = inl (record { same = same; asks = asks; entries = entries })

  run_does : (command : Command) (end : RunEnd) → RunTurn route.work command before.client.log end after.client.log trace → LineDoes route before after trace
  run_does command (runs.Logged seq status) turn = inr (inl (record {
    entry = run_entry command turn.0 before.client.log;
    number = refl;
    log = sym (appended-is (Some (origin_of command turn.0)) (changes_of turn.0) before.client.log after.client.log turn.2.1);
    asks = ap (λ (t : Trace). t.asks) turn.3;
    entries = ap (λ (t : Trace). t.entries) turn.3;
  }))
  run_does command (runs.Nothing status) turn = ran turn.2.3 (ap (λ (t : Trace). t.asks) turn.3) (ap (λ (t : Trace). t.entries) turn.3)
  run_does command (runs.OddTree n) turn = ran turn.2.1 (ap (λ (t : Trace). t.asks) turn.3) (ap (λ (t : Trace). t.entries) turn.3)
  run_does command (runs.Clash path) turn = ran turn.2.2 (ap (λ (t : Trace). t.asks) turn.3) (ap (λ (t : Trace). t.entries) turn.3)
  run_does command (runs.Refused refusal) turn = ran turn.2.2 (ap (λ (t : Trace). t.asks) turn.3) (ap (λ (t : Trace). t.entries) turn.3)
  run_does command (runs.NoJob fault) turn = idle turn.1 turn.2
  run_does command runs.NotRun turn = ran turn.1 (ap (λ (t : Trace). t.asks) turn.2) (ap (λ (t : Trace). t.entries) turn.2)
  run_does command runs.Memory turn = absurd turn.2

  command_does : (made : Result Command CaptureError) (answer : Option LineAnswer) → CommandTurn route made before answer after trace → LineDoes route before after trace
  command_does (Ok command) answer turn = run_does command turn.0 turn.1
  command_does (Err refusal) answer turn = untouched turn.1 turn.2

  pub line_does : (line : Result Line LineError) (answer : Option LineAnswer) → LineTurn route before line answer after trace → LineDoes route before after trace
  line_does (Err refusal) answer turn = untouched turn.1 turn.2
  line_does (Ok lines.Empty) answer turn = untouched turn.1 turn.2
  line_does (Ok (lines.Put word text)) answer turn = log_does (put_effect before.folder word text) answer turn
  line_does (Ok (lines.Make word)) answer turn = log_does (make_effect before.folder word) answer turn
  line_does (Ok (lines.Remove word)) answer turn = log_does (remove_effect before.folder word) answer turn
  line_does (Ok (lines.Move from to)) answer turn = log_does (move_effect before.folder from to) answer turn
  line_does (Ok (lines.Cat word)) answer turn = untouched turn.1 turn.2
  line_does (Ok (lines.List word)) answer turn = untouched turn.1 turn.2
  line_does (Ok (lines.Enter word)) answer turn = idle (ap (λ (s : SessionState). s.client.log) turn.1) turn.2
  line_does (Ok (lines.Run words)) answer turn = command_does (capture words before.folder) answer turn
  line_does (Ok lines.Status) answer turn = untouched turn.1 turn.2
  line_does (Ok lines.Sync) answer turn = inr (inr (inl (turn.0, turn.1)))
  line_does (Ok lines.Pull) answer turn = inr (inr (inr (turn.0, turn.1)))
  line_does (Ok lines.Quit) answer turn = untouched turn.1 turn.2

-- ---- what a sync does to the log

module _ (client : ℕ) (route : Route) where
  pub acks_some : (count : ℕ) (before after : Log) (trace : Trace) → Acknowledges client route count before after trace → AcknowledgesSome before after
  acks_some zero before after trace so = subst (AcknowledgesSome before) (sym so.0) (some_none before)
  acks_some (suc count) before after trace so =
      some_then before so.0 after (acks_some count before so.0 so.1 so.3) (turn_some client route so.0 after None so.2 so.4)

  ends_some : (before : Log) (end : SyncEnd) (after : Log) (trace : Trace) → EndsSync client route before end after trace → AcknowledgesSome before after
  ends_some before end after trace (inl synced) = subst (AcknowledgesSome before) (sym synced.2) (some_none before)
  ends_some before end after trace (inr ended) = turn_some client route before after (Some end) ended.0 ended.1

  pub sync_some : (before : Log) (end : SyncEnd) (after : Log) (trace : Trace) → SyncTurn client route before end after trace → AcknowledgesSome before after
  sync_some before end after trace turn = some_then before turn.1 after (acks_some turn.0 before turn.1 turn.2 turn.4) (ends_some turn.1 end after turn.3 turn.5)

-- acknowledging leaves the number of the last entry
pub some_last : (before after : Log) → AcknowledgesSome before after → after.acked + length after.pending ≡ before.acked + length before.pending
some_last before after some =
    let acked : after.acked ≡ some.0 = ap (λ (log : Log). log.acked) some.3 in
    omega (arith, acked, ap (λ (log : Log). length log.pending) some.3, length-drop (some.0 - before.acked) before.pending, some.1, some.2)

-- ---- what a pull does to the log

-- nothing, or it replaced the base, and tells so
abbrev pub PullDoes : Log → Log → Trace → Type 0
PullDoes before after trace = (after ≡ before) ⊎ ((seen : Volume) × (count : ℕ) × (after ≡ pulled seen before) × IsIn (pulls.Pulled count) trace.pulls)

module _ (client : ℕ) (route : Route) (before after : Log) (trace : Trace) where
  pub snapshot_does : (end : PullEnd) → PullsSnapshot client route before end after trace → PullDoes before after trace
  snapshot_does (pulls.Pulled count) turn =
      inr (turn.seen, count, turn.met.3, subst (λ (t : Trace). IsIn (pulls.Pulled count) t.pulls) (sym turn.trace_is) (inl refl))
  snapshot_does (pulls.OtherLast last acked) turn = inl turn.met.3
  snapshot_does (pulls.Older path theirs ours) turn = inl turn.met.4
  snapshot_does (pulls.Pending count) turn = absurd turn.met
  snapshot_does pulls.Unanswered turn = absurd turn.met
  snapshot_does pulls.KeepFault turn = absurd turn.met
  snapshot_does pulls.Memory turn = absurd turn.met

  pub pull_does : (end : PullEnd) → PullTurn client route before end after trace → PullDoes before after trace
  pull_does (pulls.Pending count) turn = inl turn.2
  pull_does pulls.Unanswered turn = inl turn.1.2
  pull_does (pulls.Pulled count) turn = snapshot_does (pulls.Pulled count) turn
  pull_does (pulls.OtherLast last acked) turn = snapshot_does (pulls.OtherLast last acked) turn
  pull_does (pulls.Older path theirs ours) turn = snapshot_does (pulls.Older path theirs ours) turn
  pull_does pulls.KeepFault turn = snapshot_does pulls.KeepFault turn
  pull_does pulls.Memory turn = snapshot_does pulls.Memory turn

  -- it acknowledges none, and leaves what is pending
  pub pull_same : PullDoes before after trace → (after.acked ≡ before.acked) × (after.pending ≡ before.pending)
  pull_same (inl same) = (ap (λ (log : Log). log.acked) same, ap (λ (log : Log). log.pending) same)
  pull_same (inr replaced) = (ap (λ (log : Log). log.acked) replaced.2, ap (λ (log : Log). log.pending) replaced.2)
