-- Two runs, the second begun on what the first left kept, leave together what one run leaves.
use Rattle.std.proofs.Common.{◌≡◌, ◌⊎◌, inl, inr, ⊎_elim, ℕ, zero, suc, ◌+◌, ◌-◌, ◌≤◌, Bool, true, false, List, [], ◌∷◌, ◌++◌, length, drop, Option, Some, None, is_some, Result, Ok, Err, refl, sym, ◌∙◌, ap, subst, arith, length-append, length-drop}
use Rattle.file_paths.specs.declared.path.PathError.{PathError}
use Rattle.tree_values.specs.Lists.{IsIn}
use Rattle.tree_values.specs.declared.node.Effect.{Effect}
use Rattle.vol_tree.proofs.Behind.{IsIn-left, IsIn-right}
use Rattle.cmd_capture.specs.declared.command.Command.{Command}
use Rattle.cmd_capture.specs.declared.capturing.CaptureError.{CaptureError}
use Rattle.cmd_capture.specs.Capture.{capture}
use Rattle.mod_log.specs.declared.log.Entry.{Entry}
use Rattle.mod_log.specs.declared.log.LogError.{LogError}
use Rattle.mod_log.specs.Log.{Log, logged}
use Rattle.wire_frames.specs.declared.message.Message.{Message}
use Rattle.world_rules.specs.declared.asking.Ask.{Ask}
use Rattle.world_rules.specs.World.{World, GoesOnAlone}
use Rattle.world_rules.specs.Telling.{ToldWorlds}
use Rattle.world_rules.specs.InStep.{InStep, HasNoCollision, HasNoOperation}
use Rattle.world_rules.specs.Run.{State, kept_at, Runs}
use Rattle.world_rules.proofs.Asks.{told_as, in_either}
use Rattle.world_rules.proofs.Colliding.{fewer_collide}
use Rattle.world_rules.proofs.Runs.{runs_then, runs_without, run_packets, counted_later}
use Rattle.world_rules.proofs.Operations.{never_collides}
use Rattle.world_rules.proofs.Restarts.{restart_runs, alone_runs}
use Rattle.client_core.specs.declared.route.Route.{Route}
use Rattle.client_core.specs.declared.syncing.SyncEnd.{SyncEnd}
use Rattle.client_core.specs.declared.pulling.PullEnd.{PullEnd}
use Rattle.client_core.specs.declared.pulling.PullEnd.TheVariants.{Pulled, Pending, OtherLast, Older, Unanswered, KeepFault, Memory}
use Rattle.client_core.specs.declared.running.RunEnd.{RunEnd}
use Rattle.client_core.specs.declared.running.RunEnd.TheVariants as runs
use Rattle.client_core.specs.Running as commands
use Rattle.client_core.specs.Running.{origin_of, changes_of, run_entry}
use Rattle.client_core.specs.Trace.{Trace, nothing, last_log, log_before_last, IsLastOrBefore}
use Rattle.client_core.specs.Logging.{local_entry, LocalTurn}
use Rattle.client_core.specs.Causes.{AcknowledgesSome}
use Rattle.client_core.specs.Syncing.{Acknowledges, EndsSync, SyncTurn, BreaksTurn, BreaksSync}
use Rattle.client_core.specs.Pulling.{PullChanges, PullsSnapshot, PullTurn}
use Rattle.client_core.specs.Goes.{WorldGoes, stand}
use Rattle.client_core.proofs.Acknowledging.{turn_some}
use Rattle.client_core.proofs.Locals.{appended-is}
use Rattle.client_core.proofs.Pulls.{none_pending}
use Rattle.shell_lang.specs.declared.line.Line.{Line}
use Rattle.shell_lang.specs.declared.line.Line.TheVariants as lines
use Rattle.shell_lang.specs.declared.line.LineError.{LineError}
use Rattle.shell_lang.specs.declared.answer.LineAnswer.{LineAnswer}
use Rattle.client_lines.specs.declared.input.InputEnd.{InputEnd}
use Rattle.client_lines.specs.declared.run.Stop.{Stop}
use Rattle.client_lines.specs.declared.run.Stop.TheVariants as stops
use Rattle.client_session.specs.Session.{SessionState, opened, put_effect, make_effect, remove_effect, move_effect, LogTurn, CommandTurn, LineTurn, BreaksCommand, BreaksOff, Broken, BreaksChain}
use Rattle.client_session.proofs.Acknowledged.{acknowledging_so}
use Rattle.client_lines.specs.Run.{asked_for, Handles, WholeRun}
use Rattle.client_lines.specs.Composing.{StaysOf, LeaveTogether, RunsCompose, StoresNeverCollide}
use Rattle.client_lines.specs.Headline.{Around, Ran}
use Rattle.client_lines.proofs.RunningLeaves.{leaves, goes_on}

-- ---- how many entries a log has known

-- the number of its last entry
abbrev last_number : Log → ℕ
last_number log = log.acked + length log.pending

-- each of these logs has this last number
abbrev KnowAll : ℕ → List Log → Type 0
KnowAll n [] = Unit {0}
KnowAll n (log ∷ logs) = (last_number log ≡ n) × KnowAll n logs

know-append : (n : ℕ) (xs ys : List Log) → KnowAll n xs → KnowAll n ys → KnowAll n (xs ++ ys)
know-append n [] ys first second = second
know-append n (x ∷ xs) ys first second = (first.0, know-append n xs ys first.1 second)

last_knows : (n : ℕ) (log : Log) (xs : List Log) → last_number log ≡ n → KnowAll n xs → last_number (last_log log xs) ≡ n
last_knows n log [] is all = is
last_knows n log (x ∷ xs) is all = last_knows n x xs all.0 all.1

before_knows : (n : ℕ) (log : Log) (xs : List Log) → last_number log ≡ n → KnowAll n xs → last_number (log_before_last log xs) ≡ n
before_knows n log [] is all = is
before_knows n log (x ∷ []) is all = is
before_knows n log (x ∷ y ∷ xs) is all = before_knows n x (y ∷ xs) all.0 all.1

-- no change logs an entry
abbrev KnowsAll : Log → List Log → Log → Type 0
KnowsAll before changes after = KnowAll (last_number before) changes × (last_number after ≡ last_number before)

-- the changes log no entry, or they are one entry that is logged
abbrev AtMostOne : Log → Log → List Log → Type 0
AtMostOne before after changes =
    KnowsAll before changes after ⊎ ((changes ≡ after ∷ []) × (last_number after ≡ last_number before + 1))

-- so what is kept lacks at most one entry
kept_but_one : (before after kept : Log) (changes : List Log) → AtMostOne before after changes → IsLastOrBefore before changes kept → last_number after ≤ last_number kept + 1
kept_but_one before after kept changes (inl none) (inl is) = omega (arith, none.1, ap last_number is, last_knows (last_number before) before changes refl none.0)
kept_but_one before after kept changes (inl none) (inr is) = omega (arith, none.1, ap last_number is, before_knows (last_number before) before changes refl none.0)
kept_but_one before after kept changes (inr one) behind =
    ⊎_elim (λ (is : kept ≡ after). omega (arith, ap last_number is)) (λ (is : kept ≡ before). omega (arith, one.1, ap last_number is))
    (subst (λ (cs : List Log). IsLastOrBefore before cs kept) one.0 behind)

still : (before after : Log) (changes : List Log) → after ≡ before → changes ≡ [] → AtMostOne before after changes
still before after changes same none = inl (subst (KnowAll (last_number before)) (sym none) tt, ap last_number same)

-- ---- a sync

knows_none : (before after : Log) (trace : Trace) → after ≡ before → trace ≡ nothing → KnowsAll before trace.changes after
knows_none before after trace same none = (subst (λ (t : Trace). KnowAll (last_number before) t.changes) (sym none) tt, ap last_number same)

knows_then : (a b c : Log) (xs ys : List Log) → KnowsAll a xs b → KnowsAll b ys c → KnowsAll a (xs ++ ys) c
knows_then a b c xs ys first second =
    (know-append (last_number a) xs ys first.0 (subst (λ (n : ℕ). KnowAll n ys) first.1 second.0), second.1 ∙ first.1)

-- one that acknowledges some does not
some_knows : (before after : Log) → AcknowledgesSome before after → last_number after ≡ last_number before
some_knows before after some =
    let count : ℕ = some.0 - before.acked in
    let left : last_number after ≡ some.0 + length (drop count before.pending) = ap last_number some.3 in
    omega (arith, left, length-drop count before.pending, some.1, some.2)

one_knows : (before after : Log) → AcknowledgesSome before after → KnowsAll before (after ∷ []) after
one_knows before after some = let is = some_knows before after some in ((is, tt), is)

module _ (client : ℕ) (route : Route) where
  acks_know : (count : ℕ) (before after : Log) (trace : Trace) → Acknowledges client route count before after trace → KnowsAll before trace.changes after
  acks_know zero before after trace turn = knows_none before after trace turn.0 turn.1
  acks_know (suc count) before after trace turn =
      subst (λ (t : Trace). KnowsAll before t.changes after) (sym turn.5)
      (knows_then before turn.0 after turn.1.changes (after ∷ []) (acks_know count before turn.0 turn.1 turn.3) (one_knows turn.0 after (turn_some client route turn.0 after None turn.2 turn.4)))

  ends_know : (before : Log) (end : SyncEnd) (after : Log) (trace : Trace) → EndsSync client route before end after trace → KnowsAll before trace.changes after
  ends_know before end after trace (inl synced) = knows_none before after trace synced.2 synced.3
  ends_know before end after trace (inr ended) =
      let some = turn_some client route before after (Some end) ended.0 ended.1 in
      subst (λ (t : Trace). KnowsAll before t.changes after) (sym ended.2)
      (acknowledging_so (λ (t : Trace). KnowsAll before t.changes after) before after (λ less. one_knows before after some) (λ none. (tt, some_knows before after some)))

  turn_knows : (before after : Log) (trace : Trace) → BreaksTurn client route before after trace → KnowsAll before trace.changes after
  turn_knows before after trace (inl idle) = knows_none before after trace idle.0 idle.1
  turn_knows before after trace (inr (inl broken)) =
      subst (λ (t : Trace). KnowsAll before t.changes after) (sym broken.1.4) (tt, ap last_number broken.0)
  turn_knows before after trace (inr (inr unkept)) =
      subst (λ (t : Trace). KnowsAll before t.changes after) (sym unkept.4) (one_knows before after (turn_some client route before after (Some unkept.0) unkept.1 unkept.2))

  sync_knows : (before : Log) (end : SyncEnd) (after : Log) (trace : Trace) → SyncTurn client route before end after trace → AtMostOne before after trace.changes
  sync_knows before end after trace turn =
      inl (subst (λ (t : Trace). KnowsAll before t.changes after) (sym turn.6)
      (knows_then before turn.1 after turn.2.changes turn.3.changes (acks_know turn.0 before turn.1 turn.2 turn.4) (ends_know turn.1 end after turn.3 turn.5)))

  sync_breaks : (before after : Log) (trace : Trace) → BreaksSync client route before after trace → AtMostOne before after trace.changes
  sync_breaks before after trace turn =
      inl (subst (λ (t : Trace). KnowsAll before t.changes after) (sym turn.6)
      (knows_then before turn.1 after turn.2.changes turn.3.changes (acks_know turn.0 before turn.1 turn.2 turn.4) (turn_knows turn.1 after turn.3 turn.5)))

-- ---- a pull

snapshot_knows : (client : ℕ) (route : Route) (before : Log) (end : PullEnd) (after : Log) (trace : Trace) → PullsSnapshot client route before end after trace → AtMostOne before after trace.changes
snapshot_knows client route before (Pulled count) after trace turn =
    let same : last_number after ≡ last_number before = ap last_number turn.met.3 in
    inl (subst (λ (t : Trace). KnowAll (last_number before) t.changes) (sym turn.trace_is) (changes_know turn.changes same turn.changed), same)
  where
    changes_know : (changes : List Log) → last_number after ≡ last_number before → PullChanges before turn.seen (Pulled count) after changes → KnowAll (last_number before) changes
    changes_know changes same (inl kept) = subst (λ (list : List Log). KnowAll (last_number before) list) (sym kept.1) tt
    changes_know changes same (inr more) = subst (λ (list : List Log). KnowAll (last_number before) list) (sym more.1) (same, tt)
snapshot_knows client route before (OtherLast last acked) after trace turn = still before after trace.changes turn.met.3 (ap (λ (t : Trace). t.changes) turn.trace_is ∙ turn.changed)
snapshot_knows client route before (Older path theirs ours) after trace turn = still before after trace.changes turn.met.4 (ap (λ (t : Trace). t.changes) turn.trace_is ∙ turn.changed)
snapshot_knows client route before (Pending count) after trace turn = absurd turn.met
snapshot_knows client route before Unanswered after trace turn = absurd turn.met
snapshot_knows client route before KeepFault after trace turn = absurd turn.met
snapshot_knows client route before Memory after trace turn = absurd turn.met

pull_knows : (client : ℕ) (route : Route) (before : Log) (end : PullEnd) (after : Log) (trace : Trace) → PullTurn client route before end after trace → AtMostOne before after trace.changes
pull_knows client route before (Pending count) after trace turn = still before after trace.changes turn.2 (ap (λ (t : Trace). t.changes) turn.3)
pull_knows client route before Unanswered after trace turn = still before after trace.changes turn.1.2 (ap (λ (t : Trace). t.changes) turn.1.3)
pull_knows client route before (Pulled count) after trace turn = snapshot_knows client route before (Pulled count) after trace turn
pull_knows client route before (OtherLast last acked) after trace turn = snapshot_knows client route before (OtherLast last acked) after trace turn
pull_knows client route before (Older path theirs ours) after trace turn = snapshot_knows client route before (Older path theirs ours) after trace turn
pull_knows client route before KeepFault after trace turn = snapshot_knows client route before KeepFault after trace turn
pull_knows client route before Memory after trace turn = snapshot_knows client route before Memory after trace turn

-- ---- a run

run_knows : (work : List ℕ) (command : Command) (before : Log) (end : RunEnd) (after : Log) (trace : Trace) → commands.RunTurn work command before end after trace → AtMostOne before after trace.changes
run_knows work command before (runs.Logged seq status) after trace turn =
    let entry : Entry = run_entry command turn.0 before in
    let same : logged entry before ≡ after = appended-is (Some (origin_of command turn.0)) (changes_of turn.0) before after turn.2.1 in
    inr (ap (λ (t : Trace). t.changes) turn.3, omega (arith, ap last_number same, length-append before.pending (entry ∷ [])))
run_knows work command before (runs.Nothing status) after trace turn = still before after trace.changes turn.2.3 (ap (λ (t : Trace). t.changes) turn.3)
run_knows work command before (runs.OddTree n) after trace turn = still before after trace.changes turn.2.1 (ap (λ (t : Trace). t.changes) turn.3)
run_knows work command before (runs.Clash path) after trace turn = still before after trace.changes turn.2.2 (ap (λ (t : Trace). t.changes) turn.3)
run_knows work command before (runs.Refused refusal) after trace turn = still before after trace.changes turn.2.2 (ap (λ (t : Trace). t.changes) turn.3)
run_knows work command before (runs.NoJob fault) after trace turn = still before after trace.changes turn.1 (ap (λ (t : Trace). t.changes) turn.2)
run_knows work command before runs.NotRun after trace turn = still before after trace.changes turn.1 (ap (λ (t : Trace). t.changes) turn.2)
run_knows work command before runs.Memory after trace turn = absurd turn.2

-- ---- a line

module _ (before after : SessionState) (trace : Trace) where
  abbrev LineKnows : Type 0
  LineKnows = AtMostOne before.client.log after.client.log trace.changes

  untouched : after ≡ before → trace ≡ nothing → LineKnows
  untouched same none = still before.client.log after.client.log trace.changes (ap (λ (s : SessionState). s.client.log) same) (ap (λ (t : Trace). t.changes) none)

  local_knows : (effect : Effect) (result : Result ℕ LogError) → LocalTurn (effect ∷ []) before.client.log result after.client.log trace → LineKnows
  local_knows effect (Ok number) turn =
      let entry : Entry = local_entry (effect ∷ []) before.client.log in
      let same : logged entry before.client.log ≡ after.client.log = appended-is None (effect ∷ []) before.client.log after.client.log turn.0 in
      inr (ap (λ (t : Trace). t.changes) turn.2, omega (arith, ap last_number same, length-append before.client.log.pending (entry ∷ [])))
  local_knows effect (Err refusal) turn = still before.client.log after.client.log trace.changes turn.1 (ap (λ (t : Trace). t.changes) turn.2)

  log_knows : (named : Result Effect PathError) (answer : Option LineAnswer) → LogTurn named before answer after trace → LineKnows
  log_knows (Ok effect) answer turn = local_knows effect turn.0 turn.1
  log_knows (Err refusal) answer turn = untouched turn.1 turn.2

  command_knows : (route : Route) (made : Result Command CaptureError) (answer : Option LineAnswer) → CommandTurn route made before answer after trace → LineKnows
  command_knows route (Ok command) answer turn = run_knows route.work command before.client.log turn.0 after.client.log trace turn.1
  command_knows route (Err refusal) answer turn = untouched turn.1 turn.2

  command_breaks : (route : Route) (made : Result Command CaptureError) → BreaksCommand route made before.client.log after.client.log trace → LineKnows
  command_breaks route (Ok command) breaks =
      still before.client.log after.client.log trace.changes breaks.1 (⊎_elim (λ none. ap (λ (t : Trace). t.changes) none) (λ given. ap (λ (t : Trace). t.changes) given.2) breaks.0)
  command_breaks route (Err refusal) breaks = absurd breaks

  line_knows : (route : Route) (line : Result Line LineError) (answer : Option LineAnswer) → LineTurn route before line answer after trace → LineKnows
  line_knows route (Err refusal) answer turn = untouched turn.1 turn.2
  line_knows route (Ok lines.Empty) answer turn = untouched turn.1 turn.2
  line_knows route (Ok (lines.Put word text)) answer turn = log_knows (put_effect before.folder word text) answer turn
  line_knows route (Ok (lines.Make word)) answer turn = log_knows (make_effect before.folder word) answer turn
  line_knows route (Ok (lines.Remove word)) answer turn = log_knows (remove_effect before.folder word) answer turn
  line_knows route (Ok (lines.Move from to)) answer turn = log_knows (move_effect before.folder from to) answer turn
  line_knows route (Ok (lines.Cat word)) answer turn = untouched turn.1 turn.2
  line_knows route (Ok (lines.List word)) answer turn = untouched turn.1 turn.2
  line_knows route (Ok (lines.Enter word)) answer turn =
      still before.client.log after.client.log trace.changes (ap (λ (s : SessionState). s.client.log) turn.1) (ap (λ (t : Trace). t.changes) turn.2)
  line_knows route (Ok (lines.Run words)) answer turn = command_knows route (capture words before.folder) answer turn
  line_knows route (Ok lines.Status) answer turn = untouched turn.1 turn.2
  line_knows route (Ok lines.Sync) answer turn = sync_knows before.client.number route before.client.log turn.0 after.client.log trace turn.1
  line_knows route (Ok lines.Pull) answer turn = pull_knows before.client.number route before.client.log turn.0 after.client.log trace turn.1
  line_knows route (Ok lines.Quit) answer turn = untouched turn.1 turn.2

  breaks_knows : (route : Route) (line : Result Line LineError) → BreaksOff route before line after.client.log trace → LineKnows
  breaks_knows route (Err refusal) breaks = absurd breaks
  breaks_knows route (Ok lines.Empty) breaks = absurd breaks
  breaks_knows route (Ok (lines.Put word text)) breaks = absurd breaks
  breaks_knows route (Ok (lines.Make word)) breaks = absurd breaks
  breaks_knows route (Ok (lines.Remove word)) breaks = absurd breaks
  breaks_knows route (Ok (lines.Move from to)) breaks = absurd breaks
  breaks_knows route (Ok (lines.Cat word)) breaks = absurd breaks
  breaks_knows route (Ok (lines.List word)) breaks = absurd breaks
  breaks_knows route (Ok (lines.Enter word)) breaks = absurd breaks
  breaks_knows route (Ok (lines.Run words)) breaks = command_breaks route (capture words before.folder) breaks
  breaks_knows route (Ok lines.Status) breaks = absurd breaks
  breaks_knows route (Ok lines.Sync) breaks = sync_breaks before.client.number route before.client.log after.client.log trace breaks
  breaks_knows route (Ok lines.Pull) breaks =
      ⊎_elim (λ asks. still before.client.log after.client.log trace.changes asks.2 (ap (λ (t : Trace). t.changes) asks.4))
      (λ pulls. snapshot_knows before.client.number route before.client.log (Pulled pulls.0) after.client.log trace pulls.1) breaks
  breaks_knows route (Ok lines.Quit) breaks = absurd breaks

  broken_knows : (route : Route) (line : Result Line LineError) → Broken route before line after trace → LineKnows
  broken_knows route line broken =
      ⊎_elim (λ none. untouched none.0 none.1) (λ some. ⊎_elim (λ whole. line_knows route line whole.0 whole.1) (λ breaks. breaks_knows route line breaks.0) some) broken

-- ---- a run

module _ (route : Route) (before after : SessionState) (kept : Log) where
  abbrev LacksAtMostOne : Type 0
  LacksAtMostOne = last_number after.client.log ≤ last_number kept + 1

  all_kept : kept ≡ after.client.log → LacksAtMostOne
  all_kept is = omega (arith, ap last_number is)

  chain_kept : (asked : List (Result Line LineError)) (answers : List (Option LineAnswer)) (trace : Trace) → BreaksChain route before asked answers after kept trace → LacksAtMostOne
  chain_kept asked answers trace breaks =
      let middle : SessionState = breaks.2 in
      let broken : Trace = breaks.4 in
      kept_but_one middle.client.log after.client.log kept broken.changes (broken_knows middle after broken route breaks.1 breaks.7) breaks.8

  handled_kept : (stop : Stop) (handled : List (List ℕ)) (answers : List (Option LineAnswer)) (trace : Trace) → Handles stop route before handled answers after kept trace → LacksAtMostOne
  handled_kept stops.Sink handled answers trace all = all_kept all.1
  handled_kept stops.Keeper handled answers trace some = ⊎_elim (λ all. all_kept all.1) (λ breaks. chain_kept (asked_for handled) answers trace breaks) some
  handled_kept stops.Memory handled answers trace some = ⊎_elim (λ all. all_kept all.1) (λ breaks. chain_kept (asked_for handled) answers trace breaks) some

  run_kept : (left rest o n : Option (List ℕ)) (answers : List (Option LineAnswer)) (ended : Result InputEnd Stop) (trace : Trace) → WholeRun route before left rest answers o n ended after kept trace → LacksAtMostOne
  run_kept left rest o n answers (Ok end) trace turn = all_kept turn.3.1
  run_kept left rest o n answers (Err stop) trace turn =
      ⊎_elim (λ did. handled_kept stop did.0 answers trace did.4) (λ closing. all_kept closing.1.3.1) turn.3

-- ---- what is in a part of the entries of both runs

among_all : (entry : Entry) (pending stayed lost later : List Entry) → IsIn entry (pending ++ (stayed ++ later)) → IsIn entry (pending ++ ((stayed ++ lost) ++ later))
among_all entry pending stayed lost later among =
    ⊎_elim (λ before. IsIn-left entry pending ((stayed ++ lost) ++ later) before)
    (λ logged. IsIn-right entry pending ((stayed ++ lost) ++ later)
    (⊎_elim (λ first. IsIn-left entry (stayed ++ lost) later (IsIn-left entry stayed lost first)) (λ second. IsIn-right entry (stayed ++ lost) later second) (in_either entry stayed later logged)))
    (in_either entry pending (stayed ++ later) among)

pub among_first : (entry : Entry) (pending earlier later : List Entry) → IsIn entry (pending ++ earlier) → IsIn entry (pending ++ (earlier ++ later))
among_first entry pending earlier later among =
    ⊎_elim (λ before. IsIn-left entry pending (earlier ++ later) before) (λ logged. IsIn-right entry pending (earlier ++ later) (IsIn-left entry earlier later logged)) (in_either entry pending earlier among)

-- ---- what stays of the entries of a run

module _ (client : ℕ) (ships : Bool) (route : Route) (start : Log) (around around_now : Around) (status : ℕ) (ran : Ran client route start around around_now status) (old new : World)
    (stayed lost : List Entry) where
  abbrev of_run : List Entry
  of_run = ran.goes.trace.entries

  pub part_apart : of_run ≡ stayed ++ lost → HasNoCollision client (start.pending ++ of_run) new.packets → HasNoCollision client (start.pending ++ stayed) new.packets
  part_apart all apart =
      fewer_collide client (start.pending ++ stayed) (start.pending ++ of_run) new.packets new.packets
      (λ entry among. subst (λ (es : List Entry). IsIn entry (start.pending ++ es)) (sym all) (among_first entry start.pending stayed lost among)) (λ message among. among) apart

  pub stays : Runs client ships of_run ran.goes.trace.asks (kept_at start old) (stand ran.after.client.log ran.kept new) → of_run ≡ stayed ++ lost
      → Runs client ships stayed ran.goes.trace.asks (kept_at start old) (kept_at ran.kept new) → InStep client start old → HasNoCollision client (start.pending ++ of_run) new.packets → StaysOf status of_run stayed
  stays went all part now apart =
      let whole = counted_later client ships of_run ran.goes.trace.asks (kept_at start old) (stand ran.after.client.log ran.kept new) now went apart in
      let held = counted_later client ships stayed ran.goes.trace.asks (kept_at start old) (kept_at ran.kept new) now part (part_apart all apart) in
      let sum = ap length all ∙ length-append stayed lost in
      let lacks = run_kept route (opened client start) ran.after ran.kept around.left around_now.left around.written around_now.written ran.answers ran.ended ran.goes.trace ran.goes.turn in
      record {
        lost = lost;
        all = all;
        at_most_one = omega (arith, whole, held, sum, lacks);
        none = λ not_five not_seven.
            let same : ran.kept ≡ ran.after.client.log = ran.kept_last not_five not_seven ∙ sym ran.goes.keeping.last in
            none_pending lost (omega (arith, whole, held, sum, ap last_number same));
      }

-- ---- a run, a new beginning with what it left kept, a world that went on alone, and another run

module _ (client : ℕ) (ships : Bool) (start last kept : Log) (earlier later : List Entry) (asks more : List Ask) (old middle begun : World) (end : State)
    (first : Runs client ships earlier asks (kept_at start old) (stand last kept middle)) (alone : GoesOnAlone middle begun) (second : Runs client ships later more (kept_at kept begun) end) where
  restarts : (stayed lost : List Entry) × (earlier ≡ stayed ++ lost) × Runs client ships stayed asks (kept_at start old) (kept_at kept middle)
  restarts = restart_runs client ships earlier asks (kept_at start old) (stand last kept middle) refl first

  since : Runs client ships later more (kept_at kept middle) end
  since = runs_then client ships [] later [] more (kept_at kept middle) (kept_at kept begun) end (alone_runs client ships kept middle begun alone) second

  joined : Runs client ships (restarts.0 ++ later) (asks ++ more) (kept_at start old) end
  joined = runs_then client ships restarts.0 later asks more (kept_at start old) (kept_at kept middle) end restarts.3 since

-- a run is one of a client with a surrogate, too
with_surrogate : (client : ℕ) (ships : Bool) (entries : List Entry) (asks : List Ask) (old new : State) → Runs client ships entries asks old new → Runs client true entries asks old new
with_surrogate client true entries asks old new runs = runs
with_surrogate client false entries asks old new runs = runs_without client true entries asks old new runs

-- and one of a client without a surrogate ships stores alone
by_stores : (client : ℕ) (surrogate : Option (List ℕ)) (entries : List Entry) (asks : List Ask) (old new : State) → surrogate ≡ None → Runs client (is_some surrogate) entries asks old new → Runs client false entries asks old new
by_stores client surrogate entries asks old new none runs = subst (λ (s : Option (List ℕ)). Runs client (is_some s) entries asks old new) none runs

-- two runs in told worlds, of which the first began in step
module _ (client : ℕ) (route other_route : Route) (start : Log) (around around_now other other_now : Around) (status other_status : ℕ) (first : Ran client route start around around_now status)
    (second : Ran client other_route first.kept other other_now other_status) where
  abbrev did : Trace
  did = first.goes.trace

  abbrev does : Trace
  does = second.goes.trace

  abbrev last : Log
  last = first.after.client.log

  abbrev kept : Log
  kept = first.kept

  abbrev FirstGoes : World → World → Type 0
  FirstGoes = WorldGoes client (is_some route.surrogate) start last kept did around.link.troubles around_now.link.troubles

  abbrev SecondGoes : World → World → Type 0
  SecondGoes = WorldGoes client (is_some other_route.surrogate) kept second.after.client.log second.kept does other.link.troubles other_now.link.troubles

  -- what is so of both in their worlds
  in_worlds : (P : World → World → World → World → Type 0) → ((old middle begun new : World) → FirstGoes old middle → SecondGoes begun new → P old middle begun new)
      → ToldWorlds around.link around_now.link (λ old middle. ToldWorlds other.link other_now.link (P old middle))
  in_worlds P so =
      told_as around.link.world around_now.link.world FirstGoes (λ old middle. ToldWorlds other.link other_now.link (P old middle)) first.goes.told
      (λ old middle went. told_as other.link.world other_now.link.world SecondGoes (P old middle) second.goes.told (λ begun new goes. so old middle begun new went goes))

  abbrev BothEntries : List Entry
  BothEntries = did.entries ++ does.entries

  leave_together : (old middle begun new : World) → FirstGoes old middle → SecondGoes begun new → InStep client start old → GoesOnAlone middle begun → HasNoCollision client (start.pending ++ BothEntries) new.packets
      → LeaveTogether client start second.after.client.log second.kept status did.entries does.entries old new
  leave_together old middle begun new first_goes second_goes in_step alone apart =
      let end = stand second.after.client.log second.kept new in
      let went = with_surrogate client (is_some route.surrogate) did.entries did.asks (kept_at start old) (stand last kept middle) first_goes.runs in
      let goes = with_surrogate client (is_some other_route.surrogate) does.entries does.asks (kept_at kept begun) end second_goes.runs in
      let part = restarts client true start last kept did.entries does.entries did.asks does.asks old middle begun end went alone goes in
      let after = since client true start last kept did.entries does.entries did.asks does.asks old middle begun end went alone goes in
      let stay = λ (message : Message) (among : IsIn message middle.packets). run_packets client true does.entries does.asks (kept_at kept middle) end message after among in
      let first_apart : HasNoCollision client (start.pending ++ did.entries) middle.packets =
      fewer_collide client (start.pending ++ did.entries) (start.pending ++ BothEntries) middle.packets new.packets (λ entry among. among_first entry start.pending did.entries does.entries among) stay apart in
      let both_apart : HasNoCollision client (start.pending ++ (part.0 ++ does.entries)) new.packets =
      fewer_collide client (start.pending ++ (part.0 ++ does.entries)) (start.pending ++ BothEntries) new.packets new.packets
      (λ entry among. subst (λ (es : List Entry). IsIn entry (start.pending ++ (es ++ does.entries))) (sym part.2) (among_all entry start.pending part.0 part.1 does.entries among)) (λ message among. among) apart in
      record {
        stayed = part.0;
        stays = stays client true route start around around_now status first old middle part.0 part.1 went part.2 part.3 in_step first_apart;
        leaves = leaves client true (part.0 ++ does.entries) (did.asks ++ does.asks) start second.after.client.log second.kept old new in_step
            (joined client true start last kept did.entries does.entries did.asks does.asks old middle begun end went alone goes) both_apart;
        goes_on = goes_on client true (part.0 ++ does.entries) (did.asks ++ does.asks) start second.after.client.log second.kept old new in_step
            (joined client true start last kept did.entries does.entries did.asks does.asks old middle begun end went alone goes) both_apart;
      }

  stores_apart : route.surrogate ≡ None → other_route.surrogate ≡ None → (old middle begun new : World) → FirstGoes old middle → SecondGoes begun new → InStep client start old → HasNoOperation client old.packets
      → GoesOnAlone middle begun → HasNoCollision client (start.pending ++ BothEntries) new.packets
  stores_apart none none_too old middle begun new first_goes second_goes in_step unsent alone =
      let end = stand second.after.client.log second.kept new in
      let went = by_stores client route.surrogate did.entries did.asks (kept_at start old) (stand last kept middle) none first_goes.runs in
      let goes = by_stores client other_route.surrogate does.entries does.asks (kept_at kept begun) end none_too second_goes.runs in
      let part = restarts client false start last kept did.entries does.entries did.asks does.asks old middle begun end went alone goes in
      never_collides client (part.0 ++ does.entries) (did.asks ++ does.asks) (kept_at start old) end (start.pending ++ BothEntries) in_step.about unsent
      (joined client false start last kept did.entries does.entries did.asks does.asks old middle begun end went alone goes)

pub runs_compose : RunsCompose
runs_compose client route other_route start around around_now other other_now status other_status first second =
    in_worlds client route other_route start around around_now other other_now status other_status first second
    (λ old middle begun new. InStep client start old → GoesOnAlone middle begun
    → HasNoCollision client (start.pending ++ (first.goes.trace.entries ++ second.goes.trace.entries)) new.packets
    → LeaveTogether client start second.after.client.log second.kept status first.goes.trace.entries second.goes.trace.entries old new)
    (leave_together client route other_route start around around_now other other_now status other_status first second)

pub stores_never_collide : StoresNeverCollide
stores_never_collide client route other_route start around around_now other other_now status other_status first second none none_too =
    in_worlds client route other_route start around around_now other other_now status other_status first second
    (λ old middle begun new. InStep client start old → HasNoOperation client old.packets → GoesOnAlone middle begun
    → HasNoCollision client (start.pending ++ (first.goes.trace.entries ++ second.goes.trace.entries)) new.packets)
    (stores_apart client route other_route start around around_now other other_now status other_status first second none none_too)
