-- What a line keeps record by record.
use Rattle.std.proofs.Common.{◌≡◌, ◌≢◌, ◌∙◌, inl, ⊎_elim, ℕ, false, List, [], ◌∷◌, Option, Some, None, Result, Ok, Err, IfOk, refl, sym, ap, subst}
use Rattle.outside.specs.Keeper.{Images}
use Rattle.file_paths.specs.declared.path.PathError.{PathError}
use Rattle.tree_values.specs.Lists.{IsIn}
use Rattle.tree_values.specs.declared.node.Effect.{Effect}
use Rattle.cmd_capture.specs.declared.command.Command.{Command}
use Rattle.cmd_capture.specs.Runs.{HasRun}
use Rattle.cmd_capture.specs.declared.capturing.CaptureError.{CaptureError}
use Rattle.cmd_capture.specs.Capture.{capture}
use Rattle.mod_log.specs.declared.log.Entry.{Entry}
use Rattle.mod_log.specs.declared.log.LogError.{LogError}
use Rattle.mod_log.specs.Log.{Log, logged}
use Rattle.client_core.specs.declared.route.Route.{Route}
use Rattle.client_core.specs.declared.pulling.PullEnd.{PullEnd}
use Rattle.client_core.specs.declared.pulling.PullEnd.TheVariants as pulls
use Rattle.client_core.specs.declared.running.RunEnd.{RunEnd}
use Rattle.client_core.specs.declared.running.RunEnd.TheVariants as runs
use Rattle.client_core.specs.Client.{Client}
use Rattle.client_core.specs.Trace.{Trace, nothing}
use Rattle.client_core.specs.Logging.{local_entry, LocalTurn}
use Rattle.client_core.specs.Running.{origin_of, changes_of, run_entry, RunTurn}
use Rattle.client_core.specs.Pulling.{PullsSnapshot, PullTurn, is_broken_pull}
use Rattle.client_core.specs.Noting.{logs_behind, TakesNoRows, records_logged, KeepsLogged}
use Rattle.client_core.proofs.Locals.{appended-is}
use Rattle.client_core.proofs.Noting.{records_none, records_one, keeps_same, logged_changes}
use Rattle.shell_lang.specs.declared.line.Line.{Line}
use Rattle.shell_lang.specs.declared.line.Line.TheVariants as lines
use Rattle.shell_lang.specs.declared.line.LineError.{LineError}
use Rattle.shell_lang.specs.declared.answer.LineAnswer.{LineAnswer}
use Rattle.client_session.specs.Session.{SessionState, Sitting, state_of, put_effect, make_effect, remove_effect, move_effect, LogTurn, CommandTurn, LineTurn, pull_answer, has_pulled}
use Rattle.client_session.specs.Doing.{Telling, WentDoing, LineEnds, LineNoting}
use Rattle.client_session.specs.declared.stop.LineStop.{LineStop}
use Rattle.client_session.specs.Inside.{LogsOrRefuses}
use Rattle.client_session.specs.Stops.{pull_result, told}
use Rattle.client_session.proofs.Doing.{went_as}
use Rattle.client_session.proofs.Turning.{Quietly, line_world, logs_quietly, quietly_caused, told_holds, unbroken_pull, pull_either}

-- ---- what the calls of a session keep

-- what holds of each answered line holds where no base was replaced
pub unless_pulled : (line : Result Line LineError) (r : Result (Option LineAnswer) LineStop) (K : Type 0) → IfOk r (λ answer. K) → IfOk r (λ answer. has_pulled line answer ≡ false → K)
unless_pulled line (Ok answer) K is = λ none. is
unless_pulled line (Err e) K is = tt

-- a pull that is answered was not broken off, and where it took no rows all is as before
pub pull_records : (r : Result LineAnswer LineStop) (name : List ℕ) (x y : Client) (i j : Option Images) (end : PullEnd) → r ≡ pull_result end
    → (is_broken_pull end ≡ false → ((count : ℕ) → end ≢ pulls.Pulled count) → (y ≡ x) × (j ≡ i)) → IfOk r (λ answer. has_pulled (Ok lines.Pull) (Some answer) ≡ false → KeepsLogged name x y i j)
pull_records r name x y i j end is same = ⊎_elim
    (λ ok. subst Records (sym (is ∙ ok.2))
    (λ none.
    let stays = same (unbroken_pull end ok.0 ok.1) (λ count pulled. absurd (cc (sym none ∙ ap (has_pulled (Ok lines.Pull)) (sym ok.1 ∙ ap pull_answer pulled)))) in
    subst (λ (c : Client). KeepsLogged name x c i j) (sym stays.0) (subst (λ (k : Option Images). KeepsLogged name x x i k) (sym stays.1) (keeps_same name x i))))
    (λ stopped. subst Records (sym (is ∙ stopped.1)) tt)
    (pull_either end)
  where
    Records : Result LineAnswer LineStop → Type 0
    Records a = IfOk a (λ answer. has_pulled (Ok lines.Pull) (Some answer) ≡ false → KeepsLogged name x y i j)

-- and so it is told
pub pull_told_records : (r : Result LineAnswer LineStop) (s : Result (Option LineAnswer) LineStop) (K : Type 0) → s ≡ told r → IfOk r (λ answer. has_pulled (Ok lines.Pull) (Some answer) ≡ false → K)
    → IfOk s (λ answer. has_pulled (Ok lines.Pull) answer ≡ false → K)
pull_told_records r s K is kept = subst (λ (a : Result (Option LineAnswer) LineStop). IfOk a (λ answer. has_pulled (Ok lines.Pull) answer ≡ false → K)) (sym is) (by r kept)
  where
    by : (r : Result LineAnswer LineStop) → IfOk r (λ answer. has_pulled (Ok lines.Pull) (Some answer) ≡ false → K) → IfOk (told r) (λ answer. has_pulled (Ok lines.Pull) answer ≡ false → K)
    by (Ok answer) kept = kept
    by (Err stop) kept = tt

-- ---- the changes of a line are those that its records make

-- the changes are the logs behind the records of what was logged
abbrev AreNoted : Log → Log → Trace → Type 0
AreNoted before after trace = trace.changes ≡ logs_behind before (records_logged before after)

same_noted : (before after : Log) (trace : Trace) → after ≡ before → trace.changes ≡ [] → AreNoted before after trace
same_noted before after trace same none =
    none ∙ sym (ap (λ (log : Log). logs_behind before (records_logged before log)) same ∙ ap (logs_behind before) (records_none before))

logged_noted : (before after : Log) (trace : Trace) (entry : Entry) → logged entry before ≡ after → trace.changes ≡ after ∷ [] → AreNoted before after trace
logged_noted before after trace entry is one =
    one ∙ ap (λ (log : Log). log ∷ []) (sym is) ∙ sym (ap (logs_behind before) (ap (records_logged before) (sym is) ∙ records_one before entry))

-- ---- a pull

module _ (client : ℕ) (route : Route) (before after : Log) (trace : Trace) where
  pull_noted : (end : PullEnd) → has_pulled (Ok lines.Pull) (pull_answer end) ≡ false → PullTurn client route before end after trace → AreNoted before after trace
  pull_noted (pulls.Pending count) none turn = same_noted before after trace turn.2 (ap (λ (t : Trace). t.changes) turn.3)
  pull_noted pulls.Unanswered none turn = same_noted before after trace turn.1.2 (ap (λ (t : Trace). t.changes) turn.1.3)
  pull_noted (pulls.Pulled count) none turn = absurd (cc (none))
  pull_noted (pulls.OtherLast last acked) none turn = same_noted before after trace turn.met.3 (ap (λ (t : Trace). t.changes) turn.trace_is ∙ turn.changed)
  pull_noted (pulls.Older path theirs ours) none turn = same_noted before after trace turn.met.4 (ap (λ (t : Trace). t.changes) turn.trace_is ∙ turn.changed)
  pull_noted pulls.KeepFault none turn = absurd turn.met
  pull_noted pulls.Memory none turn = absurd turn.met

  pulled_not : TakesNoRows trace → (count : ℕ) → PullsSnapshot client route before (pulls.Pulled count) after trace → ⊥
  pulled_not none count turn = none count (subst (λ (t : Trace). IsIn (pulls.Pulled count) t.pulls) (sym turn.trace_is) (inl refl))

  not_pulled : TakesNoRows trace → (end : PullEnd) → PullTurn client route before end after trace → has_pulled (Ok lines.Pull) (pull_answer end) ≡ false
  not_pulled none (pulls.Pending count) turn = refl
  not_pulled none pulls.Unanswered turn = refl
  not_pulled none (pulls.Pulled count) turn = absurd (pulled_not none count turn)
  not_pulled none (pulls.OtherLast last acked) turn = refl
  not_pulled none (pulls.Older path theirs ours) turn = refl
  not_pulled none pulls.KeepFault turn = refl
  not_pulled none pulls.Memory turn = refl

-- ---- a run

run_noted : (work : List ℕ) (command : Command) (before : Log) (end : RunEnd) (after : Log) (trace : Trace) → RunTurn work command before end after trace → AreNoted before after trace
run_noted work command before (runs.Logged seq status) after trace turn =
    logged_noted before after trace (run_entry command turn.0 before) (appended-is (Some (origin_of command turn.0)) (changes_of turn.0) before after turn.2.1) (ap (λ (t : Trace). t.changes) turn.3)
run_noted work command before (runs.Nothing status) after trace turn = same_noted before after trace turn.2.3 (ap (λ (t : Trace). t.changes) turn.3)
run_noted work command before (runs.OddTree n) after trace turn = same_noted before after trace turn.2.1 (ap (λ (t : Trace). t.changes) turn.3)
run_noted work command before (runs.Clash path) after trace turn = same_noted before after trace turn.2.2 (ap (λ (t : Trace). t.changes) turn.3)
run_noted work command before (runs.Refused refusal) after trace turn = same_noted before after trace turn.2.2 (ap (λ (t : Trace). t.changes) turn.3)
run_noted work command before (runs.NoJob fault) after trace turn = same_noted before after trace turn.1 (ap (λ (t : Trace). t.changes) turn.2)
run_noted work command before runs.NotRun after trace turn = same_noted before after trace turn.1 (ap (λ (t : Trace). t.changes) turn.2)
run_noted work command before runs.Memory after trace turn = absurd turn.2

-- ---- a line

-- every line but a sync
abbrev pub IsNoSync : Result Line LineError → Type 0
IsNoSync (Ok lines.Sync) = ⊥
IsNoSync line = Unit {0}

module _ (before after : SessionState) (trace : Trace) where
  abbrev LineNoted : Type 0
  LineNoted = AreNoted before.client.log after.client.log trace

  stays : after ≡ before → trace ≡ nothing → LineNoted
  stays same all = same_noted before.client.log after.client.log trace (ap (λ (s : SessionState). s.client.log) same) (ap (λ (t : Trace). t.changes) all)

  local_noted : (effect : Effect) (result : Result ℕ LogError) → LocalTurn (effect ∷ []) before.client.log result after.client.log trace → LineNoted
  local_noted effect (Ok number) turn =
      logged_noted before.client.log after.client.log trace (local_entry (effect ∷ []) before.client.log) (appended-is None (effect ∷ []) before.client.log after.client.log turn.0) (ap (λ (t : Trace). t.changes) turn.2)
  local_noted effect (Err refusal) turn = same_noted before.client.log after.client.log trace turn.1 (ap (λ (t : Trace). t.changes) turn.2)

  log_noted : (named : Result Effect PathError) (answer : Option LineAnswer) → LogTurn named before answer after trace → LineNoted
  log_noted (Ok effect) answer turn = local_noted effect turn.0 turn.1
  log_noted (Err refusal) answer turn = stays turn.1 turn.2

  command_noted : (route : Route) (made : Result Command CaptureError) (answer : Option LineAnswer) → CommandTurn route made before answer after trace → LineNoted
  command_noted route (Ok command) answer turn = run_noted route.work command before.client.log turn.0 after.client.log trace turn.1
  command_noted route (Err refusal) answer turn = stays turn.1 turn.2

  line_noted : (route : Route) (line : Result Line LineError) (answer : Option LineAnswer) → IsNoSync line → LineTurn route before line answer after trace → has_pulled line answer ≡ false → LineNoted
  line_noted route (Err refusal) answer other turn none = stays turn.1 turn.2
  line_noted route (Ok lines.Empty) answer other turn none = stays turn.1 turn.2
  line_noted route (Ok (lines.Put word text)) answer other turn none = log_noted (put_effect before.folder word text) answer turn
  line_noted route (Ok (lines.Make word)) answer other turn none = log_noted (make_effect before.folder word) answer turn
  line_noted route (Ok (lines.Remove word)) answer other turn none = log_noted (remove_effect before.folder word) answer turn
  line_noted route (Ok (lines.Move from to)) answer other turn none = log_noted (move_effect before.folder from to) answer turn
  line_noted route (Ok (lines.Cat word)) answer other turn none = stays turn.1 turn.2
  line_noted route (Ok (lines.List word)) answer other turn none = stays turn.1 turn.2
  line_noted route (Ok (lines.Enter word)) answer other turn none = same_noted before.client.log after.client.log trace (ap (λ (s : SessionState). s.client.log) turn.1) (ap (λ (t : Trace). t.changes) turn.2)
  line_noted route (Ok (lines.Run words)) answer other turn none = command_noted route (capture words before.folder) answer turn
  line_noted route (Ok lines.Status) answer other turn none = stays turn.1 turn.2
  line_noted route (Ok lines.Sync) answer other turn none = absurd other
  line_noted route (Ok lines.Pull) answer other turn none =
      pull_noted before.client.number route before.client.log after.client.log trace turn.0 (sym (ap (has_pulled (Ok lines.Pull)) turn.3) ∙ none) turn.1
  line_noted route (Ok lines.Quit) answer other turn none = stays turn.1 turn.2

  pub line_unpulled : (route : Route) (line : Result Line LineError) (answer : Option LineAnswer) → LineTurn route before line answer after trace → TakesNoRows trace → has_pulled line answer ≡ false
  line_unpulled route (Err refusal) answer turn none = refl
  line_unpulled route (Ok lines.Empty) answer turn none = refl
  line_unpulled route (Ok (lines.Put word text)) answer turn none = refl
  line_unpulled route (Ok (lines.Make word)) answer turn none = refl
  line_unpulled route (Ok (lines.Remove word)) answer turn none = refl
  line_unpulled route (Ok (lines.Move from to)) answer turn none = refl
  line_unpulled route (Ok (lines.Cat word)) answer turn none = refl
  line_unpulled route (Ok (lines.List word)) answer turn none = refl
  line_unpulled route (Ok (lines.Enter word)) answer turn none = refl
  line_unpulled route (Ok (lines.Run words)) answer turn none = refl
  line_unpulled route (Ok lines.Status) answer turn none = refl
  line_unpulled route (Ok lines.Sync) answer turn none = refl
  line_unpulled route (Ok lines.Pull) answer turn none =
      ap (has_pulled (Ok lines.Pull)) turn.3 ∙ not_pulled before.client.number route before.client.log after.client.log trace none turn.0 turn.1
  line_unpulled route (Ok lines.Quit) answer turn none = refl

-- ---- what was kept of a line that logs is of its trace

module _ (route : Route) (x y : Sitting) (line : Result Line LineError) (other : IsNoSync line) (i j : Option Images) where
  line_notes : (r : Result (Option LineAnswer) LineStop) (k : Log) (trace : Trace) → IfOk r (λ answer. has_pulled line answer ≡ false → KeepsLogged route.image x.client y.client i j)
      → LineEnds route (state_of x) line r (state_of y) k trace → LineNoting route x line r y i j k trace
  line_notes (Ok answer) k trace kept ends = (
    ends,
    λ none. logged_changes route.image x.client y.client trace.changes i j (line_noted (state_of x) (state_of y) trace route line answer other ends.0 none) (kept none),
  )
  line_notes (Err e) k trace kept ends = (ends, tt)

  pub noting_line : (r : Result (Option LineAnswer) LineStop) (t u : Telling) → WentDoing route (LineEnds route (state_of x) line r (state_of y)) (state_of x) (state_of y) i j t u
      → IfOk r (λ answer. has_pulled line answer ≡ false → KeepsLogged route.image x.client y.client i j) → WentDoing route (LineNoting route x line r y i j) (state_of x) (state_of y) i j t u
  noting_line r t u went kept =
      went_as route (LineEnds route (state_of x) line r (state_of y)) (LineNoting route x line r y i j) (state_of x) (state_of y) i j t u went (λ k trace ends behind. line_notes r k trace kept ends)

-- ---- a line that logs an effect, as what it reads as

module _ (route : Route) (x y : Sitting) (read line : Result Line LineError) (is : read ≡ line) (named : Result Effect PathError) (r : Result LineAnswer LineStop) (s : Result (Option LineAnswer) LineStop) (i j : Option Images)
    (to : (route : Route) (answer : Option LineAnswer) (trace : Trace) → LogTurn named (state_of x) answer (state_of y) trace → LineTurn route (state_of x) line answer (state_of y) trace)
    (logs : LogsOrRefuses route.image named (state_of x) r (state_of y) i j) (same : s ≡ told r) where
  quiet : Quietly route.image (state_of x) line s (state_of y) i j
  quiet = subst (λ (a : Result (Option LineAnswer) LineStop). Quietly route.image (state_of x) line a (state_of y) i j) (sym same) (logs_quietly route.image i named (state_of x) line r (state_of y) j to logs)

  pub logs_went : IsNoSync line → IfOk r (λ answer. KeepsLogged route.image x.client y.client i j) → (t : Telling) → WentDoing route (LineNoting route x read s y i j) (state_of x) (state_of y) i j t t
  logs_went other kept t =
      noting_line route x y read (subst IsNoSync (sym is) other) i j s t t (line_world route i (state_of x) read line s (state_of y) j t is quiet)
      (unless_pulled read s (KeepsLogged route.image x.client y.client i j) (told_holds r s (KeepsLogged route.image x.client y.client i j) same kept))

  pub logs_caused : (t : Telling) → (kept : Log) × (trace : Trace) × LineEnds route (state_of x) line s (state_of y) kept trace × HasRun trace.runs trace.missed t.runner t.runner
  logs_caused t = quietly_caused route i (state_of x) line s (state_of y) j quiet t
