-- Which lines ask a runner for something, and how often.
use Rattle.std.proofs.Common.{◌≡◌, ℕ, ◌+◌, ◌≤◌, Bool, false, List, [], ◌∷◌, ◌++◌, length, Option, None, Some, Result, Ok, Err, refl, sym, ◌∙◌, ap, arith, length-append}
use Rattle.std.specs.Prelude.{cond}
use Rattle.std.specs.List.{count_by}
use Rattle.std.proofs.lemmas.List.Sums.{sum_by-cons}
use Rattle.file_paths.specs.Path.{FilePath, resolved}
use Rattle.file_paths.specs.declared.path.PathError.{PathError}
use Rattle.file_paths.specs.declared.path.PathError.TheVariants as paths
use Rattle.tree_values.specs.Tree.{Volume}
use Rattle.tree_values.specs.declared.node.Effect.{Effect}
use Rattle.tree_values.specs.declared.node.Node.{Node}
use Rattle.tree_values.specs.declared.node.Node.TheVariants as nodes
use Rattle.cmd_capture.specs.declared.command.Command.{Command}
use Rattle.cmd_capture.specs.declared.capturing.CaptureError.{CaptureError}
use Rattle.cmd_capture.specs.declared.capturing.CaptureError.TheVariants as captures
use Rattle.cmd_capture.specs.declared.runner.Run.{Run}
use Rattle.cmd_capture.specs.Capture.{capture}
use Rattle.work_area.specs.declared.jobs.JobError.{JobError}
use Rattle.work_area.specs.declared.jobs.JobError.TheVariants as jobs
use Rattle.mod_log.specs.declared.log.LogError.{LogError}
use Rattle.mod_log.specs.declared.log.LogError.TheVariants as logs
use Rattle.mod_log.specs.Log.{Log, tree_of}
use Rattle.client_core.specs.declared.route.Route.{Route}
use Rattle.client_core.specs.declared.syncing.SyncEnd.{SyncEnd}
use Rattle.client_core.specs.declared.syncing.SyncEnd.TheVariants as syncs
use Rattle.client_core.specs.declared.pulling.PullEnd.{PullEnd}
use Rattle.client_core.specs.declared.pulling.PullEnd.TheVariants as pulls
use Rattle.client_core.specs.declared.running.RunEnd.{RunEnd}
use Rattle.client_core.specs.declared.running.RunEnd.TheVariants as ends
use Rattle.client_core.specs.Trace.{Trace, nothing, followed, asking, pulling}
use Rattle.client_core.specs.Logging.{LocalTurn}
use Rattle.client_core.specs.Running.{RunTurn}
use Rattle.client_core.specs.Pulling.{PullsSnapshot, PullTurn}
use Rattle.shell_lang.specs.declared.line.Line.{Line}
use Rattle.shell_lang.specs.declared.line.Line.TheVariants as lines
use Rattle.shell_lang.specs.declared.line.LineError.{LineError}
use Rattle.shell_lang.specs.declared.answer.LineAnswer.{LineAnswer}
use Rattle.client_session.specs.Session.{SessionState, is_unrun, put_effect, make_effect, remove_effect, move_effect, sync_answer, pull_answer, local_answer, word_answer, capture_answer, job_answer, run_answer, LogTurn, CommandTurn, LineTurn}
use Rattle.client_session.specs.Causes.{asks_to_run}
use Rattle.client_session.specs.Looking.{node_found, shown, listed, entered, about, list_answer}
use Rattle.client_session.specs.Laws.{UnrunLinesAreCounted, LinesRunOnce}
use Rattle.client_session.proofs.Acknowledged.{sync_holds}

-- ---- traces without a run

abbrev RunsNothing : Trace → Type 0
RunsNothing trace = (trace.runs ≡ []) × (trace.missed ≡ 0)

as_nothing : (trace : Trace) → trace ≡ nothing → RunsNothing trace
as_nothing trace is = (ap (λ (t : Trace). t.runs) is, ap (λ (t : Trace). t.missed) is)

followed_quiet : (trace earlier later : Trace) → trace ≡ followed earlier later → RunsNothing earlier → RunsNothing later → RunsNothing trace
followed_quiet trace earlier later is first then = (
  ap (λ (t : Trace). t.runs) is ∙ ap (λ (rs : List Run). rs ++ later.runs) first.0 ∙ then.0,
  omega (arith, ap (λ (t : Trace). t.missed) is, first.1, then.1),
)

local_quiet : (effect : Effect) (result : Result ℕ LogError) (before after : Log) (trace : Trace) → LocalTurn (effect ∷ []) before result after trace → RunsNothing trace
local_quiet effect (Ok number) before after trace turn = (ap (λ (t : Trace). t.runs) turn.2, ap (λ (t : Trace). t.missed) turn.2)
local_quiet effect (Err refusal) before after trace turn = as_nothing trace turn.2

module _ (client : ℕ) (route : Route) (before after : Log) (trace : Trace) where
  snapshot_quiet : (end : PullEnd) → PullsSnapshot client route before end after trace → RunsNothing trace
  snapshot_quiet end turn = followed_quiet trace (asking turn.asks) (pulling end turn.changes) turn.trace_is (refl, refl) (refl, refl)

  pull_quiet : (end : PullEnd) → PullTurn client route before end after trace → RunsNothing trace
  pull_quiet (pulls.Pending n) turn = as_nothing trace turn.3
  pull_quiet pulls.Unanswered turn = (ap (λ (t : Trace). t.runs) turn.1.3, ap (λ (t : Trace). t.missed) turn.1.3)
  pull_quiet (pulls.Pulled n) turn = snapshot_quiet (pulls.Pulled n) turn
  pull_quiet (pulls.OtherLast last acked) turn = snapshot_quiet (pulls.OtherLast last acked) turn
  pull_quiet (pulls.Older path theirs ours) turn = snapshot_quiet (pulls.Older path theirs ours) turn
  pull_quiet pulls.KeepFault turn = snapshot_quiet pulls.KeepFault turn
  pull_quiet pulls.Memory turn = snapshot_quiet pulls.Memory turn

-- ---- answers that are not `not run`

abbrev IsOther : Option LineAnswer → Type 0
IsOther answer = is_unrun answer ≡ false

shown_other : (path : FilePath) (found : Option Node) → IsOther (Some (shown path found))
shown_other path None = refl
shown_other path (Some nodes.Folder) = refl
shown_other path (Some (nodes.File content exec)) = refl

listed_other : (tree : Volume) (path : FilePath) (found : Option Node) → IsOther (Some (listed tree path found))
listed_other tree path None = refl
listed_other tree path (Some nodes.Folder) = refl
listed_other tree path (Some (nodes.File content exec)) = refl

entered_other : (path : FilePath) (found : Option Node) → IsOther (Some (entered path found))
entered_other path None = refl
entered_other path (Some nodes.Folder) = refl
entered_other path (Some (nodes.File content exec)) = refl

about_other : (found : Result FilePath PathError) (answer : FilePath → LineAnswer) → ((path : FilePath) → IsOther (Some (answer path))) → IsOther (Some (about found answer))
about_other (Ok path) answer other = other path
about_other (Err refusal) answer other = refl

list_other : (tree : Volume) (folder : FilePath) (word : Option (List ℕ)) → IsOther (Some (list_answer tree folder word))
list_other tree folder None = listed_other tree folder (node_found tree folder)
list_other tree folder (Some word) = about_other (resolved folder word) (λ path. listed tree path (node_found tree path)) (λ path. listed_other tree path (node_found tree path))

pub local_other : (result : Result ℕ LogError) → IsOther (local_answer result)
local_other (Ok number) = refl
local_other (Err logs.Memory) = refl
local_other (Err (logs.EntryTooLarge effects bytes)) = refl
local_other (Err (logs.LogFull entries bytes)) = refl
local_other (Err logs.LastNumber) = refl
local_other (Err (logs.Tree index refusal)) = refl

word_other : (refusal : PathError) → IsOther (word_answer refusal)
word_other paths.Memory = refl
word_other (paths.BadName index) = refl
word_other (paths.TooDeep names) = refl
word_other (paths.TooLong bytes) = refl

sync_other : (end : SyncEnd) → IsOther (sync_answer end)
sync_other (syncs.Synced seq) = refl
sync_other (syncs.Stale seq path theirs ours) = refl
sync_other (syncs.Unfit seq index fault) = refl
sync_other (syncs.Full seq index fault) = refl
sync_other (syncs.Unanswered seq) = refl
sync_other (syncs.Behind seq last) = refl
sync_other syncs.KeepFault = refl
sync_other syncs.Memory = refl

pull_other : (end : PullEnd) → IsOther (pull_answer end)
pull_other (pulls.Pulled count) = refl
pull_other (pulls.Pending count) = refl
pull_other (pulls.OtherLast last acked) = refl
pull_other (pulls.Older path theirs ours) = refl
pull_other pulls.Unanswered = refl
pull_other pulls.KeepFault = refl
pull_other pulls.Memory = refl

capture_other : (refusal : CaptureError) → IsOther (capture_answer refusal)
capture_other captures.Memory = refl
capture_other captures.NoProgram = refl
capture_other (captures.BadOption i) = refl
capture_other (captures.BadInput i) = refl
capture_other (captures.BadEnv i) = refl
capture_other (captures.BadTemplate i) = refl
capture_other captures.NotAbsolute = refl
capture_other (captures.ZeroByte i) = refl
capture_other (captures.CommandTooLong n) = refl

job_other : (refusal : JobError) → IsOther (job_answer refusal)
job_other (jobs.NoFolder path) = refl
job_other (jobs.NoInput i) = refl
job_other jobs.Memory = refl

-- ---- a line

-- it has one run at most, which fails where it is answered `not run`
pub record Counts (most : ℕ) (answer : Option LineAnswer) (trace : Trace) : Type 0 where
  pub once : length trace.runs + trace.missed ≤ most
  pub unrun : cond (is_unrun answer) 1 0 ≡ trace.missed

-- without a run
quiet_counts : (answer told : Option LineAnswer) (trace : Trace) → answer ≡ told → IsOther told → RunsNothing trace → Counts 0 answer trace
quiet_counts answer told trace is other none = record {
  once = omega (arith, ap length none.0, none.1);
  unrun = ap (λ (x : Option LineAnswer). cond (is_unrun x) 1 0) is ∙ ap (λ (b : Bool). cond b 1 0) other ∙ sym none.1;
}

-- with one
one_counts : (answer told : Option LineAnswer) (trace : Trace) (run : Run) → answer ≡ told → IsOther told → trace.runs ≡ run ∷ [] → trace.missed ≡ 0 → Counts 1 answer trace
one_counts answer told trace run is other runs missed = record {
  once = omega (arith, ap length runs, missed);
  unrun = ap (λ (x : Option LineAnswer). cond (is_unrun x) 1 0) is ∙ ap (λ (b : Bool). cond b 1 0) other ∙ sym missed;
}

at_most_one : (answer : Option LineAnswer) (trace : Trace) → Counts 0 answer trace → Counts 1 answer trace
at_most_one answer trace counts = record { once = omega (arith, counts.once); unrun = counts.unrun }

run_counts : (work : List ℕ) (command : Command) (before : Log) (end : RunEnd) (after : Log) (trace : Trace) (answer : Option LineAnswer) → RunTurn work command before end after trace → answer ≡ run_answer end → Counts 1 answer trace
run_counts work command before (ends.NoJob fault) after trace answer turn is = at_most_one answer trace (quiet_counts answer (job_answer fault) trace is (job_other fault) (as_nothing trace turn.2))
run_counts work command before ends.NotRun after trace answer turn is = record {
  once = omega (arith, ap (λ (t : Trace). length t.runs + t.missed) turn.2);
  unrun = ap (λ (x : Option LineAnswer). cond (is_unrun x) 1 0) is ∙ sym (ap (λ (t : Trace). t.missed) turn.2);
}
run_counts work command before (ends.Logged seq status) after trace answer turn is =
    one_counts answer (run_answer (ends.Logged seq status)) trace turn.0 is refl (ap (λ (t : Trace). t.runs) turn.3) (ap (λ (t : Trace). t.missed) turn.3)
run_counts work command before (ends.Nothing status) after trace answer turn is =
    one_counts answer (run_answer (ends.Nothing status)) trace turn.0 is refl (ap (λ (t : Trace). t.runs) turn.3) (ap (λ (t : Trace). t.missed) turn.3)
run_counts work command before (ends.OddTree i) after trace answer turn is =
    one_counts answer (run_answer (ends.OddTree i)) trace turn.0 is refl (ap (λ (t : Trace). t.runs) turn.3) (ap (λ (t : Trace). t.missed) turn.3)
run_counts work command before (ends.Clash path) after trace answer turn is =
    one_counts answer (run_answer (ends.Clash path)) trace turn.0 is refl (ap (λ (t : Trace). t.runs) turn.3) (ap (λ (t : Trace). t.missed) turn.3)
run_counts work command before (ends.Refused refusal) after trace answer turn is =
    one_counts answer (local_answer (Err refusal)) trace turn.0 is (local_other (Err refusal)) (ap (λ (t : Trace). t.runs) turn.3) (ap (λ (t : Trace). t.missed) turn.3)
run_counts work command before ends.Memory after trace answer turn is = absurd turn.2

module _ (route : Route) (before after : SessionState) (trace : Trace) (answer : Option LineAnswer) where
  log_counts : (named : Result Effect PathError) → LogTurn named before answer after trace → Counts 0 answer trace
  log_counts (Ok effect) turn = quiet_counts answer (local_answer turn.0) trace turn.3 (local_other turn.0) (local_quiet effect turn.0 before.client.log after.client.log trace turn.1)
  log_counts (Err refusal) turn = quiet_counts answer (word_answer refusal) trace turn.0 (word_other refusal) (as_nothing trace turn.2)

  command_counts : (made : Result Command CaptureError) → CommandTurn route made before answer after trace → Counts 1 answer trace
  command_counts (Ok command) turn = run_counts route.work command before.client.log turn.0 after.client.log trace answer turn.1 turn.3
  command_counts (Err refusal) turn = at_most_one answer trace (quiet_counts answer (capture_answer refusal) trace turn.0 (capture_other refusal) (as_nothing trace turn.2))

  pub line_counts : (line : Result Line LineError) → LineTurn route before line answer after trace → Counts (cond (asks_to_run line) 1 0) answer trace
  line_counts (Err refusal) turn = quiet_counts answer _ trace turn.0 refl (as_nothing trace turn.2)
  line_counts (Ok lines.Empty) turn = quiet_counts answer None trace turn.0 refl (as_nothing trace turn.2)
  line_counts (Ok (lines.Put word text)) turn = log_counts (put_effect before.folder word text) turn
  line_counts (Ok (lines.Make word)) turn = log_counts (make_effect before.folder word) turn
  line_counts (Ok (lines.Remove word)) turn = log_counts (remove_effect before.folder word) turn
  line_counts (Ok (lines.Move from to)) turn = log_counts (move_effect before.folder from to) turn
  line_counts (Ok (lines.Cat word)) turn =
      let tree : Volume = tree_of before.client.log in
      quiet_counts answer _ trace turn.0 (about_other (resolved before.folder word) (λ path. shown path (node_found tree path)) (λ path. shown_other path (node_found tree path))) (as_nothing trace turn.2)
  line_counts (Ok (lines.List word)) turn = let tree : Volume = tree_of before.client.log in quiet_counts answer _ trace turn.0 (list_other tree before.folder word) (as_nothing trace turn.2)
  line_counts (Ok (lines.Enter word)) turn =
      let tree : Volume = tree_of before.client.log in
      quiet_counts answer _ trace turn.0 (about_other (resolved before.folder word) (λ path. entered path (node_found tree path)) (λ path. entered_other path (node_found tree path))) (as_nothing trace turn.2)
  line_counts (Ok (lines.Run words)) turn = command_counts (capture words before.folder) turn
  line_counts (Ok lines.Status) turn = quiet_counts answer _ trace turn.0 refl (as_nothing trace turn.2)
  line_counts (Ok lines.Sync) turn =
      quiet_counts answer (sync_answer turn.0) trace turn.3 (sync_other turn.0)
      (sync_holds RunsNothing (refl, refl) (λ m n p q. followed_quiet (followed m n) m n refl p q) (λ log. (refl, refl)) before.client.number route (λ pending entry came asks ships. (refl, refl)) before.client.log turn.0 after.client.log trace
      turn.1)
  line_counts (Ok lines.Pull) turn =
      quiet_counts answer (pull_answer turn.0) trace turn.3 (pull_other turn.0) (pull_quiet before.client.number route before.client.log after.client.log trace turn.0 turn.1)
  line_counts (Ok lines.Quit) turn = quiet_counts answer None trace turn.0 refl (as_nothing trace turn.2)

-- ---- a session

pub unrun_lines_are_counted : UnrunLinesAreCounted
unrun_lines_are_counted route before [] answers after trace chain = ap (count_by is_unrun) chain.0 ∙ sym (ap (λ (t : Trace). t.missed) chain.2)
unrun_lines_are_counted route before (line ∷ more) answers after trace chain =
    let one = line_counts route before chain.0 chain.1 chain.3 line chain.5 in
    let rest = unrun_lines_are_counted route chain.0 more chain.4 after chain.2 chain.6 in
    let first : count_by is_unrun (chain.3 ∷ chain.4) ≡ cond (is_unrun chain.3) 1 0 + count_by is_unrun chain.4 = sum_by-cons (λ x. cond (is_unrun x) 1 0) chain.3 chain.4 in
    omega (arith, ap (count_by is_unrun) chain.7, first, one.unrun, rest, ap (λ (t : Trace). t.missed) chain.8)

pub lines_run_once : LinesRunOnce
lines_run_once route before [] answers after trace chain = omega (arith, ap (λ (t : Trace). length t.runs + t.missed) chain.2)
lines_run_once route before (line ∷ more) answers after trace chain =
    let one = line_counts route before chain.0 chain.1 chain.3 line chain.5 in
    let rest = lines_run_once route chain.0 more chain.4 after chain.2 chain.6 in
    let first : count_by asks_to_run (line ∷ more) ≡ cond (asks_to_run line) 1 0 + count_by asks_to_run more = sum_by-cons (λ x. cond (asks_to_run x) 1 0) line more in
    omega (arith, first, one.once, rest, ap (λ (t : Trace). length t.runs + t.missed) chain.8, length-append chain.1.runs chain.2.runs)
