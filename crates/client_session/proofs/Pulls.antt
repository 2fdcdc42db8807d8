-- A line is answered that the server has another last number, or told older rows, only by a pull that the session tells.
use Rattle.std.proofs.Common.{◌≡◌, ⊎_elim, inl, ℕ, List, [], ◌∷◌, Option, None, Some, Result, Ok, Err, refl, sym, ◌∙◌, subst}
use Rattle.file_paths.specs.Path.{FilePath, resolved}
use Rattle.file_paths.specs.declared.path.PathError.{PathError}
use Rattle.file_paths.specs.declared.path.PathError.TheVariants as paths
use Rattle.tree_values.specs.Tree.{Volume}
use Rattle.tree_values.specs.Lists.{IsIn}
use Rattle.tree_values.specs.declared.node.Effect.{Effect}
use Rattle.tree_values.specs.declared.node.Node.{Node}
use Rattle.tree_values.specs.declared.node.Node.TheVariants as nodes
use Rattle.vol_tree.proofs.Behind.{IsIn-left, IsIn-right}
use Rattle.cmd_capture.specs.declared.command.Command.{Command}
use Rattle.cmd_capture.specs.declared.capturing.CaptureError.{CaptureError}
use Rattle.cmd_capture.specs.declared.capturing.CaptureError.TheVariants as captures
use Rattle.cmd_capture.specs.Capture.{capture}
use Rattle.work_area.specs.declared.jobs.JobError.{JobError}
use Rattle.work_area.specs.declared.jobs.JobError.TheVariants as jobs
use Rattle.mod_log.specs.declared.log.LogError.{LogError}
use Rattle.mod_log.specs.declared.log.LogError.TheVariants as logs
use Rattle.mod_log.specs.Log.{Log, tree_of}
use Rattle.client_core.specs.declared.route.Route.{Route}
use Rattle.client_core.specs.declared.syncing.SyncEnd.{SyncEnd}
use Rattle.client_core.specs.declared.syncing.SyncEnd.TheVariants as syncs
use Rattle.client_core.specs.declared.pulling.PullEnd.{PullEnd}
use Rattle.client_core.specs.declared.pulling.PullEnd.TheVariants as pulls
use Rattle.client_core.specs.declared.running.RunEnd.{RunEnd}
use Rattle.client_core.specs.declared.running.RunEnd.TheVariants as runs
use Rattle.client_core.specs.Trace.{Trace}
use Rattle.client_core.specs.Pulling.{PullTurn}
use Rattle.client_core.specs.Honest.{IsNotOtherLast, IsNotOlder}
use Rattle.shell_lang.specs.declared.line.Line.{Line}
use Rattle.shell_lang.specs.declared.line.Line.TheVariants as lines
use Rattle.shell_lang.specs.declared.line.LineError.{LineError}
use Rattle.shell_lang.specs.declared.answer.LineAnswer.{LineAnswer}
use Rattle.shell_lang.specs.declared.answer.LineAnswer.TheVariants as answers
use Rattle.client_session.specs.Session.{SessionState, put_effect, make_effect, remove_effect, move_effect, sync_answer, pull_answer, local_answer, word_answer, capture_answer, job_answer, run_answer, status_answer, LogTurn, CommandTurn, LineTurn, Chain}
use Rattle.client_session.specs.Looking.{node_found, shown, listed, entered, about, cat_answer, list_answer, enter_answer}

-- a pull is answered so that took no rows for what the server told
abbrev pub IsRefusedPull : Option LineAnswer → Type 0
IsRefusedPull (Some (answers.OtherLast last)) = Unit {0}
IsRefusedPull (Some (answers.Older path theirs ours)) = Unit {0}
IsRefusedPull answer = ⊥

-- the same, and a pull whose asks all failed
abbrev pub IsFailedPull : Option LineAnswer → Type 0
IsFailedPull (Some answers.PullUnanswered) = Unit {0}
IsFailedPull answer = IsRefusedPull answer

refused_failed : (answer : Option LineAnswer) → IsRefusedPull answer → IsFailedPull answer
refused_failed (Some (answers.OtherLast last)) refused = refused
refused_failed (Some (answers.Older path theirs ours)) refused = refused
refused_failed (Some answers.PullUnanswered) refused = tt
refused_failed (Some _) refused = absurd refused
refused_failed None refused = absurd refused

-- it is the answer of a pull that is told
abbrev pub IsOfPull : Option LineAnswer → Trace → Type 0
IsOfPull answer trace = (end : PullEnd) × IsIn end trace.pulls × (answer ≡ pull_answer end)

-- ---- only a pull is answered so

-- what reads the tree is not
abbrev NoPull : LineAnswer → Type 0
NoPull answer = IsFailedPull (Some answer) → ⊥

shown_other : (path : FilePath) (found : Option Node) → NoPull (shown path found)
shown_other path None refused = refused
shown_other path (Some nodes.Folder) refused = refused
shown_other path (Some (nodes.File content exec)) refused = refused

listed_other : (tree : Volume) (path : FilePath) (found : Option Node) → NoPull (listed tree path found)
listed_other tree path None refused = refused
listed_other tree path (Some nodes.Folder) refused = refused
listed_other tree path (Some (nodes.File content exec)) refused = refused

entered_other : (path : FilePath) (found : Option Node) → NoPull (entered path found)
entered_other path None refused = refused
entered_other path (Some nodes.Folder) refused = refused
entered_other path (Some (nodes.File content exec)) refused = refused

about_other : (found : Result FilePath PathError) (answer : FilePath → LineAnswer) → ((path : FilePath) → NoPull (answer path)) → NoPull (about found answer)
about_other (Ok path) answer other refused = other path refused
about_other (Err refusal) answer other refused = refused

list_other : (tree : Volume) (folder : FilePath) (word : Option (List ℕ)) → NoPull (list_answer tree folder word)
list_other tree folder None refused = listed_other tree folder (node_found tree folder) refused
list_other tree folder (Some word) refused = about_other (resolved folder word) (λ path. listed tree path (node_found tree path)) (λ path. listed_other tree path (node_found tree path)) refused

local_other : (result : Result ℕ LogError) → IsFailedPull (local_answer result) → ⊥
local_other (Ok number) refused = refused
local_other (Err logs.Memory) refused = refused
local_other (Err (logs.EntryTooLarge effects bytes)) refused = refused
local_other (Err (logs.LogFull entries bytes)) refused = refused
local_other (Err logs.LastNumber) refused = refused
local_other (Err (logs.Tree index refusal)) refused = refused

word_other : (refusal : PathError) → IsFailedPull (word_answer refusal) → ⊥
word_other paths.Memory refused = refused
word_other (paths.BadName index) refused = refused
word_other (paths.TooDeep names) refused = refused
word_other (paths.TooLong bytes) refused = refused

sync_other : (end : SyncEnd) → IsFailedPull (sync_answer end) → ⊥
sync_other (syncs.Synced n) refused = refused
sync_other (syncs.Stale n path theirs ours) refused = refused
sync_other (syncs.Unfit n index fault) refused = refused
sync_other (syncs.Full n index fault) refused = refused
sync_other (syncs.Unanswered n) refused = refused
sync_other (syncs.Behind n last) refused = refused
sync_other syncs.KeepFault refused = refused
sync_other syncs.Memory refused = refused

capture_other : (refusal : CaptureError) → IsFailedPull (capture_answer refusal) → ⊥
capture_other captures.Memory refused = refused
capture_other captures.NoProgram refused = refused
capture_other (captures.BadOption i) refused = refused
capture_other (captures.BadInput i) refused = refused
capture_other (captures.BadEnv i) refused = refused
capture_other (captures.BadTemplate i) refused = refused
capture_other captures.NotAbsolute refused = refused
capture_other (captures.ZeroByte i) refused = refused
capture_other (captures.CommandTooLong n) refused = refused

job_other : (refusal : JobError) → IsFailedPull (job_answer refusal) → ⊥
job_other (jobs.NoFolder path) refused = refused
job_other (jobs.NoInput i) refused = refused
job_other jobs.Memory refused = refused

run_other : (end : RunEnd) → IsFailedPull (run_answer end) → ⊥
run_other (runs.Logged seq status) refused = refused
run_other (runs.Nothing status) refused = refused
run_other (runs.NoJob refusal) refused = job_other refusal refused
run_other runs.NotRun refused = refused
run_other (runs.OddTree i) refused = refused
run_other (runs.Clash path) refused = refused
run_other (runs.Refused refusal) refused = local_other (Err refusal) refused
run_other runs.Memory refused = refused

-- a pull that ends so is told
pull_told : (client : ℕ) (route : Route) (before : Log) (end : PullEnd) (after : Log) (trace : Trace) → PullTurn client route before end after trace → IsRefusedPull (pull_answer end) → IsIn end trace.pulls
pull_told client route before (pulls.OtherLast last acked) after trace turn refused = subst (λ (t : Trace). IsIn (pulls.OtherLast last acked) t.pulls) (sym turn.trace_is) (inl refl)
pull_told client route before (pulls.Older path theirs ours) after trace turn refused = subst (λ (t : Trace). IsIn (pulls.Older path theirs ours) t.pulls) (sym turn.trace_is) (inl refl)
pull_told client route before (pulls.Pulled count) after trace turn refused = absurd refused
pull_told client route before (pulls.Pending count) after trace turn refused = absurd refused
pull_told client route before pulls.Unanswered after trace turn refused = absurd refused
pull_told client route before pulls.KeepFault after trace turn refused = absurd refused
pull_told client route before pulls.Memory after trace turn refused = absurd refused

module _ (route : Route) (before after : SessionState) (trace : Trace) (answer : Option LineAnswer) (failed : IsFailedPull answer) where
  abbrev WasPull : Type 0
  WasPull = (end : PullEnd) × PullTurn before.client.number route before.client.log end after.client.log trace × (answer ≡ pull_answer end)

  -- it is of no other line
  not_so : (told : Option LineAnswer) → answer ≡ told → (IsFailedPull told → ⊥) → WasPull
  not_so told is other = absurd (other (subst IsFailedPull is failed))

  log_other : (named : Result Effect PathError) → LogTurn named before answer after trace → WasPull
  log_other (Ok effect) turn = not_so (local_answer turn.0) turn.3 (local_other turn.0)
  log_other (Err refusal) turn = not_so (word_answer refusal) turn.0 (word_other refusal)

  command_other : (made : Result Command CaptureError) → CommandTurn route made before answer after trace → WasPull
  command_other (Ok command) turn = not_so (run_answer turn.0) turn.3 (run_other turn.0)
  command_other (Err refusal) turn = not_so (capture_answer refusal) turn.0 (capture_other refusal)

  pub only_pulls : (line : Result Line LineError) → LineTurn route before line answer after trace → WasPull
  only_pulls (Err refusal) turn = not_so _ turn.0 (λ none. none)
  only_pulls (Ok lines.Empty) turn = not_so None turn.0 (λ none. none)
  only_pulls (Ok (lines.Put word text)) turn = log_other (put_effect before.folder word text) turn
  only_pulls (Ok (lines.Make word)) turn = log_other (make_effect before.folder word) turn
  only_pulls (Ok (lines.Remove word)) turn = log_other (remove_effect before.folder word) turn
  only_pulls (Ok (lines.Move from to)) turn = log_other (move_effect before.folder from to) turn
  only_pulls (Ok (lines.Cat word)) turn =
      let tree : Volume = tree_of before.client.log in
      not_so (Some (cat_answer tree before.folder word)) turn.0 (about_other (resolved before.folder word) (λ path. shown path (node_found tree path)) (λ path. shown_other path (node_found tree path)))
  only_pulls (Ok (lines.List word)) turn =
      let tree : Volume = tree_of before.client.log in not_so (Some (list_answer tree before.folder word)) turn.0 (list_other tree before.folder word)
  only_pulls (Ok (lines.Enter word)) turn =
      let tree : Volume = tree_of before.client.log in
      not_so (Some (enter_answer tree before.folder word)) turn.0 (about_other (resolved before.folder word) (λ path. entered path (node_found tree path)) (λ path. entered_other path (node_found tree path)))
  only_pulls (Ok (lines.Run words)) turn = command_other (capture words before.folder) turn
  only_pulls (Ok lines.Status) turn = not_so (Some (status_answer before)) turn.0 (λ none. none)
  only_pulls (Ok lines.Sync) turn = not_so (sync_answer turn.0) turn.3 (sync_other turn.0)
  only_pulls (Ok lines.Pull) turn = (turn.0, turn.1, turn.3)
  only_pulls (Ok lines.Quit) turn = not_so None turn.0 (λ none. none)

-- ---- in a session

pub session_pulls : (route : Route) (before : SessionState) (asked : List (Result Line LineError)) (answers : List (Option LineAnswer)) (after : SessionState) (trace : Trace) → Chain route before asked answers after trace
    → (x : Option LineAnswer) → IsIn x answers → IsRefusedPull x → IsOfPull x trace
session_pulls route before [] answers after trace chain x among refused = absurd (subst (IsIn x) chain.0 among)
session_pulls route before (line ∷ asked) answers after trace chain x among refused =
    ⊎_elim
    (λ (is : x ≡ chain.3).
    let here = subst IsRefusedPull is refused in
    let was = only_pulls route before chain.0 chain.1 chain.3 (refused_failed chain.3 here) line chain.5 in
    let told = pull_told before.client.number route before.client.log was.0 chain.0.client.log chain.1 was.1 (subst IsRefusedPull was.2 here) in
    (was.0, subst (λ (t : Trace). IsIn was.0 t.pulls) (sym chain.8) (IsIn-left was.0 chain.1.pulls chain.2.pulls told), is ∙ was.2))
    (λ (later : IsIn x chain.4).
    let told = session_pulls route chain.0 asked chain.4 after chain.2 chain.6 x later refused in
    (told.0, subst (λ (t : Trace). IsIn told.0 t.pulls) (sym chain.8) (IsIn-right told.0 chain.1.pulls chain.2.pulls told.1), told.2))
    (subst (IsIn x) chain.7 among)

-- ---- by its end

-- a pull that did not meet another last number is not answered so
pub answers_no_other : (end : PullEnd) (last : ℕ) → Some (answers.OtherLast last) ≡ pull_answer end → IsNotOtherLast end → ⊥
answers_no_other (pulls.OtherLast other acked) last is never = never other acked refl
answers_no_other (pulls.Pulled count) last is never = cc is
answers_no_other (pulls.Pending count) last is never = cc is
answers_no_other (pulls.Older path theirs ours) last is never = cc is
answers_no_other pulls.Unanswered last is never = cc is
answers_no_other pulls.KeepFault last is never = cc is
answers_no_other pulls.Memory last is never = cc is

-- and one that did not meet older rows is not answered so
pub answers_no_older : (end : PullEnd) (path : FilePath) (theirs ours : ℕ) → Some (answers.Older path theirs ours) ≡ pull_answer end → IsNotOlder end → ⊥
answers_no_older (pulls.Older older lower higher) path theirs ours is never = never older lower higher refl
answers_no_older (pulls.Pulled count) path theirs ours is never = cc is
answers_no_older (pulls.Pending count) path theirs ours is never = cc is
answers_no_older (pulls.OtherLast last acked) path theirs ours is never = cc is
answers_no_older pulls.Unanswered path theirs ours is never = cc is
answers_no_older pulls.KeepFault path theirs ours is never = cc is
answers_no_older pulls.Memory path theirs ours is never = cc is
