-- A session: what each line logs, asks of the server and answers. It knows no memory and no keeper, and nothing of how its input comes.
use Rattle.std.specs.Prelude.{◌≡◌, ◌⊎◌, ℕ, Bool, true, false, List, [], ◌∷◌, ◌++◌, length, Option, None, Some, Result, Ok, Err}
use Rattle.file_paths.specs.Path.{FilePath, resolved}
use Rattle.file_paths.specs.declared.path.PathError.{PathError}
use Rattle.file_paths.specs.declared.path.PathError.TheVariants as paths
use Rattle.tree_values.specs.declared.node.Effect.{Effect}
use Rattle.tree_values.specs.declared.node.Effect.TheVariants as effects
use Rattle.cmd_capture.specs.declared.command.Command.{Command}
use Rattle.cmd_capture.specs.declared.capturing.CaptureError.{CaptureError}
use Rattle.cmd_capture.specs.declared.capturing.CaptureError.TheVariants as captures
use Rattle.cmd_capture.specs.Capture.{capture}
use Rattle.work_area.specs.declared.jobs.JobError.{JobError}
use Rattle.work_area.specs.declared.jobs.JobError.TheVariants as jobs
use Rattle.mod_log.specs.declared.log.LogError.{LogError}
use Rattle.mod_log.specs.declared.log.LogError.TheVariants as logs
use Rattle.mod_log.specs.Log.{Log, tree_of}
use Rattle.client_core.specs.declared.route.Route.{Route}
use Rattle.client_core.specs.declared.syncing.SyncEnd.{SyncEnd}
use Rattle.client_core.specs.declared.syncing.SyncEnd.TheVariants as ends
use Rattle.client_core.specs.declared.pulling.PullEnd.{PullEnd}
use Rattle.client_core.specs.declared.pulling.PullEnd.TheVariants as pulls
use Rattle.client_core.specs.declared.running.RunEnd.{RunEnd}
use Rattle.client_core.specs.declared.running.RunEnd.TheVariants as runs
use Rattle.client_core.specs.Client.{Client}
use Rattle.client_core.specs.Trace.{Trace, nothing, followed, IsLastOrBefore}
use Rattle.client_core.specs.Logging.{LocalTurn}
use Rattle.client_core.specs.Running.{RunTurn, BreaksRun}
use Rattle.client_core.specs.Syncing.{SyncTurn, BreaksSync}
use Rattle.client_core.specs.Pulling.{PullTurn, BreaksPull}
use Rattle.shell_lang.specs.Commands.{put_content}
use Rattle.shell_lang.specs.Texts.{text_of, HasNoMemory}
use Rattle.shell_lang.specs.declared.line.Line.{Line}
use Rattle.shell_lang.specs.declared.line.Line.TheVariants.{Empty, Put, Make, Remove, Move, Cat, List as Ls, Enter, Run as RunLine, Status}
use Rattle.shell_lang.specs.declared.line.Line.TheVariants.{Sync, Pull, Quit}
use Rattle.shell_lang.specs.declared.line.LineError.{LineError}
use Rattle.shell_lang.specs.declared.answer.LineAnswer.{LineAnswer}
use Rattle.shell_lang.specs.declared.answer.LineAnswer.TheVariants as answers
use Rattle.shell_lang.specs.declared.answer.Fault.TheVariants as faults
use Rattle.client_session.specs.Looking.{cat_answer, list_answer, enter_answer, folder_by}

-- a client as turns see it: its number and its log
pub record ClientState : Type 0 where
  pub number : ℕ
  pub log : Log

-- what a line finds and leaves: the client, and the current folder
pub record SessionState : Type 0 where
  pub client : ClientState
  pub folder : FilePath

-- a session between two lines: the client, with what it kept last, and the current folder
pub record Sitting : Type 0 where
  pub client : Client
  pub folder : FilePath

-- what turns see of a client, and of a session
abbrev pub seen : Client → ClientState
seen client = record { number = client.number; log = client.log }

abbrev pub state_of : Sitting → SessionState
state_of sitting = record { client = seen sitting.client; folder = sitting.folder }

-- the client of this number with this log, in the root folder
abbrev pub opened : ℕ → Log → SessionState
opened number log = record { client = record { number = number; log = log }; folder = [] }

-- the state once the client has this log
abbrev pub with_log : SessionState → Log → SessionState
with_log state log = record { client = record { number = state.client.number; log = log }; folder = state.folder }

-- the state once the client is in this folder
abbrev pub with_folder : SessionState → FilePath → SessionState
with_folder state folder = record { client = state.client; folder = folder }

-- ---- what a line logs

abbrev pub from_one : Result FilePath PathError → (FilePath → Effect) → Result Effect PathError
from_one (Ok path) effect = Ok (effect path)
from_one (Err refusal) effect = Err refusal

abbrev pub from_two : Result FilePath PathError → Result FilePath PathError → (FilePath → FilePath → Effect) → Result Effect PathError
from_two (Ok from) to effect = from_one to (effect from)
from_two (Err refusal) to effect = Err refusal

-- The effect that a line names in the current folder, or the first refusal of its path words. A text that is put gets a line end.
abbrev pub put_effect : FilePath → List ℕ → List ℕ → Result Effect PathError
put_effect folder word text = from_one (resolved folder word) (λ path. effects.Put path (put_content text))

abbrev pub make_effect : FilePath → List ℕ → Result Effect PathError
make_effect folder word = from_one (resolved folder word) effects.Make

abbrev pub remove_effect : FilePath → List ℕ → Result Effect PathError
remove_effect folder word = from_one (resolved folder word) effects.Remove

abbrev pub move_effect : FilePath → List ℕ → List ℕ → Result Effect PathError
move_effect folder from to = from_two (resolved folder from) (resolved folder to) effects.Move

-- ---- turns

-- how a sync is answered; one that was broken off has no answer
abbrev pub sync_answer : SyncEnd → Option LineAnswer
sync_answer (ends.Synced seq) = Some (answers.Synced seq)
sync_answer (ends.Stale seq path theirs ours) = Some (answers.Stale seq path theirs ours)
sync_answer (ends.Unfit seq index fault) = Some (answers.Unfit seq index fault)
sync_answer (ends.Full seq index fault) = Some (answers.Full seq index fault)
sync_answer (ends.Unanswered seq) = Some (answers.Unanswered seq)
sync_answer (ends.Behind seq last) = Some (answers.Behind seq last)
sync_answer ends.KeepFault = None
sync_answer ends.Memory = None

-- how a pull is answered: one that waits for pending entries is refused; one that was broken off has no answer
abbrev pub pull_answer : PullEnd → Option LineAnswer
pull_answer (pulls.Pulled count) = Some (answers.Pulled count)
pull_answer (pulls.Pending count) = Some (answers.Refused (faults.Pending count))
pull_answer (pulls.OtherLast last acked) = Some (answers.OtherLast last)
pull_answer (pulls.Older path theirs ours) = Some (answers.Older path theirs ours)
pull_answer pulls.Unanswered = Some answers.PullUnanswered
pull_answer pulls.KeepFault = None
pull_answer pulls.Memory = None

-- how one effect is answered: by the number of its entry, or by the refusal; want of memory has no answer
abbrev pub local_answer : Result ℕ LogError → Option LineAnswer
local_answer (Ok seq) = Some (answers.Logged seq)
local_answer (Err logs.Memory) = None
local_answer (Err refusal) = Some (answers.Refused (faults.Log refusal))

-- how the refusal of a path word is answered
abbrev pub word_answer : PathError → Option LineAnswer
word_answer paths.Memory = None
word_answer refusal = Some (answers.Refused (faults.Path refusal))

-- how words that make no command are answered
abbrev pub capture_answer : CaptureError → Option LineAnswer
capture_answer captures.Memory = None
capture_answer refusal = Some (answers.Refused (faults.Capture refusal))

-- how a command without a job is answered
abbrev pub job_answer : JobError → Option LineAnswer
job_answer jobs.Memory = None
job_answer refusal = Some (answers.Refused (faults.Job refusal))

-- how a run is answered; want of memory has no answer
abbrev pub run_answer : RunEnd → Option LineAnswer
run_answer (runs.Logged seq status) = Some (answers.Ran seq status)
run_answer (runs.Nothing status) = Some (answers.Nothing status)
run_answer (runs.NoJob refusal) = job_answer refusal
run_answer runs.NotRun = Some answers.NotRun
run_answer (runs.OddTree i) = Some (answers.OddTree i)
run_answer (runs.Clash path) = Some (answers.Clash path)
run_answer (runs.Refused refusal) = local_answer (Err refusal)
run_answer runs.Memory = None

-- the acknowledged number, and how many entries are pending
abbrev pub status_answer : SessionState → LineAnswer
status_answer state = answers.Status state.client.log.acked (length state.client.log.pending)

-- it is answered so, and nothing else is done
abbrev pub Tells : LineAnswer → SessionState → Option LineAnswer → SessionState → Trace → Type 0
Tells told before answer after trace = (answer ≡ Some told) × (after ≡ before) × (trace ≡ nothing)

-- it has no answer, and nothing is done
abbrev pub IsSilent : SessionState → Option LineAnswer → SessionState → Trace → Type 0
IsSilent before answer after trace = (answer ≡ None) × (after ≡ before) × (trace ≡ nothing)

-- an effect is logged or refused, or a path word was
abbrev pub LogTurn : Result Effect PathError → SessionState → Option LineAnswer → SessionState → Trace → Type 0
LogTurn (Ok effect) before answer after trace =
    (result : Result ℕ LogError) × LocalTurn (effect ∷ []) before.client.log result after.client.log trace
    × (after ≡ with_log before after.client.log) × (answer ≡ local_answer result)
LogTurn (Err refusal) before answer after trace = (answer ≡ word_answer refusal) × (after ≡ before) × (trace ≡ nothing)

-- the current folder is another one, or the word is refused
abbrev pub EnterTurn : LineAnswer → SessionState → Option LineAnswer → SessionState → Trace → Type 0
EnterTurn told before answer after trace =
    (answer ≡ Some told) × (after ≡ with_folder before (folder_by told before.folder)) × (trace ≡ nothing)

-- a command is run once at most, and what it changed is logged or refused; or the words make none
abbrev pub CommandTurn : Route → Result Command CaptureError → SessionState → Option LineAnswer → SessionState → Trace → Type 0
CommandTurn route (Ok command) before answer after trace =
    (end : RunEnd) × RunTurn route.work command before.client.log end after.client.log trace
    × (after ≡ with_log before after.client.log) × (answer ≡ run_answer end)
CommandTurn route (Err refusal) before answer after trace = (answer ≡ capture_answer refusal) × (after ≡ before) × (trace ≡ nothing)

-- What a line comes to, by what it reads as: the state before it, its answer, the state after it, and what was done.
abbrev pub LineTurn : Route → SessionState → Result Line LineError → Option LineAnswer → SessionState → Trace → Type 0
LineTurn route before (Err refusal) answer after trace = Tells (answers.Refused (faults.Line refusal)) before answer after trace
LineTurn route before (Ok Empty) answer after trace = IsSilent before answer after trace
LineTurn route before (Ok (Put word text)) answer after trace = LogTurn (put_effect before.folder word text) before answer after trace
LineTurn route before (Ok (Make word)) answer after trace = LogTurn (make_effect before.folder word) before answer after trace
LineTurn route before (Ok (Remove word)) answer after trace = LogTurn (remove_effect before.folder word) before answer after trace
LineTurn route before (Ok (Move from to)) answer after trace = LogTurn (move_effect before.folder from to) before answer after trace
LineTurn route before (Ok (Cat word)) answer after trace =
    Tells (cat_answer (tree_of before.client.log) before.folder word) before answer after trace
LineTurn route before (Ok (Ls word)) answer after trace =
    Tells (list_answer (tree_of before.client.log) before.folder word) before answer after trace
LineTurn route before (Ok (Enter word)) answer after trace =
    EnterTurn (enter_answer (tree_of before.client.log) before.folder word) before answer after trace
LineTurn route before (Ok (RunLine words)) answer after trace = CommandTurn route (capture words before.folder) before answer after trace
LineTurn route before (Ok Status) answer after trace = Tells (status_answer before) before answer after trace
LineTurn route before (Ok Sync) answer after trace =
    (end : SyncEnd) × SyncTurn before.client.number route before.client.log end after.client.log trace
    × (after ≡ with_log before after.client.log) × (answer ≡ sync_answer end)
LineTurn route before (Ok Pull) answer after trace =
    (end : PullEnd) × PullTurn before.client.number route before.client.log end after.client.log trace
    × (after ≡ with_log before after.client.log) × (answer ≡ pull_answer end)
LineTurn route before (Ok Quit) answer after trace = IsSilent before answer after trace

-- the turns of lines, one after the other, and what was answered to each
abbrev pub Chain : Route → SessionState → List (Result Line LineError) → List (Option LineAnswer) → SessionState → Trace → Type 0
Chain route before [] answers after trace = (answers ≡ []) × (after ≡ before) × (trace ≡ nothing)
Chain route before (line ∷ lines) answers after trace =
    (middle : SessionState) × (first rest : Trace) × (answer : Option LineAnswer) × (more : List (Option LineAnswer))
    × LineTurn route before line answer middle first
    × Chain route middle lines more after rest × (answers ≡ answer ∷ more) × (trace ≡ followed first rest)

-- ---- what is shown of answers

-- the text of an answer, which no want of memory is
abbrev pub IsText : Option LineAnswer → List ℕ → Type 0
IsText None text = text ≡ []
IsText (Some answer) text = HasNoMemory answer × (text ≡ text_of answer)

-- the texts of answers, one after the other
abbrev pub AreTexts : List (Option LineAnswer) → List ℕ → Type 0
AreTexts [] text = text ≡ []
AreTexts (answer ∷ answers) text = (first rest : List ℕ) × IsText answer first × AreTexts answers rest × (text ≡ first ++ rest)

-- ---- syncs that do not come through

-- a sync that leaves entries pending is answered so
abbrev pub LeavesPending : Option LineAnswer → Type 0
LeavesPending (Some (answers.Stale seq path theirs ours)) = Unit {0}
LeavesPending (Some (answers.Unfit seq index fault)) = Unit {0}
LeavesPending (Some (answers.Full seq index fault)) = Unit {0}
LeavesPending (Some (answers.Unanswered seq)) = Unit {0}
LeavesPending (Some (answers.Behind seq last)) = Unit {0}
LeavesPending answer = ⊥

-- ---- pulls that replace the base

-- whether a line that is answered so took rows
abbrev pub has_pulled : Result Line LineError → Option LineAnswer → Bool
has_pulled (Ok Pull) (Some (answers.Pulled count)) = true
has_pulled line answer = false

-- ---- lines that are not run

-- whether a line is answered `not run`
abbrev pub is_unrun : Option LineAnswer → Bool
is_unrun (Some answers.NotRun) = true
is_unrun answer = false

-- ---- syncs and pulls that are not answered

-- whether a sync or a pull is answered `unanswered`
abbrev pub is_unanswered : Option LineAnswer → Bool
is_unanswered (Some (answers.Unanswered seq)) = true
is_unanswered (Some answers.PullUnanswered) = true
is_unanswered answer = false

-- ---- lines that are broken off, since memory was wanted or a keeping was refused

-- a command may have been run, and nothing was made of it
abbrev pub BreaksCommand : Route → Result Command CaptureError → Log → Log → Trace → Type 0
BreaksCommand route (Ok command) before after trace = BreaksRun route.work command before trace × (after ≡ before)
BreaksCommand route (Err refusal) before after trace = ⊥

-- a run, a sync or a pull is broken off in between
abbrev pub BreaksOff : Route → SessionState → Result Line LineError → Log → Trace → Type 0
BreaksOff route before (Ok (RunLine words)) after trace = BreaksCommand route (capture words before.folder) before.client.log after trace
BreaksOff route before (Ok Sync) after trace = BreaksSync before.client.number route before.client.log after trace
BreaksOff route before (Ok Pull) after trace = BreaksPull before.client.number route before.client.log after trace
BreaksOff route before line after trace = ⊥

-- the line does nothing, or all but answer, or is broken off in between
abbrev pub Broken : Route → SessionState → Result Line LineError → SessionState → Trace → Type 0
Broken route before line after trace =
    ((after ≡ before) × (trace ≡ nothing))
    ⊎ (((answer : Option LineAnswer) × LineTurn route before line answer after trace)
    ⊎ (BreaksOff route before line after.client.log trace × (after ≡ with_log before after.client.log)))

-- The turns of some lines, the last of which is broken off, and what was answered to those before it. What is kept is the log after
-- the last change of this line, or the one before that change: all that was answered is kept.
abbrev pub BreaksChain : Route → SessionState → List (Result Line LineError) → List (Option LineAnswer) → SessionState → Log → Trace
    → Type 0
BreaksChain route before lines answers after kept trace =
    (handled : List (Result Line LineError)) × (last : Result Line LineError) × (middle : SessionState) × (earlier broken : Trace)
    × (lines ≡ handled ++ last ∷ [])
    × Chain route before handled answers middle earlier × Broken route middle last after broken
    × IsLastOrBefore middle.client.log broken.changes kept
    × (trace ≡ followed earlier broken)
