-- A command that is run: its job on the client's tree is handed to a runner, and what the run changed is logged.
use Rattle.std.specs.Prelude.{◌≡◌, ◌≢◌, ◌⊎◌, Bool, true, false, List, [], ◌∷◌, ℕ, find, Option, None, Some, Result, Ok, Err}
use Rattle.sha2.specs.Sha256.{sha256}
use Rattle.tree_values.specs.declared.node.Effect.{Effect}
use Rattle.cmd_capture.specs.declared.command.Command.{Command}
use Rattle.cmd_capture.specs.declared.job.Job.{Job}
use Rattle.cmd_capture.specs.declared.runner.Run.{Run}
use Rattle.cmd_capture.specs.Runs.{RunnerTelling, HasRun}
use Rattle.cmd_capture.specs.Rows.{AreLegal, read_rows}
use Rattle.cmd_capture.specs.Spelling.{job as spelled_job}
use Rattle.work_area.specs.declared.rows.RowsFault.TheVariants as rows_faults
use Rattle.work_area.specs.Jobs.{job_of}
use Rattle.work_area.specs.Outcomes.{IsRowsFault}
use Rattle.work_area.specs.Changes.{changes, clashes, first_path}
use Rattle.mod_log.specs.declared.origin.Origin.{Origin}
use Rattle.mod_log.specs.declared.log.Entry.{Entry}
use Rattle.mod_log.specs.declared.log.LogError.{LogError}
use Rattle.mod_log.specs.Log.{Log, tree_of}
use Rattle.mod_log.specs.Append.{next_entry, appended}
use Rattle.client_core.specs.declared.running.RunEnd.{RunEnd}
use Rattle.client_core.specs.declared.running.RunEnd.TheVariants as ends
use Rattle.client_core.specs.Trace.{Trace, nothing, followed, logging, running}

-- ---- a run, and what it changed

-- a run of the command's job on the log's tree, in this folder
pub record IsRunOf (work : List ℕ) (command : Command) (log : Log) (run : Run) : Type 0 where
  pub work_is : run.work ≡ work
  pub job_is : job_of (tree_of log) command ≡ Ok run.job

-- what a run with legal rows changed
abbrev pub changes_of : Run → List Effect
changes_of run = changes run.job.rows (read_rows run.outcome.rows)

-- the first change that clashes with what stands beside the job
abbrev pub first_clash : Log → Run → Option Effect
first_clash log run = find (clashes (tree_of log) run.job.rows) (changes_of run)

-- what the entry of a run tells of it: the command, the print of the job, and the status
abbrev pub origin_of : Command → Run → Origin
origin_of command run = record { command = command; job_print = sha256 (spelled_job run.job); status = run.outcome.status }

-- the entry that a run makes
abbrev pub run_entry : Command → Run → Log → Entry
run_entry command run log = next_entry (Some (origin_of command run)) (changes_of run) log

-- the log with the entry of a run, or its refusal
abbrev pub run_logged : Command → Run → Log → Result Log LogError
run_logged command run log = appended (Some (origin_of command run)) (changes_of run) log

-- the rows that the run left are legal, it changed something, and no change clashes
pub record IsLoggable (log : Log) (run : Run) : Type 0 where
  pub legal : AreLegal run.outcome.rows
  pub some : changes_of run ≢ []
  pub clear : first_clash log run ≡ None

-- ---- turns

-- What is made of a run: the rows that it left may be odd, it may have changed nothing, or a change clashes. Else its changes are logged as
-- the next entry, or refused.
abbrev pub RanEnd : Command → Log → Run → RunEnd → Log → Type 0
RanEnd command before run (ends.OddTree i) after = IsRowsFault run.outcome.rows (rows_faults.OddTree i) × (after ≡ before)
RanEnd command before run (ends.Nothing status) after =
    AreLegal run.outcome.rows × (changes_of run ≡ []) × (status ≡ run.outcome.status) × (after ≡ before)
RanEnd command before run (ends.Clash path) after =
    AreLegal run.outcome.rows × ((effect : Effect) × (first_clash before run ≡ Some effect) × (path ≡ first_path effect)) × (after ≡ before)
RanEnd command before run (ends.Refused refusal) after =
    IsLoggable before run × (run_logged command run before ≡ Err refusal) × (after ≡ before)
RanEnd command before run (ends.Logged seq status) after =
    IsLoggable before run × (run_logged command run before ≡ Ok after) × (seq ≡ (run_entry command run before).seq)
    × (status ≡ run.outcome.status)
RanEnd command before run end after = ⊥

-- the run, and behind it the entry that is logged
abbrev pub ran_trace : Command → Log → Run → RunEnd → Log → Trace
ran_trace command before run (ends.Logged seq status) after = followed (running (run ∷ []) 0) (logging (run_entry command run before) after)
ran_trace command before run end after = running (run ∷ []) 0

-- The command may have no job on the log's tree, or the runner fails. Else there is one run.
abbrev pub RunTurn : List ℕ → Command → Log → RunEnd → Log → Trace → Type 0
RunTurn work command before (ends.NoJob fault) after trace =
    (job_of (tree_of before) command ≡ Err fault) × (after ≡ before) × (trace ≡ nothing)
RunTurn work command before ends.NotRun after trace =
    ((job : Job) × (job_of (tree_of before) command ≡ Ok job)) × (after ≡ before) × (trace ≡ running [] 1)
RunTurn work command before end after trace =
    (run : Run) × IsRunOf work command before run × RanEnd command before run end after × (trace ≡ ran_trace command before run end after)

-- nothing was run, or there was a run and nothing was made of it
abbrev pub BreaksRun : List ℕ → Command → Log → Trace → Type 0
BreaksRun work command before trace = (trace ≡ nothing) ⊎ ((run : Run) × IsRunOf work command before run × (trace ≡ running (run ∷ []) 0))

-- a command that had its turn, or was broken off for want of memory
abbrev pub RunEnds : List ℕ → Command → Log → RunEnd → Log → Trace → Type 0
RunEnds work command before end after trace =
    RunTurn work command before end after trace ⊎ ((end ≡ ends.Memory) × (after ≡ before) × BreaksRun work command before trace)

-- whether a run that ends so changed the log
abbrev pub has_logged : RunEnd → Bool
has_logged (ends.Logged seq status) = true
has_logged end = false

-- ---- over any runner

-- What a command came to between two moments of a runner, which went on by just the runs of this.
pub record RunsCommand (work : List ℕ) (command : Command) (before : Log) (end : RunEnd) (after : Log) (old new : RunnerTelling) :
    Type 0 where
  pub trace : Trace
  pub turn : RunEnds work command before end after trace
  pub has_run : HasRun trace.runs trace.missed old new
