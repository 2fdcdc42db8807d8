-- What one more run adds to those that a runner tells, and a script of runs, as contracts see it.
use Rattle.std.specs.Prelude.{◌≡◌, ◌⊎◌, ℕ, List, [], ◌∷◌, ◌++◌, drop, map, Option, Some, None, option_map, Result, Ok, Err}
use Rattle.outside.specs.Outside.{raised}
use Rattle.outside.specs.Memory.{one_more}
use Rattle.file_paths.specs.Path.{path_text}
use Rattle.cmd_capture.specs.Job.{Job}
use Rattle.cmd_capture.specs.declared.job.JobRow.{JobRow}
use Rattle.cmd_capture.specs.declared.job.RawRow.{RawRow}
use Rattle.cmd_capture.specs.declared.job.Outcome.{Outcome}
use Rattle.cmd_capture.specs.declared.runner.Run.{Run}
use Rattle.cmd_capture.specs.declared.runner.RunError.{RunError}
use Rattle.cmd_capture.specs.declared.runner.RunError.TheVariants.{Failed, Memory}
use Rattle.cmd_capture.specs.declared.script.ScriptAnswer.{ScriptAnswer}
use Rattle.cmd_capture.specs.declared.script.ScriptAnswer.TheVariants.{Give, Fail}

-- the run of this job that gave the outcome; a refused one is no run
abbrev pub runs_of : {E : Type 0} → List ℕ → Job → Result Outcome E → List Run
runs_of work job (Ok outcome) = record { work = work; job = job; outcome = outcome } ∷ []
runs_of work job (Err e) = []

-- the runs after a call are those before it and the one that it gave
abbrev pub AddsRun : {E : Type 0} → List ℕ → Job → Result Outcome E → List Run → List Run → Type 0
AddsRun work job result old new = new ≡ old ++ runs_of work job result

-- between two moments of a runner it was asked once, by its counts of calls then
abbrev pub IsAskedOnce : ℕ → ℕ → Type 0
IsAskedOnce before now = now ≡ raised 1 before

-- the same, or it was not asked
abbrev pub IsAskedAtMostOnce : ℕ → ℕ → Type 0
IsAskedAtMostOnce before now = (now ≡ before) ⊎ IsAskedOnce before now

-- ---- several runs

-- What a runner tells of itself: its runs so far, where it tells them, and how often it failed. That count stands still at
-- the end of its type.
pub record RunnerTelling : Type 0 where
  pub runs : Option (List Run)
  pub faults : ℕ

-- a runner that tells so
abbrev pub telling : Option (List Run) → ℕ → RunnerTelling
telling runs faults = record { runs = runs; faults = faults }

-- Between two moments of a runner it made these runs, in order, and failed so often.
pub record HasRun (runs : List Run) (failed : ℕ) (old new : RunnerTelling) : Type 0 where
  pub told : new.runs ≡ option_map (λ list. list ++ runs) old.runs
  pub counted : new.faults ≡ raised failed old.faults

-- ---- a script

pub record InScript : Type 0 where
  -- what the next runs do
  pub answers : List ScriptAnswer
  -- the runs that were given
  pub runs : List Run
  -- how many runs failed
  pub faults : ℕ
  -- how many were asked for
  pub calls : ℕ

-- a row of the job, as a runner gives it
abbrev pub raw_row : JobRow → RawRow
raw_row row = record { path = path_text row.path; node = row.node }

-- status 0 and the job's own rows
abbrev pub unchanged : Job → Outcome
unchanged job = record { status = 0; rows = map raw_row job.rows }

-- the outcome of the next run, which a failing one has not
abbrev pub outcome_of : List ScriptAnswer → Job → Option Outcome
outcome_of [] job = Some (unchanged job)
outcome_of (Give outcome ∷ answers) job = Some outcome
outcome_of (Fail ∷ answers) job = None

-- the script after a run; where memory ran out only the call is counted
abbrev pub after_run : InScript → List ℕ → Job → Result Outcome RunError → InScript
after_run script work job (Ok outcome) = record {
  answers = drop 1 script.answers;
  runs = script.runs ++ record { work = work; job = job; outcome = outcome } ∷ [];
  faults = script.faults;
  calls = one_more script.calls;
}
after_run script work job (Err Failed) = record {
  answers = drop 1 script.answers;
  runs = script.runs;
  faults = one_more script.faults;
  calls = one_more script.calls;
}
after_run script work job (Err Memory) = record script { calls = one_more script.calls }
