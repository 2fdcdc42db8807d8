-- What the objects tell that a session borrows, and what is said of the session between two moments of them.
use Rattle.std.specs.Prelude.{◌≡◌, ℕ, ◌≤◌, List, Option, Result, IfOk}
use Rattle.outside.specs.Outside.{CountsFault}
use Rattle.outside.specs.Keeper.{Images}
use Rattle.outside.specs.declared.sink.Sink.{Ghosts as SinkWords}
use Rattle.outside.specs.declared.keeper.Keeper.{Ghosts as KeeperWords}
use Rattle.mod_log.specs.Log.{Log}
use Rattle.cmd_capture.specs.declared.runner.Runner.{Ghosts as RunnerWords}
use Rattle.cmd_capture.specs.Runs.{telling}
use Rattle.world_rules.specs.declared.link.Link.{Ghosts as LinkWords}
use Rattle.client_core.specs.declared.route.Route.{Route}
use Rattle.client_core.specs.Trace.{Trace}
use Rattle.client_core.specs.Keeping.{IsKeptReady}
use Rattle.client_session.specs.Session.{Sitting, state_of}
use Rattle.client_session.specs.Doing.{Telling, beside}
use Rattle.client_lines.specs.declared.input.InputEnd.{InputEnd}
use Rattle.client_lines.specs.declared.run.Stop.{Stop}
use Rattle.client_lines.specs.declared.run.Stop.TheVariants as stops
use Rattle.client_lines.specs.declared.objects.SessionObjects.{SessionObjects}
use Rattle.client_lines.specs.InsideRun.{WentNoting, AnswersLines, AnswersInput, RunAnswers}

-- One moment of a session's objects: its client's route, what is written and what is kept, what the link and the runner tell, and
-- how often the sink and the keeper failed.
pub record ObjectsTelling : Type 0 where
  pub route : Route
  pub written : Option (List ℕ)
  pub images : Option Images
  pub told : Telling
  pub sink : ℕ
  pub keeper : ℕ

-- what objects tell, by what each of them tells of itself
abbrev pub objects_tell : {O K R L : Type 0} → SinkWords O → KeeperWords K → RunnerWords R → LinkWords L → SessionObjects O K R L
    → ObjectsTelling
objects_tell output keeper runner link objects = record {
  route = objects.route.now;
  written = output.written objects.output.now;
  images = keeper.images objects.keeper.now;
  told = beside (link.tells objects.link.now) (telling (runner.runs objects.runner.now) (runner.faults objects.runner.now));
  sink = output.faults objects.output.now;
  keeper = keeper.faults objects.keeper.now;
}

-- the same objects are borrowed at two moments
pub record SameObjects {O K R L : Type 0} (old new : SessionObjects O K R L) : Type 0 where
  pub output : new.output.ghost_name ≡ old.output.ghost_name
  pub keeper : new.keeper.ghost_name ≡ old.keeper.ghost_name
  pub runner : new.runner.ghost_name ≡ old.runner.ghost_name
  pub link : new.link.ghost_name ≡ old.link.ghost_name

-- the session's client is kept there, and may go on
abbrev pub KeepsClient : ObjectsTelling → Sitting → Type 0
KeepsClient told session = IsKeptReady told.images told.route.image session.client

-- Between two moments of its objects a session did what these turns say. Its client is kept where nothing stopped it, its route is
-- the same, no count of troubles or faults falls, and the sink and the keeper failed once where that stopped it, and else never.
pub record SessionWent {T : Type 0} (turns : Log → Trace → Type 0) (result : Result T Stop) (before after : Sitting)
    (old new : ObjectsTelling) : Type 0 where
  pub did : WentNoting old.route result turns before after old.images new.images old.told new.told
  pub kept : IfOk result (λ done. KeepsClient new after)
  pub route : new.route ≡ old.route
  pub later : old.told.link.troubles ≤ new.told.link.troubles
  pub runner_later : old.told.runner.faults ≤ new.told.runner.faults
  pub sink : CountsFault stops.Sink old.sink new.sink result
  pub keeper : CountsFault stops.Keeper old.keeper new.keeper result

-- it answered these lines, or was stopped in one
abbrev pub SessionAnswered : {T : Type 0} → List (List ℕ) → Result T Stop → Sitting → Sitting → ObjectsTelling → ObjectsTelling → Type 0
SessionAnswered lines result before after old new =
    SessionWent (AnswersLines old.route (state_of before) lines old.written new.written result (state_of after)) result before after old new

-- it answered the lines of an input, of which so much was left before and after
abbrev pub SessionAnsweredInput : Option (List ℕ) → Option (List ℕ) → Result InputEnd Stop → Sitting → Sitting → ObjectsTelling
    → ObjectsTelling → Type 0
SessionAnsweredInput left rest result before after old new =
    SessionWent (AnswersInput old.route (state_of before) left rest old.written new.written result (state_of after)) result before after
    old new

-- and it closed the output
abbrev pub SessionRan : Option (List ℕ) → Option (List ℕ) → Result InputEnd Stop → Sitting → Sitting → ObjectsTelling → ObjectsTelling
    → Type 0
SessionRan left rest result before after old new =
    SessionWent (RunAnswers old.route (state_of before) left rest old.written new.written result (state_of after)) result before after
    old new
