-- How an operation is tried, from what its parts did.
use Rattle.std.proofs.Common.{◌≡◌, inl, inr, ℕ, Bool, List, [], ◌∷◌, ◌++◌, Option, Some, None, Result, Ok, Err, refl, sym, ap, ◌∙◌, subst, arith}
use Rattle.std.specs.Prelude.{option_map}
use Rattle.std.proofs.lemmas.List.{append-nil}
use Rattle.outside.specs.Outside.{Told, raised, CountsFault}
use Rattle.tree_values.specs.Tree.{Volume}
use Rattle.cmd_capture.specs.declared.job.Job.{Job}
use Rattle.cmd_capture.specs.declared.job.Outcome.{Outcome}
use Rattle.cmd_capture.specs.declared.runner.Run.{Run}
use Rattle.cmd_capture.specs.declared.runner.RunError.{RunError}
use Rattle.cmd_capture.specs.declared.runner.RunError.TheVariants as run_errors
use Rattle.cmd_capture.specs.Runs.{AddsRun, RunnerTelling, HasRun, telling}
use Rattle.mod_log.specs.declared.sketching.SketchEntry.{SketchEntry}
use Rattle.wire_frames.specs.declared.cause.Cause.{Cause}
use Rattle.wire_frames.specs.declared.cause.Cause.TheVariants.{NotRun, NoMemory}
use Rattle.wire_frames.specs.declared.message.Message.{Message}
use Rattle.wire_frames.specs.declared.parts.Part.{Part}
use Rattle.wire_frames.specs.declared.message.Message.TheVariants as messages
use Rattle.surrogate_core.specs.declared.step.NextStep.{NextStep}
use Rattle.surrogate_core.specs.declared.step.NextStep.TheVariants as steps
use Rattle.surrogate_core.specs.declared.machine.Stage.{Stage}
use Rattle.surrogate_core.specs.declared.machine.Stage.TheVariants.{Idle as IsIdle}
use Rattle.surrogate_core.specs.declared.replaying.Held.{Held}
use Rattle.surrogate_core.specs.Handling.{Phase, Idle, Fetching, Holding, Machine, Reaction, idle, declining, job_for, after_verdict, held_by, AfterJob, runs_of_job, Tries, HandlesReply}
use Rattle.surrogate_core.specs.Serving.{Steps, failed_step}
use Rattle.surrogate_core.specs.Inside.{IsJudgedReplay, IsConcluded, Starves, phase_of, reaction_of, snapshot_rows}

-- ---- what the runner tells

raised_none : (count : ℕ) → count ≡ raised 0 count
raised_none count = omega arith

pub runs_none : (runner : RunnerTelling) → HasRun [] 0 runner runner
runs_none runner = record { told = by runner.runs; counted = raised_none runner.faults }
  where
    by : (runs : Option (List Run)) → runs ≡ option_map (λ (list : List Run). list ++ []) runs
    by None = refl
    by (Some list) = ap Some (sym (append-nil list))

told_runs : (runs now : Option (List Run)) (more : List Run) → Told runs now (λ old new. new ≡ old ++ more) → now ≡ option_map (λ list. list ++ more) runs
told_runs None now more told = told
told_runs (Some old) (Some new) more told = ap Some told
told_runs (Some old) None more told = absurd told

module _ (work : List ℕ) (job : Job) (runs now : Option (List Run)) (faults count : ℕ) where
  pub ran_once : (outcome : Outcome) → Told runs now (AddsRun {E = RunError} work job (Ok outcome)) → CountsFault {E = RunError} run_errors.Failed faults count (Ok outcome)
      → HasRun (record { work = work; job = job; outcome = outcome } ∷ []) 0 (telling runs faults) (telling now count)
  ran_once outcome told counts = record { told = told_runs runs now _ told; counted = counts.never (λ is. absurd (cc)) ∙ raised_none faults }

  ran_failed : Told runs now (AddsRun {E = RunError} work job (Err run_errors.Failed)) → CountsFault {T = Outcome} run_errors.Failed faults count (Err run_errors.Failed)
      → HasRun [] 1 (telling runs faults) (telling now count)
  ran_failed told counts = record { told = told_runs runs now [] told; counted = counts.once refl }

  pub ran_refused : (error : RunError) → error ≡ run_errors.Failed → Told runs now (AddsRun {E = RunError} work job (Err error)) → CountsFault {T = Outcome} run_errors.Failed faults count (Err error)
      → HasRun [] 1 (telling runs faults) (telling now count)
  ran_refused error is told counts =
      ran_failed (subst (λ (e : RunError). Told runs now (AddsRun {E = RunError} work job (Err e))) is told) (subst (λ (e : RunError). CountsFault {T = Outcome} run_errors.Failed faults count (Err e)) is counts)

-- ---- a try

module _ (pulled : Bool) (copy : Volume) (client : ℕ) (sketched : SketchEntry) (work : List ℕ) where
  module _ (job : Job) (is : job_for copy sketched ≡ Ok job) (old new : RunnerTelling) where
    pub failed_tries : (reaction : Reaction) → reaction ≡ declining copy client sketched.seq NotRun → failed_step reaction.step ≡ 1 → HasRun [] 1 old new
        → Steps (Tries pulled copy client sketched work) reaction old new
    failed_tries reaction declines failed told = record {
      runs = [];
      does = record {
        ran = None;
        runs_are = ap (λ (j : Result Job Cause). runs_of_job work j None) (sym is);
        came = inl (subst (λ (j : Result Job Cause). AfterJob pulled copy client sketched j None reaction) (sym is) declines);
      };
      told = subst (λ (k : ℕ). HasRun [] k old new) (sym failed) told;
    }

    pub ran_tries : (outcome : Outcome) (now : Volume) (result : Result Held Cause) (step : NextStep) (state : Stage) → IsJudgedReplay copy now sketched job outcome result
        → IsConcluded client sketched result step state → failed_step step ≡ 0 → HasRun (record { work = work; job = job; outcome = outcome } ∷ []) 0 old new
        → Steps (Tries pulled copy client sketched work) (reaction_of step state now) old new
    ran_tries outcome now result step state replayed concluded failed told = record {
      runs = record { work = work; job = job; outcome = outcome } ∷ [];
      does = record {
        ran = Some outcome;
        runs_are = ap (λ (j : Result Job Cause). runs_of_job work j (Some outcome)) (sym is);
        came = inl (subst (λ (j : Result Job Cause). AfterJob pulled copy client sketched j (Some outcome) (reaction_of step state now)) (sym is)
            (replayed.verdict, replayed.judged, by result replayed concluded));
      };
      told = subst (λ (k : ℕ). HasRun (record { work = work; job = job; outcome = outcome } ∷ []) k old new) (sym failed) told;
    }
      where
        by : (result : Result Held Cause) → (replayed : IsJudgedReplay copy now sketched job outcome result) → IsConcluded client sketched result step state
            → reaction_of step state now ≡ after_verdict copy client sketched (held_by copy job replayed.verdict)
        by (Ok held) replayed concluded =
            let asks = steps.Ask (messages.Store client sketched.seq held.entries) in
            ap (λ (s : NextStep). reaction_of s state now) concluded.0
            ∙ ap (λ (s : Stage). reaction_of asks s now) concluded.1
            ∙ ap (λ (before : Volume). record { step = asks; after = record { copy = now; phase = Holding client sketched.seq before } }) replayed.held.undoes
            ∙ ap (λ (parts : List Part). record { step = steps.Ask (messages.Store client sketched.seq parts); after = record { copy = now; phase = Holding client sketched.seq copy } }) replayed.held.entry
            ∙ sym (ap (after_verdict copy client sketched) replayed.held.is_wanted)
        by (Err cause) replayed concluded =
            let answers = steps.Answer (messages.Declined client sketched.seq cause) in
            ap (λ (s : NextStep). reaction_of s state now) concluded.0
            ∙ ap (λ (s : Stage). reaction_of answers s now) concluded.1
            ∙ ap (λ (rows : Volume). reaction_of answers IsIdle rows) replayed.held.1
            ∙ sym (ap (after_verdict copy client sketched) replayed.held.0)

  pub lacking_tries : (cause : Cause) (reaction : Reaction) (runner : RunnerTelling) → job_for copy sketched ≡ Err cause → AfterJob pulled copy client sketched (Err cause) None reaction
      → failed_step reaction.step ≡ 0 → Steps (Tries pulled copy client sketched work) reaction runner runner
  lacking_tries cause reaction runner is after failed = record {
    runs = [];
    does = record {
      ran = None;
      runs_are = ap (λ (j : Result Job Cause). runs_of_job work j None) (sym is);
      came = inl (subst (λ (j : Result Job Cause). AfterJob pulled copy client sketched j None reaction) (sym is) after);
    };
    told = subst (λ (k : ℕ). HasRun [] k runner runner) (sym failed) (runs_none runner);
  }

  pub starved_tries : (reaction : Reaction) (old new : RunnerTelling) → reaction ≡ declining copy client sketched.seq NoMemory → Starves work (job_for copy sketched) old new
      → Steps (Tries pulled copy client sketched work) reaction old new
  starved_tries reaction old new is starves = record {
    runs = runs_of_job work (job_for copy sketched) starves.ran;
    does = record { ran = starves.ran; runs_are = refl; came = inr is };
    told = subst (λ (r : Reaction). HasRun (runs_of_job work (job_for copy sketched) starves.ran) (failed_step r.step) old new) (sym is) starves.told;
  }

-- ---- the machine

pub is_idle : (machine : Machine) → machine.phase ≡ Idle → machine ≡ idle machine.copy
is_idle machine waits = ap (λ (phase : Phase). record { copy = machine.copy; phase = phase }) waits

idle_still : (state : Stage) (old new : Volume) → new ≡ old → phase_of state old ≡ Idle → record { copy = new; phase = phase_of state new } ≡ idle old
idle_still state old new same waits = ap (λ (rows : Volume). record { copy = rows; phase = phase_of state rows }) same ∙ ap (λ (phase : Phase). record { copy = old; phase = phase }) waits

-- memory was wanted, and the machine is as it was
pub starved_still : (pulled : Bool) (client : ℕ) (sketched : SketchEntry) (work : List ℕ) (machine : Machine) (state : Stage) (old new : Volume) (step : NextStep) (runner ran : RunnerTelling)
    → record { copy = old; phase = phase_of state old } ≡ machine → machine.phase ≡ Idle → new ≡ old → step ≡ steps.Answer (messages.Declined client sketched.seq NoMemory)
    → Starves work (job_for old sketched) runner ran
    → Steps (Tries pulled machine.copy client sketched work) (record { step = step; after = record { copy = new; phase = phase_of state new } }) runner ran
starved_still pulled client sketched work machine state old new step runner ran view waits same step_is starves =
    subst (λ (copy : Volume). Steps (Tries pulled copy client sketched work) (record { step = step; after = record { copy = new; phase = phase_of state new } }) runner ran) (ap (λ (m : Machine). m.copy) view)
    (starved_tries pulled old client sketched work (record { step = step; after = record { copy = new; phase = phase_of state new } }) runner ran
    (ap (λ (s : NextStep). record { step = s; after = record { copy = new; phase = phase_of state new } }) step_is
    ∙ ap (λ (after : Machine). record { step = steps.Answer (messages.Declined client sketched.seq NoMemory); after = after })
    (idle_still state old new same (ap (λ (m : Machine). m.phase) view ∙ waits)))
    starves)

-- a snapshot for which memory is wanted
starved_snapshot : (client : ℕ) (sketched : SketchEntry) (copy : Volume) (reply : Message) (rows : Volume) (work : List ℕ) (reaction : Reaction) → snapshot_rows reply ≡ Some rows
    → reaction ≡ declining copy client sketched.seq NoMemory → HandlesReply (Fetching client sketched) copy reply work [] reaction
starved_snapshot client sketched copy (messages.Snapshot c n last seen) rows work reaction found is = inr (is, refl)
starved_snapshot client sketched copy (messages.Store c n ps) rows work reaction found is = absurd (cc)
starved_snapshot client sketched copy (messages.Operate c e) rows work reaction found is = absurd (cc)
starved_snapshot client sketched copy (messages.Pull c n) rows work reaction found is = absurd (cc)
starved_snapshot client sketched copy (messages.Accepted c n u) rows work reaction found is = absurd (cc)
starved_snapshot client sketched copy (messages.Stale c n u p theirs ours) rows work reaction found is = absurd (cc)
starved_snapshot client sketched copy (messages.Unfit c n u i fault) rows work reaction found is = absurd (cc)
starved_snapshot client sketched copy (messages.Gap c n last) rows work reaction found is = absurd (cc)
starved_snapshot client sketched copy (messages.Done c n) rows work reaction found is = absurd (cc)
starved_snapshot client sketched copy (messages.Declined c n why) rows work reaction found is = absurd (cc)
starved_snapshot client sketched copy (messages.Full c n u i fault) rows work reaction found is = absurd (cc)
starved_snapshot client sketched copy (messages.Malformed code offset) rows work reaction found is = absurd (cc)

pub snapshot_starved : (client : ℕ) (sketched : SketchEntry) (machine : Machine) (reply : Message) (rows : Volume) (work : List ℕ) (step : NextStep) (runner : RunnerTelling) → machine.phase ≡ Idle
    → snapshot_rows reply ≡ Some rows → step ≡ steps.Answer (messages.Declined client sketched.seq NoMemory)
    → Steps (HandlesReply (Fetching client sketched) machine.copy reply work) (record { step = step; after = machine }) runner runner
snapshot_starved client sketched machine reply rows work step runner waits found step_is =
    let declines : record { step = step; after = machine } ≡ declining machine.copy client sketched.seq NoMemory =
    ap (λ (s : NextStep). record { step = s; after = machine }) step_is
    ∙ ap (λ (after : Machine). record { step = steps.Answer (messages.Declined client sketched.seq NoMemory); after = after }) (is_idle machine waits) in
    record {
      runs = [];
      does = starved_snapshot client sketched machine.copy reply rows work (record { step = step; after = machine }) found declines;
      told = subst (λ (s : NextStep). HasRun [] (failed_step s) runner runner) (sym step_is) (runs_none runner);
    }
