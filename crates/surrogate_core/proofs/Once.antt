-- A handling runs at most one job, and it is the operation's.
use Rattle.std.proofs.Common.{◌≡◌, ◌⊎◌, ⊎_elim, ℕ, Bool, true, false, List, [], ◌∷◌, ◌++◌, Option, Some, None, Result, Ok, Err, refl, sym, ◌∙◌, ap, subst, append_assoc, if◌then◌else◌}
use Rattle.std.proofs.lemmas.List.{append-nil}
use Rattle.std.specs.List.{flat_map}
use Rattle.std.specs.Str.{bytes_eq}
use Rattle.std.proofs.lemmas.Slice.Eq.{bytes_eq-Decides}
use Rattle.tree_values.specs.Tree.{Volume}
use Rattle.cmd_capture.specs.declared.runner.Run.{Run}
use Rattle.cmd_capture.specs.declared.job.Job.{Job}
use Rattle.cmd_capture.specs.declared.job.Outcome.{Outcome}
use Rattle.work_area.specs.declared.jobs.JobError.TheVariants as job_errors
use Rattle.work_area.specs.Jobs.{job_of}
use Rattle.work_area.specs.declared.jobs.JobError.{JobError}
use Rattle.mod_log.specs.declared.sketching.SketchEntry.{SketchEntry}
use Rattle.wire_frames.specs.declared.cause.Cause.TheVariants.{OtherJob, NoMemory}
use Rattle.wire_frames.specs.declared.message.Message.TheVariants.{Store, Operate, Pull, Accepted, Stale, Unfit, Gap, Snapshot, Done, Declined, Full, Malformed}
use Rattle.wire_frames.specs.declared.cause.Cause.{Cause}
use Rattle.wire_frames.specs.declared.message.Message.{Message}
use Rattle.surrogate_core.specs.declared.step.NextStep.TheVariants as steps
use Rattle.surrogate_core.specs.Handling.{job_print, Phase, Idle, Fetching, Holding, Reaction, Held, declining, prepared, job_for, held_by, after_verdict, AfterJob, runs_of_job, Tries, closed, refusal_kind, HandlesCome, Round, IsRound, GoesOn, answering}
use Rattle.surrogate_core.specs.Laws.{IsOfJob, HandlingsRunOnce, BrokenHandlingsRunOnce}
use Rattle.surrogate_core.specs.declared.step.NextStep.{NextStep}

abbrev job_in : Result Job Cause → Job → Job
job_in (Ok job) other = job
job_in (Err cause) other = other

module _ (sketched : SketchEntry) (work : List ℕ) where
  abbrev OnceOn : List Run → NextStep → Phase → Type 0
  OnceOn runs (steps.Answer reply) phase = IsOfJob sketched work runs
  OnceOn runs (steps.Ask request) Idle = ⊥
  OnceOn runs (steps.Ask request) (Fetching c s) = (s ≡ sketched) × (runs ≡ [])
  OnceOn runs (steps.Ask request) (Holding c n before) = IsOfJob sketched work runs

  abbrev Once : List Run → Reaction → Type 0
  Once runs reaction = OnceOn runs reaction.step reaction.after.phase

  none_run : (runs : List Run) → runs ≡ [] → IsOfJob sketched work runs
  none_run runs none = subst (IsOfJob sketched work) (sym none) tt

  -- a job that was found has the operation's print
  printed : (tried : Volume) (job : Job) → job_for tried sketched ≡ Ok job → job_print job ≡ sketched.origin.job_print
  printed tried job e = by (job_of tried sketched.origin.command) e
    where
      same : (found : Job) (b : Bool) → bytes_eq (job_print found) sketched.origin.job_print ≡ b
          → (if b then Ok found else Err (OtherJob sketched.origin.job_print (job_print found))) ≡ Ok job → job_print job ≡ sketched.origin.job_print
      same found true equal is = subst (λ j. job_print j ≡ sketched.origin.job_print) (ap (λ r. job_in r job) is) ((bytes_eq-Decides (job_print found) sketched.origin.job_print).0 equal)
      same found false equal is = absurd (cc)

      by : (found : Result Job JobError) → prepared sketched found ≡ Ok job → job_print job ≡ sketched.origin.job_print
      by (Ok found) is = same found (bytes_eq (job_print found) sketched.origin.job_print) refl is
      by (Err (job_errors.NoFolder path)) is = absurd (cc)
      by (Err (job_errors.NoInput index)) is = absurd (cc)
      by (Err job_errors.Memory) is = absurd (cc)

  after_once : (tried : Volume) (client : ℕ) (runs : List Run) (held : Result Held Cause) → IsOfJob sketched work runs → Once runs (after_verdict tried client sketched held)
  after_once tried client runs (Ok held) once = once
  after_once tried client runs (Err cause) once = once

  tries_once : (pulled : Bool) (tried : Volume) (client : ℕ) (runs : List Run) (reaction : Reaction) → Tries pulled tried client sketched work runs reaction → Once runs reaction
  tries_once pulled tried client runs reaction tries =
      ⊎_elim (λ came. by pulled (job_for tried sketched) tries.ran refl tries.runs_are came)
      (λ none. subst (Once runs) (sym none) (made (job_for tried sketched) tries.ran refl tries.runs_are)) tries.came
    where
      made : (job : Result Job Cause) (ran : Option Outcome) → job_for tried sketched ≡ job → runs ≡ runs_of_job work job ran → IsOfJob sketched work runs
      made (Ok job) None e are = none_run runs are
      made (Ok job) (Some outcome) e are = subst (IsOfJob sketched work) (sym are) (refl, printed tried job e)
      made (Err cause) ran e are = none_run runs are

      by : (pulled : Bool) (job : Result Job Cause) (ran : Option Outcome) → job_for tried sketched ≡ job → runs ≡ runs_of_job work job ran
          → AfterJob pulled tried client sketched job ran reaction → Once runs reaction
      by pulled (Ok job) None e are came = subst (Once runs) (sym came) (none_run runs are)
      by pulled (Ok job) (Some outcome) e are came =
          subst (Once runs) (sym came.2) (after_once tried client runs (held_by tried job came.0) (subst (IsOfJob sketched work) (sym are) (refl, printed tried job e)))
      by true (Err cause) ran e are came = subst (Once runs) (sym came) (none_run runs are)
      by false (Err cause) ran e are came = subst (Once runs) (sym came) (refl, are)

  fetched : (c : ℕ) (s : SketchEntry) (now : Volume) (came : Option Message) (runs more : List Run) (reaction : Reaction)
      → s ≡ sketched → runs ≡ [] → HandlesCome (record { copy = now; phase = Fetching c s }) came work more reaction → Once (runs ++ more) reaction
  fetched c s now None runs more reaction is_s none handles =
      subst (Once (runs ++ more)) (sym handles.0) (none_run (runs ++ more) (ap (λ l. l ++ more) none ∙ handles.1))
  fetched c s now (Some (Snapshot k n last rows)) runs more reaction is_s none handles =
      let tries : Tries true rows c sketched work more reaction ⊎ ((reaction ≡ declining now c sketched.seq NoMemory) × (more ≡ [])) =
      subst (λ e. Tries true rows c e work more reaction ⊎ ((reaction ≡ declining now c e.seq NoMemory) × (more ≡ []))) is_s handles in
      subst (λ r. Once (r ++ more) reaction) (sym none) (⊎_elim (λ t. tries_once true rows c more reaction t) (λ t. subst (Once more) (sym t.0) (none_run more t.1)) tries)
  fetched c s now (Some (Store k n ps)) runs more reaction is_s none handles = absurd handles
  fetched c s now (Some (Operate k e)) runs more reaction is_s none handles = absurd handles
  fetched c s now (Some (Pull k n)) runs more reaction is_s none handles = absurd handles
  fetched c s now (Some (Accepted k n u)) runs more reaction is_s none handles = absurd handles
  fetched c s now (Some (Stale k n u p t o)) runs more reaction is_s none handles = absurd handles
  fetched c s now (Some (Unfit k n u x f)) runs more reaction is_s none handles = absurd handles
  fetched c s now (Some (Gap k n l)) runs more reaction is_s none handles = absurd handles
  fetched c s now (Some (Done k n)) runs more reaction is_s none handles = absurd handles
  fetched c s now (Some (Declined k n e)) runs more reaction is_s none handles = absurd handles
  fetched c s now (Some (Full k n u x f)) runs more reaction is_s none handles = absurd handles
  fetched c s now (Some (Malformed k o)) runs more reaction is_s none handles = absurd handles

  closed_once : (c n : ℕ) (now before : Volume) (runs : List Run) (kind : Option ℕ) → IsOfJob sketched work runs → Once runs (closed now c n before kind)
  closed_once c n now before runs None once = once
  closed_once c n now before runs (Some kind) once = once

  stored : (c n : ℕ) (now before : Volume) (came : Option Message) (runs more : List Run) (reaction : Reaction) → IsOfJob sketched work runs
      → HandlesCome (record { copy = now; phase = Holding c n before }) came work more reaction → Once (runs ++ more) reaction
  stored c n now before None runs more reaction once handles =
      subst (Once (runs ++ more)) (sym handles.0) (subst (IsOfJob sketched work) (sym (ap (λ l. runs ++ l) handles.1 ∙ append-nil runs)) once)
  stored c n now before (Some reply) runs more reaction once handles =
      subst (Once (runs ++ more)) (sym handles.0)
      (closed_once c n now before (runs ++ more) (refusal_kind reply) (subst (IsOfJob sketched work) (sym (ap (λ l. runs ++ l) handles.1 ∙ append-nil runs)) once))

  round_once : (server : List ℕ) (runs : List Run) (step : NextStep) (phase : Phase) (now : Volume) (round : Round) → OnceOn runs step phase
      → IsRound server work (record { step = step; after = record { copy = now; phase = phase } }) round → Once (runs ++ round.runs) round.after
  round_once server runs (steps.Answer reply) phase now round on is = absurd is
  round_once server runs (steps.Ask request) Idle now round on is = absurd on
  round_once server runs (steps.Ask request) (Fetching c s) now round on is = fetched c s now round.came runs round.runs round.after on.0 on.1 is.1
  round_once server runs (steps.Ask request) (Holding c n before) now round on is = stored c n now before round.came runs round.runs round.after on is.1

  rounds_once : (server : List ℕ) (runs : List Run) (rounds : List Round) (first last : Reaction) → Once runs first → GoesOn server work first rounds last
      → Once (runs ++ flat_map (λ round. round.runs) rounds) last
  rounds_once server runs [] first last on goes = subst (Once _) (sym goes) (subst (λ l. Once l first) (sym (append-nil runs)) on)
  rounds_once server runs (round ∷ rounds) first last on goes =
      subst (λ l. Once l last) (append_assoc runs round.runs (flat_map (λ r. r.runs) rounds))
      (rounds_once server (runs ++ round.runs) rounds round.after last (round_once server runs first.step first.after.phase first.after.copy round on goes.0) goes.1)

  asking_once : (runs : List Run) (request : Message) (phase : Phase) → OnceOn runs (steps.Ask request) phase → IsOfJob sketched work runs
  asking_once runs request Idle on = absurd on
  asking_once runs request (Fetching c s) on = none_run runs on.1
  asking_once runs request (Holding c n before) on = on

pub broken_handlings_run_once : BrokenHandlingsRunOnce
broken_handlings_run_once server work copy after client sketched runs asks breaks =
    let handled = breaks.handled in
    asking_once sketched work runs breaks.request breaks.machine.phase
    (subst (λ l. Once sketched work l (record { step = steps.Ask breaks.request; after = breaks.machine })) (sym handled.runs_are)
    (rounds_once sketched work server handled.first_runs handled.rounds handled.first (record { step = steps.Ask breaks.request; after = breaks.machine })
    (tries_once sketched work false copy client handled.first_runs handled.first handled.begins) handled.goes_on))

pub handlings_run_once : HandlingsRunOnce
handlings_run_once server work copy after client sketched runs asks reply handling =
    subst (IsOfJob sketched work) (sym handling.runs_are)
    (rounds_once sketched work server handling.first_runs handling.rounds handling.first (answering after reply)
    (tries_once sketched work false copy client handling.first_runs handling.first handling.begins) handling.goes_on)
