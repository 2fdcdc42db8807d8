-- What running a command makes of the client and the world.
use Rattle.std.proofs.Common.{Bool, true, false, ◌≡◌, ◌≢◌, ◌⊎◌, inl, inr, ℕ, ◌+◌, List, [], ◌∷◌, ◌++◌, Option, Some, None, option_map, Ok, Err, refl, sym, ◌∙◌, ap, subst, arith}
use Rattle.outside.specs.Outside.{Told, RisesWhere, CountsFault}
use Rattle.outside.specs.Keeper.{Images}
use Rattle.cmd_capture.specs.declared.command.Command.{Command}
use Rattle.cmd_capture.specs.declared.job.Job.{Job}
use Rattle.cmd_capture.specs.declared.job.Outcome.{Outcome}
use Rattle.cmd_capture.specs.declared.runner.Run.{Run}
use Rattle.cmd_capture.specs.declared.runner.RunError.{RunError}
use Rattle.cmd_capture.specs.declared.runner.RunError.TheVariants as run_errors
use Rattle.cmd_capture.specs.Runs.{AddsRun, RunnerTelling, HasRun, telling}
use Rattle.work_area.specs.declared.jobs.JobError.{JobError}
use Rattle.work_area.specs.declared.jobs.JobError.TheVariants as job_errors
use Rattle.work_area.specs.Jobs.{job_of}
use Rattle.mod_log.specs.declared.log.Entry.{Entry}
use Rattle.mod_log.specs.Log.{Log, IsLog, tree_of, logged}
use Rattle.world_rules.specs.Telling.{LinkTelling}
use Rattle.client_core.specs.declared.running.RunEnd.{RunEnd}
use Rattle.client_core.specs.declared.running.RunEnd.TheVariants as ends
use Rattle.client_core.specs.Trace.{Trace, nothing, followed, logging, running}
use Rattle.client_core.specs.declared.keeping.Journal.{Journal}
use Rattle.client_core.specs.Keeping.{IsKept, IsReady, IsKeptReady}
use Rattle.client_core.specs.Running.{changes_of, origin_of, run_entry, run_logged, RanEnd, ran_trace, RunTurn, BreaksRun, RunEnds, has_logged, RunsCommand}
use Rattle.client_core.specs.Journal.{next_notes}
use Rattle.client_core.specs.Inside.{ran, RanEnds, unrun_end, jobless_end}
use Rattle.client_core.specs.Goes.{Goes}
use Rattle.client_core.proofs.Going.{has_run_none, goes_ran, goes_ran_logged}
use Rattle.client_core.proofs.Counting.{unrisen}
use Rattle.client_core.proofs.Journal.{JournalIsCurrent, IsOneAtMost, ready_current, logged_ready, same_one, logged_one}
use Rattle.client_core.proofs.Locals.{appended-is}

-- ---- what the runner tells

told_runs : (old new : Option (List Run)) (xs : List Run) → Told old new (λ a b. b ≡ a ++ xs) → new ≡ option_map (λ list. list ++ xs) old
told_runs None new xs told = told
told_runs (Some old) None xs told = absurd told
told_runs (Some old) (Some new) xs told = ap Some told

pub ran_alone : (command : Command) (before : Log) (run : Run) (end : RunEnd) (after : Log) → (ran_trace command before run end after).runs ≡ run ∷ []
ran_alone command before run (ends.Logged seq status) after = refl
ran_alone command before run (ends.Nothing status) after = refl
ran_alone command before run (ends.NoJob fault) after = refl
ran_alone command before run ends.NotRun after = refl
ran_alone command before run (ends.OddTree i) after = refl
ran_alone command before run (ends.Clash path) after = refl
ran_alone command before run (ends.Refused refusal) after = refl
ran_alone command before run ends.Memory after = refl

pub none_missed : (command : Command) (before : Log) (run : Run) (end : RunEnd) (after : Log) → (ran_trace command before run end after).missed ≡ 0
none_missed command before run (ends.Logged seq status) after = refl
none_missed command before run (ends.Nothing status) after = refl
none_missed command before run (ends.NoJob fault) after = refl
none_missed command before run ends.NotRun after = refl
none_missed command before run (ends.OddTree i) after = refl
none_missed command before run (ends.Clash path) after = refl
none_missed command before run (ends.Refused refusal) after = refl
none_missed command before run ends.Memory after = refl

-- ---- how a command ends

module _ (work : List ℕ) (command : Command) (before : Log) where
  -- there is no job
  pub jobless : (fault : JobError) (r : RunnerTelling) → (fault ≢ job_errors.Memory → job_of (tree_of before) command ≡ Err fault) → RunsCommand work command before (jobless_end fault) before r r
  jobless job_errors.Memory r why = record { trace = nothing; turn = inr (refl, refl, inl refl); has_run = has_run_none r }
  jobless (job_errors.NoFolder path) r why = record { trace = nothing; turn = inl (why (λ is. absurd (cc)), refl, refl); has_run = has_run_none r }
  jobless (job_errors.NoInput i) r why = record { trace = nothing; turn = inl (why (λ is. absurd (cc)), refl, refl); has_run = has_run_none r }

  module _ (job : Job) (is : job_of (tree_of before) command ≡ Ok job) (old new : Option (List Run)) (f g : ℕ) where
    -- there was no run
    pub unrun : (error : RunError) → Told old new (AddsRun {E = RunError} work job (Err error)) → CountsFault {T = Outcome} run_errors.Failed f g (Err error)
        → RunsCommand work command before (unrun_end error) before (telling old f) (telling new g)
    unrun run_errors.Failed told cause = record {
      trace = running [] 1;
      turn = inl ((job, is), refl, refl);
      has_run = record { told = told_runs old new [] told; counted = cause.once refl };
    }
    unrun run_errors.Memory told cause = record {
      trace = nothing;
      turn = inr (refl, refl, inl refl);
      has_run = record { told = told_runs old new [] told; counted = omega (arith, cause.never (λ is. absurd (cc))) };
    }

    -- there was one
    module _ (outcome : Outcome) (told : Told old new (AddsRun {E = RunError} work job (Ok outcome))) (cause : CountsFault {T = Outcome} run_errors.Failed f g (Ok outcome)) where
      abbrev run : Run
      run = ran work job outcome

      turned : (end : RunEnd) (after : Log) → RanEnd command before run end after → RunTurn work command before end after (ran_trace command before run end after)
      turned (ends.Logged seq status) after did = (run, record { work_is = refl; job_is = is }, did, refl)
      turned (ends.Nothing status) after did = (run, record { work_is = refl; job_is = is }, did, refl)
      turned (ends.NoJob fault) after did = absurd did
      turned ends.NotRun after did = absurd did
      turned (ends.OddTree i) after did = (run, record { work_is = refl; job_is = is }, did, refl)
      turned (ends.Clash path) after did = (run, record { work_is = refl; job_is = is }, did, refl)
      turned (ends.Refused refusal) after did = (run, record { work_is = refl; job_is = is }, did, refl)
      turned ends.Memory after did = absurd did

      pub given : (end : RunEnd) (after : Log) → RanEnds command before run end after → RunsCommand work command before end after (telling old f) (telling new g)
      given end after (inl did) = record {
        trace = ran_trace command before run end after;
        turn = inl (turned end after did);
        has_run = record {
          told = subst (λ (runs : List Run). new ≡ option_map (λ list. list ++ runs) old) (sym (ran_alone command before run end after)) (told_runs old new (run ∷ []) told);
          counted = omega (arith, cause.never (λ is. absurd (cc)), none_missed command before run end after);
        };
      }
      given end after (inr broken) = record {
        trace = running (run ∷ []) 0;
        turn = inr (broken.0, broken.1, inr (run, record { work_is = refl; job_is = is }, refl));
        has_run = record { told = told_runs old new (run ∷ []) told; counted = omega (arith, cause.never (λ is. absurd (cc))) };
      }

-- ---- what a command changes

-- the log is as before, or has one more entry
abbrev IsLoggedOrSame : Log → Log → Type 0
IsLoggedOrSame before after = (after ≡ before) ⊎ ((e : Entry) × (after ≡ logged e before))

module _ (command : Command) (before after : Log) where
  ran_logs : (run : Run) (end : RunEnd) → RanEnd command before run end after → IsLoggedOrSame before after
  ran_logs did_run (ends.Logged seq status) did = inr (run_entry command did_run before, sym (appended-is (Some (origin_of command did_run)) (changes_of did_run) before after did.1))
  ran_logs did_run (ends.Nothing status) did = inl did.3
  ran_logs did_run (ends.OddTree i) did = inl did.1
  ran_logs did_run (ends.Clash path) did = inl did.2
  ran_logs did_run (ends.Refused refusal) did = inl did.2
  ran_logs did_run (ends.NoJob fault) did = absurd did
  ran_logs did_run ends.NotRun did = absurd did
  ran_logs did_run ends.Memory did = absurd did

  runs_log : (work : List ℕ) (end : RunEnd) (trace : Trace) → RunEnds work command before end after trace → IsLoggedOrSame before after
  runs_log work end trace (inr broken) = inl broken.1
  runs_log work (ends.NoJob fault) trace (inl turn) = inl turn.1
  runs_log work ends.NotRun trace (inl turn) = inl turn.1
  runs_log work (ends.Logged seq status) trace (inl turn) = ran_logs turn.0 (ends.Logged seq status) turn.2
  runs_log work (ends.Nothing status) trace (inl turn) = ran_logs turn.0 (ends.Nothing status) turn.2
  runs_log work (ends.OddTree i) trace (inl turn) = ran_logs turn.0 (ends.OddTree i) turn.2
  runs_log work (ends.Clash path) trace (inl turn) = ran_logs turn.0 (ends.Clash path) turn.2
  runs_log work (ends.Refused refusal) trace (inl turn) = ran_logs turn.0 (ends.Refused refusal) turn.2
  runs_log work ends.Memory trace (inl turn) = ran_logs turn.0 ends.Memory turn.2

  -- it has where the run is logged
  pub ran_logged : (work : List ℕ) (end : RunEnd) (p q : RunnerTelling) → RunsCommand work command before end after p q → has_logged end ≡ true → (e : Entry) × (after ≡ logged e before)
  ran_logged work (ends.Logged seq status) p q did some = by did.trace did.turn
    where
      by : (trace : Trace) → RunEnds work command before (ends.Logged seq status) after trace → (e : Entry) × (after ≡ logged e before)
      by trace (inl turn) = (run_entry command turn.0 before, sym (appended-is (Some (origin_of command turn.0)) (changes_of turn.0) before after turn.2.1))
      by trace (inr broken) = absurd (cc (broken.0))
  ran_logged work (ends.Nothing status) p q did some = absurd (cc (some))
  ran_logged work (ends.NoJob fault) p q did some = absurd (cc (some))
  ran_logged work ends.NotRun p q did some = absurd (cc (some))
  ran_logged work (ends.OddTree i) p q did some = absurd (cc (some))
  ran_logged work (ends.Clash path) p q did some = absurd (cc (some))
  ran_logged work (ends.Refused refusal) p q did some = absurd (cc (some))
  ran_logged work ends.Memory p q did some = absurd (cc (some))

  -- so a client that might go on under a name still may
  pub ran_ready : (work : List ℕ) (end : RunEnd) (p q : RunnerTelling) → RunsCommand work command before end after p q → (name : List ℕ) (number : ℕ) (journal : Option Journal) (i : Option Images)
      → IsReady i name (record { number = number; log = before; journal = journal }) → IsReady i name (record { number = number; log = after; journal = journal })
  ran_ready work end p q did name number journal i ready = by (runs_log work end did.trace did.turn)
    where
      by : IsLoggedOrSame before after → IsReady i name (record { number = number; log = after; journal = journal })
      by (inl same) = subst (λ (l : Log). IsReady i name (record { number = number; log = l; journal = journal })) (sym same) ready
      by (inr more) = subst (λ (l : Log). IsReady i name (record { number = number; log = l; journal = journal })) (sym more.1) (logged_ready name number before more.0 journal i ready)

  -- and one that is kept has one note at most to add
  pub ran_one : (work : List ℕ) (end : RunEnd) (p q : RunnerTelling) → RunsCommand work command before end after p q → (name : List ℕ) (number : ℕ) (journal now : Option Journal) → now ≡ journal → (i : Option Images)
      → IsKeptReady i name (record { number = number; log = before; journal = journal }) → IsOneAtMost i (next_notes now false after)
  ran_one work end p q did name number journal now same i kept =
      subst (λ (j : Option Journal). IsOneAtMost i (next_notes j false after)) (sym same) (by (runs_log work end did.trace did.turn))
    where
      current : JournalIsCurrent i name number before journal
      current = ready_current name number before journal i kept.0 kept.1

      by : IsLoggedOrSame before after → IsOneAtMost i (next_notes journal false after)
      by (inl stays) = subst (λ (l : Log). IsOneAtMost i (next_notes journal false l)) (sym stays) (same_one name number before journal i current)
      by (inr more) = subst (λ (l : Log). IsOneAtMost i (next_notes journal false l)) (sym more.1) (logged_one name number before more.0 journal i current)

-- ---- how often the runner failed

-- a runner that gave an outcome did not fail
pub given_faults : (outcome : Outcome) (f g : ℕ) (command : Command) (before : Log) (run : Run) (end : RunEnd) (after : Log) → CountsFault {E = RunError} run_errors.Failed f g (Ok outcome)
    → RanEnds command before run end after → RisesWhere (end ≡ ends.NotRun) f g
given_faults outcome f g command before run end after cause ends_so = unrisen (end ≡ ends.NotRun) f g (other ends_so) (cause.never (λ is. absurd (cc)))
  where
    other : RanEnds command before run end after → end ≡ ends.NotRun → ⊥
    other (inr broken) is = absurd (cc (is, broken.0))
    other (inl did) is = subst (λ (e : RunEnd). RanEnd command before run e after) is did

-- ---- over any link

module _ (name : List ℕ) (client : ℕ) (ships : Bool) (work : List ℕ) (command : Command) (before : Log) (i : Option Images) (keeps : IsKept i name client before) (p q : RunnerTelling) (t : LinkTelling) where
  -- the log stood still
  still_goes : (T : Trace → Type 0) (after : Log) (runs : List Run) (missed : ℕ) (trace : Trace) → after ≡ before → trace ≡ running runs missed → T trace → HasRun trace.runs trace.missed p q
      → Goes client ships name T before after before i i p q t t
  still_goes T after runs missed trace same is turn has_run =
      subst (λ (next : Log). Goes client ships name T before next before i i p q t t) (sym same)
      (goes_ran name client ships T runs missed before i p q t keeps (subst (λ (n : Trace). HasRun n.runs n.missed p q) is has_run) (subst T is turn))

  -- an entry was logged
  logs_goes : (run : Run) (seq status : ℕ) (after : Log) (trace : Trace) → run_logged command run before ≡ Ok after → trace ≡ ran_trace command before run (ends.Logged seq status) after
      → RunEnds work command before (ends.Logged seq status) after trace → HasRun trace.runs trace.missed p q → IsLog after
      → Goes client ships name (RunEnds work command before (ends.Logged seq status) after) before after before i i p q t t
  logs_goes run seq status after trace is shown turn has_run log_is =
      let entry : Entry = run_entry command run before in
      let end : RunEnd = ends.Logged seq status in
      let same : logged entry before ≡ after = appended-is (Some (origin_of command run)) (changes_of run) before after is in
      let seen : trace ≡ followed (running (run ∷ []) 0) (logging entry (logged entry before)) =
      subst (λ (next : Log). trace ≡ followed (running (run ∷ []) 0) (logging entry next)) (sym same) shown in
      subst (λ (next : Log). Goes client ships name (RunEnds work command before end after) before next before i i p q t t) same
      (goes_ran_logged name client ships (RunEnds work command before end after) (run ∷ []) 0 entry before i p q t keeps (subst IsLog (sym same) log_is)
      (subst (λ (n : Trace). HasRun n.runs n.missed p q) seen has_run) (subst (RunEnds work command before end after) seen turn))

  -- what `run_command` makes of the client, over any link
  pub run_goes : (end : RunEnd) (after : Log) → RunsCommand work command before end after p q → IsLog after → Goes client ships name (RunEnds work command before end after) before after before i i p q t t
  run_goes end after did log_is = by did.turn
    where
      T : Trace → Type 0
      T = RunEnds work command before end after

      turned : (e : RunEnd) → RunTurn work command before e after did.trace → RunEnds work command before e after did.trace
          → Goes client ships name (RunEnds work command before e after) before after before i i p q t t
      turned (ends.Logged seq status) turn all = logs_goes turn.0 seq status after did.trace turn.2.1 turn.3 all did.has_run log_is
      turned (ends.Nothing status) turn all = still_goes (RunEnds work command before (ends.Nothing status) after) after (turn.0 ∷ []) 0 did.trace turn.2.3 turn.3 all did.has_run
      turned (ends.NoJob fault) turn all = still_goes (RunEnds work command before (ends.NoJob fault) after) after [] 0 did.trace turn.1 turn.2 all did.has_run
      turned ends.NotRun turn all = still_goes (RunEnds work command before ends.NotRun after) after [] 1 did.trace turn.1 turn.2 all did.has_run
      turned (ends.OddTree n) turn all = still_goes (RunEnds work command before (ends.OddTree n) after) after (turn.0 ∷ []) 0 did.trace turn.2.1 turn.3 all did.has_run
      turned (ends.Clash path) turn all = still_goes (RunEnds work command before (ends.Clash path) after) after (turn.0 ∷ []) 0 did.trace turn.2.2 turn.3 all did.has_run
      turned (ends.Refused refusal) turn all = still_goes (RunEnds work command before (ends.Refused refusal) after) after (turn.0 ∷ []) 0 did.trace turn.2.2 turn.3 all did.has_run
      turned ends.Memory turn all = absurd turn.2

      broken : BreaksRun work command before did.trace → after ≡ before → Goes client ships name T before after before i i p q t t
      broken (inl none) same = still_goes T after [] 0 did.trace same none did.turn did.has_run
      broken (inr given) same = still_goes T after (given.0 ∷ []) 0 did.trace same given.2 did.turn did.has_run

      by : RunEnds work command before end after did.trace → Goes client ships name T before after before i i p q t t
      by (inl turn) = turned end turn did.turn
      by (inr why) = broken why.2 why.1
