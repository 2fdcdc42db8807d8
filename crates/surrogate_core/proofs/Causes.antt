-- Each decline of a handling has its cause.
use Rattle.std.proofs.Common.{◌≡◌, ◌⊎◌, inl, inr, ⊎_elim, ℕ, ◌≤◌, Bool, true, false, true≢false, List, [], ◌∷◌, ◌++◌, Option, Some, None, Result, Ok, Err, refl, sym, ◌∙◌, ap, subst, arith, append_assoc, if◌then◌else◌}
use Rattle.std.proofs.lemmas.List.{append-nil}
use Rattle.std.specs.Prelude.{find}
use Rattle.std.specs.List.{flat_map}
use Rattle.std.specs.Str.{bytes_eq}
use Rattle.std.proofs.lemmas.Slice.Eq.{bytes_eq-Decides}
use Rattle.tree_values.specs.Tree.{Volume}
use Rattle.tree_values.specs.Lists.{IsIn}
use Rattle.tree_values.specs.Effects.{apply_all}
use Rattle.tree_values.specs.declared.node.Effect.{Effect}
use Rattle.tree_values.specs.declared.node.TreeError.{TreeError}
use Rattle.cmd_capture.specs.declared.runner.Run.{Run}
use Rattle.cmd_capture.specs.declared.job.Job.{Job}
use Rattle.cmd_capture.specs.declared.job.Outcome.{Outcome}
use Rattle.work_area.specs.declared.jobs.JobError.TheVariants as job_errors
use Rattle.work_area.specs.Jobs.{job_of}
use Rattle.work_area.specs.Changes.{clashes}
use Rattle.work_area.specs.declared.jobs.JobError.{JobError}
use Rattle.mod_log.specs.declared.sketching.SketchEntry.{SketchEntry}
use Rattle.replay_judge.specs.declared.verdict.Verdict.TheVariants as verdicts
use Rattle.replay_judge.specs.Judgement.{IsJudgement}
use Rattle.replay_judge.specs.declared.verdict.Verdict.{Verdict}
use Rattle.wire_frames.specs.declared.cause.Cause.TheVariants.{OtherJob, NoMemory}
use Rattle.wire_frames.specs.declared.message.Message.TheVariants.{Store, Operate, Pull, Accepted, Stale, Unfit, Gap, Snapshot, Done, Declined, Full, Malformed}
use Rattle.wire_frames.specs.declared.cause.Cause.{Cause}
use Rattle.wire_frames.specs.declared.message.Message.{Message}
use Rattle.world_rules.specs.declared.asking.Peer.TheVariants.{Server}
use Rattle.world_rules.specs.declared.asking.Answer.TheVariants.{Reply}
use Rattle.world_rules.specs.Settling.{IsSettling, failures, settled, failed_asks}
use Rattle.world_rules.specs.Asking.{ask_of}
use Rattle.world_rules.specs.declared.asking.Ask.{Ask}
use Rattle.surrogate_core.specs.declared.step.NextStep.TheVariants as steps
use Rattle.surrogate_core.specs.Handling.{job_print, Phase, Idle, Fetching, Holding, Reaction, answering, declining, prepared, job_for, held_by, unless_clash, unless_unfit, after_verdict, AfterJob, runs_of_job, Tries, closed, refusal_kind, HandlesCome, Round, IsRound, GoesOn}
use Rattle.surrogate_core.specs.Laws.{IsTried, IsPulled, IsJudged, IsAgreed, CausesDecline, DeclinesHaveCauses}
use Rattle.surrogate_core.specs.declared.step.NextStep.{NextStep}
use Rattle.world_rules.proofs.Settled.{failed-append}
use Rattle.vol_tree.proofs.Behind.{IsIn-right}

eight_behind : (server : List ℕ) (request : Message) (asks made : List Ask) → made ≡ failures Server server request 8 → 8 ≤ failed_asks (asks ++ made)
eight_behind server request asks made is =
    let sum = failed-append asks made in
    let eight : failed_asks made ≡ 8 = ap failed_asks is in
    omega arith

abbrev cause_in : Result Job Cause → Cause → Cause
cause_in (Ok job) other = other
cause_in (Err cause) other = cause

module _ (sketched : SketchEntry) (copy : Volume) where
  abbrev CausedReply : List Run → List Ask → Message → Type 0
  CausedReply runs asks (Declined c n cause) = CausesDecline sketched copy asks runs cause
  CausedReply runs asks reply = Unit {0}

  abbrev CausedOn : List Run → List Ask → NextStep → Phase → Type 0
  CausedOn runs asks (steps.Answer reply) phase = CausedReply runs asks reply
  CausedOn runs asks (steps.Ask request) Idle = ⊥
  CausedOn runs asks (steps.Ask request) (Fetching c s) = (s ≡ sketched) × (runs ≡ [])
  CausedOn runs asks (steps.Ask request) (Holding c n before) = Unit {0}

  abbrev Caused : List Run → List Ask → Reaction → Type 0
  Caused runs asks reaction = CausedOn runs asks reaction.step reaction.after.phase

  -- ---- the first step

  fits_caused : (client : ℕ) (asks : List Ask) (runs : List Run) (tried : Volume) (run : Run) (effects : List Effect) → IsAgreed sketched copy asks runs tried run effects
      → find (clashes tried run.job.rows) effects ≡ None
      → (r : Result Volume (ℕ × TreeError)) → apply_all 0 effects tried ≡ r → Caused runs asks (after_verdict tried client sketched (unless_unfit effects r))
  fits_caused client asks runs tried run effects agreed free (Ok now) e = tt
  fits_caused client asks runs tried run effects agreed free (Err refusal) e = (tried, run, effects, agreed, free, e)

  agree_caused : (client : ℕ) (asks : List Ask) (runs : List Run) (tried : Volume) (run : Run) (effects : List Effect) → IsAgreed sketched copy asks runs tried run effects
      → (c : Option Effect) → find (clashes tried run.job.rows) effects ≡ c → Caused runs asks (after_verdict tried client sketched (unless_clash tried effects c))
  agree_caused client asks runs tried run effects agreed (Some effect) e = (tried, run, effects, effect, agreed, e, refl)
  agree_caused client asks runs tried run effects agreed None e = fits_caused client asks runs tried run effects agreed e (apply_all 0 effects tried) refl

  verdict_caused : (client : ℕ) (asks : List Ask) (runs : List Run) (tried : Volume) (run : Run) (verdict : Verdict) → IsJudged sketched copy asks runs tried run
      → IsJudgement sketched run.job run.outcome verdict → Caused runs asks (after_verdict tried client sketched (held_by tried run.job verdict))
  verdict_caused client asks runs tried run (verdicts.Status l r) judged is = (tried, run, judged, is)
  verdict_caused client asks runs tried run (verdicts.OddTree i) judged is = (tried, run, judged, is)
  verdict_caused client asks runs tried run (verdicts.Mismatch p) judged is = (tried, run, judged, is)
  verdict_caused client asks runs tried run (verdicts.Agree effects) judged is =
      agree_caused client asks runs tried run effects (record { judged = judged; agrees = is }) (find (clashes tried run.job.rows) effects) refl

  -- why a pulled copy has no such job
  no_job_caused : (asks : List Ask) (runs : List Run) (tried : Volume) (cause : Cause) → IsPulled asks tried → job_for tried sketched ≡ Err cause → CausesDecline sketched copy asks runs cause
  no_job_caused asks runs tried cause pulled e = by (job_of tried sketched.origin.command) refl e
    where
      differs : (job : Job) (b : Bool) → bytes_eq (job_print job) sketched.origin.job_print ≡ b → job_of tried sketched.origin.command ≡ Ok job
          → (if b then Ok job else Err (OtherJob sketched.origin.job_print (job_print job))) ≡ Err cause → CausesDecline sketched copy asks runs cause
      differs job true same is e = absurd (cc)
      differs job false other is e =
          subst (CausesDecline sketched copy asks runs) (ap (λ r. cause_in r cause) e)
          (tried, job, pulled, is, refl, refl, λ equal. true≢false (sym ((bytes_eq-Decides (job_print job) sketched.origin.job_print).1 equal) ∙ other))

      by : (found : Result Job JobError) → job_of tried sketched.origin.command ≡ found → prepared sketched found ≡ Err cause → CausesDecline sketched copy asks runs cause
      by (Ok job) is e = differs job (bytes_eq (job_print job) sketched.origin.job_print) refl is e
      by (Err (job_errors.NoFolder path)) is e = subst (CausesDecline sketched copy asks runs) (ap (λ r. cause_in r cause) e) (tried, pulled, ap (prepared sketched) is)
      by (Err (job_errors.NoInput index)) is e = subst (CausesDecline sketched copy asks runs) (ap (λ r. cause_in r cause) e) (tried, pulled, ap (prepared sketched) is)
      by (Err job_errors.Memory) is e = subst (CausesDecline sketched copy asks runs) (ap (λ r. cause_in r cause) e) tt

  tries_caused : (pulled : Bool) (client : ℕ) (asks : List Ask) (tried : Volume) (work : List ℕ) (runs : List Run) (reaction : Reaction) → IsTried copy asks tried → (pulled ≡ true → IsPulled asks tried)
      → Tries pulled tried client sketched work runs reaction → Caused runs asks reaction
  tries_caused pulled client asks tried work runs reaction tried_is from tries =
      ⊎_elim (λ came. by pulled (job_for tried sketched) tries.ran refl from tries.runs_are came) (λ none. subst (Caused runs asks) (sym none) tt) tries.came
    where
      by : (pulled : Bool) (job : Result Job Cause) (ran : Option Outcome) → job_for tried sketched ≡ job → (pulled ≡ true → IsPulled asks tried) → runs ≡ runs_of_job work job ran
          → AfterJob pulled tried client sketched job ran reaction → Caused runs asks reaction
      by pulled (Ok job) None e from are came = subst (Caused runs asks) (sym came) (are, (tried, job, tried_is, e))
      by pulled (Ok job) (Some outcome) e from are came =
          subst (Caused runs asks) (sym came.2)
          (verdict_caused client asks runs tried (record { work = work; job = job; outcome = outcome }) came.0 (record { tried_is = tried_is; runs_are = are; job_is = e }) came.1)
      by true (Err cause) ran e from are came = subst (Caused runs asks) (sym came) (no_job_caused asks runs tried cause (from refl) e)
      by false (Err cause) ran e from are came = subst (Caused runs asks) (sym came) (refl, are)

  -- ---- a round

  fetched : (server work : List ℕ) (asks made : List Ask) (c : ℕ) (s : SketchEntry) (now : Volume) (request : Message) (came : Option Message) (runs more : List Run) (reaction : Reaction)
      → s ≡ sketched → runs ≡ [] → IsSettling Server server request came made
      → HandlesCome (record { copy = now; phase = Fetching c s }) came work more reaction → Caused (runs ++ more) (asks ++ made) reaction
  fetched server work asks made c s now request None runs more reaction is_s none settles handles =
      subst (Caused (runs ++ more) (asks ++ made)) (sym handles.0) (eight_behind server request asks made settles)
  fetched server work asks made c s now request (Some (Snapshot k n last rows)) runs more reaction is_s none settles handles =
      let all = asks ++ made in
      let pulled : IsPulled all rows = (
        ask_of Server server request (Reply (Snapshot k n last rows)),
        k,
        n,
        last,
        IsIn-right _ asks made (subst (IsIn _) (sym settles.4) (IsIn-right _ (failures Server server request settles.0) _ (inl refl))),
        refl,
      ) in
      let tries : Tries true rows c sketched work more reaction ⊎ ((reaction ≡ declining now c sketched.seq NoMemory) × (more ≡ [])) =
      subst (λ e. Tries true rows c e work more reaction ⊎ ((reaction ≡ declining now c e.seq NoMemory) × (more ≡ []))) is_s handles in
      subst (λ r. Caused (r ++ more) all reaction) (sym none)
      (⊎_elim (λ t. tries_caused true c all rows work more reaction (inr pulled) (λ e. pulled) t) (λ t. subst (Caused more all) (sym t.0) tt) tries)
  fetched server work asks made c s now request (Some (Store k n ps)) runs more reaction is_s none settles handles = absurd handles
  fetched server work asks made c s now request (Some (Operate k e)) runs more reaction is_s none settles handles = absurd handles
  fetched server work asks made c s now request (Some (Pull k n)) runs more reaction is_s none settles handles = absurd handles
  fetched server work asks made c s now request (Some (Accepted k n u)) runs more reaction is_s none settles handles = absurd handles
  fetched server work asks made c s now request (Some (Stale k n u p t o)) runs more reaction is_s none settles handles = absurd handles
  fetched server work asks made c s now request (Some (Unfit k n u x f)) runs more reaction is_s none settles handles = absurd handles
  fetched server work asks made c s now request (Some (Gap k n l)) runs more reaction is_s none settles handles = absurd handles
  fetched server work asks made c s now request (Some (Done k n)) runs more reaction is_s none settles handles = absurd handles
  fetched server work asks made c s now request (Some (Declined k n e)) runs more reaction is_s none settles handles = absurd handles
  fetched server work asks made c s now request (Some (Full k n u x f)) runs more reaction is_s none settles handles = absurd handles
  fetched server work asks made c s now request (Some (Malformed k o)) runs more reaction is_s none settles handles = absurd handles

  closed_caused : (server : List ℕ) (asks made : List Ask) (runs : List Run) (failed c n : ℕ) (now before : Volume) (request reply : Message) → made ≡ settled Server server request failed reply
      → (kind : Option ℕ) → refusal_kind reply ≡ kind → Caused runs (asks ++ made) (closed now c n before kind)
  closed_caused server asks made runs failed c n now before request reply is None e = tt
  closed_caused server asks made runs failed c n now before request reply is (Some kind) e =
      (ask_of Server server request (Reply reply), reply, IsIn-right _ asks made (subst (IsIn _) (sym is) (IsIn-right _ (failures Server server request failed) _ (inl refl))), refl, e)

  stored : (server work : List ℕ) (asks made : List Ask) (c n : ℕ) (now before : Volume) (request : Message) (came : Option Message) (runs more : List Run) (reaction : Reaction)
      → IsSettling Server server request came made
      → HandlesCome (record { copy = now; phase = Holding c n before }) came work more reaction → Caused (runs ++ more) (asks ++ made) reaction
  stored server work asks made c n now before request None runs more reaction settles handles =
      subst (Caused (runs ++ more) (asks ++ made)) (sym handles.0) (eight_behind server request asks made settles)
  stored server work asks made c n now before request (Some reply) runs more reaction settles handles =
      subst (Caused (runs ++ more) (asks ++ made)) (sym handles.0)
      (closed_caused server asks made (runs ++ more) settles.0 c n now before request reply settles.4 (refusal_kind reply) refl)

  round_caused : (server work : List ℕ) (runs : List Run) (asks : List Ask) (step : NextStep) (phase : Phase) (now : Volume) (round : Round) → CausedOn runs asks step phase
      → IsRound server work (record { step = step; after = record { copy = now; phase = phase } }) round → Caused (runs ++ round.runs) (asks ++ round.asks) round.after
  round_caused server work runs asks (steps.Answer reply) phase now round on is = absurd is
  round_caused server work runs asks (steps.Ask request) Idle now round on is = absurd on
  round_caused server work runs asks (steps.Ask request) (Fetching c s) now round on is =
      fetched server work asks round.asks c s now request round.came runs round.runs round.after on.0 on.1 is.0 is.1
  round_caused server work runs asks (steps.Ask request) (Holding c n before) now round on is =
      stored server work asks round.asks c n now before request round.came runs round.runs round.after is.0 is.1

  rounds_caused : (server work : List ℕ) (runs : List Run) (asks : List Ask) (rounds : List Round) (first last : Reaction) → Caused runs asks first → GoesOn server work first rounds last
      → Caused (runs ++ flat_map (λ round. round.runs) rounds) (asks ++ flat_map (λ round. round.asks) rounds) last
  rounds_caused server work runs asks [] first last on goes =
      subst (Caused _ _) (sym goes) (subst (λ l. Caused l (asks ++ []) first) (sym (append-nil runs)) (subst (λ l. Caused runs l first) (sym (append-nil asks)) on))
  rounds_caused server work runs asks (round ∷ rounds) first last on goes =
      subst (λ l. Caused l (asks ++ (round.asks ++ flat_map (λ r. r.asks) rounds)) last) (append_assoc runs round.runs (flat_map (λ r. r.runs) rounds))
      (subst (λ l. Caused ((runs ++ round.runs) ++ flat_map (λ r. r.runs) rounds) l last) (append_assoc asks round.asks (flat_map (λ r. r.asks) rounds))
      (rounds_caused server work (runs ++ round.runs) (asks ++ round.asks) rounds round.after last
      (round_caused server work runs asks first.step first.after.phase first.after.copy round on goes.0) goes.1))

pub declines_have_causes : DeclinesHaveCauses
declines_have_causes server work copy after client sketched runs asks cause handling =
    subst (λ l. CausesDecline sketched copy asks l cause) (sym handling.runs_are)
    (subst (λ l. CausesDecline sketched copy l (handling.first_runs ++ flat_map (λ r. r.runs) handling.rounds) cause) (sym handling.asks_are)
    (rounds_caused sketched copy server work handling.first_runs [] handling.rounds handling.first (answering after (Declined client sketched.seq cause))
    (tries_caused sketched copy false client [] copy work handling.first_runs handling.first (inl refl) (λ e. absurd (cc)) handling.begins) handling.goes_on))
