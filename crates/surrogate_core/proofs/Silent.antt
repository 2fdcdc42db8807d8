-- An operation is declined for want of the server only behind eight asks of one request that failed.
use Rattle.std.proofs.Common.{◌≡◌, inl, inr, ⊎_elim, ℕ, Bool, true, false, List, [], ◌∷◌, ◌++◌, Option, Some, None, Result, Ok, Err, refl, sym, ◌∙◌, ap, subst, append_assoc, if◌then◌else◌}
use Rattle.std.proofs.lemmas.List.{append-nil}
use Rattle.std.specs.Prelude.{find}
use Rattle.std.specs.List.{flat_map}
use Rattle.std.specs.Str.{bytes_eq}
use Rattle.tree_values.specs.Tree.{Volume}
use Rattle.tree_values.specs.Effects.{apply_all}
use Rattle.tree_values.specs.declared.node.Effect.{Effect}
use Rattle.tree_values.specs.declared.node.TreeError.{TreeError}
use Rattle.cmd_capture.specs.declared.job.Job.{Job}
use Rattle.cmd_capture.specs.declared.job.Outcome.{Outcome}
use Rattle.cmd_capture.specs.declared.runner.Run.{Run}
use Rattle.work_area.specs.Changes.{clashes}
use Rattle.work_area.specs.Jobs.{job_of}
use Rattle.work_area.specs.declared.jobs.JobError.{JobError}
use Rattle.work_area.specs.declared.jobs.JobError.TheVariants as job_errors
use Rattle.mod_log.specs.declared.sketching.SketchEntry.{SketchEntry}
use Rattle.replay_judge.specs.declared.verdict.Verdict.{Verdict}
use Rattle.replay_judge.specs.declared.verdict.Verdict.TheVariants as verdicts
use Rattle.wire_frames.specs.declared.cause.Cause.{Cause}
use Rattle.wire_frames.specs.declared.cause.Cause.TheVariants.{OtherJob, NoServer}
use Rattle.wire_frames.specs.declared.message.Message.{Message}
use Rattle.wire_frames.specs.declared.message.Message.TheVariants.{Snapshot, Declined}
use Rattle.world_rules.specs.declared.asking.Peer.TheVariants.{Server}
use Rattle.world_rules.specs.declared.asking.Ask.{Ask}
use Rattle.world_rules.specs.Settling.{IsSettling, failures}
use Rattle.surrogate_core.specs.declared.step.NextStep.{NextStep}
use Rattle.surrogate_core.specs.declared.step.NextStep.TheVariants as steps
use Rattle.surrogate_core.specs.Handling.{Phase, Idle, Fetching, Holding, Reaction, answering, prepared, job_for, job_print, held_by, unless_clash, unless_unfit, after_verdict, AfterJob, Tries, closed, refusal_kind, HandlesReply, IsSilenced, HandlesCome, Round, IsRound, GoesOn}
use Rattle.surrogate_core.specs.Laws.{FailedEight, SilencesAreOfOneRequest}

abbrev cause_in : Result Job Cause → Cause → Cause
cause_in (Ok job) other = other
cause_in (Err cause) other = cause

module _ (server : List ℕ) (asks : List Ask) where
  abbrev OfCause : Cause → Type 0
  OfCause NoServer = FailedEight server asks
  OfCause _ = Unit {0}

  abbrev OfReply : Message → Type 0
  OfReply (Declined client number cause) = OfCause cause
  OfReply _ = Unit {0}

  abbrev OfStep : NextStep → Type 0
  OfStep (steps.Answer reply) = OfReply reply
  OfStep (steps.Ask request) = Unit {0}

  module _ (client : ℕ) (sketched : SketchEntry) where
    unfit_of : (copy : Volume) (effects : List Effect) (applied : Result Volume (ℕ × TreeError)) → OfStep (after_verdict copy client sketched (unless_unfit effects applied)).step
    unfit_of copy effects (Ok after) = tt
    unfit_of copy effects (Err refusal) = tt

    clash_of : (copy : Volume) (effects : List Effect) (clash : Option Effect) → OfStep (after_verdict copy client sketched (unless_clash copy effects clash)).step
    clash_of copy effects (Some effect) = tt
    clash_of copy effects None = unfit_of copy effects (apply_all 0 effects copy)

    verdict_of : (copy : Volume) (job : Job) (verdict : Verdict) → OfStep (after_verdict copy client sketched (held_by copy job verdict)).step
    verdict_of copy job (verdicts.Status logged replayed) = tt
    verdict_of copy job (verdicts.OddTree index) = tt
    verdict_of copy job (verdicts.Mismatch path) = tt
    verdict_of copy job (verdicts.Agree effects) = clash_of copy effects (find (clashes copy job.rows) effects)

    -- no job is no want of a server
    lacks_of : (found : Result Job JobError) (cause : Cause) → prepared sketched found ≡ Err cause → OfCause cause
    lacks_of (Ok job) cause is = by (bytes_eq (job_print job) sketched.origin.job_print) is
      where
        by : (b : Bool) → (if b then Ok job else Err (OtherJob sketched.origin.job_print (job_print job))) ≡ Err cause → OfCause cause
        by true is = absurd (cc)
        by false is = subst OfCause (ap (λ (r : Result Job Cause). cause_in r cause) is) tt
    lacks_of (Err (job_errors.NoFolder path)) cause is = subst OfCause (ap (λ (r : Result Job Cause). cause_in r cause) is) tt
    lacks_of (Err (job_errors.NoInput index)) cause is = subst OfCause (ap (λ (r : Result Job Cause). cause_in r cause) is) tt
    lacks_of (Err job_errors.Memory) cause is = subst OfCause (ap (λ (r : Result Job Cause). cause_in r cause) is) tt

    tries_of : (pulled : Bool) (copy : Volume) (work : List ℕ) (runs : List Run) (reaction : Reaction) → Tries pulled copy client sketched work runs reaction → OfStep reaction.step
    tries_of pulled copy work runs reaction tries =
        ⊎_elim (λ came. by pulled (job_for copy sketched) tries.ran refl came) (λ none. subst (λ (r : Reaction). OfStep r.step) (sym none) tt) tries.came
      where
        by : (pulled : Bool) (job : Result Job Cause) (ran : Option Outcome) → job_for copy sketched ≡ job → AfterJob pulled copy client sketched job ran reaction → OfStep reaction.step
        by pulled (Ok job) None e came = subst (λ (r : Reaction). OfStep r.step) (sym came) tt
        by pulled (Ok job) (Some outcome) e came = subst (λ (r : Reaction). OfStep r.step) (sym came.2) (verdict_of copy job came.0)
        by true (Err cause) ran e came = subst (λ (r : Reaction). OfStep r.step) (sym came) (lacks_of (job_of copy sketched.origin.command) cause e)
        by false (Err cause) ran e came = subst (λ (r : Reaction). OfStep r.step) (sym came) tt

  closed_of : (copy : Volume) (client number : ℕ) (before : Volume) (kind : Option ℕ) → OfStep (closed copy client number before kind).step
  closed_of copy client number before None = tt
  closed_of copy client number before (Some kind) = tt

  replied_of : (phase : Phase) (copy : Volume) (reply : Message) (work : List ℕ) (runs : List Run) (reaction : Reaction) → HandlesReply phase copy reply work runs reaction → OfStep reaction.step
  replied_of Idle copy reply work runs reaction handles = absurd handles
  replied_of (Fetching client sketched) copy (Snapshot c n last rows) work runs reaction (inl tries) = tries_of client sketched true rows work runs reaction tries
  replied_of (Fetching client sketched) copy (Snapshot c n last rows) work runs reaction (inr starved) = subst (λ (r : Reaction). OfStep r.step) (sym starved.0) tt
  replied_of (Fetching client sketched) copy _ work runs reaction handles = absurd handles
  replied_of (Holding client number before) copy reply work runs reaction handles =
      subst (λ (r : Reaction). OfStep r.step) (sym handles.0) (closed_of copy client number before (refusal_kind reply))

  silenced_of : (phase : Phase) (copy : Volume) (reaction : Reaction) → FailedEight server asks → IsSilenced phase copy reaction → OfStep reaction.step
  silenced_of Idle copy reaction eight silenced = absurd silenced
  silenced_of (Fetching client sketched) copy reaction eight silenced = subst (λ (r : Reaction). OfStep r.step) (sym silenced) eight
  silenced_of (Holding client number before) copy reaction eight silenced = subst (λ (r : Reaction). OfStep r.step) (sym silenced) eight

module _ (server work : List ℕ) where
  came_of : (asks made : List Ask) (request : Message) (phase : Phase) (copy : Volume) (came : Option Message) (runs : List Run) (reaction : Reaction)
      → IsSettling Server server request came made → HandlesCome (record { copy = copy; phase = phase }) came work runs reaction → OfStep server (asks ++ made) reaction.step
  came_of asks made request phase copy None runs reaction settles handles =
      silenced_of server (asks ++ made) phase copy reaction (request, asks, [], ap (λ (l : List Ask). asks ++ l) (settles ∙ sym (append-nil (failures Server server request 8)))) handles.0
  came_of asks made request phase copy (Some reply) runs reaction settles handles = replied_of server (asks ++ made) phase copy reply work runs reaction handles

  round_of : (asks : List Ask) (step : NextStep) (phase : Phase) (copy : Volume) (round : Round) → IsRound server work (record { step = step; after = record { copy = copy; phase = phase } }) round
      → OfStep server (asks ++ round.asks) round.after.step
  round_of asks (steps.Answer reply) phase copy round is = absurd is
  round_of asks (steps.Ask request) phase copy round is = came_of asks round.asks request phase copy round.came round.runs round.after is.0 is.1

  rounds_of : (asks : List Ask) (rounds : List Round) (first last : Reaction) → OfStep server asks first.step → GoesOn server work first rounds last
      → OfStep server (asks ++ flat_map (λ round. round.asks) rounds) last.step
  rounds_of asks [] first last of goes = subst (λ (l : List Ask). OfStep server l last.step) (sym (append-nil asks)) (subst (λ (r : Reaction). OfStep server asks r.step) (sym goes) of)
  rounds_of asks (round ∷ rounds) first last of goes =
      subst (λ (l : List Ask). OfStep server l last.step) (append_assoc asks round.asks (flat_map (λ r. r.asks) rounds))
      (rounds_of (asks ++ round.asks) rounds round.after last (round_of asks first.step first.after.phase first.after.copy round goes.0) goes.1)

pub silences_are_of_one_request : SilencesAreOfOneRequest
silences_are_of_one_request server work copy after client sketched runs asks handling =
    subst (FailedEight server) (sym handling.asks_are)
    (rounds_of server work [] handling.rounds handling.first (answering after (Declined client sketched.seq NoServer))
    (tries_of server [] client sketched false copy work handling.first_runs handling.first handling.begins) handling.goes_on)
