-- What holds of every handling.
use Rattle.std.specs.Prelude.{◌≡◌, ◌≢◌, ◌⊎◌, ℕ, ◌≤◌, Bool, true, List, [], ◌∷◌, ◌++◌, find, None, Some, Ok, Err}
use Rattle.tree_values.specs.Lists.{IsIn}
use Rattle.tree_values.specs.Tree.{Volume}
use Rattle.tree_values.specs.Effects.{apply_all}
use Rattle.tree_values.specs.declared.node.Effect.{Effect}
use Rattle.cmd_capture.specs.declared.job.Job.{Job}
use Rattle.cmd_capture.specs.declared.runner.Run.{Run}
use Rattle.work_area.specs.Jobs.{job_of}
use Rattle.work_area.specs.Changes.{clashes, first_path}
use Rattle.mod_log.specs.Sketched.{AllFill}
use Rattle.mod_log.specs.declared.sketching.SketchEntry.{SketchEntry}
use Rattle.replay_judge.specs.Judgement.{IsJudgement}
use Rattle.replay_judge.specs.declared.verdict.Verdict.{Verdict}
use Rattle.replay_judge.specs.declared.verdict.Verdict.TheVariants as verdicts
use Rattle.wire_frames.specs.Parts.{part_of}
use Rattle.wire_frames.specs.declared.cause.Cause.{Cause}
use Rattle.wire_frames.specs.declared.cause.Cause.TheVariants.{OtherJob, NoJob, NoServer, NotRun, Status, OddTree, Mismatch, Clash, NotFit}
use Rattle.wire_frames.specs.declared.cause.Cause.TheVariants.{Refused, NoMemory}
use Rattle.wire_frames.specs.declared.message.Message.{Message}
use Rattle.wire_frames.specs.declared.message.Message.TheVariants as messages
use Rattle.world_rules.specs.declared.asking.Peer.TheVariants.{Server}
use Rattle.world_rules.specs.declared.asking.Answer.TheVariants.{Reply}
use Rattle.world_rules.specs.declared.asking.Ask.{Ask}
use Rattle.world_rules.specs.Settling.{max_asks, failures, failed_asks}
use Rattle.surrogate_core.specs.Handling.{Reaction, Tries, Handling, BreaksHandling, after_verdict, declining, job_for, job_print}
use Rattle.surrogate_core.specs.Handling.{refusal_kind, held_by}
use Rattle.surrogate_core.specs.Serving.{MayAsk}

-- ---- what is asked, and what is run

-- each ask goes to the server at the address, and is one that the operation may ask
abbrev pub HandlingsAskTheServer : Type 0
HandlingsAskTheServer = (server work : List ℕ) (copy after : Volume) (client : ℕ) (sketched : SketchEntry) (runs : List Run)
    (asks : List Ask) (reply : Message) (ask : Ask)
    → Handling server work copy client sketched runs asks reply after → IsIn ask asks
    → (ask.to ≡ Server) × (ask.address ≡ server) × MayAsk client sketched ask.request

-- at most one run, which is in this work folder and of a job with the operation's print
abbrev pub IsOfJob : SketchEntry → List ℕ → List Run → Type 0
IsOfJob sketched work [] = Unit {0}
IsOfJob sketched work (run ∷ []) = (run.work ≡ work) × (job_print run.job ≡ sketched.origin.job_print)
IsOfJob sketched work (run ∷ more ∷ runs) = ⊥

abbrev pub HandlingsRunOnce : Type 0
HandlingsRunOnce =
    (server work : List ℕ) (copy after : Volume) (client : ℕ) (sketched : SketchEntry) (runs : List Run) (asks : List Ask) (reply : Message)
    → Handling server work copy client sketched runs asks reply after → IsOfJob sketched work runs

-- also of a handling that was broken off for want of memory
abbrev pub BrokenHandlingsAskTheServer : Type 0
BrokenHandlingsAskTheServer =
    (server work : List ℕ) (copy after : Volume) (client : ℕ) (sketched : SketchEntry) (runs : List Run) (asks : List Ask) (ask : Ask)
    → BreaksHandling server work copy client sketched runs asks after → IsIn ask asks
    → (ask.to ≡ Server) × (ask.address ≡ server) × MayAsk client sketched ask.request

abbrev pub BrokenHandlingsRunOnce : Type 0
BrokenHandlingsRunOnce =
    (server work : List ℕ) (copy after : Volume) (client : ℕ) (sketched : SketchEntry) (runs : List Run) (asks : List Ask)
    → BreaksHandling server work copy client sketched runs asks after → IsOfJob sketched work runs

-- ---- the copy

-- the rows of a snapshot that was answered
abbrev pub IsPulled : List Ask → Volume → Type 0
IsPulled asks tried =
    (ask : Ask) × (client number last : ℕ) × IsIn ask asks × (ask.answer ≡ Reply (messages.Snapshot client number last tried))

-- the copy that the operation was tried on: the one from before, or the rows of a snapshot that was answered
abbrev pub IsTried : Volume → List Ask → Volume → Type 0
IsTried copy asks tried = (tried ≡ copy) ⊎ IsPulled asks tried

-- it was done: the effects that were asked and accepted, on that copy
pub record IsDoneBy (client : ℕ) (sketched : SketchEntry) (copy : Volume) (asks : List Ask) (after : Volume) : Type 0 where
  pub tried : Volume
  pub tried_is : IsTried copy asks tried
  pub effects : List Effect
  pub fills : AllFill sketched.effects effects
  pub ask : Ask
  pub among : IsIn ask asks
  pub asked : ask.request ≡ messages.Store client sketched.seq (part_of effects sketched.base ∷ [])
  pub accepted : ask.answer ≡ Reply (messages.Accepted client sketched.seq sketched.seq)
  pub copy_is : apply_all 0 effects tried ≡ Ok after

-- the answer is of the operation; a decline leaves the tried copy as it was, and Done leaves it with what was accepted
abbrev pub EndsOperation : ℕ → SketchEntry → Volume → List Ask → Volume → Message → Type 0
EndsOperation client sketched copy asks after (messages.Declined of number cause) =
    (of ≡ client) × (number ≡ sketched.seq) × IsTried copy asks after
EndsOperation client sketched copy asks after (messages.Done of number) =
    (of ≡ client) × (number ≡ sketched.seq) × IsDoneBy client sketched copy asks after
EndsOperation client sketched copy asks after reply = ⊥

abbrev pub HandlingsKeepTheCopy : Type 0
HandlingsKeepTheCopy =
    (server work : List ℕ) (copy after : Volume) (client : ℕ) (sketched : SketchEntry) (runs : List Run) (asks : List Ask) (reply : Message)
    → Handling server work copy client sketched runs asks reply after → EndsOperation client sketched copy asks after reply

-- also where memory was wanted
abbrev pub BrokenHandlingsKeepTheCopy : Type 0
BrokenHandlingsKeepTheCopy =
    (server work : List ℕ) (copy after : Volume) (client : ℕ) (sketched : SketchEntry) (runs : List Run) (asks : List Ask)
    → BreaksHandling server work copy client sketched runs asks after → IsTried copy asks after

-- ---- why an operation is declined

-- the one run of a handling, on the job of the tried copy
pub record IsJudged (sketched : SketchEntry) (copy : Volume) (asks : List Ask) (runs : List Run) (tried : Volume) (run : Run) : Type 0 where
  pub tried_is : IsTried copy asks tried
  pub runs_are : runs ≡ run ∷ []
  pub job_is : job_for tried sketched ≡ Ok run.job

-- what was run is judged as agreeing on these effects
pub record IsAgreed (sketched : SketchEntry) (copy : Volume) (asks : List Ask) (runs : List Run) (tried : Volume) (run : Run)
    (effects : List Effect) : Type 0 where
  pub judged : IsJudged sketched copy asks runs tried run
  pub agrees : IsJudgement sketched run.job run.outcome (verdicts.Agree effects)

abbrev pub CausesDecline : SketchEntry → Volume → List Ask → List Run → Cause → Type 0
CausesDecline sketched copy asks runs (OtherJob logged found) =
    (tried : Volume) × (job : Job) × IsPulled asks tried × (job_of tried sketched.origin.command ≡ Ok job) × (found ≡ job_print job)
    × (logged ≡ sketched.origin.job_print) × (found ≢ logged)
CausesDecline sketched copy asks runs (NoJob code index) =
    (tried : Volume) × IsPulled asks tried × (job_for tried sketched ≡ Err (NoJob code index))
CausesDecline sketched copy asks runs NoServer = max_asks ≤ failed_asks asks
CausesDecline sketched copy asks runs NotRun =
    (runs ≡ []) × ((tried : Volume) × (job : Job) × IsTried copy asks tried × (job_for tried sketched ≡ Ok job))
CausesDecline sketched copy asks runs (Status logged replayed) =
    (tried : Volume) × (run : Run) × IsJudged sketched copy asks runs tried run
    × IsJudgement sketched run.job run.outcome (verdicts.Status logged replayed)
CausesDecline sketched copy asks runs (OddTree index) =
    (tried : Volume) × (run : Run) × IsJudged sketched copy asks runs tried run
    × IsJudgement sketched run.job run.outcome (verdicts.OddTree index)
CausesDecline sketched copy asks runs (Mismatch path) =
    (tried : Volume) × (run : Run) × IsJudged sketched copy asks runs tried run
    × IsJudgement sketched run.job run.outcome (verdicts.Mismatch path)
CausesDecline sketched copy asks runs (Clash path) =
    (tried : Volume) × (run : Run) × (effects : List Effect) × (effect : Effect) × IsAgreed sketched copy asks runs tried run effects
    × (find (clashes tried run.job.rows) effects ≡ Some effect) × (path ≡ first_path effect)
CausesDecline sketched copy asks runs (NotFit index fault) =
    (tried : Volume) × (run : Run) × (effects : List Effect) × IsAgreed sketched copy asks runs tried run effects
    × (find (clashes tried run.job.rows) effects ≡ None) × (apply_all 0 effects tried ≡ Err (index, fault))
CausesDecline sketched copy asks runs (Refused kind) =
    (ask : Ask) × (reply : Message) × IsIn ask asks × (ask.answer ≡ Reply reply) × (refusal_kind reply ≡ Some kind)
CausesDecline sketched copy asks runs NoMemory = Unit {0}

abbrev pub DeclinesHaveCauses : Type 0
DeclinesHaveCauses =
    (server work : List ℕ) (copy after : Volume) (client : ℕ) (sketched : SketchEntry) (runs : List Run) (asks : List Ask) (cause : Cause)
    → Handling server work copy client sketched runs asks (messages.Declined client sketched.seq cause) after
    → CausesDecline sketched copy asks runs cause

-- eight asks of one request to the server failed, one after the other
abbrev pub FailedEight : List ℕ → List Ask → Type 0
FailedEight server asks = (request : Message) × (front back : List Ask) × (asks ≡ front ++ (failures Server server request max_asks ++ back))

-- for want of the server an operation is declined only behind them
abbrev pub SilencesAreOfOneRequest : Type 0
SilencesAreOfOneRequest =
    (server work : List ℕ) (copy after : Volume) (client : ℕ) (sketched : SketchEntry) (runs : List Run) (asks : List Ask)
    → Handling server work copy client sketched runs asks (messages.Declined client sketched.seq NoServer) after → FailedEight server asks

-- a pulled copy that has no such job is declined so, unless memory is wanted
abbrev pub UnpreparedTriesAreDeclined : Type 0
UnpreparedTriesAreDeclined = (tried : Volume) (client : ℕ) (sketched : SketchEntry) (work : List ℕ) (runs : List Run) (cause : Cause)
    (reaction : Reaction)
    → Tries true tried client sketched work runs reaction → job_for tried sketched ≡ Err cause
    → (reaction ≡ declining tried client sketched.seq cause) ⊎ (reaction ≡ declining tried client sketched.seq NoMemory)

-- what the runner failed to run is declined so, unless memory is wanted
abbrev pub UnrunTriesAreDeclined : Type 0
UnrunTriesAreDeclined = (pulled : Bool) (tried : Volume) (client : ℕ) (sketched : SketchEntry) (work : List ℕ) (job : Job)
    (reaction : Reaction)
    → Tries pulled tried client sketched work [] reaction → job_for tried sketched ≡ Ok job
    → (reaction ≡ declining tried client sketched.seq NotRun) ⊎ (reaction ≡ declining tried client sketched.seq NoMemory)

-- each judgement of what was run has its one consequence, unless memory is wanted
abbrev pub JudgedTriesGoOn : Type 0
JudgedTriesGoOn = (pulled : Bool) (tried : Volume) (client : ℕ) (sketched : SketchEntry) (work : List ℕ) (run : Run) (verdict : Verdict)
    (reaction : Reaction)
    → Tries pulled tried client sketched work (run ∷ []) reaction → IsJudgement sketched run.job run.outcome verdict
    → (reaction ≡ after_verdict tried client sketched (held_by tried run.job verdict))
    ⊎ (reaction ≡ declining tried client sketched.seq NoMemory)

-- ---- what is done

-- a store that the server accepts ends as done
abbrev pub AcceptedHandlingsAreDone : Type 0
AcceptedHandlingsAreDone =
    (server work : List ℕ) (copy after : Volume) (client : ℕ) (sketched : SketchEntry) (runs : List Run) (asks : List Ask) (reply : Message)
    (ask : Ask) (of number upto : ℕ) → Handling server work copy client sketched runs asks reply after → IsIn ask asks
    → ask.answer ≡ Reply (messages.Accepted of number upto)
    → reply ≡ messages.Done client sketched.seq

-- a store that the server refuses ends as declined, with the number of the refusal's kind
abbrev pub RefusedHandlingsAreDeclined : Type 0
RefusedHandlingsAreDeclined =
    (server work : List ℕ) (copy after : Volume) (client : ℕ) (sketched : SketchEntry) (runs : List Run) (asks : List Ask) (reply : Message)
    (ask : Ask) (refusal : Message) (kind : ℕ) → Handling server work copy client sketched runs asks reply after → IsIn ask asks
    → ask.answer ≡ Reply refusal → refusal_kind refusal ≡ Some kind
    → reply ≡ messages.Declined client sketched.seq (Refused kind)
