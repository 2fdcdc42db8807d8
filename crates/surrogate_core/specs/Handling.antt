-- How an operation is handled, step by step, and a whole handling as a chain of rounds.
use Rattle.std.specs.Prelude.{◌≡◌, ◌⊎◌, ℕ, ◌-◌, Bool, true, false, List, [], ◌∷◌, ◌++◌, find, Option, None, Some, Result, Ok, Err}
use Rattle.std.specs.Prelude.{if◌then◌else◌}
use Rattle.std.specs.List.{flat_map}
use Rattle.std.specs.Str.{bytes_eq}
use Rattle.sha2.specs.Sha256.{sha256}
use Rattle.tree_values.specs.Tree.{Volume}
use Rattle.tree_values.specs.Effects.{apply_all}
use Rattle.tree_values.specs.declared.node.Effect.{Effect}
use Rattle.tree_values.specs.declared.node.Base.{Base}
use Rattle.tree_values.specs.declared.node.TreeError.{TreeError}
use Rattle.cmd_capture.specs.Spelling.{job as spelled_job}
use Rattle.cmd_capture.specs.declared.job.Job.{Job}
use Rattle.cmd_capture.specs.declared.job.Outcome.{Outcome}
use Rattle.cmd_capture.specs.declared.runner.Run.{Run}
use Rattle.work_area.specs.Jobs.{job_of}
use Rattle.work_area.specs.Changes.{clashes, first_path}
use Rattle.work_area.specs.declared.jobs.JobError.{JobError}
use Rattle.work_area.specs.declared.jobs.JobError.TheVariants as job_errors
use Rattle.mod_log.specs.declared.sketching.SketchEntry.{SketchEntry}
use Rattle.replay_judge.specs.Judgement.{IsJudgement}
use Rattle.replay_judge.specs.declared.verdict.Verdict.{Verdict}
use Rattle.replay_judge.specs.declared.verdict.Verdict.TheVariants as verdicts
use Rattle.wire_frames.specs.Frame.{IsValid, Echoes}
use Rattle.wire_frames.specs.Parts.{part_of}
use Rattle.wire_frames.specs.declared.cause.Cause.{Cause}
use Rattle.wire_frames.specs.declared.cause.Cause.TheVariants.{OtherJob, NoJob, NoServer, NotRun, Status, OddTree, Mismatch, Clash, NotFit}
use Rattle.wire_frames.specs.declared.cause.Cause.TheVariants.{Refused, NoMemory}
use Rattle.wire_frames.specs.declared.message.Message.{Message}
use Rattle.wire_frames.specs.declared.message.Message.TheVariants.{Store, Operate, Pull, Stale, Unfit, Gap, Snapshot, Done, Declined, Full}
use Rattle.wire_frames.specs.declared.message.Message.TheVariants.{Malformed}
use Rattle.world_rules.specs.Asking.{IsRequest}
use Rattle.world_rules.specs.Settling.{IsSettling, BreaksSettling}
use Rattle.world_rules.specs.declared.asking.Peer.TheVariants.{Server}
use Rattle.world_rules.specs.declared.asking.Ask.{Ask}
use Rattle.surrogate_core.specs.declared.step.NextStep.{NextStep}
use Rattle.surrogate_core.specs.declared.step.NextStep.TheVariants as steps

-- ---- what a surrogate is

pub data Phase : Type 0 where
  Idle : Phase
  -- a snapshot was asked for, for this client's operation
  Fetching : ℕ → SketchEntry → Phase
  -- a store with this client and number was asked for; the copy is these rows again unless it is accepted
  Holding : ℕ → ℕ → Volume → Phase

-- the surrogate's copy of the volume, and what it waits for
pub record Machine : Type 0 where
  pub copy : Volume
  pub phase : Phase

-- a surrogate that waits for an operation
abbrev pub idle : Volume → Machine
idle copy = record { copy = copy; phase = Idle }

-- the copy once what is open is taken back
abbrev pub taken_back : Phase → Volume → Volume
taken_back Idle copy = copy
taken_back (Fetching client sketched) copy = copy
taken_back (Holding client number before) copy = before

abbrev pub copy_before : Machine → Volume
copy_before machine = taken_back machine.phase machine.copy

-- a request is open
abbrev pub IsAsking : Phase → Type 0
IsAsking Idle = ⊥
IsAsking (Fetching client sketched) = Unit {0}
IsAsking (Holding client number before) = Unit {0}

-- a snapshot is awaited
abbrev pub is_fetching : Phase → Bool
is_fetching (Fetching client sketched) = true
is_fetching phase = false

-- a step, and what the surrogate is after it
pub record Reaction : Type 0 where
  pub step : NextStep
  pub after : Machine

abbrev pub answering : Volume → Message → Reaction
answering copy reply = record { step = steps.Answer reply; after = idle copy }

abbrev pub declining : Volume → ℕ → ℕ → Cause → Reaction
declining copy client number cause = answering copy (Declined client number cause)

-- the message of a step has a spelling, and what is asked is a request to the server
abbrev pub IsFitStep : NextStep → Type 0
IsFitStep (steps.Ask request) = IsValid request × IsRequest Server request
IsFitStep (steps.Answer reply) = IsValid reply

-- ---- the job

abbrev pub job_print : Job → List ℕ
job_print job = sha256 (spelled_job job)

-- the job, where its print is the operation's; or why there is none
abbrev pub prepared : SketchEntry → Result Job JobError → Result Job Cause
prepared sketched (Ok job) =
    if bytes_eq (job_print job) sketched.origin.job_print then Ok job else Err (OtherJob sketched.origin.job_print (job_print job))
prepared sketched (Err (job_errors.NoFolder path)) = Err (NoJob 1 0)
prepared sketched (Err (job_errors.NoInput index)) = Err (NoJob 2 index)
prepared sketched (Err job_errors.Memory) = Err NoMemory

-- the operation's job on this copy
abbrev pub job_for : Volume → SketchEntry → Result Job Cause
job_for copy sketched = prepared sketched (job_of copy sketched.origin.command)

-- ---- what an outcome comes to

-- the agreed effects, and the copy after them
pub record Held : Type 0 where
  pub effects : List Effect
  pub copy : Volume

abbrev pub unless_unfit : List Effect → Result Volume (ℕ × TreeError) → Result Held Cause
unless_unfit effects (Ok copy) = Ok (record { effects = effects; copy = copy })
unless_unfit effects (Err refusal) = Err (NotFit refusal.0 refusal.1)

abbrev pub unless_clash : Volume → List Effect → Option Effect → Result Held Cause
unless_clash copy effects (Some effect) = Err (Clash (first_path effect))
unless_clash copy effects None = unless_unfit effects (apply_all 0 effects copy)

-- the copy takes what was agreed on; or why it does not
abbrev pub held_by : Volume → Job → Verdict → Result Held Cause
held_by copy job (verdicts.Status logged replayed) = Err (Status logged replayed)
held_by copy job (verdicts.OddTree index) = Err (OddTree index)
held_by copy job (verdicts.Mismatch path) = Err (Mismatch path)
held_by copy job (verdicts.Agree effects) = unless_clash copy effects (find (clashes copy job.rows) effects)

-- the store of what the copy took is asked
abbrev pub after_verdict : Volume → ℕ → SketchEntry → Result Held Cause → Reaction
after_verdict copy client sketched (Ok held) = record {
  step = steps.Ask (Store client sketched.seq (part_of held.effects sketched.base ∷ []));
  after = record { copy = held.copy; phase = Holding client sketched.seq copy };
}
after_verdict copy client sketched (Err cause) = declining copy client sketched.seq cause

-- ---- an operation up to the first step

-- the job was run, and this came of it; none where the runner failed
abbrev pub AfterRun : Volume → ℕ → SketchEntry → Job → Option Outcome → Reaction → Type 0
AfterRun copy client sketched job None reaction = reaction ≡ declining copy client sketched.seq NotRun
AfterRun copy client sketched job (Some outcome) reaction =
    (verdict : Verdict) × IsJudgement sketched job outcome verdict
    × (reaction ≡ after_verdict copy client sketched (held_by copy job verdict))

-- Where the copy has no such job a snapshot is asked for, unless the copy is one of this handling (`pulled`).
abbrev pub AfterJob : Bool → Volume → ℕ → SketchEntry → Result Job Cause → Option Outcome → Reaction → Type 0
AfterJob pulled copy client sketched (Ok job) ran reaction = AfterRun copy client sketched job ran reaction
AfterJob true copy client sketched (Err cause) ran reaction = reaction ≡ declining copy client sketched.seq cause
AfterJob false copy client sketched (Err cause) ran reaction = reaction ≡ record {
  step = steps.Ask (Pull client (sketched.seq - 1));
  after = record { copy = copy; phase = Fetching client sketched };
}

abbrev pub runs_of_job : List ℕ → Result Job Cause → Option Outcome → List Run
runs_of_job work (Ok job) (Some outcome) = record { work = work; job = job; outcome = outcome } ∷ []
runs_of_job work job ran = []

-- The operation is tried on the copy, with these runs: as said above, or memory was wanted.
pub record Tries (pulled : Bool) (copy : Volume) (client : ℕ) (sketched : SketchEntry) (work : List ℕ) (runs : List Run)
    (reaction : Reaction) : Type 0 where
  pub ran : Option Outcome
  pub runs_are : runs ≡ runs_of_job work (job_for copy sketched) ran
  pub came : AfterJob pulled copy client sketched (job_for copy sketched) ran reaction
      ⊎ (reaction ≡ declining copy client sketched.seq NoMemory)

-- An operation is tried on the surrogate's copy; any other message is not for a surrogate.
abbrev pub Operates : Volume → List ℕ → Message → List Run → Reaction → Type 0
Operates copy work (Operate client sketched) runs reaction = Tries false copy client sketched work runs reaction
Operates copy work message runs reaction = (reaction ≡ answering copy (Malformed 7 0)) × (runs ≡ [])

-- ---- the server's reply, and none

-- the number of a reply's kind, where it refuses a store
abbrev pub refusal_kind : Message → Option ℕ
refusal_kind (Stale client number upto path theirs ours) = Some 18
refusal_kind (Unfit client number upto index fault) = Some 19
refusal_kind (Gap client number last) = Some 20
refusal_kind (Full client number upto index fault) = Some 24
refusal_kind message = None

-- what was held is kept where the store was accepted, and else taken back
abbrev pub closed : Volume → ℕ → ℕ → Volume → Option ℕ → Reaction
closed copy client number before None = answering copy (Done client number)
closed copy client number before (Some kind) = declining before client number (Refused kind)

-- a valid reply to what was asked
abbrev pub Expects : Phase → Message → Type 0
Expects Idle reply = ⊥
Expects (Fetching client sketched) reply = IsValid reply × Echoes (Pull client (sketched.seq - 1)) reply
Expects (Holding client number before) reply =
    IsValid reply × ((effects : List Effect) × (base : List Base) × Echoes (Store client number (part_of effects base ∷ [])) reply)

-- What a reply comes to. A snapshot is the copy from here on, unless memory is wanted for it.
abbrev pub HandlesReply : Phase → Volume → Message → List ℕ → List Run → Reaction → Type 0
HandlesReply (Fetching client sketched) copy (Snapshot c n last rows) work runs reaction =
    Tries true rows client sketched work runs reaction ⊎ ((reaction ≡ declining copy client sketched.seq NoMemory) × (runs ≡ []))
HandlesReply (Holding client number before) copy reply work runs reaction =
    (reaction ≡ closed copy client number before (refusal_kind reply)) × (runs ≡ [])
HandlesReply phase copy reply work runs reaction = ⊥

-- what silence comes to: all that is open is taken back
abbrev pub IsSilenced : Phase → Volume → Reaction → Type 0
IsSilenced Idle copy reaction = ⊥
IsSilenced (Fetching client sketched) copy reaction = reaction ≡ declining copy client sketched.seq NoServer
IsSilenced (Holding client number before) copy reaction = reaction ≡ declining before client number NoServer

-- what came is handled, a reply or none
abbrev pub HandlesCome : Machine → Option Message → List ℕ → List Run → Reaction → Type 0
HandlesCome machine (Some reply) work runs reaction = HandlesReply machine.phase machine.copy reply work runs reaction
HandlesCome machine None work runs reaction = IsSilenced machine.phase machine.copy reaction × (runs ≡ [])

-- ---- a whole handling

-- one round: what a step asks is settled with the server, and what came is handled
pub record Round : Type 0 where
  pub asks : List Ask
  pub came : Option Message
  pub runs : List Run
  pub after : Reaction

abbrev pub IsRound : List ℕ → List ℕ → Reaction → Round → Type 0
IsRound server work before round = by before.step
  where
    by : NextStep → Type 0
    by (steps.Ask request) = IsSettling Server server request round.came round.asks
        × HandlesCome before.after round.came work round.runs round.after
    by (steps.Answer reply) = ⊥

-- rounds, one after the other
abbrev pub GoesOn : List ℕ → List ℕ → Reaction → List Round → Reaction → Type 0
GoesOn server work first [] last = last ≡ first
GoesOn server work first (round ∷ rounds) last = IsRound server work first round × GoesOn server work round.after rounds last

-- The handling of an operation up to some step: with these runs and asks, in order.
pub record Handled (server work : List ℕ) (copy : Volume) (client : ℕ) (sketched : SketchEntry) (runs : List Run) (asks : List Ask)
    (last : Reaction) : Type 0 where
  pub first_runs : List Run
  pub first : Reaction
  pub begins : Tries false copy client sketched work first_runs first
  pub rounds : List Round
  pub goes_on : GoesOn server work first rounds last
  pub runs_are : runs ≡ first_runs ++ flat_map (λ round. round.runs) rounds
  pub asks_are : asks ≡ flat_map (λ round. round.asks) rounds

-- a handling to its answer
abbrev pub Handling : List ℕ → List ℕ → Volume → ℕ → SketchEntry → List Run → List Ask → Message → Volume → Type 0
Handling server work copy client sketched runs asks reply after = Handled server work copy client sketched runs asks (answering after reply)

-- a handling that was broken off in a settling, since memory was wanted: what was open is taken back
pub record BreaksHandling (server work : List ℕ) (copy : Volume) (client : ℕ) (sketched : SketchEntry) (runs : List Run)
    (asks : List Ask) (after : Volume) : Type 0 where
  pub earlier : List Ask
  pub machine : Machine
  pub request : Message
  pub handled : Handled server work copy client sketched runs earlier (record { step = steps.Ask request; after = machine })
  pub broken : List Ask
  pub breaks : BreaksSettling Server server request broken
  pub asks_are : asks ≡ earlier ++ broken
  pub after_is : after ≡ copy_before machine
