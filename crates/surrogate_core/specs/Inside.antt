-- How the surrogate's fields stand for what callers see, and what its private functions give one another.
use Rattle.std.specs.Prelude.{◌≡◌, ℕ, ◌-◌, List, [], ◌∷◌, Option, Some, None, Result, Ok, Err}
use Rattle.tree_values.specs.Tree.{Volume}
use Rattle.tree_values.specs.declared.node.Effect.{Effect}
use Rattle.tree_values.specs.declared.node.Base.{Base}
use Rattle.vol_tree.specs.Undos.{undone_all, CanUndoAll}
use Rattle.cmd_capture.specs.declared.job.Job.{Job}
use Rattle.cmd_capture.specs.declared.job.Outcome.{Outcome}
use Rattle.cmd_capture.specs.declared.runner.Run.{Run}
use Rattle.cmd_capture.specs.Runs.{RunnerTelling, HasRun}
use Rattle.mod_log.specs.declared.sketching.SketchEntry.{SketchEntry}
use Rattle.replay_judge.specs.declared.verdict.Verdict.{Verdict}
use Rattle.replay_judge.specs.Judgement.{IsJudgement}
use Rattle.wire_frames.specs.Frame.{IsValid}
use Rattle.wire_frames.specs.Parts.{part_of}
use Rattle.wire_frames.specs.declared.cause.Cause.{Cause}
use Rattle.wire_frames.specs.declared.message.Message.{Message}
use Rattle.wire_frames.specs.declared.message.Message.TheVariants.{Store, Operate, Pull, Snapshot, Done, Declined, Malformed}
use Rattle.world_rules.specs.declared.asking.Ask.{Ask}
use Rattle.world_rules.specs.World.{MovedBy, Is}
use Rattle.world_rules.specs.Asking.{AnswersStand}
use Rattle.world_rules.specs.Settling.{BreaksSettling, failed_asks}
use Rattle.world_rules.specs.Telling.{LinkTelling, ToldWorlds, HadTroubles}
use Rattle.world_rules.specs.declared.asking.Peer.TheVariants.{Server}
use Rattle.surrogate_core.specs.declared.step.NextStep.{NextStep}
use Rattle.surrogate_core.specs.declared.step.NextStep.TheVariants as steps
use Rattle.surrogate_core.specs.declared.machine.Stage.{Stage}
use Rattle.surrogate_core.specs.declared.machine.Stage.TheVariants.{Idle as IsIdle, Fetching as IsFetching, Holding as IsHolding}
use Rattle.surrogate_core.specs.declared.replaying.Held.{Held}
use Rattle.surrogate_core.specs.Handling.{Held as HeldEffects, Phase, Idle, Fetching, Holding, Reaction, Round, IsRound, Handled, held_by}
use Rattle.surrogate_core.specs.Handling.{runs_of_job, answering}
use Rattle.surrogate_core.specs.Serving.{MayAsk, failed_step}

-- ---- the machine's fields

abbrev pub phase_of : Stage → Volume → Phase
phase_of IsIdle copy = Idle
phase_of (IsFetching client sketched) copy = Fetching client sketched
phase_of (IsHolding client number undos) copy = Holding client number (undone_all undos.items copy)

-- what is open can be taken back, and can be answered
abbrev pub IsSound : Stage → Volume → Type 0
IsSound IsIdle copy = Unit {0}
IsSound (IsFetching client sketched) copy = IsValid (Operate client sketched)
IsSound (IsHolding client number undos) copy = IsValid (Done client number) × CanUndoAll undos.items copy

abbrev pub reaction_of : NextStep → Stage → Volume → Reaction
reaction_of step state copy = record { step = step; after = record { copy = copy; phase = phase_of state copy } }

-- ---- parts of messages

abbrev pub operation_in : Message → Option (ℕ × SketchEntry)
operation_in (Operate client sketched) = Some (client, sketched)
operation_in message = None

abbrev pub snapshot_rows : Message → Option Volume
snapshot_rows (Snapshot client number last rows) = Some rows
snapshot_rows message = None

-- ---- trying an operation

-- the copy took these effects, which are those of the one entry that is held, and gives them back
pub record TakesEffects (old new : Volume) (base : List Base) (wanted : Result HeldEffects Cause) (held : Held) : Type 0 where
  pub effects : List Effect
  pub is_wanted : wanted ≡ Ok (record { effects = effects; copy = new })
  pub entry : held.entries ≡ part_of effects base ∷ []
  pub undoes : undone_all held.undos.items new ≡ old
  pub can_undo : CanUndoAll held.undos.items new

-- what is held came to this, and left the copy with the effects or as it was
abbrev pub IsHeld : Volume → Volume → List Base → Result HeldEffects Cause → Result Held Cause → Type 0
IsHeld old new base wanted (Ok held) = TakesEffects old new base wanted held
IsHeld old new base wanted (Err cause) = (wanted ≡ Err cause) × (new ≡ old)

-- the outcome was judged, and that came to this
pub record IsJudgedReplay (old new : Volume) (sketched : SketchEntry) (job : Job) (outcome : Outcome) (result : Result Held Cause) :
    Type 0 where
  pub verdict : Verdict
  pub judged : IsJudgement sketched job outcome verdict
  pub held : IsHeld old new sketched.base (held_by old job verdict) result

-- the step and the state behind a run: the store of what is held is asked, or the operation is declined
abbrev pub IsConcluded : ℕ → SketchEntry → Result Held Cause → NextStep → Stage → Type 0
IsConcluded client sketched (Ok held) step state =
    (step ≡ steps.Ask (Store client sketched.seq held.entries)) × (state ≡ IsHolding client sketched.seq held.undos)
IsConcluded client sketched (Err cause) step state = (step ≡ steps.Answer (Declined client sketched.seq cause)) × (state ≡ IsIdle)

-- memory was wanted before a run, or behind it
pub record Starves (work : List ℕ) (job : Result Job Cause) (old new : RunnerTelling) : Type 0 where
  pub ran : Option Outcome
  pub told : HasRun (runs_of_job work job ran) 0 old new

-- ---- serving

-- how many asks may still come
abbrev pub asks_left : Phase → ℕ
asks_left Idle = 0
asks_left (Fetching client sketched) = 2
asks_left (Holding client number before) = 1

-- this was asked in this phase
abbrev pub Awaits : Phase → Message → Type 0
Awaits Idle asked = ⊥
Awaits (Fetching client sketched) asked = asked ≡ Pull client (sketched.seq - 1)
Awaits (Holding client number before) asked =
    (effects : List Effect) × (base : List Base) × (asked ≡ Store client number (part_of effects base ∷ []))

-- what a link tells of these asks of one request
pub record Asked (request : Message) (asks : List Ask) (old new : LinkTelling) : Type 0 where
  pub troubles : HadTroubles (failed_asks asks) old new
  pub went : ToldWorlds old new (λ v w. MovedBy (Is request) asks v w × AnswersStand w asks)

-- one round from a step to the next, and what runner and link tell of it
pub record Follows (server work : List ℕ) (request : Message) (before after : Reaction) (runner ran : RunnerTelling)
    (link asked : LinkTelling) : Type 0 where
  pub round : Round
  pub is_round : IsRound server work before round
  pub after_is : round.after ≡ after
  pub has_run : HasRun round.runs (failed_step after.step) runner ran
  pub has_asked : Asked request round.asks link asked

-- a settling that was broken off
pub record Breaks (server : List ℕ) (request : Message) (link asked : LinkTelling) : Type 0 where
  pub asks : List Ask
  pub breaks : BreaksSettling Server server request asks
  pub has_asked : Asked request asks link asked

-- an operation that was handled up to some step, and what runner and link tell of it
pub record Serving (server work : List ℕ) (copy : Volume) (client : ℕ) (sketched : SketchEntry) (last : Reaction)
    (runner ran : RunnerTelling) (link asked : LinkTelling) : Type 0 where
  pub runs : List Run
  pub asks : List Ask
  pub handled : Handled server work copy client sketched runs asks last
  pub has_run : HasRun runs (failed_step last.step) runner ran
  pub troubles : HadTroubles (failed_asks asks) link asked
  pub went : ToldWorlds link asked (λ v w. MovedBy (MayAsk client sketched) asks v w × AnswersStand w asks)

-- a message that was handled up to some step: an operation so, and any other is malformed
abbrev pub ServingOf : List ℕ → List ℕ → Volume → Message → Reaction → RunnerTelling → RunnerTelling → LinkTelling → LinkTelling → Type 0
ServingOf server work copy (Operate client sketched) last runner ran link asked =
    Serving server work copy client sketched last runner ran link asked
ServingOf server work copy request last runner ran link asked =
    (last ≡ answering copy (Malformed 7 0)) × HasRun [] 0 runner ran × (asked ≡ link)
