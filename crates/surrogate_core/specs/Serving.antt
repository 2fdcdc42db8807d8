-- What serving one message did.
use Rattle.std.specs.Prelude.{◌≡◌, ℕ, ◌-◌, List, [], Result, Ok, Err}
use Rattle.std.specs.declared.alloc.AllocError.{AllocError}
use Rattle.tree_values.specs.Tree.{Volume}
use Rattle.cmd_capture.specs.declared.runner.Run.{Run}
use Rattle.cmd_capture.specs.Runs.{RunnerTelling, HasRun}
use Rattle.mod_log.specs.declared.sketching.SketchEntry.{SketchEntry}
use Rattle.wire_frames.specs.declared.cause.Cause.{Cause}
use Rattle.wire_frames.specs.declared.cause.Cause.TheVariants.{NotRun}
use Rattle.wire_frames.specs.declared.message.Message.{Message}
use Rattle.wire_frames.specs.declared.message.Message.TheVariants.{Store, Operate, Pull, Declined, Malformed}
use Rattle.world_rules.specs.declared.asking.Ask.{Ask}
use Rattle.world_rules.specs.World.{World, MovedBy, AreFilled}
use Rattle.world_rules.specs.Asking.{AnswersStand}
use Rattle.world_rules.specs.Settling.{failed_asks}
use Rattle.world_rules.specs.Telling.{LinkTelling, ToldWorlds, HadTroubles}
use Rattle.surrogate_core.specs.declared.step.NextStep.{NextStep}
use Rattle.surrogate_core.specs.declared.step.NextStep.TheVariants as steps
use Rattle.surrogate_core.specs.Handling.{Reaction, Handling, BreaksHandling}

-- ---- a step of the machine

-- one for the cause that says that nothing was run
abbrev pub failed_cause : Cause → ℕ
failed_cause NotRun = 1
failed_cause cause = 0

-- how many runs failed, by the reply
abbrev pub failed_runs : Message → ℕ
failed_runs (Declined client number cause) = failed_cause cause
failed_runs reply = 0

abbrev pub failed_step : NextStep → ℕ
failed_step (steps.Answer reply) = failed_runs reply
failed_step (steps.Ask request) = 0

-- A step of the machine: what it did with some runs, and what the runner tells of it.
pub record Steps (did : List Run → Reaction → Type 0) (reaction : Reaction) (old new : RunnerTelling) : Type 0 where
  pub runs : List Run
  pub does : did runs reaction
  pub told : HasRun runs (failed_step reaction.step) old new

-- ---- a whole serving

-- what a handling may ask
abbrev pub MayAsk : ℕ → SketchEntry → Message → Type 0
MayAsk client sketched (Store of number parts) = (of ≡ client) × (number ≡ sketched.seq) × AreFilled sketched parts
MayAsk client sketched (Pull of number) = (of ≡ client) × (number ≡ sketched.seq - 1)
MayAsk client sketched _ = ⊥

-- a message was served with these runs and asks, to this result
abbrev pub ServesTo : List ℕ → List ℕ → Volume → Message → List Run → List Ask → Result Message AllocError → Volume → Type 0
ServesTo server work copy (Operate client sketched) runs asks (Ok reply) after =
    Handling server work copy client sketched runs asks reply after
ServesTo server work copy (Operate client sketched) runs asks (Err error) after =
    BreaksHandling server work copy client sketched runs asks after
ServesTo server work copy request runs asks result after = (result ≡ Ok (Malformed 7 0)) × (runs ≡ []) × (asks ≡ []) × (after ≡ copy)

-- how many runs failed, by the result
abbrev pub failures_told : Result Message AllocError → ℕ
failures_told (Ok reply) = failed_runs reply
failures_told (Err error) = 0

-- what the world about the link's holder did meanwhile
abbrev pub WorldWent : Message → List Ask → World → World → Type 0
WorldWent (Operate client sketched) asks old new = MovedBy (MayAsk client sketched) asks old new × AnswersStand new asks
WorldWent request asks old new = new ≡ old

-- Serving one message: what it did, and what the runner and the link tell of it.
pub record Serves (server work : List ℕ) (copy : Volume) (request : Message) (result : Result Message AllocError) (after : Volume)
    (runner ran : RunnerTelling) (link asked : LinkTelling) : Type 0 where
  pub runs : List Run
  pub asks : List Ask
  pub serves : ServesTo server work copy request runs asks result after
  pub has_run : HasRun runs (failures_told result) runner ran
  pub had_troubles : HadTroubles (failed_asks asks) link asked
  pub went : ToldWorlds link asked (WorldWent request asks)
