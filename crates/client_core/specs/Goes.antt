-- What a client's calls do to its log and to what is kept of it, and to the world about it where that is told, by one relation that
-- goes on from call to call.
use Rattle.std.specs.Prelude.{◌≡◌, ◌≢◌, ℕ, ◌≤◌, Bool, List, [], ◌++◌, Option, Some}
use Rattle.outside.specs.Keeper.{Images}
use Rattle.cmd_capture.specs.Runs.{RunnerTelling, HasRun, telling}
use Rattle.tree_values.specs.Lists.{IsIn}
use Rattle.mod_log.specs.Log.{Log}
use Rattle.wire_frames.specs.declared.message.Message.{Message}
use Rattle.wire_frames.specs.Frame.{client_of, IsValid}
use Rattle.world_rules.specs.Served.{IsServed}
use Rattle.world_rules.specs.World.{World}
use Rattle.world_rules.specs.Telling.{LinkTelling, ToldWorlds, HadTroubles}
use Rattle.world_rules.specs.Settling.{failed_asks}
use Rattle.world_rules.specs.InStep.{InStep, HasNoCollision}
use Rattle.world_rules.specs.Run.{Runs, State, kept_at}
use Rattle.client_core.specs.declared.pulling.PullEnd.{PullEnd}
use Rattle.client_core.specs.Trace.{Trace}
use Rattle.client_core.specs.Keeping.{Keeping}
use Rattle.client_core.specs.Honest.{IsTruePull}

-- a runner that was given nothing to run
abbrev pub no_runner : RunnerTelling
no_runner = telling (Some []) 0

-- the client's log, what is kept of it, and the world at one moment
abbrev pub stand : Log → Log → World → State
stand log kept world = record { log = log; kept = kept; world = world }

-- In the worlds of two moments the client's log, what is kept of it and the world went on by moves that were possible, among them the
-- asks and the logged entries of this trace.
pub record WorldGoes (client : ℕ) (ships : Bool) (before after kept : Log) (trace : Trace) (troubles now : ℕ) (old new : World) :
    Type 0 where
  pub runs : Runs client ships trace.entries trace.asks (kept_at before old) (stand after kept new)
  -- where the log was in step, no pull of it met another last number at the server, and none older rows where the link had no trouble
  pub true_pulls : InStep client before old → HasNoCollision client (before.pending ++ trace.entries) new.packets → (end : PullEnd)
      → IsIn end trace.pulls → IsTruePull troubles now end

-- Between two moments of a link, at the first of which its log was kept under this name, a client did what these turns say. What the
-- keeper tells is kept for the log so kept; what the runner tells went on by these runs; and the troubles of the link rose by at least
-- the asks that failed. All this holds over any link; where the link tells its world, that went on with the log and what is kept of
-- it. Where the client ships nothing but stores, `ships` is false.
pub record Goes (client : ℕ) (ships : Bool) (name : List ℕ) (turns : Trace → Type 0) (before after kept : Log)
    (images images_now : Option Images) (runner ran : RunnerTelling) (old new : LinkTelling) : Type 0 where
  pub trace : Trace
  pub turn : turns trace
  pub keeping : Keeping name client before after kept trace.changes images images_now
  pub has_run : HasRun trace.runs trace.missed runner ran
  pub rose : HadTroubles (failed_asks trace.asks) old new
  pub told : ToldWorlds old new (WorldGoes client ships before after kept trace old.troubles new.troubles)

-- Over any link, a client did what these turns of what is kept at the end say, and let nothing run.
abbrev pub Went : ℕ → Bool → List ℕ → (Log → Trace → Type 0) → Log → Log → Option Images → Option Images → LinkTelling → LinkTelling
    → Type 0
Went client ships name turns before after images images_now old new =
    (kept : Log) × Goes client ships name (turns kept) before after kept images images_now no_runner no_runner old new

-- A new client's world: its server has taken nothing of the client, and no message of the client was sent.
pub record IsNew (client : ℕ) (world : World) : Type 0 where
  pub about : world.client ≡ client
  pub own_number : (1 ≤ client) × (client ≤ 64)
  pub served_is : IsServed world.served
  pub untaken : world.served.last client ≡ 0
  pub unsent : (message : Message) → IsIn message world.packets → (client_of message ≢ client) × IsValid message
