-- Runs of one client, one after the other: what they leave together.
use Rattle.std.specs.Prelude.{◌≡◌, ◌≢◌, ℕ, ◌≤◌, Bool, List, [], ◌++◌, length, None}
use Rattle.mod_log.specs.declared.log.Entry.{Entry}
use Rattle.mod_log.specs.Log.{Log}
use Rattle.world_rules.specs.declared.asking.Ask.{Ask}
use Rattle.world_rules.specs.World.{World, GoesOnAlone}
use Rattle.world_rules.specs.Telling.{ToldWorlds}
use Rattle.world_rules.specs.InStep.{InStep, HasNoCollision, HasNoOperation}
use Rattle.world_rules.specs.Run.{Runs, kept_at}
use Rattle.client_core.specs.declared.route.Route.{Route}
use Rattle.client_core.specs.Goes.{stand}
use Rattle.client_lines.specs.Headline.{Leaves, MayGoOn, Around, Ran}

-- What stays of the entries that a run logged, by its status: all of them, but where its keeper failed or memory ran out, perhaps the
-- last one.
pub record StaysOf (status : ℕ) (entries stayed : List Entry) : Type 0 where
  pub lost : List Entry
  pub all : entries ≡ stayed ++ lost
  pub at_most_one : length lost ≤ 1
  pub none : status ≢ 5 → status ≢ 7 → lost ≡ []

-- What two runs leave, of which the first ended with this status and logged these entries, and the second logged those: what one run
-- leaves that logged what stays of the first, and what the second logged.
pub record LeaveTogether (client : ℕ) (start log kept : Log) (status : ℕ) (earlier later : List Entry) (old new : World) : Type 0 where
  pub stayed : List Entry
  pub stays : StaysOf status earlier stayed
  pub leaves : Leaves client start log kept (stayed ++ later) old new
  pub goes_on : MayGoOn client log kept new

-- Two runs, the second begun on what the first left kept, over links that tell their worlds: in the world that the first left, or one
-- that went on without the client since. Where the first began in step, and no content that was sent is taken for another, they leave
-- together what one run leaves.
abbrev pub RunsCompose : Type 0
RunsCompose =
    (client : ℕ) (route other_route : Route) (start : Log) (around around_now other other_now : Around) (status other_status : ℕ)
    → (first : Ran client route start around around_now status) (second : Ran client other_route first.kept other other_now other_status)
    → ToldWorlds around.link around_now.link
    (λ old middle. ToldWorlds other.link other_now.link (λ begun new. InStep client start old → GoesOnAlone middle begun
    → HasNoCollision client (start.pending ++ (first.goes.trace.entries ++ second.goes.trace.entries)) new.packets
    → LeaveTogether client start second.after.client.log second.kept status first.goes.trace.entries second.goes.trace.entries old new))

-- None is where both have no surrogate, and no operation of the client was sent before the first.
abbrev pub StoresNeverCollide : Type 0
StoresNeverCollide =
    (client : ℕ) (route other_route : Route) (start : Log) (around around_now other other_now : Around) (status other_status : ℕ)
    → (first : Ran client route start around around_now status) (second : Ran client other_route first.kept other other_now other_status)
    → route.surrogate ≡ None → other_route.surrogate ≡ None
    → ToldWorlds around.link around_now.link
    (λ old middle. ToldWorlds other.link other_now.link (λ begun new. InStep client start old → HasNoOperation client old.packets
    → GoesOnAlone middle begun → HasNoCollision client (start.pending ++ (first.goes.trace.entries ++ second.goes.trace.entries))
    new.packets))

-- Whatever a client did from a kept log on that was in step, in one run or in many, it leaves this, where no content that was sent is
-- taken for another. For runs join, and a new beginning with what is kept ends a run, as does a world that went on without the client.
abbrev pub MovesLeave : Type 0
MovesLeave =
    (client : ℕ) (ships : Bool) (entries : List Entry) (asks : List Ask) (start log kept : Log) (old new : World) → InStep client start old
    → Runs client ships entries asks (kept_at start old) (stand log kept new)
    → HasNoCollision client (start.pending ++ entries) new.packets → Leaves client start log kept entries old new × MayGoOn client log kept new
