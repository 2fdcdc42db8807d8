-- What a run leaves, by the contents of what it ships and of the packets.
use Rattle.std.specs.Prelude.{◌⊎◌, ℕ, List, ◌++◌}
use Rattle.rs_parity.specs.Sketches.{Distinct}
use Rattle.cmd_capture.specs.declared.runner.Run.{Run}
use Rattle.mod_log.specs.declared.log.Entry.{Entry}
use Rattle.mod_log.specs.Log.{Log}
use Rattle.world_rules.specs.Telling.{ToldWorlds}
use Rattle.world_rules.specs.InStep.{InStep, HasNoCollision}
use Rattle.client_core.specs.declared.route.Route.{Route}
use Rattle.client_session.specs.Contents.{IsOfEntries, IsOfRuns, IsOfPackets}
use Rattle.client_lines.specs.Headline.{Leaves, MayGoOn, Around, Ran}

-- a content that an operation of a run may stand for: of an entry that was pending when it began, or of a file that a command left in it
abbrev pub IsSketchable : List Entry → List Run → List ℕ → Type 0
IsSketchable pending runs content = IsOfEntries pending content ⊎ IsOfRuns runs content

-- Where no such content has the print of another one among the packets of the world that is told, none that was sent is taken for another.
abbrev pub DistinctContentsNeverCollide : Type 0
DistinctContentsNeverCollide = (client : ℕ) (route : Route) (start : Log) (around around_now : Around) (status : ℕ)
    → (ran : Ran client route start around around_now status)
    → ToldWorlds around.link around_now.link
    (λ old new. Distinct (IsSketchable start.pending ran.goes.trace.runs) (IsOfPackets new.packets)
    → HasNoCollision client (start.pending ++ ran.goes.trace.entries) new.packets)

-- So a run that began in step leaves what it is to leave.
abbrev pub DistinctContentsLeave : Type 0
DistinctContentsLeave = (client : ℕ) (route : Route) (start : Log) (around around_now : Around) (status : ℕ)
    → (ran : Ran client route start around around_now status)
    → ToldWorlds around.link around_now.link
    (λ old new. InStep client start old → Distinct (IsSketchable start.pending ran.goes.trace.runs) (IsOfPackets new.packets)
    → Leaves client start ran.after.client.log ran.kept ran.goes.trace.entries old new × MayGoOn client ran.after.client.log ran.kept new)
