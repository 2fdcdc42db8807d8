-- What the ends of syncs and pulls tell of the world, read off what was asked and answered.
use Rattle.std.specs.Prelude.{◌≡◌, ◌⊎◌, ℕ, ◌<◌, ◌≤◌, ◌++◌, Bool, List, true, []}
use Rattle.outside.specs.Outside.{RoseBy, Rose}
use Rattle.tree_values.specs.Lists.{IsIn}
use Rattle.tree_values.specs.Tree.{Volume, version_at}
use Rattle.tree_values.specs.declared.node.Base.{Base}
use Rattle.mod_log.specs.declared.log.Entry.{Entry}
use Rattle.mod_log.specs.Log.{Log, tree_at}
use Rattle.wire_frames.specs.declared.message.Message.{Message}
use Rattle.world_rules.specs.declared.asking.Ask.{Ask}
use Rattle.world_rules.specs.World.{World}
use Rattle.world_rules.specs.Asking.{AnswersStand}
use Rattle.world_rules.specs.Settling.{failed_asks}
use Rattle.world_rules.specs.InStep.{InStep, HasNoCollision, TellsTaken}
use Rattle.world_rules.specs.Run.{State, Runs, taken_in, AreAllOf, kept_at}
use Rattle.client_core.specs.declared.route.Route.{Route}
use Rattle.client_core.specs.declared.syncing.SyncEnd.{SyncEnd}
use Rattle.client_core.specs.declared.syncing.SyncEnd.TheVariants.{Behind, Synced}
use Rattle.client_core.specs.declared.pulling.PullEnd.{PullEnd}
use Rattle.client_core.specs.Trace.{Trace}
use Rattle.client_core.specs.Syncing.{IsFirst, SyncTurn, SyncEnds, is_broken_sync}
use Rattle.client_core.specs.Pulling.{PullTurn}
use Rattle.client_core.specs.Goes.{WorldGoes}
use Rattle.client_core.specs.Honest.{IsTrueSync, IsNotOtherLast}

-- Where the answers of a sync stand, no log of the client that is in step has a server that is behind, whatever came after the sync.
abbrev pub NoSyncIsBehind : Type 0
NoSyncIsBehind = (client : ℕ) (route : Route) (before after log : Log) (seq last : ℕ) (trace : Trace) (world : World)
    → SyncTurn client route before (Behind seq last) after trace → AnswersStand world trace.asks → InStep client log world → ⊥

-- The end of a sync is true of each world in which its answers stand and with which the log that it left is in step.
abbrev pub SyncEndsAreTrue : Type 0
SyncEndsAreTrue = (client : ℕ) (route : Route) (before after : Log) (end : SyncEnd) (trace : Trace) (world : World)
    → SyncTurn client route before end after trace → AnswersStand world trace.asks → InStep client after world
    → IsTrueSync end client after world

-- And a pull, whose log is in step then, never met another last number.
abbrev pub PullsMeetTheirLast : Type 0
PullsMeetTheirLast = (client : ℕ) (route : Route) (before after : Log) (end : PullEnd) (trace : Trace) (world : World)
    → PullTurn client route before end after trace → AnswersStand world trace.asks → InStep client before world → IsNotOtherLast end

-- A sync without trouble, in which no other client's store was taken, in which no content is taken for another, and before which the
-- served tree was the client's after its last taken entry, ends with all entries acknowledged, or was broken off.
abbrev pub CalmSyncsAreComplete : Type 0
CalmSyncsAreComplete = (client : ℕ) (ships : Bool) (route : Route) (before after kept : Log) (end : SyncEnd) (trace : Trace)
    (troubles later : ℕ) (old new : World)
    → SyncEnds client route before end after kept trace → RoseBy (failed_asks trace.asks) troubles later
    → (went : WorldGoes client ships before after kept trace troubles later old new)
    → InStep client before old → HasNoCollision client before.pending new.packets → (Rose troubles later → ⊥)
    → AreAllOf client (taken_in went.runs.moves (kept_at before old))
    → old.served.volume ≡ tree_at (old.served.last client) before
    → ((end ≡ Synced after.acked) × (after.pending ≡ [])) ⊎ (is_broken_sync end ≡ true)

-- ---- an entry that is refused stays so

-- the entry rests on a version that is below the one of the volume
abbrev pub RestsBelow : Entry → Volume → Type 0
RestsBelow entry volume = (base : Base) × IsIn base entry.base × (base.version < version_at volume base.path)

-- A first pending entry that the server did not take, and that rests on a version below the served one, stays the first pending one,
-- untaken, and below, whatever comes; and no reply that was ever sent tells it to be taken.
abbrev pub OvertakenEntriesAreNeverTaken : Type 0
OvertakenEntriesAreNeverTaken = (client : ℕ) (ships : Bool) (entries : List Entry) (made : List Ask) (old new : State) (first : Entry)
    → InStep client old.log old.world → Runs client ships entries made old new
    → HasNoCollision client (old.log.pending ++ entries) new.world.packets
    → IsFirst first old.log.pending → old.world.served.last client ≡ old.log.acked → RestsBelow first old.world.served.volume
    → IsFirst first new.log.pending × (new.world.served.last client ≡ new.log.acked) × RestsBelow first new.world.served.volume
    × ((reply : Message) (upto : ℕ) → TellsTaken client upto reply → first.seq ≤ upto → IsIn reply new.world.packets → ⊥)
