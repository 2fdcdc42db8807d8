-- A client that others overtook, and that pulls nothing, stays overtaken: an entry that was refused once shows it for good.
use Rattle.std.specs.Prelude.{◌≡◌, ℕ, ◌<◌, ◌++◌, Bool, List}
use Rattle.file_paths.specs.Path.{FilePath}
use Rattle.tree_values.specs.Lists.{IsIn}
use Rattle.tree_values.specs.Tree.{version_at}
use Rattle.mod_log.specs.declared.log.Entry.{Entry}
use Rattle.mod_log.specs.Log.{Log, after, tree_of}
use Rattle.wire_frames.specs.declared.message.Message.{Message}
use Rattle.world_rules.specs.declared.asking.Ask.{Ask}
use Rattle.world_rules.specs.InStep.{InStep, HasNoCollision, IsRefusal}
use Rattle.world_rules.specs.Run.{State, Runs}
use Rattle.client_core.specs.Honest.{IsOvertaken}

-- Between two moments of a log, in which these entries were logged, no pull brought a version: at each path the client's tree has the one
-- that those entries make of the tree before.
abbrev pub HasPulledNothing : List Entry → Log → Log → Type 0
HasPulledNothing entries before now = (path : FilePath) → version_at (tree_of now) path ≡ version_at (after entries (tree_of before)) path

-- Where some path is ahead of the client's tree, one is for as long as no pull brings a version.
abbrev pub OvertakenClientsStaySo : Type 0
OvertakenClientsStaySo = (client : ℕ) (ships : Bool) (entries : List Entry) (made : List Ask) (old new : State)
    → InStep client old.log old.world → Runs client ships entries made old new
    → HasNoCollision client (old.log.pending ++ entries) new.world.packets → HasPulledNothing entries old.log new.log
    → IsOvertaken client old.log old.world → IsOvertaken client new.log new.world

-- And one is where a reply that was ever sent refuses an entry that was not acknowledged at first, also where that entry was taken since.
abbrev pub RefusedClientsAreOvertaken : Type 0
RefusedClientsAreOvertaken = (client : ℕ) (ships : Bool) (entries : List Entry) (made : List Ask) (old new : State)
    → InStep client old.log old.world → Runs client ships entries made old new
    → HasNoCollision client (old.log.pending ++ entries) new.world.packets → HasPulledNothing entries old.log new.log
    → (number : ℕ) (reply : Message) → IsRefusal client number reply → IsIn reply new.world.packets → old.log.acked < number
    → IsOvertaken client new.log new.world
