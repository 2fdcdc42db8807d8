-- What the end of a sync or a pull means to a client that was in step with a world that is told.
use Rattle.std.specs.Prelude.{◌≡◌, ◌≢◌, ◌⊎◌, ℕ, ◌<◌, []}
use Rattle.outside.specs.Outside.{Rose}
use Rattle.file_paths.specs.Path.{FilePath}
use Rattle.tree_values.specs.Tree.{Volume, version_at}
use Rattle.vol_tree.specs.Behind.{IsAhead}
use Rattle.mod_log.specs.Log.{Log, tree_at}
use Rattle.world_rules.specs.World.{World}
use Rattle.world_rules.specs.Telling.{LinkTelling, ToldWorlds}
use Rattle.world_rules.specs.InStep.{InStep, HasNoCollision}
use Rattle.client_core.specs.declared.syncing.SyncEnd.{SyncEnd}
use Rattle.client_core.specs.declared.syncing.SyncEnd.TheVariants.{Stale, Unfit, Full, Behind, Synced, Memory}
use Rattle.client_core.specs.declared.pulling.PullEnd.{PullEnd}
use Rattle.client_core.specs.declared.pulling.PullEnd.TheVariants.{OtherLast, Older}

-- where a client was in step with the world before, this holds of the world after
abbrev pub FromInStep : ℕ → Log → LinkTelling → LinkTelling → (World → Type 0) → Type 0
FromInStep client before old new claim = ToldWorlds old new (λ v w. InStep client before v → claim w)

-- the same, where at the end no content of the client's stores is taken for another one that its operations carry
abbrev pub FromInStepApart : ℕ → Log → LinkTelling → LinkTelling → (World → Type 0) → Type 0
FromInStepApart client before old new claim =
    ToldWorlds old new (λ v w. InStep client before v → HasNoCollision client before.pending w.packets → claim w)

-- the client's tree after its last entry that the server took
abbrev pub taken_tree : ℕ → Log → World → Volume
taken_tree client log world = tree_at (world.served.last client) log

-- some path has a newer version at the server than in the client's tree after the last taken entry
abbrev pub IsOvertaken : ℕ → Log → World → Type 0
IsOvertaken client log world = IsAhead world.served.volume (taken_tree client log world)

-- The server is never behind. Where an entry is refused, others have written: at the path that a stale end names, or at some.
abbrev pub IsTrueSync : SyncEnd → ℕ → Log → World → Type 0
IsTrueSync (Behind seq last) client after world = ⊥
IsTrueSync (Stale seq path theirs ours) client after world =
    version_at (taken_tree client after world) path < version_at world.served.volume path
IsTrueSync (Unfit seq index fault) client after world = IsOvertaken client after world
IsTrueSync (Full seq index fault) client after world = IsOvertaken client after world
IsTrueSync end client after world = Unit {0}

-- where no path is ahead of the client's at the end, nothing is pending, but for want of memory
abbrev pub IsComplete : SyncEnd → ℕ → Log → World → Type 0
IsComplete end client after world =
    (IsOvertaken client after world → ⊥) → ((end ≡ Synced after.acked) × (after.pending ≡ [])) ⊎ (end ≡ Memory)

-- the pull did not meet another last number
abbrev pub IsNotOtherLast : PullEnd → Type 0
IsNotOtherLast end = (last acked : ℕ) → end ≢ OtherLast last acked

-- the pull did not meet older rows
abbrev pub IsNotOlder : PullEnd → Type 0
IsNotOlder end = (path : FilePath) (theirs ours : ℕ) → end ≢ Older path theirs ours

-- A pull of a client in step that ended so, where the troubles of its link were these: it did not meet another last number, and where
-- they did not rise no older rows.
abbrev pub IsTruePull : ℕ → ℕ → PullEnd → Type 0
IsTruePull troubles now end = IsNotOtherLast end × ((Rose troubles now → ⊥) → IsNotOlder end)
