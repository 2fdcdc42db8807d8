-- What a sync and a pull promise over any link, also over one that tells no world.
use Rattle.std.specs.Prelude.{◌≡◌, ◌≢◌, ◌⊎◌, ℕ, ◌+◌, ◌<◌, ◌≤◌, false, List, [], ◌∷◌, Option, Some, length}
use Rattle.outside.specs.Outside.{RoseBy, Rose, Told}
use Rattle.outside.specs.Keeper.{Images, IsPut}
use Rattle.tree_values.specs.Tree.{Volume, IsTree}
use Rattle.mod_log.specs.Log.{Log, acknowledged, pulled}
use Rattle.wire_frames.specs.declared.message.Message.{Message}
use Rattle.wire_frames.specs.Frame.{IsValid, number_of}
use Rattle.world_rules.specs.Settling.{max_asks}
use Rattle.store_image.specs.Spelling.{client as image}
use Rattle.client_core.specs.declared.syncing.SyncEnd.{SyncEnd}
use Rattle.client_core.specs.declared.syncing.SyncEnd.TheVariants.{Synced, Unanswered, KeepFault, Memory}
use Rattle.client_core.specs.declared.pulling.PullEnd.{PullEnd}
use Rattle.client_core.specs.declared.pulling.PullEnd.TheVariants as pulls
use Rattle.client_core.specs.Syncing.{end_by, is_broken_sync}
use Rattle.client_core.specs.Pulling.{Meets, IsKeptBase, is_broken_pull}
use Rattle.client_core.specs.Keeping.{Keeping, StaysOrPuts}

-- ---- sync

-- the log once some of its pending entries, from the first on, are acknowledged
abbrev pub AcknowledgesSome : Log → Log → Type 0
AcknowledgesSome before after =
    (number : ℕ) × (before.acked ≤ number) × (number ≤ before.acked + length before.pending) × (after ≡ acknowledged number before)

-- an entry is still pending, and a valid reply to it, or to a store in which it stood behind others, says why
abbrev pub RestsOnReply : Log → SyncEnd → Type 0
RestsOnReply after end = (after.pending ≢ [])
    × ((reply : Message) × IsValid reply × (number_of reply ≤ after.acked + 1) × (end_by (after.acked + 1) (Some reply) ≡ Some end))

-- Synced only where nothing is pending at the end, Unanswered only where the troubles rose by eight, one for each ask of the store
-- (`UnansweredStoresFailed`), and KeepFault only where the keeper's faults rose. Every end but Synced, KeepFault and Memory names the first
-- pending entry.
abbrev pub HasSyncCause : SyncEnd → Log → ℕ → ℕ → ℕ → ℕ → Type 0
HasSyncCause (Synced number) after troubles now faults faults_now = (after.pending ≡ []) × (number ≡ after.acked)
HasSyncCause (Unanswered number) after troubles now faults faults_now =
    (after.pending ≢ []) × (number ≡ after.acked + 1) × RoseBy max_asks troubles now
HasSyncCause KeepFault after troubles now faults faults_now = Rose faults faults_now
HasSyncCause Memory after troubles now faults faults_now = Unit {0}
HasSyncCause end after troubles now faults faults_now = RestsOnReply after end

-- each change acknowledges one or more of the first pending entries
abbrev pub AcknowledgesMore : Log → List Log → Type 0
AcknowledgesMore before [] = Unit {0}
AcknowledgesMore before (change ∷ changes) =
    AcknowledgesSome before change × (before.acked < change.acked) × AcknowledgesMore change changes

-- What is kept after a sync: its log, but after one that was broken off perhaps the log before the last acknowledgement. Where
-- nothing was acknowledged, the kept bytes are as before.
pub record SyncKeeps (name : List ℕ) (client : ℕ) (before : Log) (end : SyncEnd) (after : Log) (images now : Option Images) : Type 0 where
  pub kept : Log
  pub changes : List Log
  pub acknowledged_so : AcknowledgesMore before changes
  pub keeping : Keeping name client before after kept changes images now
  pub whole : is_broken_sync end ≡ false → kept ≡ after

-- ---- pull

-- rows that are a tree were taken as base
abbrev pub TakesRows : Log → Log → Type 0
TakesRows before after = (last : ℕ) × (seen : Volume) × (count : ℕ) × IsTree seen × Meets before last seen (pulls.Pulled count) after

-- Pending just where entries are pending, Unanswered only where the troubles rose by eight, and KeepFault only where the keeper's
-- faults rose once the rows were taken. With Memory they may have been taken, too. With every other end but Pulled the log is as
-- before. The three others met rows that are a tree.
abbrev pub HasPullCause : PullEnd → Log → Log → ℕ → ℕ → ℕ → ℕ → Type 0
HasPullCause (pulls.Pending count) before after troubles now faults faults_now =
    (before.pending ≢ []) × (count ≡ length before.pending) × (after ≡ before)
HasPullCause pulls.Unanswered before after troubles now faults faults_now =
    (before.pending ≡ []) × (after ≡ before) × RoseBy max_asks troubles now
HasPullCause pulls.KeepFault before after troubles now faults faults_now =
    (before.pending ≡ []) × TakesRows before after × Rose faults faults_now
HasPullCause pulls.Memory before after troubles now faults faults_now = (before.pending ≡ []) × ((after ≡ before) ⊎ TakesRows before after)
HasPullCause end before after troubles now faults faults_now =
    (before.pending ≡ []) × ((last : ℕ) × (seen : Volume) × IsTree seen × Meets before last seen end after)

-- nothing was changed, or the base was replaced
abbrev pub ReplacesOnce : Log → List Log → Type 0
ReplacesOnce before changes = (changes ≡ []) ⊎ ((seen : Volume) × (changes ≡ pulled seen before ∷ []))

-- What is kept after a pull: its log, but after one that was broken off perhaps the log before it. Where nothing was changed, the
-- kept bytes are as before.
pub record PullKeeps (name : List ℕ) (client : ℕ) (before : Log) (end : PullEnd) (after : Log) (images now : Option Images) : Type 0 where
  pub kept : Log
  pub changes : List Log
  pub replaced_so : ReplacesOnce before changes
  pub keeping : Keeping name client before after kept changes images now
  pub whole : is_broken_pull end ≡ false → kept ≡ after

-- What a pull writes that took rows: nothing where they are kept already, and else the client's image. One that was broken off leaves all
-- bytes as they were, or has put this image.
abbrev pub PullWrites : List ℕ → ℕ → Log → PullEnd → Log → Option Images → Option Images → Type 0
PullWrites name client before (pulls.Pulled count) after images now =
    (IsKeptBase before after.base × (now ≡ images))
    ⊎ ((IsKeptBase before after.base → ⊥)
    × Told images now (IsPut name (image (record { client = client; log = after }))))
PullWrites name client before pulls.KeepFault after images now = StaysOrPuts name (image (record { client = client; log = after })) images now
PullWrites name client before pulls.Memory after images now = StaysOrPuts name (image (record { client = client; log = after })) images now
PullWrites name client before end after images now = Unit {0}
