-- When a client's log and the world fit together: the server is ahead of what the client knows by the entries of one store at
-- most, and at no path behind what the client's tree was after those that it took.
use Rattle.std.specs.Prelude.{◌≡◌, ℕ, ◌+◌, ◌<◌, ◌≤◌, Bool, IsTrue, List, [], ◌∷◌, length, map, IsSome}
use Rattle.tree_values.specs.Tree.{Volume, version_at, IsTree}
use Rattle.vol_tree.specs.Behind.{IsBehind, IsAhead}
use Rattle.tree_values.specs.Limits.{max_files, max_effects}
use Rattle.tree_values.specs.Lists.{IsIn}
use Rattle.tree_values.specs.declared.node.Effect.{Effect}
use Rattle.tree_values.specs.declared.node.Base.{Base}
use Rattle.mod_log.specs.declared.log.Entry.{Entry}
use Rattle.mod_log.specs.declared.sketching.SketchEntry.{SketchEntry}
use Rattle.mod_log.specs.Log.{Log, tree_at, IsLog}
use Rattle.mod_log.specs.Sketched.{IsSketchOf, WritesContent}
use Rattle.rs_parity.specs.Sketches.{Distinct}
use Rattle.wire_frames.specs.Limits.{max_parts, max_client}
use Rattle.wire_frames.specs.declared.parts.Part.{Part}
use Rattle.wire_frames.specs.Parts.{part_of, effects_count, contents_count, PartsFit}
use Rattle.wire_frames.specs.declared.message.Message.{Message}
use Rattle.wire_frames.specs.declared.message.Message.TheVariants.{Store, Operate, Pull, Accepted, Stale, Unfit, Gap, Snapshot, Done}
use Rattle.wire_frames.specs.declared.message.Message.TheVariants.{Declined, Full, Malformed}
use Rattle.wire_frames.specs.Frame.{client_of, IsValid}
use Rattle.world_rules.specs.Served.{IsServed}
use Rattle.world_rules.specs.World.{World}

-- how many entries above the acknowledged one the server may have taken: those that a store carries
abbrev pub ahead : ℕ
ahead = max_parts

-- The server may have taken the client's entries up to this number: so many above the acknowledged one, and none that is not logged.
pub record IsTakenUpTo (log : Log) (number : ℕ) : Type 0 where
  pub at_most_ahead : number ≤ log.acked + ahead
  pub at_most_logged : number ≤ log.acked + length log.pending

-- The client may have sent a store or an operation of this number: it is at most the first pending entry's.
pub record IsSendable (log : Log) (number : ℕ) : Type 0 where
  pub at_most_next : number ≤ log.acked + 1
  pub at_most_logged : number ≤ log.acked + length log.pending

-- the pending entry of this number has these effects and this base
abbrev pub IsPendingAt : Log → ℕ → List Effect → List Base → Type 0
IsPendingAt log number effects base =
    (entry : Entry) × IsIn entry log.pending × (entry.seq ≡ number) × (effects ≡ entry.effects) × (base ≡ entry.base)

-- each of these parts, numbered on from this number, is the pending entry of its number
abbrev pub ArePendingFrom : Log → ℕ → List Part → Type 0
ArePendingFrom log number [] = Unit {0}
ArePendingFrom log number (part ∷ parts) = IsPendingAt log number part.effects part.base × ArePendingFrom log (number + 1) parts

-- and so is each of them that is numbered above the last taken one
abbrev pub ArePendingAbove : Log → ℕ → ℕ → List Part → Type 0
ArePendingAbove log last number [] = Unit {0}
ArePendingAbove log last number (part ∷ parts) =
    (last < number → IsPendingAt log number part.effects part.base) × ArePendingAbove log last (number + 1) parts

-- A refusal tells up to which number the client's entries were taken: no more than are, and one is left that it refuses.
pub record IsRefusedAfter (log : Log) (last upto : ℕ) : Type 0 where
  pub at_most_taken : upto ≤ last
  pub one_is_left : upto < log.acked + length log.pending

-- this is the sketch of a pending entry
abbrev pub IsSketchPending : Log → SketchEntry → Type 0
IsSketchPending log sketched = (entry : Entry) × IsIn entry log.pending × IsSketchOf entry sketched

-- What each message of the client may say, where `last` is the number last taken and `volume` is served.
abbrev pub IsFitting : Log → ℕ → Volume → Message → Type 0
IsFitting log last volume (Store client number parts) = IsSendable log number × ArePendingAbove log last number parts
IsFitting log last volume (Operate client sketched) = IsSendable log sketched.seq × (last < sketched.seq → IsSketchPending log sketched)
IsFitting log last volume (Pull client number) = number ≤ last
IsFitting log last volume (Accepted client number upto) = upto ≤ last
IsFitting log last volume (Stale client number upto path theirs ours) =
    IsRefusedAfter log last upto × (log.acked ≤ upto → version_at (tree_at last log) path < version_at volume path)
IsFitting log last volume (Unfit client number upto index fault) =
    IsRefusedAfter log last upto × (log.acked ≤ upto → IsAhead volume (tree_at last log))
IsFitting log last volume (Gap client number beyond) = ⊥
IsFitting log last volume (Snapshot client number then seen) = (number ≤ then) × (then ≤ last) × IsBehind seen volume × IsTree seen
IsFitting log last volume (Done client number) = number ≤ last
IsFitting log last volume (Declined client number cause) = Unit {0}
IsFitting log last volume (Full client number upto index fault) =
    IsRefusedAfter log last upto × (log.acked ≤ upto → IsAhead volume (tree_at last log))
IsFitting log last volume (Malformed code offset) = Unit {0}

-- a client's log is in step with the world about it
pub record InStep (client : ℕ) (log : Log) (world : World) : Type 0 where
  pub about : world.client ≡ client
  pub own_number : (1 ≤ client) × (client ≤ max_client)
  -- the server took every acknowledged entry, and at most those of one store more
  pub not_lower : log.acked ≤ world.served.last client
  pub not_higher : IsTakenUpTo log (world.served.last client)
  -- where a version is that of the client's tree after the last taken entry, the node is, too; no version is lower
  pub behind : IsBehind (tree_at (world.served.last client) log) world.served.volume
  pub fitting : (message : Message) → IsIn message world.packets → client_of message ≡ client
      → IsFitting log (world.served.last client) world.served.volume message
  pub valid : (message : Message) → IsIn message world.packets → IsValid message
  pub log_is : IsLog log
  pub served_is : IsServed world.served

-- ---- contents that must not be taken for one another

-- one of the entries, which a command made, writes this content
abbrev pub IsShippable : List Entry → List ℕ → Type 0
IsShippable entries content = (entry : Entry) × IsIn entry entries × IsSome entry.origin × WritesContent entry.effects content

-- a message carries this content as a store of the client
abbrev pub CarriesContent : ℕ → Message → List ℕ → Type 0
CarriesContent client (Store of number parts) content = (of ≡ client) × (part : Part) × IsIn part parts × WritesContent part.effects content
CarriesContent client _ content = ⊥

-- this content stands in a store of the client among the packets
abbrev pub IsCarried : ℕ → List Message → List ℕ → Type 0
IsCarried client packets content = (message : Message) × IsIn message packets × CarriesContent client message content

-- Where an operation of the client was sent at all: a content of its entries and another of its stores have different prints.
abbrev pub HasNoCollision : ℕ → List Entry → List Message → Type 0
HasNoCollision client entries packets =
    (sketched : SketchEntry) → IsIn (Operate client sketched) packets → Distinct (IsShippable entries) (IsCarried client packets)

-- no operation of the client was ever sent
abbrev pub HasNoOperation : ℕ → List Message → Type 0
HasNoOperation client packets = (sketched : SketchEntry) → IsIn (Operate client sketched) packets → ⊥

-- ---- what the client sends

-- The client ships its next pending entries as one store, or the first of them, where it has a surrogate, as an operation; or it pulls
-- where nothing is pending.
abbrev pub MaySend : ℕ → Bool → Log → Message → Type 0
MaySend client ships log (Store of number parts) =
    (of ≡ client) × (number ≡ log.acked + 1) × ArePendingFrom log number parts × PartsFit number parts
MaySend client ships log (Operate of sketched) =
    (of ≡ client) × (sketched.seq ≡ log.acked + 1) × IsSketchPending log sketched × IsTrue ships
MaySend client ships log (Pull of number) = (of ≡ client) × (number ≡ log.acked) × (log.pending ≡ [])
MaySend client ships log _ = ⊥

-- the parts of entries, as a store carries them
abbrev pub parts_of : List Entry → List Part
parts_of entries = map (λ entry. part_of entry.effects entry.base) entries

-- one store can carry these entries
pub record IsStorable (entries : List Entry) : Type 0 where
  pub some : 1 ≤ length entries
  pub few : length entries ≤ max_parts
  pub few_effects : effects_count (parts_of entries) ≤ max_effects
  pub all_contents : contents_count (parts_of entries) ≤ max_files

-- the reply tells that the client's entries up to this number were taken
abbrev pub TellsTaken : ℕ → ℕ → Message → Type 0
TellsTaken client number (Accepted of stored upto) = (of ≡ client) × (upto ≡ number)
TellsTaken client number (Stale of stored upto path theirs ours) = (of ≡ client) × (upto ≡ number)
TellsTaken client number (Unfit of stored upto index fault) = (of ≡ client) × (upto ≡ number)
TellsTaken client number (Full of stored upto index fault) = (of ≡ client) × (upto ≡ number)
TellsTaken client number (Done of accepted) = (of ≡ client) × (accepted ≡ number)
TellsTaken client number _ = ⊥

-- the reply refuses the client's entry of this number
abbrev pub IsRefusal : ℕ → ℕ → Message → Type 0
IsRefusal client number (Stale of stored upto path theirs ours) = (of ≡ client) × (upto + 1 ≡ number)
IsRefusal client number (Unfit of stored upto index fault) = (of ≡ client) × (upto + 1 ≡ number)
IsRefusal client number (Full of stored upto index fault) = (of ≡ client) × (upto + 1 ≡ number)
IsRefusal client number _ = ⊥
