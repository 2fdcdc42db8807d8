-- A sync: the pending entries are shipped, the first ones first, until none is left or one is not accepted. A light one is settled as an
-- operation with the surrogate first; where that was not done, and where the first one is heavy, the store of a window is settled with the
-- server: of the first entry and of the heavy ones behind it, as many as one store carries.
use Rattle.std.specs.Prelude.{◌≡◌, ◌⊎◌, ℕ, zero, suc, ◌+◌, ◌<◌, ◌≤◌, nat_lt, Bool}
use Rattle.std.specs.Prelude.{true, false, if◌then◌else◌, List, [], ◌∷◌, ◌++◌, length, drop}
use Rattle.std.specs.Prelude.{Option, None, Some}
use Rattle.std.specs.List.{AllByRecursion}
use Rattle.outside.specs.declared.errors.KeepError.{KeepError}
use Rattle.outside.specs.declared.errors.KeepError.TheVariants as keepers
use Rattle.mod_log.specs.declared.log.Entry.{Entry}
use Rattle.mod_log.specs.declared.sketching.SketchEntry.{SketchEntry}
use Rattle.mod_log.specs.Log.{Log, acknowledged}
use Rattle.mod_log.specs.Sketched.{IsSketchOf}
use Rattle.wire_frames.specs.declared.message.Message.{Message}
use Rattle.wire_frames.specs.declared.message.Message.TheVariants as messages
use Rattle.wire_frames.specs.Frame.{frame}
use Rattle.wire_frames.specs.Parts.{contents_count}
use Rattle.world_rules.specs.InStep.{parts_of, IsStorable}
use Rattle.world_rules.specs.declared.asking.Peer.TheVariants.{Server, Surrogate}
use Rattle.world_rules.specs.declared.asking.Ask.{Ask}
use Rattle.world_rules.specs.Settling.{IsSettling, BreaksSettling}
use Rattle.client_core.specs.declared.route.Route.{Route}
use Rattle.client_core.specs.declared.syncing.SyncEnd.{SyncEnd}
use Rattle.client_core.specs.declared.syncing.SyncEnd.TheVariants.{Synced, Stale, Unfit, Full, Unanswered, Behind, KeepFault, Memory}
use Rattle.client_core.specs.Limits.{max_window, max_beside}
use Rattle.client_core.specs.Trace.{Trace, nothing, followed, asking, changing}

-- the store of these entries, the first of which has this number
abbrev pub store_of : ℕ → ℕ → List Entry → Message
store_of client number entries = messages.Store client number (parts_of entries)

-- the store of an entry alone
abbrev pub store_alone : ℕ → Entry → Message
store_alone client entry = store_of client entry.seq (entry ∷ [])

-- the first pending entry
abbrev pub IsFirst : Entry → List Entry → Type 0
IsFirst entry [] = ⊥
IsFirst entry (first ∷ entries) = first ≡ entry

-- ---- what a reply tells

-- up to which number a reply tells the client's entries to be taken; where it tells none, this one
abbrev pub taken_upto : ℕ → Option Message → ℕ
taken_upto acked (Some (messages.Accepted client seq upto)) = upto
taken_upto acked (Some (messages.Stale client seq upto path theirs ours)) = upto
taken_upto acked (Some (messages.Unfit client seq upto index fault)) = upto
taken_upto acked (Some (messages.Full client seq upto index fault)) = upto
taken_upto acked (Some (messages.Done client seq)) = seq
taken_upto acked came = acked

-- the log once it acknowledges what a reply tells
abbrev pub log_behind : Option Message → Log → Log
log_behind came log = acknowledged (taken_upto log.acked came) log

-- How a sync ends whose next entry has this number, by what shipping came to. On an acceptance, and on what is done, it goes on.
abbrev pub end_by : ℕ → Option Message → Option SyncEnd
end_by number None = Some (Unanswered number)
end_by number (Some (messages.Accepted client seq upto)) = None
end_by number (Some (messages.Done client seq)) = None
end_by number (Some (messages.Stale client seq upto path theirs ours)) = Some (Stale number path theirs ours)
end_by number (Some (messages.Unfit client seq upto index fault)) = Some (Unfit number index fault)
end_by number (Some (messages.Full client seq upto index fault)) = Some (Full number index fault)
end_by number (Some (messages.Gap client seq last)) = Some (Behind number last)
end_by number (Some reply) = Some (Unanswered number)

-- how a sync ends whose log could not be kept
abbrev pub unkept_end : KeepError → SyncEnd
unkept_end keepers.Failed = KeepFault
unkept_end keepers.Memory = Memory

-- ---- what is light is sent as an operation

-- The entry is light: there is a surrogate at this address, a command made the entry, this is its sketch, and the frame of the operation is
-- shorter than that of the store of it alone.
pub record IsLight (client : ℕ) (route : Route) (entry : Entry) (address : List ℕ) (sketched : SketchEntry) : Type 0 where
  pub surrogate : route.surrogate ≡ Some address
  pub sketch : IsSketchOf entry sketched
  pub shorter : length (frame (messages.Operate client sketched)) < length (frame (store_alone client entry))

-- it is not
abbrev pub IsHeavy : ℕ → Route → Entry → Type 0
IsHeavy client route entry = (address : List ℕ) (sketched : SketchEntry) → IsLight client route entry address sketched → ⊥

-- a light entry's operation is settled with the surrogate
abbrev pub SettlesOperation : ℕ → Route → Entry → Option Message → List Ask → Type 0
SettlesOperation client route entry came asks =
    (address : List ℕ) × (sketched : SketchEntry) × IsLight client route entry address sketched
    × IsSettling Surrogate address (messages.Operate client sketched) came asks

-- the operation was not done: it was declined, or eight asks of it failed
abbrev pub IsNotDone : Option Message → Type 0
IsNotDone None = Unit {0}
IsNotDone (Some (messages.Declined client number cause)) = Unit {0}
IsNotDone (Some reply) = ⊥

-- After these asks the store of an entry is due: after none where it is heavy, and where it is light after those of an operation that was
-- not done.
abbrev pub StoreIsDue : ℕ → Route → Entry → List Ask → Type 0
StoreIsDue client route entry asks =
    (IsHeavy client route entry × (asks ≡ [])) ⊎ ((came : Option Message) × IsNotDone came × SettlesOperation client route entry came asks)

-- ---- the window

-- A store of this client may carry these entries: one store can, they are no more than a window has, those behind the first are heavy, and
-- the contents of those have no more bytes than a window carries beside its first entry.
pub record FitsWindow (client : ℕ) (route : Route) (chosen : List Entry) : Type 0 where
  pub storable : IsStorable chosen
  pub few : length chosen ≤ max_window
  pub heavy : AllByRecursion (IsHeavy client route) (drop 1 chosen)
  pub beside : contents_count (parts_of (drop 1 chosen)) ≤ max_beside

-- no more may join them: nothing is left, or with the next one they do not fit
abbrev pub IsLongest : ℕ → Route → List Entry → List Entry → Type 0
IsLongest client route chosen [] = Unit {0}
IsLongest client route chosen (next ∷ left) = FitsWindow client route (chosen ++ next ∷ []) → ⊥

-- The window of what is pending: the longest front that a store may carry.
pub record IsWindow (client : ℕ) (route : Route) (pending chosen : List Entry) : Type 0 where
  pub left : List Entry
  pub front : pending ≡ chosen ++ left
  pub fits : FitsWindow client route chosen
  pub longest : IsLongest client route chosen left

-- ---- shipping

-- What is pending is shipped, of which this entry is the first: as an operation that is done, or, where its store is due, by what settling
-- the store of the window with the server comes to.
abbrev pub Ships : ℕ → Route → List Entry → Entry → Option Message → List Ask → Type 0
Ships client route pending entry came asks =
    ((came ≡ Some (messages.Done client entry.seq)) × SettlesOperation client route entry came asks)
    ⊎ ((before : List Ask) × (settling : List Ask) × (chosen : List Entry) × StoreIsDue client route entry before
    × IsWindow client route pending chosen
    × IsSettling Server route.server (store_of client entry.seq chosen) came settling × (asks ≡ before ++ settling))

-- the shipping is broken off, while the operation is settled, once the store is due, or while that is settled
abbrev pub BreaksShipping : ℕ → Route → List Entry → Entry → List Ask → Type 0
BreaksShipping client route pending entry asks =
    ((address : List ℕ) × (sketched : SketchEntry) × IsLight client route entry address sketched
    × BreaksSettling Surrogate address (messages.Operate client sketched) asks)
    ⊎ StoreIsDue client route entry asks
    ⊎ ((before : List Ask) × (settling : List Ask) × (chosen : List Entry) × StoreIsDue client route entry before
    × IsWindow client route pending chosen
    × BreaksSettling Server route.server (store_of client entry.seq chosen) settling × (asks ≡ before ++ settling))

-- ---- turns

-- A turn: what is pending is shipped, what came of it tells which entries were taken, and by it the sync ends, or goes on.
pub record EntryTurn (client : ℕ) (route : Route) (before after : Log) (end : Option SyncEnd) (asks : List Ask) : Type 0 where
  pub entry : Entry
  pub first : IsFirst entry before.pending
  pub number : entry.seq ≡ before.acked + 1
  pub came : Option Message
  pub ships : Ships client route before.pending entry came asks
  pub after_is : after ≡ log_behind came before
  pub end_is : end_by (after.acked + 1) came ≡ end

-- so many turns, each of which goes on, as its entries are acknowledged
abbrev pub Acknowledges : ℕ → Route → ℕ → Log → Log → Trace → Type 0
Acknowledges client route zero before after trace = (after ≡ before) × (trace ≡ nothing)
Acknowledges client route (suc count) before after trace =
    (middle : Log) × (earlier : Trace) × (asks : List Ask) × Acknowledges client route count before middle earlier
    × EntryTurn client route middle after None asks
    × (trace ≡ followed earlier (followed (asking asks) (changing after)))

-- the change that a last turn makes: none where it acknowledged nothing
abbrev pub acknowledging : Log → Log → Trace
acknowledging before after = if nat_lt before.acked after.acked then changing after else nothing

-- The last turn of a sync: none where nothing is pending, and else one that ends it. A refusal may tell entries before it to be taken,
-- are acknowledged then.
abbrev pub EndsSync : ℕ → Route → Log → SyncEnd → Log → Trace → Type 0
EndsSync client route before end after trace =
    ((before.pending ≡ []) × (end ≡ Synced before.acked) × (after ≡ before) × (trace ≡ nothing))
    ⊎ ((asks : List Ask) × EntryTurn client route before after (Some end) asks
    × (trace ≡ followed (asking asks) (acknowledging before after)))

-- some entries are acknowledged, and then the sync ends
abbrev pub SyncTurn : ℕ → Route → Log → SyncEnd → Log → Trace → Type 0
SyncTurn client route before end after trace =
    (count : ℕ) × (middle : Log) × (earlier last : Trace) × Acknowledges client route count before middle earlier
    × EndsSync client route middle end after last × (trace ≡ followed earlier last)

-- A turn that is broken off: nothing more is done, or the shipping is broken off, or what a refusal tells to be taken was acknowledged, and
-- its keeping was refused.
abbrev pub BreaksTurn : ℕ → Route → Log → Log → Trace → Type 0
BreaksTurn client route before after trace =
    ((after ≡ before) × (trace ≡ nothing))
    ⊎ ((after ≡ before) × ((entry : Entry) × (asks : List Ask) × IsFirst entry before.pending
    × BreaksShipping client route before.pending entry asks × (trace ≡ asking asks)))
    ⊎ ((end : SyncEnd) × (asks : List Ask) × EntryTurn client route before after (Some end) asks × (before.acked < after.acked)
    × (trace ≡ followed (asking asks) (changing after)))

-- some entries are acknowledged, and then the next turn is broken off
abbrev pub BreaksSync : ℕ → Route → Log → Log → Trace → Type 0
BreaksSync client route before after trace =
    (count : ℕ) × (middle : Log) × (earlier last : Trace) × Acknowledges client route count before middle earlier
    × BreaksTurn client route middle after last × (trace ≡ followed earlier last)

-- whether a sync that ends so was broken off, since a keeping was refused or memory was wanted
abbrev pub is_broken_sync : SyncEnd → Bool
is_broken_sync KeepFault = true
is_broken_sync Memory = true
is_broken_sync end = false

-- a sync that ended and whose log is kept, or one that was broken off
abbrev pub SyncEnds : ℕ → Route → Log → SyncEnd → Log → Log → Trace → Type 0
SyncEnds client route before end after kept trace =
    (SyncTurn client route before end after trace × (kept ≡ after))
    ⊎ ((is_broken_sync end ≡ true) × BreaksSync client route before after trace)
