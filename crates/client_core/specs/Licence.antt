-- What a sync may ask, read off what it asked before: values only where an operation does not serve.
use Rattle.std.specs.Prelude.{◌≡◌, ◌⊎◌, ℕ, ◌+◌, ◌<◌, ◌≤◌, List, [], ◌∷◌, ◌++◌, length}
use Rattle.tree_values.specs.Lists.{IsIn}
use Rattle.mod_log.specs.declared.log.Entry.{Entry}
use Rattle.mod_log.specs.declared.sketching.SketchEntry.{SketchEntry}
use Rattle.mod_log.specs.Log.{Log, IsLog}
use Rattle.wire_frames.specs.declared.cause.Cause.{Cause}
use Rattle.wire_frames.specs.declared.message.Message.{Message}
use Rattle.wire_frames.specs.declared.message.Message.TheVariants.{Store, Operate, Done, Declined}
use Rattle.wire_frames.specs.Frame.{number_of}
use Rattle.world_rules.specs.declared.asking.Peer.TheVariants.{Server, Surrogate}
use Rattle.world_rules.specs.declared.asking.Ask.{Ask}
use Rattle.world_rules.specs.declared.asking.Answer.TheVariants.{Reply}
use Rattle.world_rules.specs.Asking.{ask_of}
use Rattle.world_rules.specs.Settling.{max_asks, failures}
use Rattle.client_core.specs.declared.route.Route.{Route}
use Rattle.client_core.specs.declared.syncing.SyncEnd.{SyncEnd}
use Rattle.client_core.specs.declared.syncing.SyncEnd.TheVariants.{Unanswered}
use Rattle.client_core.specs.Trace.{Trace}
use Rattle.client_core.specs.Syncing.{store_of, IsFirst, IsLight, IsWindow, SyncTurn, SyncEnds}

-- among these asks a Declined of the operation was answered, or eight of it in a row failed
abbrev pub WasNotDone : ℕ → List ℕ → SketchEntry → List Ask → Type 0
WasNotDone client address sketched asks =
    ((cause : Cause) × IsIn (ask_of Surrogate address (Operate client sketched) (Reply (Declined client sketched.seq cause))) asks)
    ⊎ ((front : List Ask) × (back : List Ask) × (asks ≡ front ++ (failures Surrogate address (Operate client sketched) max_asks ++ back)))

-- a store carries the entry of this number
abbrev pub Carries : ℕ → Message → Type 0
Carries seq (Store client number parts) = (number ≤ seq) × (seq < number + length parts)
Carries seq request = ⊥

-- After those that are seen an ask may be made: of a store that carries a light entry only where that is its first entry, and its operation
-- was not done.
abbrev pub MayBeAsked : ℕ → Route → List Entry → List Ask → Ask → Type 0
MayBeAsked client route entries seen ask = (entry : Entry) (address : List ℕ) (sketched : SketchEntry) → IsIn entry entries
    → Carries entry.seq ask.request → IsLight client route entry address sketched
    → (number_of ask.request ≡ entry.seq) × WasNotDone client address sketched seen

-- each of the asks may be made after those before it
abbrev pub AreLicensed : ℕ → Route → List Entry → List Ask → List Ask → Type 0
AreLicensed client route entries seen [] = Unit {0}
AreLicensed client route entries seen (ask ∷ asks) =
    MayBeAsked client route entries seen ask × AreLicensed client route entries (seen ++ ask ∷ []) asks

-- In each sync, also in one that is broken off, a store that carries a light entry is asked only once its operation was not done in this
-- sync, and the entry is its first one.
abbrev pub SyncsAreLicensed : Type 0
SyncsAreLicensed = (client : ℕ) (route : Route) (before after kept : Log) (end : SyncEnd) (trace : Trace) → IsLog before
    → SyncEnds client route before end after kept trace → AreLicensed client route before.pending [] trace.asks

-- Where an entry's operation was answered by Done, each ask of that entry in the sync, and each that carries it, is of its operation, whose
-- frame is shorter than that of a store of it alone.
abbrev pub DoneEntriesCostOperations : Type 0
DoneEntriesCostOperations = (client : ℕ) (route : Route) (before after kept : Log) (end : SyncEnd) (trace : Trace) → IsLog before
    → SyncEnds client route before end after kept trace
    → (entry : Entry) (address : List ℕ) (sketched : SketchEntry) → IsIn entry before.pending → IsLight client route entry address sketched
    → IsIn (ask_of Surrogate address (Operate client sketched) (Reply (Done client entry.seq))) trace.asks
    → (ask : Ask) → IsIn ask trace.asks → (number_of ask.request ≡ entry.seq) ⊎ Carries entry.seq ask.request
    → ask.request ≡ Operate client sketched

-- A sync that ends unanswered has asked the store of its window, from the first pending entry on, eight times at its end, and each of these
-- asks failed.
abbrev pub UnansweredStoresFailed : Type 0
UnansweredStoresFailed = (client : ℕ) (route : Route) (before after : Log) (number : ℕ) (trace : Trace)
    → SyncTurn client route before (Unanswered number) after trace
    → (entry : Entry) × (chosen : List Entry) × (front : List Ask) × IsFirst entry after.pending × (number ≡ entry.seq)
    × IsWindow client route after.pending chosen
    × (trace.asks ≡ front ++ failures Server route.server (store_of client number chosen) max_asks)
