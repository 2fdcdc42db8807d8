-- What a server answers to a store, entry by entry and case by case, and what becomes of stores that come in any order and any number
-- of times.
use Rattle.std.specs.Prelude.{◌≡◌, ℕ, ◌+◌, ◌<◌, ◌≤◌, true, false, Ok, Err, List, [], ◌∷◌, ◌++◌, length, map}
use Rattle.std.specs.Prelude.{count_by}
use Rattle.std.specs.List.{AllByRecursion, flat_map, range_with_len}
use Rattle.file_paths.specs.Path.{FilePath, is_same_path}
use Rattle.tree_values.specs.declared.node.Base.{Base}
use Rattle.tree_values.specs.declared.node.Effect.{Effect}
use Rattle.tree_values.specs.declared.node.TreeError.{TreeError}
use Rattle.tree_values.specs.Tree.{Volume, version_at, apply}
use Rattle.tree_values.specs.Effects.{apply_all, touched_all}
use Rattle.wire_frames.specs.declared.parts.Part.{Part}
use Rattle.wire_frames.specs.Parts.{part_of}
use Rattle.wire_frames.specs.declared.message.Message.{Message}
use Rattle.wire_frames.specs.declared.message.Message.TheVariants.{Store, Pull, Accepted, Stale, Unfit, Gap, Snapshot, Full, Malformed}
use Rattle.wire_frames.specs.declared.message.FrameError.{FrameError}
use Rattle.wire_frames.specs.Frame.{frame, Spells}
use Rattle.wire_frames.specs.Malformed.{refusal_code, refusal_offset}
use Rattle.wire_frames.specs.Reading.{frame_of}
use Rattle.byte_fields.specs.Codec.{IsBytes}
use Rattle.world_rules.specs.World.{IsForServer}
use Rattle.server_core.specs.Framing.{frame_answer, frame_after, frames_after, is_any, takes, messages_of}
use Rattle.world_rules.specs.Served.{Served, TakenEntry, served_through, verdict_through, end_of, answer, state_after}
use Rattle.world_rules.specs.Served.{taken_of, replay, with_last}
use Rattle.world_rules.specs.Served.{is_want_of_room}
use Rattle.world_rules.specs.Run.{own}

-- ---- one store

-- the reply to a message, and what is held then
pub record IsServedAs (message : Message) (served : Served) (reply : Message) (after : Served) : Type 0 where
  pub replies : answer message served ≡ reply
  pub holds : state_after message served ≡ after

-- The entries of a store behind its first are gone through from the state behind that one, and end the store as they would without it.
pub record GoesOnBehind (client number : ℕ) (first : Part) (later : List Part) (served middle : Served) : Type 0 where
  pub holds : served_through client number (first ∷ later) served ≡ served_through client (number + 1) later middle
  pub ends : verdict_through client number (first ∷ later) served ≡ verdict_through client (number + 1) later middle

-- the path still has the version that the entry rests on
abbrev pub IsCurrent : Volume → Base → Type 0
IsCurrent volume base = version_at volume base.path ≡ base.version

-- a store whose last number was accepted before is accepted again, and changes nothing
abbrev pub RepeatsChangeNothing : Type 0
RepeatsChangeNothing = (client number : ℕ) (parts : List Part) (served : Served) → number + length parts ≤ served.last client + 1
    → IsServedAs (Store client number parts) served (Accepted client number (end_of number parts)) served

-- to a store whose number is beyond the next the last accepted one is told
abbrev pub GapsChangeNothing : Type 0
GapsChangeNothing = (client number : ℕ) (first : Part) (later : List Part) (served : Served) → served.last client + 1 < number
    → IsServedAs (Store client number (first ∷ later)) served (Gap client number (served.last client)) served

-- an entry whose number was accepted before is passed, and changes nothing
abbrev pub KnownEntriesArePassed : Type 0
KnownEntriesArePassed = (client number : ℕ) (first : Part) (later : List Part) (served : Served) → number ≤ served.last client
    → GoesOnBehind client number first later served served

-- the entry of the next number is refused at the first path of its base that has another version, and the store with it
abbrev pub StaleEntriesEndStores : Type 0
StaleEntriesEndStores =
    (client : ℕ) (effects : List Effect) (before : List Base) (base : Base) (others : List Base) (later : List Part) (served : Served)
    → AllByRecursion (IsCurrent served.volume) before → (IsCurrent served.volume base → ⊥)
    → let last = served.last client in
    let first = part_of effects (before ++ base ∷ others) in
    let theirs = version_at served.volume base.path in
    IsServedAs (Store client (last + 1) (first ∷ later)) served (Stale client (last + 1) last base.path theirs base.version) served

-- else it is refused at its first effect that does not apply after those before it: as Full for want of room
abbrev pub FullEntriesEndStores : Type 0
FullEntriesEndStores = (client : ℕ) (before : List Effect) (effect : Effect) (others : List Effect) (base : List Base) (later : List Part)
    → (served : Served) (middle : Volume) (fault : TreeError)
    → AllByRecursion (IsCurrent served.volume) base
    → apply_all 0 before served.volume ≡ Ok middle → apply effect middle ≡ Err fault → is_want_of_room fault ≡ true
    → let last = served.last client in
    let first = part_of (before ++ effect ∷ others) base in
    IsServedAs (Store client (last + 1) (first ∷ later)) served (Full client (last + 1) last (length before) fault) served

-- and as Unfit for any other cause
abbrev pub UnfitEntriesEndStores : Type 0
UnfitEntriesEndStores = (client : ℕ) (before : List Effect) (effect : Effect) (others : List Effect) (base : List Base) (later : List Part)
    → (served : Served) (middle : Volume) (fault : TreeError)
    → AllByRecursion (IsCurrent served.volume) base
    → apply_all 0 before served.volume ≡ Ok middle → apply effect middle ≡ Err fault → is_want_of_room fault ≡ false
    → let last = served.last client in
    let first = part_of (before ++ effect ∷ others) base in
    IsServedAs (Store client (last + 1) (first ∷ later)) served (Unfit client (last + 1) last (length before) fault) served

-- else it is taken: its effects are applied, and its number is the client's last, while every other client keeps its own
abbrev pub OtherEntriesAreTaken : Type 0
OtherEntriesAreTaken = (client : ℕ) (effects : List Effect) (base : List Base) (later : List Part) (served : Served) (new : Volume)
    → AllByRecursion (IsCurrent served.volume) base → apply_all 0 effects served.volume ≡ Ok new
    → let number = served.last client + 1 in
    let after : Served = record { volume = new; last = with_last served.last client number } in
    GoesOnBehind client number (part_of effects base) later served after

-- a pull is answered by all rows and the client's last number
abbrev pub PullsTellTheRows : Type 0
PullsTellTheRows = (client number : ℕ) (served : Served)
    → IsServedAs (Pull client number) served (Snapshot client number (served.last client) served.volume) served

-- any other message is not for a server
abbrev pub OthersAreMalformed : Type 0
OthersAreMalformed = (message : Message) (served : Served) → (IsForServer message → ⊥)
    → IsServedAs message served (Malformed 7 0) served

-- ---- many messages, in any order and any number of times

-- the served state after these messages, one after the other
abbrev pub state_after_all : List Message → Served → Served
state_after_all [] served = served
state_after_all (message ∷ messages) served = state_after_all messages (state_after message served)

-- the entries that are taken of these messages, in order
abbrev pub taken_among : List Message → Served → List TakenEntry
taken_among [] served = []
taken_among (message ∷ messages) served = taken_of message served ++ taken_among messages (state_after message served)

-- the numbers of a client's taken entries, in order
abbrev pub numbers_of : ℕ → List TakenEntry → List ℕ
numbers_of client taken = map (λ entry. entry.number) (own client taken)

-- how often the effects of taken entries touch a path
abbrev pub touches : FilePath → List TakenEntry → ℕ
touches path taken = count_by (λ touched. is_same_path path touched) (touched_all (flat_map (λ entry. entry.effects) taken))

-- the entries taken of a client are numbered on from its last one, without a gap and each once
abbrev pub StoresAreTakenInOrder : Type 0
StoresAreTakenInOrder = (messages : List Message) (served : Served) (client : ℕ)
    → let numbers = numbers_of client (taken_among messages served) in
    (numbers ≡ range_with_len (served.last client + 1) (length numbers))
    × ((state_after_all messages served).last client ≡ served.last client + length numbers)

-- a path's version grows by the touches of the entries that are taken, and by nothing else
abbrev pub VersionsCountTouches : Type 0
VersionsCountTouches = (messages : List Message) (served : Served) (path : FilePath)
    → version_at (state_after_all messages served).volume path ≡ version_at served.volume path + touches path (taken_among messages served)

-- messages do what the entries that are taken of them do
abbrev pub TakenEntriesTellTheState : Type 0
TakenEntriesTellTheState =
    (messages : List Message) (served : Served) → state_after_all messages served ≡ replay (taken_among messages served) served

-- ---- frames

-- the frame of a message is answered by the frame of its answer
abbrev pub FramesAreAnswered : Type 0
FramesAreAnswered = (message : Message) (bytes : List ℕ) (served : Served) → Spells message bytes
    → (frame_answer bytes served ≡ frame (answer message served)) × (frame_after bytes served ≡ state_after message served)

-- bytes that are no message's frame change nothing, and are answered by why they were refused
abbrev pub OtherBytesAreMalformed : Type 0
OtherBytesAreMalformed = (bytes : List ℕ) (served : Served) → IsBytes bytes → ((message : Message) → Spells message bytes → ⊥)
    → (refusal : FrameError) × (frame_of bytes ≡ Err refusal)
    × (frame_answer bytes served ≡ frame (Malformed (refusal_code refusal) (refusal_offset refusal))) × (frame_after bytes served ≡ served)

-- a frame of whose store an entry is taken raises the last number of some client; any other frame changes nothing
abbrev pub TakenFramesChangeTheState : Type 0
TakenFramesChangeTheState = (bytes : List ℕ) (served : Served)
    → (takes bytes served ≡ true → (client : ℕ) × (served.last client < (frame_after bytes served).last client))
    × (takes bytes served ≡ false → frame_after bytes served ≡ served)

-- entries are taken of a frame exactly where it changes what is served
abbrev pub EntriesTellWhatChanges : Type 0
EntriesTellWhatChanges = (bytes : List ℕ) (served : Served) → is_any (taken_among (messages_of (bytes ∷ [])) served) ≡ takes bytes served

-- frames do what their messages do; bytes that are refused change nothing
abbrev pub FramesActAsTheirMessages : Type 0
FramesActAsTheirMessages = (frames : List (List ℕ)) (served : Served)
    → frames_after frames served ≡ state_after_all (messages_of frames) served
