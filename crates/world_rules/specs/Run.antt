-- A client and the world as both go on: what the network does, what the client does to its log, and what is kept of it.
use Rattle.std.specs.Prelude.{◌≡◌, ◌≢◌, ℕ, ◌+◌, ◌-◌, ◌==◌, ◌≤◌, Bool, List, [], ◌∷◌, ◌++◌, take, drop, filter}
use Rattle.file_paths.specs.Path.{FilePath}
use Rattle.tree_values.specs.Effects.{touched_all}
use Rattle.tree_values.specs.Tree.{Volume, version_at, node_at}
use Rattle.tree_values.specs.Lists.{IsIn}
use Rattle.mod_log.specs.declared.log.Entry.{Entry}
use Rattle.mod_log.specs.Log.{Log, tree_at, IsLog, logged, acknowledged, pulled}
use Rattle.wire_frames.specs.declared.message.Message.{Message}
use Rattle.wire_frames.specs.declared.message.Message.TheVariants.{Snapshot}
use Rattle.world_rules.specs.Served.{Served, TakenEntry, entry_stored, taken_of}
use Rattle.world_rules.specs.World.{World, Step, Deliver, happens, noted, IsAllowed}
use Rattle.world_rules.specs.declared.asking.Ask.{Ask}
use Rattle.world_rules.specs.Asking.{AnswerStands}
use Rattle.world_rules.specs.InStep.{InStep, MaySend, TellsTaken}

-- the client's log in memory, the log that is kept of it outside memory, and the world
pub record State : Type 0 where
  pub log : Log
  pub kept : Log
  pub world : World

-- a client whose log is kept, in the world
abbrev pub kept_at : Log → World → State
kept_at log world = record { log = log; kept = log; world = world }

-- a client that begins anew with what is kept
abbrev pub restarted : State → State
restarted state = kept_at state.kept state.world

-- What may come next for a client in its world.
pub data Move : Type 0 where
  -- a step of the world
  Network : Step → Move
  -- an ask is noted
  Notes : Ask → Move
  -- the client logs an entry
  Logs : Entry → Move
  -- the client acknowledges its pending entries up to this number on this reply
  Acknowledges : ℕ → Message → Move
  -- the client takes these rows of a snapshot as its base
  Pulls : ℕ → Volume → Move
  -- The client's log is kept from here on. A keeping that is refused is this move, too, where it leaves what was to be kept,
  -- and no move where it leaves what was kept before.
  Saves : Move

-- the state after a move
abbrev pub moved : Move → State → State
moved (Network step) state = record { log = state.log; kept = state.kept; world = happens step state.world }
moved (Notes ask) state = record { log = state.log; kept = state.kept; world = noted (ask ∷ []) state.world }
moved (Logs entry) state = record { log = logged entry state.log; kept = state.kept; world = state.world }
moved (Acknowledges upto reply) state = record { log = acknowledged upto state.log; kept = state.kept; world = state.world }
moved (Pulls last seen) state = record { log = pulled seen state.log; kept = state.kept; world = state.world }
moved Saves state = kept_at state.log state.world

-- The client sends what its log may send, operations where it has a surrogate, and only while this very log is kept.
abbrev pub MaySendKept : ℕ → Bool → State → Message → Type 0
MaySendKept client ships state message = MaySend client ships state.log message × (state.kept ≡ state.log)

-- The client sends what its kept log may send, logs an entry with which it has a log, acknowledges on a reply that was sent and tells
-- what was taken, and pulls a snapshot that was sent, has its acknowledged number as the last and is at no path older than
-- its base. What was asked was sent, and what was answered stands. It may be kept at any time.
abbrev pub IsPossible : ℕ → Bool → State → Move → Type 0
IsPossible client ships state (Network step) = IsAllowed (MaySendKept client ships state) state.world step
IsPossible client ships state (Notes ask) = IsIn ask.request state.world.packets × AnswerStands state.world ask
IsPossible client ships state (Logs entry) = IsLog (logged entry state.log)
IsPossible client ships state (Acknowledges upto reply) =
    (state.log.acked ≤ upto) × TellsTaken client upto reply × IsIn reply state.world.packets
IsPossible client ships state (Pulls last seen) =
    (state.log.pending ≡ []) × (last ≡ state.log.acked) × IsIn (Snapshot client state.log.acked last seen) state.world.packets
    × ((path : FilePath) → version_at state.log.base path ≤ version_at seen path)
IsPossible client ships state Saves = Unit {0}

-- each move is possible after those before it
abbrev pub AllPossible : ℕ → Bool → State → List Move → Type 0
AllPossible client ships state [] = Unit {0}
AllPossible client ships state (move ∷ moves) = IsPossible client ships state move × AllPossible client ships (moved move state) moves

-- the state after these moves, one after the other
abbrev pub moved_by : List Move → State → State
moved_by [] state = state
moved_by (move ∷ moves) state = moved_by moves (moved move state)

-- the entry that a move logs
abbrev pub entry_in : Move → List Entry
entry_in (Logs entry) = entry ∷ []
entry_in _ = []

-- the entries that the moves log, in order
abbrev pub entries_in : List Move → List Entry
entries_in [] = []
entries_in (move ∷ moves) = entry_in move ++ entries_in moves

-- the ask that a move notes
abbrev pub ask_in : Move → List Ask
ask_in (Notes ask) = ask ∷ []
ask_in _ = []

-- the asks that the moves note, in order
abbrev pub asks_in : List Move → List Ask
asks_in [] = []
asks_in (move ∷ moves) = ask_in move ++ asks_in moves

-- the entries that the server takes in a step
abbrev pub taken_by : Step → Served → List TakenEntry
taken_by (Deliver message joins) served = taken_of message served
taken_by _ served = []

-- the entries that the server takes in a move
abbrev pub taken_in_move : Move → State → List TakenEntry
taken_in_move (Network step) state = taken_by step state.world.served
taken_in_move _ state = []

-- the entries that the server takes in the moves, in order
abbrev pub taken_in : List Move → State → List TakenEntry
taken_in [] state = []
taken_in (move ∷ moves) state = taken_in_move move state ++ taken_in moves (moved move state)

-- of what was taken, the entries of one client
abbrev pub own : ℕ → List TakenEntry → List TakenEntry
own client taken = filter (λ entry. entry.client == client) taken

-- the client's logged entries as they are taken, numbered on from the first number
abbrev pub numbered : ℕ → ℕ → List Entry → List TakenEntry
numbered client number [] = []
numbered client number (entry ∷ entries) = entry_stored client number entry.effects entry.base ∷ numbered client (number + 1) entries

-- of the client's entries after `acked`, those above one number and up to another, as they are taken
abbrev pub entries_between : ℕ → ℕ → ℕ → ℕ → List Entry → List TakenEntry
entries_between client acked above upto entries = drop (above - acked) (numbered client (acked + 1) (take (upto - acked) entries))

-- all that was taken is the client's
abbrev pub AreAllOf : ℕ → List TakenEntry → Type 0
AreAllOf client taken = (entry : TakenEntry) → IsIn entry taken → entry.client ≡ client

-- the entry does not touch the path
abbrev pub Spares : FilePath → TakenEntry → Type 0
Spares path entry = IsIn path (touched_all entry.effects) → ⊥

-- nothing that was taken of another client touches the path
abbrev pub OthersSpare : ℕ → FilePath → List TakenEntry → Type 0
OthersSpare client path taken = (entry : TakenEntry) → IsIn entry taken → entry.client ≢ client → Spares path entry

-- The served volume has at the path what the client's tree had after the entries that were taken.
pub record IsSameAt (client : ℕ) (log : Log) (world : World) (path : FilePath) : Type 0 where
  pub version : version_at world.served.volume path ≡ version_at (tree_at (world.served.last client) log) path
  pub node : node_at world.served.volume path ≡ node_at (tree_at (world.served.last client) log) path

-- What the client has in memory, and what is kept of it, are both in step with the world.
pub record AreInStep (client : ℕ) (state : State) : Type 0 where
  pub in_memory : InStep client state.log state.world
  pub kept : InStep client state.kept state.world

-- The state went on by possible moves, in which these entries were logged and these asks were made.
pub record Runs (client : ℕ) (ships : Bool) (logged_entries : List Entry) (made : List Ask) (old new : State) : Type 0 where
  pub moves : List Move
  pub entries : entries_in moves ≡ logged_entries
  pub asks : asks_in moves ≡ made
  pub possible : AllPossible client ships old moves
  pub result : new ≡ moved_by moves old
