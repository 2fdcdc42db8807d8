-- What holds of every run of a client in its world.
use Rattle.std.specs.Prelude.{◌≡◌, ◌≢◌, ℕ, ◌+◌, ◌-◌, ◌<◌, ◌≤◌, Bool, false, List, [], ◌∷◌, ◌++◌, drop}
use Rattle.file_paths.specs.Path.{FilePath}
use Rattle.tree_values.specs.Tree.{Volume, version_at}
use Rattle.tree_values.specs.Lists.{IsIn}
use Rattle.vol_tree.specs.Behind.{IsAhead}
use Rattle.mod_log.specs.declared.log.Entry.{Entry}
use Rattle.mod_log.specs.declared.sketching.SketchEntry.{SketchEntry}
use Rattle.mod_log.specs.Log.{Log, tree_at, IsLog, new_log}
use Rattle.mod_log.specs.Sketched.{IsSketchOf}
use Rattle.wire_frames.specs.Limits.{max_client}
use Rattle.wire_frames.specs.declared.message.Message.{Message}
use Rattle.wire_frames.specs.declared.message.Message.TheVariants.{Store, Operate, Pull, Accepted, Stale, Gap, Snapshot, Done}
use Rattle.wire_frames.specs.Parts.{part_of}
use Rattle.wire_frames.specs.Frame.{client_of, IsValid}
use Rattle.world_rules.specs.declared.asking.Ask.{Ask}
use Rattle.world_rules.specs.Served.{IsServed}
use Rattle.world_rules.specs.World.{World, Step, Relay, happens, happen, IsReplayed, IsAllowed, IsFree, GoesOnAlone, MovedAlone, Moved}
use Rattle.world_rules.specs.World.{IsFresh}
use Rattle.world_rules.specs.Asking.{AnswersStand}
use Rattle.world_rules.specs.InStep.{InStep, MaySend, IsRefusal, HasNoCollision, HasNoOperation, parts_of, IsStorable}
use Rattle.world_rules.specs.Run.{State, kept_at, restarted, AreInStep, Runs, taken_in, own, entries_between, AreAllOf, OthersSpare}
use Rattle.world_rules.specs.Run.{IsSameAt}

-- ---- in step

-- Every run in which the log and what is kept of it begin in step leaves both in step, also where a keeping was refused, and where no
-- content that was sent is taken for another. Where no operation of the client was sent that is so.
abbrev pub RunsStayInStep : Type 0
RunsStayInStep = (client : ℕ) (ships : Bool) (entries : List Entry) (made : List Ask) (old new : State) → AreInStep client old
    → Runs client ships entries made old new
    → HasNoCollision client (old.kept.pending ++ (old.log.pending ++ entries)) new.world.packets → AreInStep client new

-- A message that a surrogate sends keeps in step.
abbrev pub RelaysKeepInStep : Type 0
RelaysKeepInStep =
    (client : ℕ) (log : Log) (world : World) (message : Message) → InStep client log world → IsAllowed (λ sending. ⊥) world (Relay message)
    → HasNoCollision client log.pending (happens (Relay message) world).packets → InStep client log (happens (Relay message) world)

-- And so does a new beginning with what is kept.
abbrev pub RestartsStayInStep : Type 0
RestartsStayInStep = (client : ℕ) (state : State) → AreInStep client state → AreInStep client (restarted state)

-- A new client is in step with each served state that took nothing of it, where no message of it was sent.
abbrev pub NewClientsAreInStep : Type 0
NewClientsAreInStep =
    (client : ℕ) (world : World) → world.client ≡ client → 1 ≤ client → client ≤ max_client → IsServed world.served
    → world.served.last client ≡ 0
    → ((message : Message) → IsIn message world.packets → (client_of message ≢ client) × IsValid message)
    → InStep client new_log world

-- A client without a surrogate sends no operation: each of its operations among the packets was there before.
abbrev pub OperationsNeedASurrogate : Type 0
OperationsNeedASurrogate = (client : ℕ) (entries : List Entry) (made : List Ask) (old new : State) (sketched : SketchEntry)
    → old.world.client ≡ client → Runs client false entries made old new
    → IsIn (Operate client sketched) new.world.packets → IsIn (Operate client sketched) old.world.packets

-- So where none was there, nothing is taken for another.
abbrev pub ClientsWithoutOperationsNeverCollide : Type 0
ClientsWithoutOperationsNeverCollide = (client : ℕ) (entries : List Entry) (made : List Ask) (old new : State) (all : List Entry)
    → old.world.client ≡ client → HasNoOperation client old.world.packets
    → Runs client false entries made old new → HasNoCollision client all new.world.packets

-- While a request is asked that the kept log may send, and what is answered stands, the world goes on by possible moves, in which the
-- asks are noted.
abbrev pub AsksArePossible : Type 0
AsksArePossible = (client : ℕ) (ships : Bool) (log : Log) (request : Message) (made : List Ask) (old new : World)
    → MaySend client ships log request → Moved request made old new → AnswersStand new made
    → Runs client ships [] made (kept_at log old) (kept_at log new)

-- The store of a front of what is pending may be sent, where one store can carry that.
abbrev pub PendingFrontsMayBeSent : Type 0
PendingFrontsMayBeSent = (client : ℕ) (ships : Bool) (log : Log) (front left : List Entry) → IsLog log → log.pending ≡ front ++ left
    → IsStorable front → MaySend client ships log (Store client (log.acked + 1) (parts_of front))

-- What the client may send is valid.
abbrev pub SendingsAreValid : Type 0
SendingsAreValid = (client : ℕ) (ships : Bool) (log : Log) (message : Message) → 1 ≤ client → client ≤ max_client → IsLog log
    → MaySend client ships log message → IsValid message

-- The store of each pending entry alone is a valid message.
abbrev pub PendingStoresAreValid : Type 0
PendingStoresAreValid = (client : ℕ) → 1 ≤ client → client ≤ max_client → (log : Log) (entry : Entry) → IsLog log → IsIn entry log.pending
    → IsValid (Store client entry.seq (part_of entry.effects entry.base ∷ []))

-- And so is the operation of each that a command made.
abbrev pub PendingOperationsAreValid : Type 0
PendingOperationsAreValid = (client : ℕ) → 1 ≤ client → client ≤ max_client → (log : Log) (entry : Entry) (sketched : SketchEntry)
    → IsLog log → IsIn entry log.pending → IsSketchOf entry sketched
    → IsValid (Operate client sketched)

-- ---- runs one after the other

-- Two runs, the second from where the first ended, are a run.
abbrev pub RunsJoin : Type 0
RunsJoin = (client : ℕ) (ships : Bool) (earlier later : List Entry) (made more : List Ask) (old middle new : State)
    → Runs client ships earlier made old middle → Runs client ships later more middle new
    → Runs client ships (earlier ++ later) (made ++ more) old new

-- A new beginning with what is kept is the end of a run, too: of one in which what was not kept was not done. In it the first of the
-- entries were logged, and the same was asked, in the same world.
abbrev pub RestartsEndRuns : Type 0
RestartsEndRuns = (client : ℕ) (ships : Bool) (entries : List Entry) (made : List Ask) (old new : State) → old.kept ≡ old.log
    → Runs client ships entries made old new
    → (kept unkept : List Entry) × (entries ≡ kept ++ unkept) × Runs client ships kept made old (restarted new)

-- And so is a world that went on without its client.
abbrev pub SilentClientsRun : Type 0
SilentClientsRun = (client : ℕ) (ships : Bool) (log : Log) (old new : World) → GoesOnAlone old new
    → Runs client ships [] [] (kept_at log old) (kept_at log new)

-- A run of a client without a surrogate is one of a client with a surrogate, too.
abbrev pub RunsNeedNoSurrogate : Type 0
RunsNeedNoSurrogate = (client : ℕ) (ships : Bool) (entries : List Entry) (made : List Ask) (old new : State)
    → Runs client false entries made old new → Runs client ships entries made old new

-- ---- entries

-- What is taken of the client in a run are its entries after the last taken one, in order and each once.
abbrev pub EntriesAreTakenOnce : Type 0
EntriesAreTakenOnce = (client : ℕ) (ships : Bool) (entries : List Entry) (made : List Ask) (old new : State)
    → InStep client old.log old.world → (runs : Runs client ships entries made old new)
    → HasNoCollision client (old.log.pending ++ entries) new.world.packets
    → own client (taken_in runs.moves old)
    ≡ entries_between client old.log.acked (old.world.served.last client) (new.world.served.last client) (old.log.pending ++ entries)

-- The acknowledged number only grows, and pending are, of the entries that were pending or logged, those after it.
abbrev pub LaterEntriesArePending : Type 0
LaterEntriesArePending = (client : ℕ) (ships : Bool) (entries : List Entry) (made : List Ask) (old new : State)
    → InStep client old.log old.world → Runs client ships entries made old new
    → HasNoCollision client (old.log.pending ++ entries) new.world.packets
    → (old.log.acked ≤ new.log.acked) × (new.log.pending ≡ drop (new.log.acked - old.log.acked) (old.log.pending ++ entries))

-- Where nothing of another client is taken, what is taken are its entries after the last taken one, in order and each once.
abbrev pub LoneClientsEntriesAreTaken : Type 0
LoneClientsEntriesAreTaken = (client : ℕ) (ships : Bool) (entries : List Entry) (made : List Ask) (old new : State)
    → InStep client old.log old.world → (runs : Runs client ships entries made old new)
    → AreAllOf client (taken_in runs.moves old) → HasNoCollision client (old.log.pending ++ entries) new.world.packets
    → taken_in runs.moves old ≡ entries_between client old.log.acked (old.world.served.last client) (new.world.served.last client)
    (old.log.pending ++ entries)

-- ---- what the client wrote

-- A path whose version was the client's, and that no other client's taken entry touches, has at the end what the client's
-- tree had after the entries that were taken.
abbrev pub SparedPathsAreTheClients : Type 0
SparedPathsAreTheClients = (client : ℕ) (ships : Bool) (entries : List Entry) (made : List Ask) (old new : State) (path : FilePath)
    → InStep client old.log old.world
    → (runs : Runs client ships entries made old new)
    → version_at old.world.served.volume path ≡ version_at (tree_at (old.world.served.last client) old.log) path
    → OthersSpare client path (taken_in runs.moves old)
    → HasNoCollision client (old.log.pending ++ entries) new.world.packets
    → IsSameAt client new.log new.world path

-- And so has the tree that is kept, where the run began with the client's log kept.
abbrev pub SparedPathsAreKept : Type 0
SparedPathsAreKept = (client : ℕ) (ships : Bool) (entries : List Entry) (made : List Ask) (old new : State) (path : FilePath)
    → AreInStep client old → old.kept ≡ old.log
    → (runs : Runs client ships entries made old new)
    → version_at old.world.served.volume path ≡ version_at (tree_at (old.world.served.last client) old.log) path
    → OthersSpare client path (taken_in runs.moves old)
    → HasNoCollision client (old.log.pending ++ entries) new.world.packets
    → IsSameAt client new.kept new.world path

-- Where nothing of another client is taken in a run, and it begins with the client's tree served, it ends with the
-- client's tree after the entries that were taken.
abbrev pub LoneClientsAreServedTheirTree : Type 0
LoneClientsAreServedTheirTree = (client : ℕ) (ships : Bool) (entries : List Entry) (made : List Ask) (old new : State)
    → InStep client old.log old.world → (runs : Runs client ships entries made old new)
    → AreAllOf client (taken_in runs.moves old)
    → old.world.served.volume ≡ tree_at (old.world.served.last client) old.log
    → HasNoCollision client (old.log.pending ++ entries) new.world.packets
    → new.world.served.volume ≡ tree_at (new.world.served.last client) new.log

-- And so is the tree that is kept.
abbrev pub LoneClientsTreeIsKept : Type 0
LoneClientsTreeIsKept =
    (client : ℕ) (ships : Bool) (entries : List Entry) (made : List Ask) (old new : State) → AreInStep client old → old.kept ≡ old.log
    → (runs : Runs client ships entries made old new)
    → AreAllOf client (taken_in runs.moves old)
    → old.world.served.volume ≡ tree_at (old.world.served.last client) old.log
    → HasNoCollision client (old.log.pending ++ entries) new.world.packets
    → new.world.served.volume ≡ tree_at (new.world.served.last client) new.kept

-- And in such a run none of its entries is refused that was not acknowledged when the run began.
abbrev pub LoneClientsAreNotRefused : Type 0
LoneClientsAreNotRefused = (client : ℕ) (ships : Bool) (entries : List Entry) (made : List Ask) (old new : State)
    → InStep client old.log old.world → (runs : Runs client ships entries made old new)
    → AreAllOf client (taken_in runs.moves old)
    → old.world.served.volume ≡ tree_at (old.world.served.last client) old.log
    → HasNoCollision client (old.log.pending ++ entries) new.world.packets
    → (number : ℕ) (reply : Message) → IsRefusal client number reply → IsIn reply new.world.packets → number ≤ old.log.acked

-- ---- what a world tells

-- Whatever happens, the served state is the opening one after the taken entries.
abbrev pub ServedIsReplayed : Type 0
ServedIsReplayed = (steps : List Step) (world : World) → IsReplayed world → IsReplayed (happen steps world)

-- And so it is after each run.
abbrev pub RunsServeWhatIsTaken : Type 0
RunsServeWhatIsTaken = (client : ℕ) (ships : Bool) (entries : List Entry) (made : List Ask) (old new : State)
    → Runs client ships entries made old new → IsReplayed old.world → IsReplayed new.world

-- What a world took in a run is what it had taken before, and what is taken in the run.
abbrev pub RunsTellWhatIsTaken : Type 0
RunsTellWhatIsTaken =
    (client : ℕ) (ships : Bool) (entries : List Entry) (made : List Ask) (old new : State) → (runs : Runs client ships entries made old new)
    → new.world.taken ≡ old.world.taken ++ taken_in runs.moves old

-- What was asked in a world is what had been asked before, and what is asked in the run.
abbrev pub RunsTellWhatIsAsked : Type 0
RunsTellWhatIsAsked = (client : ℕ) (ships : Bool) (entries : List Entry) (made : List Ask) (old new : State)
    → Runs client ships entries made old new → new.world.asks ≡ old.world.asks ++ made

-- While a request is asked it was sent.
abbrev pub AskedRequestsWereSent : Type 0
AskedRequestsWereSent =
    (request : Message) (made : List Ask) (old new : World) → Moved request made old new → made ≢ [] → IsIn request new.packets

-- While a message is asked that is free of the world's client, the world goes on without that client.
abbrev pub FreeAsksAreNoSends : Type 0
FreeAsksAreNoSends =
    (request : Message) (made : List Ask) (old new : World) → IsFree old request → Moved request made old new → MovedAlone made old new

-- What was ever sent stays among the packets.
abbrev pub PacketsStay : Type 0
PacketsStay = (client : ℕ) (ships : Bool) (entries : List Entry) (made : List Ask) (old new : State) (message : Message)
    → Runs client ships entries made old new
    → IsIn message old.world.packets → IsIn message new.world.packets

-- What was asked in a run was sent.
abbrev pub RunsSendWhatIsAsked : Type 0
RunsSendWhatIsAsked = (client : ℕ) (ships : Bool) (entries : List Entry) (made : List Ask) (old new : State) (ask : Ask)
    → Runs client ships entries made old new → IsIn ask made
    → IsIn ask.request new.world.packets

-- What was answered in a run was sent, and echoes its request.
abbrev pub RunsAnswersStand : Type 0
RunsAnswersStand = (client : ℕ) (ships : Bool) (entries : List Entry) (made : List Ask) (old new : State)
    → Runs client ships entries made old new → AnswersStand new.world made

-- ---- what replies tell

-- What was accepted was taken.
abbrev pub AcceptedEntriesWereTaken : Type 0
AcceptedEntriesWereTaken = (client : ℕ) (log : Log) (world : World) (number upto : ℕ) → InStep client log world
    → IsIn (Accepted client number upto) world.packets → upto ≤ world.served.last client

-- And so was what is done.
abbrev pub DoneEntriesWereTaken : Type 0
DoneEntriesWereTaken = (client : ℕ) (log : Log) (world : World) (number : ℕ) → InStep client log world
    → IsIn (Done client number) world.packets → number ≤ world.served.last client

-- A reply never says that a number of the client was left out.
abbrev pub NoGapComes : Type 0
NoGapComes =
    (client : ℕ) (log : Log) (world : World) (number last : ℕ) → InStep client log world → IsIn (Gap client number last) world.packets → ⊥

-- Where an entry that is not acknowledged is stale, the path that the reply names has a newer version at the server than in the
-- client's tree after the last taken entry.
abbrev pub StaleNamesAPathAhead : Type 0
StaleNamesAPathAhead =
    (client : ℕ) (log : Log) (world : World) (number upto : ℕ) (path : FilePath) (theirs ours : ℕ) → InStep client log world
    → log.acked ≤ upto → IsIn (Stale client number upto path theirs ours) world.packets
    → version_at (tree_at (world.served.last client) log) path < version_at world.served.volume path

-- Where an entry that is not acknowledged is refused, some path has.
abbrev pub RefusalsShowAPathAhead : Type 0
RefusalsShowAPathAhead = (client : ℕ) (log : Log) (world : World) (number : ℕ) (reply : Message) → InStep client log world
    → log.acked < number → IsRefusal client number reply → IsIn reply world.packets
    → IsAhead world.served.volume (tree_at (world.served.last client) log)

-- Where nothing is pending, a snapshot that echoes the client's pull has the acknowledged number as its last.
abbrev pub PullsFindTheirNumber : Type 0
PullsFindTheirNumber = (client : ℕ) (log : Log) (world : World) (last : ℕ) (seen : Volume) → InStep client log world → log.pending ≡ []
    → IsIn (Snapshot client log.acked last seen) world.packets → last ≡ log.acked

-- A snapshot that the server gave during a pull is at no path older than the client's base.
abbrev pub FreshPullsAreNotOlder : Type 0
FreshPullsAreNotOlder = (client : ℕ) (log : Log) (made : List Ask) (old new : World) (last : ℕ) (seen : Volume) (path : FilePath)
    → InStep client log old → log.pending ≡ []
    → IsFresh (Pull client log.acked) (Snapshot client log.acked last seen) made old new → version_at log.base path ≤ version_at seen path
