-- What a run of the server does by the status that it gives.
use Rattle.std.specs.Prelude.{◌≡◌, ◌≢◌, ◌==◌, ◌⊎◌, ◌↔◌, ◌||◌, ℕ, Bool, IsTrue, List, [], ◌∷◌, ◌++◌, take, Option, None, IfSome}
use Rattle.std.specs.Prelude.{Result, Ok, Err}
use Rattle.std.specs.List.{list_any}
use Rattle.hex.specs.Hex.{encode_lower}
use Rattle.file_paths.specs.Path.{FilePath}
use Rattle.tree_values.specs.Tree.{Volume}
use Rattle.tree_proof.specs.Trees.{root_of, proof_of}
use Rattle.outside.specs.Outside.{Told, Adds, Rose, RisesWhere}
use Rattle.outside.specs.Keeper.{Images, kept_under}
use Rattle.outside.specs.Port.{PortTelling}
use Rattle.outside.specs.declared.port.Port.{Ghosts as PortWords}
use Rattle.outside.specs.declared.keeper.Keeper.{Ghosts as KeeperWords}
use Rattle.outside.specs.declared.sink.Sink.{Ghosts as SinkWords}
use Rattle.port_serving.specs.Serving.{Connection, UsesAll, UsesFront, exchanges, frames_taken, served_line_of}
use Rattle.program_words.specs.Status.{code}
use Rattle.program_words.specs.declared.status.Status.TheVariants as statuses
use Rattle.world_rules.specs.Served.{Served}
use Rattle.server_core.specs.Keeping.{KeepsServed}
use Rattle.server_prog.specs.declared.run.Stopped.{Stopped}
use Rattle.server_prog.specs.declared.run.Stopped.TheVariants.{Sink, Keeper, Image, Memory}
use Rattle.server_prog.specs.Words.{ServerForm, Run, Root, Prove, server_run_of, form_of}
use Rattle.server_prog.specs.Serving.{PerhapsKept, IsRecordedAfter, ServedBy, ServesConnections, ServerTelling, server_telling}

-- the status of a run that ended so: with its last line, or stopped before
abbrev pub server_status_of : Result (Unit {0}) Stopped → ℕ
server_status_of (Ok done) = code statuses.Done
server_status_of (Err Sink) = code statuses.SinkFailed
server_status_of (Err Keeper) = code statuses.KeeperFailed
server_status_of (Err Image) = code statuses.OtherImage
server_status_of (Err Memory) = code statuses.NoMemory

-- the statuses that a run may give
abbrev pub is_server_status : ℕ → Bool
is_server_status status =
    list_any (λ known. code known == status)
    (statuses.Done ∷ statuses.NoForm ∷ statuses.SinkFailed ∷ statuses.KeeperFailed ∷ statuses.OtherImage ∷ statuses.NoMemory ∷ [])

-- those that the program may end with: one more where it cannot listen
abbrev pub is_exit : ℕ → Bool
is_exit status = code statuses.CannotListen == status || is_server_status status

-- a server that serves so is kept under the name, where the keeper tells it
abbrev pub Opens : Option (Option (List ℕ)) → Served → Type 0
Opens kept first = IfSome kept (λ image. KeepsServed image first)

-- no server is kept under the name, where the keeper tells it
abbrev pub OpensNone : Option (Option (List ℕ)) → Type 0
OpensNone kept = IfSome kept (λ image. (state : Served) → KeepsServed image state → ⊥)

-- serving came to its end: as many connections were used up as the words say, or none is left; the first change is kept by an
-- image, and each later one by its record
pub record ServerIsServed (count : ℕ) (first : Served) (connections : List Connection) (after : Served) (old new : ServerTelling) :
    Type 0 where
  pub opens : Opens old.kept first
  pub port : UsesAll count connections old.port new.port
  pub serves : ServesConnections connections first after old.kept new.kept
  pub recorded : Told old.kept new.kept (IsRecordedAfter (frames_taken connections) first)

-- serving was broken off at a connection for want of memory, or by a fault of the keeper: its frame, where it was taken, is not
-- answered, and what is kept has its change or not
pub record IsBrokenOff (count : ℕ) (first : Served) (connections : List Connection) (after : Served) (old new : ServerTelling) :
    Type 0 where
  pub opens : Opens old.kept first
  pub frames : List (List ℕ)
  pub port : UsesFront count connections frames old.port new.port
  pub replies : ServedBy (exchanges connections) first after
  pub kept : Told old.kept new.kept (PerhapsKept (frames_taken connections) frames first)

-- no connection was taken, nothing was kept and nothing written
abbrev pub StopsBefore : ServerTelling → ServerTelling → Option (List ℕ) → Option (List ℕ) → Type 0
StopsBefore old new written now = (new ≡ old) × (now ≡ written)

-- all connections were served, and a front of the last line was written
abbrev pub StopsInLine : ℕ → ServerTelling → ServerTelling → Option (List ℕ) → Option (List ℕ) → Type 0
StopsInLine count old new written now =
    (first : Served) × (connections : List Connection) × (after : Served) × (bytes : ℕ)
    × ServerIsServed count first connections after old new × Adds written now (take bytes (served_line_of connections))

-- a connection was broken off, and nothing was written
abbrev pub StopsInServing : ℕ → ServerTelling → ServerTelling → Option (List ℕ) → Option (List ℕ) → Type 0
StopsInServing count old new written now =
    (first : Served) × (connections : List Connection) × (after : Served)
    × IsBrokenOff count first connections after old new × (now ≡ written)

-- what a run did by how it ended
abbrev pub ServerRun : ℕ → ServerTelling → ServerTelling → Option (List ℕ) → Option (List ℕ) → Result (Unit {0}) Stopped → Type 0
ServerRun count old new written now (Ok done) =
    (first : Served) × (connections : List Connection) × (after : Served) × ServerIsServed count first connections after old new
    × Adds written now (served_line_of connections)
ServerRun count old new written now (Err Sink) = StopsInLine count old new written now
ServerRun count old new written now (Err Keeper) = StopsBefore old new written now ⊎ StopsInServing count old new written now
ServerRun count old new written now (Err Image) = StopsBefore old new written now × OpensNone old.kept
ServerRun count old new written now (Err Memory) =
    StopsBefore old new written now ⊎ (StopsInLine count old new written now ⊎ StopsInServing count old new written now)

-- a run that gave this status
abbrev pub ServerRan : ℕ → ℕ → ServerTelling → ServerTelling → Option (List ℕ) → Option (List ℕ) → Type 0
ServerRan count status old new written now =
    (ended : Result (Unit {0}) Stopped) × (status ≡ server_status_of ended) × ServerRun count old new written now ended

-- ---- what is written of the volume that is kept

-- its root in 64 lower-case hexadecimal digits, and a line end
abbrev pub root_line : Volume → List ℕ
root_line rows = encode_lower (root_of rows) ++ 10 ∷ []

-- the certificate of a path in it
abbrev pub path_proof : FilePath → Volume → List ℕ
path_proof path rows = proof_of rows path

-- the text of a volume that is kept, or of a new server's where nothing is, was written
abbrev pub WritesText : (Volume → List ℕ) → Option (Option (List ℕ)) → Option (List ℕ) → Option (List ℕ) → Type 0
WritesText text kept written now = (first : Served) × Opens kept first × Adds written now (text first.volume)

-- a front of it was written
abbrev pub WritesTextFront : (Volume → List ℕ) → Option (Option (List ℕ)) → Option (List ℕ) → Option (List ℕ) → Type 0
WritesTextFront text kept written now =
    (first : Served) × (bytes : ℕ) × Opens kept first × Adds written now (take bytes (text first.volume))

-- what was written by how it ended
abbrev pub WritesByEnd :
    (Volume → List ℕ) → Option (Option (List ℕ)) → Option (List ℕ) → Option (List ℕ) → Result (Unit {0}) Stopped → Type 0
WritesByEnd text kept written now (Ok done) = WritesText text kept written now
WritesByEnd text kept written now (Err Sink) = WritesTextFront text kept written now
WritesByEnd text kept written now (Err Keeper) = now ≡ written
WritesByEnd text kept written now (Err Image) = (now ≡ written) × OpensNone kept
WritesByEnd text kept written now (Err Memory) = (now ≡ written) ⊎ WritesTextFront text kept written now

-- what a port, a keeper and a sink tell
pub record Objects : Type 0 where
  pub port : PortTelling
  pub images : Option Images
  pub keeper_faults : ℕ
  pub written : Option (List ℕ)
  pub sink_faults : ℕ

-- by what each of them tells of itself
abbrev pub objects_of : {P K O : Type 0} → PortWords P → KeeperWords K → SinkWords O → P → K → O → Objects
objects_of ports keepers sinks port keeper sink = record {
  port = ports.tells port;
  images = keepers.images keeper;
  keeper_faults = keepers.faults keeper;
  written = sinks.written sink;
  sink_faults = sinks.faults sink;
}

-- what is told of the port, and of what is kept under a name
abbrev pub told_of : List ℕ → Objects → ServerTelling
told_of name all = server_telling all.port (kept_under name all.images)

-- under every other name is kept what was kept before, where the keeper tells it
abbrev pub OthersKept : List ℕ → Option Images → Option Images → Type 0
OthersKept name old new = Told old new (λ before after. (other : List ℕ) → other ≢ name → after other ≡ before other)

-- the text of the volume that is kept under the name was written, by this status, and nothing but the output was touched
pub record HasWritten (text : Volume → List ℕ) (name : List ℕ) (status : ℕ) (old new : Objects) : Type 0 where
  pub ended : Result (Unit {0}) Stopped
  pub gives : status ≡ server_status_of ended
  pub writes : WritesByEnd text (kept_under name old.images) old.written new.written ended
  pub port : new.port ≡ old.port
  pub images : new.images ≡ old.images

-- what is written where the words ask for no run
abbrev pub TellsForm : ServerForm → ℕ → Objects → Objects → Type 0
TellsForm (Run run) status old new = Unit {0}
TellsForm (Root image) status old new = HasWritten root_line image status old new
TellsForm (Prove image path) status old new = HasWritten (path_proof path) image status old new

-- What a run on these words does, by the status that it gives:
-- 0: as many connections were used up as the words say, or none is left, and the output is the last line; or what the words ask
-- of the volume that is kept was written;
-- 2: the words are of no form, and nothing was touched;
-- 4 and 5: a call of the sink or of the keeper failed, and in a run with another status none did;
-- 6: what is kept is no server's image; 7: memory ran out.
-- Under every name but the image's is kept what was kept before.
pub record Ends (words : List (List ℕ)) (status : ℕ) (old new : Objects) : Type 0 where
  pub form : status ≡ 2 ↔ form_of words ≡ None
  pub known : IsTrue (is_server_status status)
  pub untouched : form_of words ≡ None → new ≡ old
  pub sink : RisesWhere (status ≡ 4) old.sink_faults new.sink_faults
  pub keeper : RisesWhere (status ≡ 5) old.keeper_faults new.keeper_faults
  pub complete :
      IfSome (form_of words) (λ form. (Rose old.sink_faults new.sink_faults → ⊥)
      → (Rose old.keeper_faults new.keeper_faults → ⊥) → (status ≡ 0) ⊎ ((status ≡ 6) ⊎ (status ≡ 7)))
  pub served : IfSome (server_run_of words)
      (λ run. ServerRan run.count status (told_of run.image old) (told_of run.image new) old.written new.written)
  pub others : IfSome (server_run_of words) (λ run. OthersKept run.image old.images new.images)
  pub told : IfSome (form_of words) (λ form. TellsForm form status old new)
