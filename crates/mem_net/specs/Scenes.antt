-- The network with its surrogate: what an operation comes to, and what becomes of an ask.
use Rattle.std.specs.Prelude.{◌≡◌, ◌≢◌, ◌⊎◌, ℕ, codes, zero, suc, true, false, List, [], ◌∷◌, Option, Some, slice_get, Result, Ok, Err}
use Rattle.std.specs.Prelude.{IfOk, Vec}
use Rattle.std.specs.declared.alloc.Global.{Global}
use Rattle.std.specs.declared.alloc.AllocError.{AllocError}
use Rattle.outside.specs.Outside.{RoseBy}
use Rattle.tree_values.specs.Tree.{Volume}
use Rattle.cmd_capture.specs.declared.runner.Run.{Run}
use Rattle.cmd_capture.specs.Runs.{RunnerTelling, HasRun, telling}
use Rattle.wire_frames.specs.declared.message.Message.{Message}
use Rattle.wire_frames.specs.Frame.{IsValid, Spells}
use Rattle.world_rules.specs.declared.asking.Peer.{Peer}
use Rattle.world_rules.specs.declared.asking.Peer.TheVariants.{Server, Surrogate}
use Rattle.world_rules.specs.declared.asking.Ask.{Ask}
use Rattle.world_rules.specs.declared.asking.Answer.{Answer}
use Rattle.world_rules.specs.declared.asking.Answer.TheVariants.{Reply}
use Rattle.world_rules.specs.declared.link.LinkError.{LinkError}
use Rattle.world_rules.specs.declared.link.LinkError.TheVariants.{Failed as LinkFailed, Memory as LinkMemory}
use Rattle.world_rules.specs.World.{World, MovedAlone, sent}
use Rattle.world_rules.specs.Asking.{IsRequest}
use Rattle.world_rules.specs.Settling.{failed_asks}
use Rattle.surrogate_core.specs.Serving.{ServesTo, failures_told}
use Rattle.mem_wires.specs.declared.fate.Fate.{Fate}
use Rattle.mem_wires.specs.declared.fate.Fate.TheVariants.{Pass, LoseRequest, LoseReply, Twice, Old, Late, Stop}
use Rattle.mem_net.specs.declared.parts.NetworkParts.{NetworkParts}
use Rattle.mem_wires.specs.Wire.{world_of}
use Rattle.mem_wires.specs.Fates.{decides, left_by, befallen, answered, MeetsFate, troubles_after, IsEndOf}
use Rattle.mem_wires.specs.Spending.{AreQuiet, TakesFront, AreGiven}

-- ---- one moment of a network

-- The world about the client, the fates left, the troubles counted, the surrogate's copy, and what its runner tells.
pub record Scene : Type 0 where
  pub world : World
  pub fates : List Fate
  pub troubles : ℕ
  pub copy : Volume
  pub runner : RunnerTelling

-- the scene of a network, whose runner tells these runs and faults
abbrev pub scene_of : {R : Type 0} → (R → Option (List Run)) → (R → ℕ) → NetworkParts R → Scene
scene_of runs faults net = record {
  world = world_of net.wires;
  fates = net.wires.fates;
  troubles = net.wires.troubles;
  copy = net.surrogate.copy;
  runner = telling (runs net.runner) (faults net.runner);
}

abbrev pub with_world : World → Scene → Scene
with_world world scene = record { world = world; fates = scene.fates; troubles = scene.troubles; copy = scene.copy; runner = scene.runner }

abbrev pub with_fates : List Fate → Scene → Scene
with_fates fates scene = record { world = scene.world; fates = fates; troubles = scene.troubles; copy = scene.copy; runner = scene.runner }

abbrev pub with_troubles : ℕ → Scene → Scene
with_troubles troubles scene =
    record { world = scene.world; fates = scene.fates; troubles = troubles; copy = scene.copy; runner = scene.runner }

-- ---- the surrogate

-- the server's address, as the surrogate has it
abbrev pub server_address : List ℕ
server_address = codes "srv"

-- the surrogate's folder for runs
abbrev pub work_folder : List ℕ
work_folder = codes "work"

-- An operation that was sent is served to this result: meanwhile the world goes on alone, and the surrogate's asks take fates from the
-- front. Where none of these is a trouble, the answers to its asks were the server's own at moments of it.
pub record HasServed (request : Message) (result : Result Message AllocError) (old new : Scene) : Type 0 where
  pub runs : List Run
  pub asks : List Ask
  pub serves : ServesTo server_address work_folder old.copy request runs asks result new.copy
  pub valid : IfOk result IsValid
  pub has_run : HasRun runs (failures_told result) old.runner new.runner
  pub moved : MovedAlone [] old.world new.world
  pub takes : TakesFront old.fates new.fates old.troubles new.troubles
  pub rose : RoseBy (failed_asks asks) old.troubles new.troubles
  pub given : AreQuiet takes.taken → AreGiven asks old.world new.world

-- the operation is handled by the surrogate: it is served, and the reply joins the packets
abbrev pub IsHandled : Message → Message → Scene → Scene → Type 0
IsHandled request reply old new =
    (served : Scene) × HasServed request (Ok reply) old served × (new ≡ with_world (sent reply served.world) served)

-- ---- what happens before an ask is decided

-- the fate is a late packet, and the packet of its number is this operation
abbrev pub IsLateOperation : Fate → Scene → Message → Type 0
IsLateOperation (Late k) scene request = (slice_get scene.world.packets k ≡ Some request) × IsRequest Surrogate request
IsLateOperation fate scene request = ⊥

-- one fate happens: a late operation is handled by the surrogate, and all else is as without one
abbrev pub Befalls : Fate → Scene → Scene → Type 0
Befalls fate old new =
    ((request reply : Message) × IsLateOperation fate old request × IsHandled request reply old new)
    ⊎ (((request : Message) → IsLateOperation fate old request → ⊥) × (new ≡ with_world (befallen fate old.world) old))

-- the front of the fates decides the ask, where a stop stays, or happens, and what is next decides; with none left the ask passes
abbrev pub FrontDecides : (Scene → Fate → Scene → Type 0) → List Fate → Scene → Fate → Scene → Type 0
FrontDecides Next [] old fate new = (fate ≡ Pass) × (new ≡ old)
FrontDecides Next (first ∷ rest) old fate new =
    ((decides first ≡ true) × (fate ≡ first) × (new ≡ with_fates (left_by first rest) old))
    ⊎ ((decides first ≡ false) × ((middle : Scene) × Befalls first (with_fates rest old) middle × Next middle fate new))

-- The fates up to the first that decides were taken, this count of them at most; those before it happened.
abbrev pub Reaches : ℕ → Scene → Fate → Scene → Type 0
Reaches zero old fate new = ⊥
Reaches (suc count) old fate new = FrontDecides (Reaches count) old.fates old fate new

-- the fates up to the first that decides, this one, were taken
abbrev pub IsReached : Scene → Fate → Scene → Type 0
IsReached old fate new = (count : ℕ) × Reaches count old fate new

-- ---- what becomes of an ask then

-- the scene once an ask with this answer is noted
abbrev pub noted_in : Peer → List ℕ → Message → Answer → Scene → Scene
noted_in to address request answer scene = with_world (answered to address request answer scene.world) scene

-- the operation is handled, and the bytes spell the reply
abbrev pub IsAnsweredHandled : Peer → List ℕ → Message → Scene → Scene → List ℕ → Type 0
IsAnsweredHandled to address request old new bytes =
    (reply : Message) × (handled : Scene) × IsHandled request reply old handled × Spells reply bytes
    × (new ≡ noted_in to address request (Reply reply) handled)

-- all but the world and the troubles is as before, and a trouble is counted where the fate is one
abbrev pub MeetsAlone : Fate → Peer → List ℕ → Message → Scene → Scene → Result (Vec ℕ Global) LinkError → Type 0
MeetsAlone fate to address request old new result =
    MeetsFate fate to address request old.world new.world result
    × (new ≡ with_troubles (troubles_after fate result old.troubles) (with_world new.world old))

-- What becomes of an ask of the surrogate by the fate that decides it.
abbrev pub MeetsOperation : Fate → Peer → List ℕ → Message → Scene → Scene → Result (Vec ℕ Global) LinkError → Type 0
MeetsOperation Pass to address request old new (Ok frame) = IsAnsweredHandled to address request old new frame.items
MeetsOperation Twice to address request old new (Ok frame) =
    (first : Message) × (middle : Scene) × IsHandled request first old middle × IsAnsweredHandled to address request middle new frame.items
MeetsOperation LoseReply to address request old new (Err LinkFailed) =
    (lost : Message) × (handled : Scene) × IsHandled request lost old handled
    × MeetsAlone LoseRequest to address request handled new (Err LinkFailed)
MeetsOperation LoseRequest to address request old new result = MeetsAlone LoseRequest to address request old new result
MeetsOperation (Old k) to address request old new result = MeetsAlone (Old k) to address request old new result
MeetsOperation Stop to address request old new result = MeetsAlone Stop to address request old new result
MeetsOperation fate to address request old new result = ⊥

-- the fact holds, unless memory ran out
abbrev pub UnlessMemory : Result (Vec ℕ Global) LinkError → Type 0 → Type 0
UnlessMemory (Err LinkMemory) fact = Unit {0}
UnlessMemory (Err LinkFailed) fact = fact
UnlessMemory (Ok frame) fact = fact

-- What becomes of an ask by the fate that decides it: an ask of the server is met as without a surrogate.
abbrev pub IsDecided : Peer → Fate → List ℕ → Message → Scene → Scene → Result (Vec ℕ Global) LinkError → Type 0
IsDecided Server fate address request old new result = MeetsAlone fate Server address request old new result
IsDecided Surrogate fate address request old new result = MeetsOperation fate Surrogate address request old new result

-- A request that was sent reaches the fate that decides it, and is met by it.
pub record IsMet (to : Peer) (address : List ℕ) (request : Message) (old new : Scene) (result : Result (Vec ℕ Global) LinkError) :
    Type 0 where
  pub fate : Fate
  pub reached : Scene
  pub reaches : IsReached (with_world (sent request old.world) old) fate reached
  pub meets : IsDecided to fate address request reached new result

-- ---- where memory runs out

-- the fact holds where memory ran out
abbrev pub OnMemory : Result (Vec ℕ Global) LinkError → Type 0 → Type 0
OnMemory (Err LinkMemory) fact = fact
OnMemory (Err LinkFailed) fact = Unit {0}
OnMemory (Ok frame) fact = Unit {0}

-- all but the world is as before
abbrev pub StaysButWorld : Scene → Scene → Type 0
StaysButWorld old new = new ≡ with_world new.world old

-- no reply to the operation joins the packets: all but the world is as before, or it was served
abbrev pub IsUnhandled : Message → Scene → Scene → Type 0
IsUnhandled request old new = StaysButWorld old new ⊎ ((result : Result Message AllocError) × HasServed request result old new)

-- memory ran out while the operation was handled so many times
abbrev pub IsHandledInPart : ℕ → Message → Scene → Scene → Type 0
IsHandledInPart zero request old new = StaysButWorld old new
IsHandledInPart (suc count) request old new =
    IsUnhandled request old new ⊎ ((reply : Message) × (middle : Scene) × IsHandled request reply old middle
    × IsHandledInPart count request middle new)

-- memory ran out while this fate happened: a late operation is left unhandled, or all but the world is as before
abbrev pub BefallsInPart : Fate → Scene → Scene → Type 0
BefallsInPart fate old new = StaysButWorld old new ⊎ ((request : Message) × IsLateOperation fate old request × IsUnhandled request old new)

-- this fate is the front of the fates, decides nothing, and is taken
abbrev pub IsFrontTaken : Fate → Scene → Scene → Type 0
IsFrontTaken fate old taken = (rest : List Fate) × (old.fates ≡ fate ∷ rest) × (decides fate ≡ false) × (taken ≡ with_fates rest old)

-- so many fates that decide nothing were taken and happened, one after the other
abbrev pub AllBefall : ℕ → Scene → Scene → Type 0
AllBefall zero old new = new ≡ old
AllBefall (suc count) old new =
    (middle taken : Scene) × (fate : Fate) × AllBefall count old middle × IsFrontTaken fate middle taken × Befalls fate taken new

-- fates that decide nothing were taken and happened, and while the last of them did memory ran out
abbrev pub IsCutBefore : Scene → Scene → Type 0
IsCutBefore old new =
    (count : ℕ) × (middle taken : Scene) × (fate : Fate) × AllBefall count old middle × IsFrontTaken fate middle taken
    × BefallsInPart fate taken new

-- how often an operation is handled by the fate that decides its ask; a request to the server is none
abbrev pub handlings : Peer → Fate → ℕ
handlings Server fate = 0
handlings Surrogate Pass = 1
handlings Surrogate LoseReply = 1
handlings Surrogate Twice = 2
handlings Surrogate fate = 0

-- What an ask left where memory ran out: it was not sent, and all is as before; or fates before the one that decides happened, and memory
-- ran out while the last of them did, or once the one that decides was taken. No fate behind it is taken, and no trouble is counted, but
-- by the asks of a surrogate that served an operation meanwhile.
abbrev pub IsCutShort : Peer → Message → Scene → Scene → Type 0
IsCutShort to request old new =
    let start = with_world (sent request old.world) old in
    (new ≡ old)
    ⊎ (IsCutBefore start new ⊎ ((fate : Fate) × (reached : Scene) × IsReached start fate reached
    × IsHandledInPart (handlings to fate) request reached new))

-- ---- what an ask takes

-- The fates left are an end of those before: of the taken ones a stop stays, with all behind it. Where none of the taken ones is a trouble
-- none is counted, and the ask does not fail; so it passes where none is left. One that decides and comes first is taken alone by an ask of
-- the server, or none is, where memory ran out.
pub record TakesFates (fates left : List Fate) (troubles now : ℕ) (to : Peer) (result : Result (Vec ℕ Global) LinkError) : Type 0 where
  pub takes : TakesFront fates left troubles now
  pub rest : IsEndOf left fates
  pub calm : AreQuiet takes.taken → result ≢ Err LinkFailed
  pub alone : (first : Fate) (rest : List Fate) → fates ≡ first ∷ rest → decides first ≡ true → to ≡ Server
      → ((takes.taken ≡ first ∷ []) ⊎ ((takes.taken ≡ []) × (result ≡ Err LinkMemory))) × (now ≡ troubles_after first result troubles)
