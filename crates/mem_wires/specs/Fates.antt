-- What becomes of an ask by the fates that it meets.
use Rattle.std.specs.Prelude.{◌≡◌, ℕ, Bool, true, false, ◌==◌, if◌then◌else◌, List, [], ◌∷◌, drop, slice_get, Vec}
use Rattle.std.specs.Prelude.{Option, Some, None, Result, Ok, Err}
use Rattle.std.specs.declared.alloc.Global.{Global}
use Rattle.wire_frames.specs.declared.message.Message.{Message}
use Rattle.wire_frames.specs.declared.message.Message.TheVariants.{Store, Pull}
use Rattle.wire_frames.specs.declared.message.FrameError.{FrameError}
use Rattle.wire_frames.specs.Frame.{Spells, Echoes}
use Rattle.wire_frames.specs.Reading.{frame_of}
use Rattle.world_rules.specs.declared.asking.Peer.{Peer}
use Rattle.world_rules.specs.declared.asking.Peer.TheVariants.{Server, Surrogate}
use Rattle.world_rules.specs.declared.asking.Answer.{Answer}
use Rattle.world_rules.specs.declared.asking.Answer.TheVariants.{Reply, Failed}
use Rattle.world_rules.specs.declared.link.LinkError.{LinkError}
use Rattle.world_rules.specs.declared.link.LinkError.TheVariants.{Failed as LinkFailed, Memory as LinkMemory}
use Rattle.world_rules.specs.Served.{answer}
use Rattle.world_rules.specs.World.{World, sent, delivered, noted}
use Rattle.world_rules.specs.Asking.{ask_of}
use Rattle.mem_wires.specs.declared.fate.Fate.{Fate}
use Rattle.mem_wires.specs.declared.fate.Fate.TheVariants.{Pass, LoseRequest, LoseReply, Twice, Old, Late, Inject, Stop}
pub use Rattle.outside.specs.Memory.{one_more}

-- whether a fate decides the ask that meets it
abbrev pub decides : Fate → Bool
decides Pass = true
decides LoseRequest = true
decides LoseReply = true
decides Twice = true
decides (Old k) = true
decides (Late k) = false
decides (Inject frame) = false
decides Stop = true

-- whether a fate that decides is a trouble
abbrev pub is_trouble : Fate → Bool
is_trouble LoseRequest = true
is_trouble LoseReply = true
is_trouble (Old k) = true
is_trouble Stop = true
is_trouble _ = false

-- whether the first of the fates is a stop: no ask is handled any more
abbrev pub is_stopped : List Fate → Bool
is_stopped (Stop ∷ fates) = true
is_stopped fates = false

-- what stands in front once this fate was taken from there: a stop stays
abbrev pub left_by : Fate → List Fate → List Fate
left_by Stop rest = Stop ∷ rest
left_by fate rest = rest

-- these fates were taken from the front, one after the other
abbrev pub AreTakenFrom : List Fate → List Fate → List Fate → Type 0
AreTakenFrom [] fates left = left ≡ fates
AreTakenFrom (fate ∷ taken) fates left = (rest : List Fate) × (fates ≡ fate ∷ rest) × AreTakenFrom taken (left_by fate rest) left

-- some fates were taken from the front, and these are left
abbrev pub AreLeft : List Fate → List Fate → Type 0
AreLeft left fates = (taken : List Fate) × AreTakenFrom taken fates left

-- the first fate that decides; with none left an ask passes
abbrev pub deciding : List Fate → Fate
deciding [] = Pass
deciding (fate ∷ fates) = if decides fate then fate else deciding fates

-- the fates left once it was taken: those behind it, or itself and all behind it, where it is a stop
abbrev pub left_after : List Fate → List Fate
left_after [] = []
left_after (fate ∷ fates) = if decides fate then left_by fate fates else left_after fates

-- whether a packet comes late before an ask is decided
abbrev pub comes_late : List Fate → Bool
comes_late [] = false
comes_late (Late k ∷ fates) = true
comes_late (fate ∷ fates) = if decides fate then false else comes_late fates

-- an ask of the server meets the first fate that decides; one of the surrogate is lost
abbrev pub fate_of : Peer → List Fate → Fate
fate_of Server fates = deciding fates
fate_of Surrogate fates = LoseRequest

-- the end of a list
abbrev pub IsEndOf : List Fate → List Fate → Type 0
IsEndOf rest fates = (count : ℕ) × (rest ≡ drop count fates)

-- ---- what happens before an ask is decided

-- a late request is delivered, and its answer joins the packets
abbrev pub delivered_late : Option Message → World → World
delivered_late (Some (Store client number parts)) world = delivered (Store client number parts) true world
delivered_late (Some (Pull client number)) world = delivered (Pull client number) true world
delivered_late _ world = world

-- another client's store joins the packets, is delivered, and its answer joins the packets
abbrev pub injected : Result Message FrameError → World → World
injected (Ok (Store client number parts)) world =
    let store = Store client number parts in
    if client == world.client then world else delivered store true (sent store world)
injected _ world = world

-- the world after a fate that decides nothing
abbrev pub befallen : Fate → World → World
befallen (Late k) world = delivered_late (slice_get world.packets k) world
befallen (Inject frame) world = injected (frame_of frame) world
befallen _ world = world

-- the world when the first fate that decides is met
abbrev pub at_decision : List Fate → World → World
at_decision [] world = world
at_decision (fate ∷ fates) world = if decides fate then world else at_decision fates (befallen fate world)

-- ---- what becomes of an ask then

-- the world once an ask with this answer is noted
abbrev pub answered : Peer → List ℕ → Message → Answer → World → World
answered to address request answer world = noted (ask_of to address request answer ∷ []) world

-- the bytes spell what the server answers to the request, which was delivered
abbrev pub IsAnswered : Peer → List ℕ → Message → World → World → List ℕ → Type 0
IsAnswered to address request old new bytes =
    let reply = answer request old.served in
    Spells reply bytes × (new ≡ answered to address request (Reply reply) (delivered request true old))

-- the bytes spell a packet that is a reply to the request
abbrev pub IsAnsweredByOld : ℕ → Peer → List ℕ → Message → World → World → List ℕ → Type 0
IsAnsweredByOld k to address request old new bytes =
    (reply : Message) × (slice_get old.packets k ≡ Some reply) × Echoes request reply × Spells reply bytes
    × (new ≡ answered to address request (Reply reply) old)

-- the packet is no reply to the request
abbrev pub IsNoReply : Option Message → Message → Type 0
IsNoReply (Some packet) request = Echoes request packet → ⊥
IsNoReply None request = Unit {0}

-- What becomes of an ask by the fate that decides it, unless memory runs out.
abbrev pub MeetsFate : Fate → Peer → List ℕ → Message → World → World → Result (Vec ℕ Global) LinkError → Type 0
MeetsFate fate to address request old new (Err LinkMemory) = Unit {0}
MeetsFate Pass to address request old new (Ok frame) = IsAnswered to address request old new frame.items
MeetsFate Twice to address request old new (Ok frame) = IsAnswered to address request (delivered request true old) new frame.items
MeetsFate LoseRequest to address request old new (Err LinkFailed) = new ≡ answered to address request Failed old
MeetsFate LoseReply to address request old new (Err LinkFailed) = new ≡ answered to address request Failed (delivered request true old)
MeetsFate (Old k) to address request old new (Ok frame) = IsAnsweredByOld k to address request old new frame.items
MeetsFate (Old k) to address request old new (Err LinkFailed) =
    IsNoReply (slice_get old.packets k) request × (new ≡ answered to address request Failed old)
MeetsFate Stop to address request old new (Err LinkFailed) = new ≡ answered to address request Failed old
MeetsFate fate to address request old new result = ⊥

-- the troubles after an ask: one more where the fate is one, and none where memory ran out
abbrev pub troubles_after : Fate → Result (Vec ℕ Global) LinkError → ℕ → ℕ
troubles_after fate (Err LinkMemory) troubles = troubles
troubles_after fate _ troubles = if is_trouble fate then one_more troubles else troubles

-- the fates left after an ask are those left by the one that decided it; where memory ran out they are an end of those before,
-- and none behind the deciding one is gone
abbrev pub LeavesFates : Result (Vec ℕ Global) LinkError → List Fate → List Fate → Type 0
LeavesFates (Err LinkMemory) fates left = IsEndOf left fates × IsEndOf (left_after fates) left
LeavesFates _ fates left = left ≡ left_after fates
