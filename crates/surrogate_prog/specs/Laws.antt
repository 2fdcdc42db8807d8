-- What holds of every run of the surrogate.
use Rattle.std.specs.Prelude.{◌≡◌, ◌≤◌, ◌⊎◌, ℕ, ◌*◌, Bool, true, false, List, [], ◌∷◌, count_by, Option, Ok}
use Rattle.std.specs.List.{flat_map}
use Rattle.outside.specs.Port.{Talk}
use Rattle.port_serving.specs.Laws.{HasFallen, HasTalks, IsTold}
use Rattle.tree_values.specs.Tree.{Volume}
use Rattle.tree_values.specs.Lists.{IsIn}
use Rattle.cmd_capture.specs.declared.runner.Run.{Run}
use Rattle.mod_log.specs.declared.sketching.SketchEntry.{SketchEntry}
use Rattle.wire_frames.specs.declared.cause.Cause.{Cause}
use Rattle.wire_frames.specs.declared.cause.Cause.TheVariants.{NoServer, NotRun}
use Rattle.wire_frames.specs.declared.message.Message.{Message}
use Rattle.wire_frames.specs.declared.message.Message.TheVariants.{Operate, Declined}
use Rattle.wire_frames.specs.Frame.{frame}
use Rattle.wire_frames.specs.Reading.{frame_of}
use Rattle.world_rules.specs.World.{World, MovedBy, MovedAlone}
use Rattle.world_rules.specs.declared.asking.Ask.{Ask}
use Rattle.world_rules.specs.declared.asking.Peer.TheVariants.{Server}
use Rattle.world_rules.specs.Settling.{max_asks, failed_asks}
use Rattle.surrogate_prog.specs.Words.{SurrogateInvocation}
use Rattle.surrogate_prog.specs.Serving.{Doings, AnyAsks, ServesFrames, BreaksServing}
use Rattle.surrogate_prog.specs.Run.{SurrogateTelling, SurrogateRan}

-- serving came to its end
abbrev pub SurrogateIsWhole : ℕ → Type 0
SurrogateIsWhole status = (status ≡ 0) ⊎ (status ≡ 4)

abbrev pub SurrogateFallsAreBounded : Type 0
SurrogateFallsAreBounded = (run : SurrogateInvocation) (status : ℕ) (old new : SurrogateTelling) (written now : Option (List ℕ))
    → SurrogateRan run status old new written now → HasFallen run.count (SurrogateIsWhole status) old.port new.port

-- at status 7 the connection at hand may be without an answer and without a fault; at status 0 the last line was written
abbrev pub SurrogateFramesAreCounted : Type 0
SurrogateFramesAreCounted =
    (run : SurrogateInvocation) (status : ℕ) (old new : SurrogateTelling) (written now : Option (List ℕ)) (talks : List Talk)
    → SurrogateRan run status old new written now → HasTalks talks old.port new.port
    → IsTold (SurrogateIsWhole status) (status ≡ 0) talks old.port new.port written now

-- the operations of a client among the frames had been sent when the world was so
abbrev pub WereSent : List (List ℕ) → World → Type 0
WereSent frames world = (bytes : List ℕ) (client : ℕ) (sketched : SketchEntry) → IsIn bytes frames
    → frame_of bytes ≡ Ok (Operate client sketched) → client ≡ world.client → IsIn (Operate client sketched) world.packets

-- what a surrogate asks for these frames are no sendings of the world's client
abbrev pub RunsMoveAlone : Type 0
RunsMoveAlone = (frames : List (List ℕ)) (asks : List Ask) (old new : World) → WereSent frames old
    → MovedBy (AnyAsks frames) asks old new → MovedAlone asks old new

-- the message is one of these
abbrev pub IsOneOf : List Message → Message → Type 0
IsOneOf messages message = IsIn message messages

-- Frames that are served one after the other, each with what is asked for it. Before each of them and behind the last one the world goes on:
-- its client may send these messages. The operation of a frame was sent when its serving began.
abbrev pub ServedInTurn : List Message → List (List ℕ × List Ask) → World → World → Type 0
ServedInTurn sends [] old new = MovedBy (IsOneOf sends) [] old new
ServedInTurn sends (turn ∷ turns) old new =
    (begun : World) × (ended : World) × MovedBy (IsOneOf sends) [] old begun × WereSent (turn.0 ∷ []) begun
    × MovedBy (AnyAsks (turn.0 ∷ [])) turn.1 begun ended × ServedInTurn sends turns ended new

-- what was asked for them, in order
abbrev pub asked_in : List (List ℕ × List Ask) → List Ask
asked_in turns = flat_map (λ turn. turn.1) turns

-- of a client that sends these messages meanwhile: it sends no others, so what a surrogate asks is none of its sendings
abbrev pub TurnsMoveAlone : Type 0
TurnsMoveAlone = (sends : List Message) (turns : List (List ℕ × List Ask)) (old new : World)
    → ServedInTurn sends turns old new → MovedBy (IsOneOf sends) (asked_in turns) old new

-- an operation that is declined since no server answered
abbrev pub silent_cause : Cause → Bool
silent_cause NoServer = true
silent_cause cause = false

abbrev pub is_silent : Message → Bool
is_silent (Declined client number cause) = silent_cause cause
is_silent reply = false

-- these are the replies that the answering frames spell, in order
abbrev pub SpellAll : List Message → List (List ℕ × List ℕ) → Type 0
SpellAll [] [] = Unit {0}
SpellAll (reply ∷ replies) (pair ∷ pairs) = (pair.1 ≡ frame reply) × SpellAll replies pairs
SpellAll replies pairs = ⊥

-- eight asks at least failed for each of the replies that tells so
abbrev pub SilentServersFailedEight : Type 0
SilentServersFailedEight = (server work : List ℕ) (copy after : Volume) (pairs : List (List ℕ × List ℕ)) (did : Doings)
    → ServesFrames server work copy pairs did after
    → (replies : List Message) × SpellAll replies pairs × (max_asks * count_by is_silent replies ≤ failed_asks did.asks)

-- an operation that is declined since the runner failed to run its job
abbrev pub unrun_cause : Cause → Bool
unrun_cause NotRun = true
unrun_cause cause = false

abbrev pub is_not_run : Message → Bool
is_not_run (Declined client number cause) = unrun_cause cause
is_not_run reply = false

-- so many of the replies tell so as runs failed
abbrev pub FailedRunsAreTold : Type 0
FailedRunsAreTold = (server work : List ℕ) (copy after : Volume) (pairs : List (List ℕ × List ℕ)) (did : Doings)
    → ServesFrames server work copy pairs did after
    → (replies : List Message) × SpellAll replies pairs × (count_by is_not_run replies ≡ did.failed)

-- each run was in the work folder, and each ask went to the server at its address
abbrev pub AreOfRoute : List ℕ → List ℕ → Doings → Type 0
AreOfRoute server work did =
    ((run : Run) → IsIn run did.runs → run.work ≡ work)
    × ((ask : Ask) → IsIn ask did.asks → (ask.to ≡ Server) × (ask.address ≡ server))

abbrev pub ServingsKeepTheirRoute : Type 0
ServingsKeepTheirRoute = (server work : List ℕ) (copy after : Volume) (pairs : List (List ℕ × List ℕ)) (did : Doings)
    → ServesFrames server work copy pairs did after → AreOfRoute server work did

-- also what was done for a frame at hand when memory ran out
abbrev pub BrokenServingsKeepTheirRoute : Type 0
BrokenServingsKeepTheirRoute = (server work : List ℕ) (copy : Volume) (frames : List (List ℕ)) (did : Doings)
    → BreaksServing server work copy frames did → AreOfRoute server work did
