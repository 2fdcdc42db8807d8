-- What one ask does to the world.
use Rattle.std.specs.Prelude.{◌⊎◌, ℕ, List, [], ◌∷◌, Result, Ok, Err, Vec}
use Rattle.std.specs.declared.alloc.Global.{Global}
use Rattle.tree_values.specs.Lists.{IsIn}
use Rattle.wire_frames.specs.declared.message.Message.{Message}
use Rattle.wire_frames.specs.declared.message.Message.TheVariants.{Store, Operate, Pull}
use Rattle.wire_frames.specs.Frame.{Spells, Echoes}
use Rattle.world_rules.specs.declared.asking.Peer.{Peer}
use Rattle.world_rules.specs.declared.asking.Peer.TheVariants.{Server, Surrogate}
use Rattle.world_rules.specs.declared.asking.Ask.{Ask}
use Rattle.world_rules.specs.declared.asking.Answer.{Answer}
use Rattle.world_rules.specs.declared.asking.Answer.TheVariants.{Reply, Failed, Memory}
use Rattle.world_rules.specs.declared.link.LinkError.{LinkError}
use Rattle.world_rules.specs.declared.link.LinkError.TheVariants.{Failed as LinkFailed, Memory as LinkMemory}
use Rattle.world_rules.specs.World.{World, Moved, IsFresh}

-- a store and a pull are requests to the server, an operation is one to the surrogate
abbrev pub IsRequest : Peer → Message → Type 0
IsRequest Server (Store client number parts) = Unit {0}
IsRequest Server (Pull client number) = Unit {0}
IsRequest Server _ = ⊥
IsRequest Surrogate (Operate client sketched) = Unit {0}
IsRequest Surrogate _ = ⊥

-- the bytes spell a reply to this request
abbrev pub IsReplyTo : Message → List ℕ → Type 0
IsReplyTo request bytes = (reply : Message) × Spells reply bytes × Echoes request reply

-- this request, asked of a peer at an address, with this answer
abbrev pub ask_of : Peer → List ℕ → Message → Answer → Ask
ask_of to address request answer = record { to = to; address = address; request = request; answer = answer }

-- a reply that was answered was sent, and echoes its request
abbrev pub ReplyStands : World → Message → Answer → Type 0
ReplyStands world request (Reply reply) = IsIn reply world.packets × Echoes request reply
ReplyStands world request Failed = Unit {0}
ReplyStands world request Memory = Unit {0}

-- what was answered to an ask stands in the world
abbrev pub AnswerStands : World → Ask → Type 0
AnswerStands world ask = ReplyStands world ask.request ask.answer

-- what was answered to each of the asks does
abbrev pub AnswersStand : World → List Ask → Type 0
AnswersStand world [] = Unit {0}
AnswersStand world (ask ∷ asks) = AnswerStands world ask × AnswersStand world asks

-- what one ask does to the world; a reply that is answered stands in the packets
abbrev pub AsksOnce : Peer → List ℕ → Message → World → World → Result (Vec ℕ Global) LinkError → Type 0
AsksOnce to address request old new (Ok frame) =
    (reply : Message) × Spells reply frame.items × Echoes request reply × IsIn reply new.packets
    × Moved request (ask_of to address request (Reply reply) ∷ []) old new
AsksOnce to address request old new (Err LinkFailed) = Moved request (ask_of to address request Failed ∷ []) old new
AsksOnce to address request old new (Err LinkMemory) =
    Moved request (ask_of to address request Memory ∷ []) old new ⊎ Moved request [] old new

-- the answer spells what the server answers at some moment of the asking
abbrev pub IsDirect : {E : Type 0} → Peer → List ℕ → Message → World → World → Result (Vec ℕ Global) E → Type 0
IsDirect to address request old new (Ok frame) =
    (reply : Message) × Spells reply frame.items × IsFresh request reply (ask_of to address request (Reply reply) ∷ []) old new
IsDirect to address request old new (Err error) = Unit {0}
