-- The world about one client: what the server holds, every message that was ever sent, and what the client asked.
-- A message that is lost is one that is never delivered, or whose answer does not join the packets.
use Rattle.std.specs.Prelude.{◌≡◌, ◌≢◌, ◌⊎◌, ℕ, ◌+◌, ◌-◌, ◌≤◌, Bool, List, [], ◌∷◌, ◌++◌, length, if◌then◌else◌}
use Rattle.tree_values.specs.declared.node.Effect.{Effect}
use Rattle.tree_values.specs.Lists.{IsIn}
use Rattle.wire_frames.specs.declared.parts.Part.{Part}
use Rattle.wire_frames.specs.Parts.{part_of}
use Rattle.wire_frames.specs.declared.message.Message.{Message}
use Rattle.wire_frames.specs.declared.message.Message.TheVariants.{Store, Operate, Pull, Accepted, Done, Declined}
use Rattle.wire_frames.specs.Frame.{client_of, IsValid}
use Rattle.mod_log.specs.declared.sketching.SketchEntry.{SketchEntry}
use Rattle.mod_log.specs.Sketched.{AllFill}
use Rattle.world_rules.specs.declared.asking.Ask.{Ask}
use Rattle.world_rules.specs.Served.{Served, TakenEntry, answer, state_after, taken_of, replay}

-- the world about one client
pub record World : Type 0 where
  -- whose world it is
  pub client : ℕ
  -- what was served when the world began
  pub opening : Served
  -- the entries that the server took since then, in order
  pub taken : List TakenEntry
  pub served : Served
  -- every message that was ever sent, in order
  pub packets : List Message
  -- what the client asked, and what came back, in order
  pub asks : List Ask

-- the served state is the opening one after the taken entries
abbrev pub IsReplayed : World → Type 0
IsReplayed world = world.served ≡ replay world.taken world.opening

-- What may happen next.
pub data Step : Type 0 where
  -- the client's request joins the packets
  Send : Message → Step
  -- the server answers a packet, and its answer joins the packets or is lost
  Deliver : Message → Bool → Step
  -- a message of another client joins the packets
  Other : Message → Step
  -- a message that a surrogate sends for an operation of the client joins the packets
  Relay : Message → Step

-- the world once a message has joined the packets
abbrev pub sent : Message → World → World
sent message world = record {
  client = world.client;
  opening = world.opening;
  taken = world.taken;
  served = world.served;
  packets = world.packets ++ message ∷ [];
  asks = world.asks;
}

-- the world once a message was delivered to the server, and its answer has joined the packets or was lost
abbrev pub delivered : Message → Bool → World → World
delivered message joins world = record {
  client = world.client;
  opening = world.opening;
  taken = world.taken ++ taken_of message world.served;
  served = state_after message world.served;
  packets = if joins then world.packets ++ answer message world.served ∷ [] else world.packets;
  asks = world.asks;
}

-- the world once these asks are noted
abbrev pub noted : List Ask → World → World
noted made world = record {
  client = world.client;
  opening = world.opening;
  taken = world.taken;
  served = world.served;
  packets = world.packets;
  asks = world.asks ++ made;
}

-- the world after a step
abbrev pub happens : Step → World → World
happens (Send message) world = sent message world
happens (Deliver message joins) world = delivered message joins world
happens (Other message) world = sent message world
happens (Relay message) world = sent message world

-- the world after these steps, one after the other
abbrev pub happen : List Step → World → World
happen [] world = world
happen (step ∷ steps) world = happen steps (happens step world)

-- only stores and pulls go to the server
abbrev pub IsForServer : Message → Type 0
IsForServer (Store client number parts) = Unit {0}
IsForServer (Pull client number) = Unit {0}
IsForServer _ = ⊥

-- an operation of this client is among the packets, and this holds of it
abbrev pub IsOperated : ℕ → List Message → (SketchEntry → Type 0) → Type 0
IsOperated client packets Holds = (sketched : SketchEntry) × IsIn (Operate client sketched) packets × Holds sketched

-- a store of the client with this number was accepted
abbrev pub IsAcceptedIn : ℕ → ℕ → List Message → Type 0
IsAcceptedIn client number packets = (upto : ℕ) × IsIn (Accepted client number upto) packets

-- these parts are one, with the base of an operation and with contents of its sketches' lengths and prints
abbrev pub AreFilled : SketchEntry → List Part → Type 0
AreFilled sketched parts = (effects : List Effect) × (parts ≡ part_of effects sketched.base ∷ []) × AllFill sketched.effects effects

-- What an operation of the client lets a surrogate send: its store of one entry, with contents of the sketches' lengths and prints, the
-- pull before it, that it is declined, and, once its store was accepted, that it is done.
abbrev pub IsLicensed : ℕ → List Message → Message → Type 0
IsLicensed client packets (Store of number parts) =
    (of ≡ client) × IsOperated client packets (λ sketched. (number ≡ sketched.seq) × AreFilled sketched parts)
IsLicensed client packets (Pull of number) = (of ≡ client) × IsOperated client packets (λ sketched. number ≡ sketched.seq - 1)
IsLicensed client packets (Declined of number cause) = (of ≡ client) × IsOperated client packets (λ sketched. number ≡ sketched.seq)
IsLicensed client packets (Done of number) =
    (of ≡ client) × IsOperated client packets (λ sketched. number ≡ sketched.seq) × IsAcceptedIn client number packets
IsLicensed client packets _ = ⊥

-- a valid message that a surrogate may send for the world's client, or one of another client
abbrev pub IsFree : World → Message → Type 0
IsFree world message = IsValid message × (IsLicensed world.client world.packets message ⊎ (client_of message ≢ world.client))

-- Which step may come next. The client sends what `MaySend` allows; any store or pull that was ever sent may be
-- delivered, again and in any order; another client may send any valid message, and a surrogate what an operation licenses.
abbrev pub IsAllowed : (Message → Type 0) → World → Step → Type 0
IsAllowed MaySend world (Send message) = MaySend message
IsAllowed MaySend world (Deliver message joins) = IsForServer message × IsIn message world.packets
IsAllowed MaySend world (Other message) = (client_of message ≢ world.client) × IsValid message
IsAllowed MaySend world (Relay message) = IsLicensed world.client world.packets message × IsValid message

-- each step may come after those before it
abbrev pub AreAllowed : (Message → Type 0) → World → List Step → Type 0
AreAllowed MaySend world [] = Unit {0}
AreAllowed MaySend world (step ∷ steps) = IsAllowed MaySend world step × AreAllowed MaySend (happens step world) steps

-- the message is this request
abbrev pub Is : Message → Message → Type 0
Is request message = message ≡ request

-- The world went on without its client: others and surrogates sent, and what was ever sent may have been delivered.
pub record GoesOnAlone (old new : World) : Type 0 where
  pub steps : List Step
  pub allowed : AreAllowed (λ message. ⊥) old steps
  pub result : new ≡ happen steps old

-- The world moved by allowed steps, where the client may send such messages, and these asks were made.
pub record MovedBy (MaySend : Message → Type 0) (made : List Ask) (old new : World) : Type 0 where
  pub steps : List Step
  pub allowed : AreAllowed MaySend old steps
  pub result : new ≡ noted made (happen steps old)

-- the same where the client sends nothing: deliveries, and messages of other clients and of surrogates
abbrev pub MovedAlone : List Ask → World → World → Type 0
MovedAlone made old new = MovedBy (λ message. ⊥) made old new

-- how often the client sends in a step
abbrev pub sendings_in : Step → ℕ
sendings_in (Send message) = 1
sendings_in (Deliver message joins) = 0
sendings_in (Other message) = 0
sendings_in (Relay message) = 0

-- how often the client sends in these steps
abbrev pub sendings : List Step → ℕ
sendings [] = 0
sendings (step ∷ steps) = sendings_in step + sendings steps

-- The world moved, where each sending sends this request, and these asks of it were made. It was sent for each of them.
pub record Moved (request : Message) (made : List Ask) (old new : World) : Type 0 where
  pub moves : MovedBy (Is request) made old new
  pub asked : (ask : Ask) → IsIn ask made → ask.request ≡ request
  pub sent : length made ≤ sendings moves.steps

-- The reply is the server's answer at a moment of these moves, in which the request was sent for each of the asks.
pub record IsFresh (request reply : Message) (made : List Ask) (old new : World) : Type 0 where
  pub moment : World
  pub before : MovedBy (Is request) [] old moment
  pub after : MovedBy (Is request) made moment new
  pub sent : length made ≤ sendings before.steps + sendings after.steps
  pub is : reply ≡ answer request moment.served
