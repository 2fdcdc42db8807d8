-- Settling a request with a peer: it is asked until an ask does not fail, and at most eight times.
use Rattle.std.specs.Prelude.{◌≡◌, ◌⊎◌, ℕ, ◌+◌, ◌<◌, List, [], ◌∷◌, ◌++◌, Option, None, Some, Result, Ok, Err, Vec}
use Rattle.std.specs.declared.alloc.AllocError.{AllocError}
use Rattle.std.specs.declared.alloc.Global.{Global}
use Rattle.std.proofs.Math.ListN.{replicate}
use Rattle.wire_frames.specs.declared.message.Message.{Message}
use Rattle.wire_frames.specs.Frame.{IsValid, Echoes, Spells}
use Rattle.world_rules.specs.declared.asking.Peer.{Peer}
use Rattle.world_rules.specs.declared.asking.Ask.{Ask}
use Rattle.world_rules.specs.declared.asking.Answer.{Answer}
use Rattle.world_rules.specs.declared.asking.Answer.TheVariants.{Reply, Failed, Memory}
use Rattle.world_rules.specs.declared.link.AskError.{AskError}
use Rattle.world_rules.specs.declared.link.AskError.TheVariants.{Troubles, Memory as AskMemory}
use Rattle.world_rules.specs.World.{World, Moved, IsFresh}
use Rattle.world_rules.specs.Telling.{LinkTelling, ToldWorlds, HadTroubles}
use Rattle.world_rules.specs.Asking.{ask_of, AnswersStand}

-- how many asks of a request fail before it is given up
abbrev pub max_asks : ℕ
max_asks = 8

-- so many asks of a request that all failed
abbrev pub failures : Peer → List ℕ → Message → ℕ → List Ask
failures to address request count = replicate count (ask_of to address request Failed)

-- asks that failed, and one that was answered
abbrev pub settled : Peer → List ℕ → Message → ℕ → Message → List Ask
settled to address request failed reply = failures to address request failed ++ ask_of to address request (Reply reply) ∷ []

-- either a reply came, or eight asks failed
abbrev pub IsSettling : Peer → List ℕ → Message → Option Message → List Ask → Type 0
IsSettling to address request (Some reply) asks =
    (failed : ℕ) × (failed < max_asks) × IsValid reply × Echoes request reply × (asks ≡ settled to address request failed reply)
IsSettling to address request None asks = asks ≡ failures to address request max_asks

-- the asks of a settling that is broken off: some failed, and at most one more was made
abbrev pub BreaksSettling : Peer → List ℕ → Message → List Ask → Type 0
BreaksSettling to address request asks =
    (failed : ℕ) × (failed < max_asks) × ((asks ≡ failures to address request failed)
    ⊎ ((answer : Answer) × (asks ≡ failures to address request failed ++ ask_of to address request answer ∷ [])))

-- the asks of a settling with this result: a reply, none after eight asks that failed, or want of memory, which breaks it off
abbrev pub SettlesTo : Peer → List ℕ → Message → Result (Option Message) AllocError → List Ask → Type 0
SettlesTo to address request (Ok reply) asks = IsSettling to address request reply asks
SettlesTo to address request (Err error) asks = BreaksSettling to address request asks

-- one for an ask that failed
abbrev pub one_if_failed : Answer → ℕ
one_if_failed Failed = 1
one_if_failed (Reply reply) = 0
one_if_failed Memory = 0

-- how many of these asks failed
abbrev pub failed_asks : List Ask → ℕ
failed_asks [] = 0
failed_asks (ask ∷ asks) = one_if_failed ask.answer + failed_asks asks

-- Between two moments of a link a request was settled, or its settling was broken off, over any link. Where the link tells its world,
-- that moved by these asks, and each answer stands in it.
pub record Settled (to : Peer) (address : List ℕ) (request : Message) (old new : LinkTelling)
    (result : Result (Option Message) AllocError) : Type 0 where
  pub asks : List Ask
  pub settling : SettlesTo to address request result asks
  pub rose : HadTroubles (failed_asks asks) old new
  pub told : ToldWorlds old new (λ v w. Moved request asks v w × AnswersStand w asks)

-- the bytes of a reply stand for it, troubles for no reply
abbrev pub IsReadAs : Result (Vec ℕ Global) AskError → Result (Option Message) AllocError → Type 0
IsReadAs (Ok frame) (Ok (Some reply)) = Spells reply frame.items
IsReadAs (Err Troubles) (Ok None) = Unit {0}
IsReadAs (Err AskMemory) (Err error) = Unit {0}
IsReadAs answered result = ⊥

-- the server gave this reply at a moment of the settling
abbrev pub IsFreshReply : Message → World → World → Message → Type 0
IsFreshReply request old new reply = (asks : List Ask) × IsFresh request reply asks old new
