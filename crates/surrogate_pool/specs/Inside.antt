-- Words that only contracts inside the pool cite: what its asks of one request came to.
use Rattle.std.specs.Prelude.{◌≡◌, ℕ, ◌≤◌, Bool, true, false, List, filter, Result, Ok, Err, Vec}
use Rattle.std.specs.List.{AllByRecursion}
use Rattle.std.specs.declared.alloc.Global.{Global}
use Rattle.tree_values.specs.Lists.{IsIn}
use Rattle.wire_frames.specs.declared.message.Message.{Message}
use Rattle.wire_frames.specs.Frame.{Spells, Echoes}
use Rattle.world_rules.specs.declared.asking.Peer.{Peer}
use Rattle.world_rules.specs.declared.asking.Ask.{Ask}
use Rattle.world_rules.specs.declared.asking.Answer.{Answer}
use Rattle.world_rules.specs.declared.asking.Answer.TheVariants.{Reply, Failed}
use Rattle.world_rules.specs.declared.link.LinkError.{LinkError}
use Rattle.world_rules.specs.declared.link.LinkError.TheVariants.{Failed as LinkFailed, Memory as LinkMemory}
use Rattle.world_rules.specs.World.{World, Moved}
use Rattle.surrogate_pool.specs.declared.pool.PoolRound.{PoolRound}
use Rattle.surrogate_pool.specs.Rounds.{pooled, is_answered, IsPoolRound}

-- an ask with this result was answered, or failed
abbrev pub is_answer_of : Result (Vec ℕ Global) LinkError → Bool
is_answer_of (Ok frame) = true
is_answer_of (Err LinkFailed) = true
is_answer_of (Err LinkMemory) = false

-- what is kept of an ask at this address that made so many and came to this
abbrev pub round_of : List ℕ → ℕ → Result (Vec ℕ Global) LinkError → PoolRound
round_of address tries result = record { address = address; tries = tries; answered = is_answer_of result }

-- the frame spells a reply to the request that was sent
abbrev pub IsSentReply : Message → List ℕ → Message → World → Type 0
IsSentReply request frame reply world = Spells reply frame × Echoes request reply × IsIn reply world.packets

-- the result is what is made of the answers; want of memory goes before all
abbrev pub IsPooled : Message → Result (Vec ℕ Global) LinkError → Answer → World → Type 0
IsPooled request (Ok frame) answer world = (reply : Message) × IsSentReply request frame.items reply world × (answer ≡ Reply reply)
IsPooled request (Err LinkFailed) answer world = answer ≡ Failed
IsPooled request (Err LinkMemory) answer world = Unit {0}

-- what asks of one request, for an ask of a peer at this address, came to
pub record HasAsked (to : Peer) (address : List ℕ) (request : Message) (tries : ℕ) (result : Result (Vec ℕ Global) LinkError)
    (old new : World) : Type 0 where
  pub made : List Ask
  pub moved : Moved request made old new
  pub asks : AllByRecursion (λ ask. (ask.to ≡ to) × (ask.request ≡ request)) (filter is_answered made)
  pub round : IsPoolRound (round_of address tries result) made
  pub some : is_answer_of result ≡ true → 1 ≤ tries
  pub pools : IsPooled request result (pooled (filter is_answered made)) new
