-- What a pool keeps of its asks, and the world that it tells: its link's, with each of its own asks in place of those that it made for it.
use Rattle.std.specs.Prelude.{◌≡◌, ◌⊎◌, ℕ, ◌-◌, Bool, true, false, if◌then◌else◌, List, [], ◌∷◌, ◌++◌, length, map, take, drop, filter}
use Rattle.std.specs.Prelude.{reverse, fold, option_map}
use Rattle.std.specs.List.{AllByRecursion}
use Rattle.wire_frames.specs.declared.message.Message.{Message}
use Rattle.wire_frames.specs.declared.message.Kind.{Kind}
use Rattle.wire_frames.specs.declared.message.Kind.TheVariants.{Store, Operate, Pull, Accepted, Stale, Unfit, Gap, Snapshot, Done, Declined}
use Rattle.wire_frames.specs.declared.message.Kind.TheVariants.{Full, Malformed}
use Rattle.wire_frames.specs.Frame.{kind}
use Rattle.world_rules.specs.declared.asking.Peer.TheVariants.{Server, Surrogate}
use Rattle.world_rules.specs.declared.asking.Ask.{Ask}
use Rattle.world_rules.specs.declared.asking.Answer.{Answer}
use Rattle.world_rules.specs.declared.asking.Answer.TheVariants.{Reply, Failed, Memory}
use Rattle.world_rules.specs.World.{World}
use Rattle.world_rules.specs.Telling.{LinkTelling}
use Rattle.world_rules.specs.Asking.{ask_of}
use Rattle.surrogate_pool.specs.declared.pool.PoolRound.{PoolRound}
use Rattle.surrogate_pool.specs.Addresses.{addresses_in}

-- ---- what is made of several answers

-- replies of this kind tell that the operation is done
abbrev pub is_done_kind : Kind → Bool
is_done_kind Store = false
is_done_kind Operate = false
is_done_kind Pull = false
is_done_kind Accepted = false
is_done_kind Stale = false
is_done_kind Unfit = false
is_done_kind Gap = false
is_done_kind Snapshot = false
is_done_kind Done = true
is_done_kind Declined = false
is_done_kind Full = false
is_done_kind Malformed = false

abbrev pub is_done : Message → Bool
is_done reply = is_done_kind (kind reply)

-- the answer is such a reply
abbrev pub tells_done : Answer → Bool
tells_done (Reply reply) = is_done reply
tells_done Failed = false
tells_done Memory = false

-- one answer more: that the operation is done goes before all, and else the first reply
abbrev pub better : Answer → Answer → Answer
better Failed answer = answer
better Memory answer = answer
better (Reply reply) answer = if tells_done answer then answer else Reply reply

-- what is answered for these asks: that the operation is done, where one told it, else the first reply, and else none
abbrev pub pooled : List Ask → Answer
pooled asks = fold (λ best ask. better best ask.answer) Failed asks

-- ---- the world that a pool tells

-- the ask was answered, or failed: memory did not run out in it
abbrev pub is_answer : Answer → Bool
is_answer (Reply reply) = true
is_answer Failed = true
is_answer Memory = false

abbrev pub is_answered : Ask → Bool
is_answered ask = is_answer ask.answer

-- the ask that a pool was asked, where it made these for it; none where memory ran out in it
abbrev pub as_one : PoolRound → List Ask → List Ask
as_one round [] = []
as_one round (ask ∷ asks) =
    if round.answered then ask_of ask.to round.address ask.request (pooled (ask ∷ asks)) ∷ [] else []

-- the last asks of a link, each behind the others by these rounds, the last round first, as asks of the pool
abbrev pub in_rounds : List PoolRound → List Ask → List Ask
in_rounds [] asks = asks
in_rounds (round ∷ earlier) asks =
    let before = length asks - round.tries in in_rounds earlier (take before asks) ++ as_one round (drop before asks)

-- the world with these asks in place of its own
abbrev pub with_asks : List Ask → World → World
with_asks asks world = record {
  client = world.client;
  opening = world.opening;
  taken = world.taken;
  served = world.served;
  packets = world.packets;
  asks = asks;
}

-- the world that a pool tells over a link that tells this one
abbrev pub pool_world : List PoolRound → World → World
pool_world rounds world = with_asks (in_rounds (reverse rounds) (filter is_answered world.asks)) world

-- what a pool tells over a link that tells this
abbrev pub pool_tells : List PoolRound → LinkTelling → LinkTelling
pool_tells rounds telling = record { world = option_map (pool_world rounds) telling.world; troubles = telling.troubles }

-- ---- what a pool asks

-- These asks went to surrogates at a front of these addresses, in order. Each but a last one, which told that the operation is done, was
-- answered otherwise; where none did, and the pool answered, no address is left.
pub record AsksEach (answered : Bool) (addresses : List (List ℕ)) (asks : List Ask) : Type 0 where
  pub undone : List Ask
  pub last : List Ask
  pub unasked : List (List ℕ)
  pub asks_are : asks ≡ undone ++ last
  pub at : addresses ≡ map (λ ask. ask.address) asks ++ unasked
  pub of_surrogates : AllByRecursion (λ ask. ask.to ≡ Surrogate) asks
  pub passed : AllByRecursion (λ ask. tells_done ask.answer ≡ false) undone
  pub ends : ((last ≡ []) × (answered ≡ true → unasked ≡ [])) ⊎ ((ask : Ask) × (last ≡ ask ∷ []) × (tells_done ask.answer ≡ true))

-- the one ask of the server at this address; none where memory ran out
pub record PassesOn (answered : Bool) (address : List ℕ) (asks : List Ask) : Type 0 where
  pub of_server : AllByRecursion (λ ask. (ask.to ≡ Server) × (ask.address ≡ address)) asks
  pub once : length asks ≡ (if answered then 1 else 0)

-- behind an ask in which memory ran out none was made, and then there was no answer
abbrev pub EndsAtWant : Bool → List Ask → Type 0
EndsAtWant answered made = (front back : List Ask) (ask : Ask) → made ≡ front ++ ask ∷ back → is_answered ask ≡ false
    → (back ≡ []) × (answered ≡ false)

-- the asks that a pool made in one round: of so many that were answered or failed it made its answer, and want of memory ended them
pub record IsPoolRound (round : PoolRound) (made : List Ask) : Type 0 where
  pub tries : length (filter is_answered made) ≡ round.tries
  pub asked : PassesOn round.answered round.address (filter is_answered made)
      ⊎ AsksEach round.answered (addresses_in round.address) (filter is_answered made)
  pub ends : EndsAtWant round.answered made

-- and in these, one after the other
abbrev pub AreRounds : List PoolRound → List Ask → Type 0
AreRounds [] asks = asks ≡ []
AreRounds (round ∷ rounds) asks =
    (first : List Ask) × (rest : List Ask) × (asks ≡ first ++ rest) × IsPoolRound round first × AreRounds rounds rest

-- one ask of a pool is one round, or none where there was no room to keep it
abbrev pub AddsOne : List PoolRound → List PoolRound → Type 0
AddsOne before after = (after ≡ before) ⊎ ((round : PoolRound) × (after ≡ before ++ round ∷ []))

-- between two moments a pool kept these rounds more, and its link's asks grew by theirs
pub record AddsRounds (before after : List PoolRound) (old new : World) : Type 0 where
  pub rounds : List PoolRound
  pub made : List Ask
  pub kept : after ≡ before ++ rounds
  pub asked : new.asks ≡ old.asks ++ made
  pub are : AreRounds rounds made
