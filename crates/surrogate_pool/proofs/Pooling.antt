-- The world that a pool tells moves by each ask as the trait asks it.
use Rattle.std.proofs.Common.{◌≡◌, inl, inr, ℕ, ◌+◌, ◌-◌, ◌≤◌, true, false, cond, List, [], ◌∷◌, ◌++◌, length, take, drop, Option, None, Some, Result, Ok, Err, Vec, refl, sym, ◌∙◌, ap, subst, arith, length-append}
use Rattle.std.specs.Prelude.{OnOk, filter, reverse, option_map, slice_set, get_or}
use Rattle.std.specs.List.{AllByRecursion}
use Rattle.std.specs.declared.alloc.Global.{Global}
use Rattle.std.proofs.lemmas.List.{append-nil, reverse-append}
use Rattle.std.proofs.lemmas.List.Elements.{filter-append}
use Rattle.std.proofs.Math.Seq.{take-append_seam, drop-append_seam, set-append_seam, get_or-append_seam}
use Rattle.outside.specs.Outside.{Told}
use Rattle.tree_values.specs.Lists.{IsIn}
use Rattle.wire_frames.specs.declared.message.Message.{Message}
use Rattle.world_rules.specs.declared.asking.Peer.{Peer}
use Rattle.world_rules.specs.declared.asking.Peer.TheVariants.{Server}
use Rattle.world_rules.specs.declared.asking.Ask.{Ask}
use Rattle.world_rules.specs.declared.asking.Answer.{Answer}
use Rattle.world_rules.specs.declared.asking.Answer.TheVariants.{Reply, Failed}
use Rattle.world_rules.specs.declared.link.LinkError.{LinkError}
use Rattle.world_rules.specs.declared.link.LinkError.TheVariants.{Failed as LinkFailed, Memory as LinkMemory}
use Rattle.world_rules.specs.World.{World, Step, Send, Deliver, Other, Relay, noted, happens, happen, IsAllowed, AreAllowed, Is, MovedBy, sendings, Moved, IsFresh}
use Rattle.world_rules.specs.Telling.{LinkTelling, ToldWorlds}
use Rattle.world_rules.specs.Asking.{ask_of, AsksOnce, IsDirect}
use Rattle.world_rules.proofs.Asks.{moved_none, told_start, told_as}
use Rattle.surrogate_pool.specs.declared.pool.PoolRound.{PoolRound}
use Rattle.surrogate_pool.specs.Rounds.{pooled, is_answered, as_one, in_rounds, with_asks, pool_world, pool_tells, AddsRounds}
use Rattle.surrogate_pool.specs.Inside.{is_answer_of, round_of, HasAsked}

-- ---- a world with other asks

-- steps look at no asks
happens-asks : (asks : List Ask) (step : Step) (world : World) → happens step (with_asks asks world) ≡ with_asks asks (happens step world)
happens-asks asks (Send message) world = refl
happens-asks asks (Deliver message joins) world = refl
happens-asks asks (Other message) world = refl
happens-asks asks (Relay message) world = refl

happen-asks : (asks : List Ask) (steps : List Step) (world : World) → happen steps (with_asks asks world) ≡ with_asks asks (happen steps world)
happen-asks asks [] world = refl
happen-asks asks (step ∷ steps) world = ap (happen steps) (happens-asks asks step world) ∙ happen-asks asks steps (happens step world)

-- and make none
happen_keeps : (steps : List Step) (world : World) → (happen steps world).asks ≡ world.asks
happen_keeps [] world = refl
happen_keeps (Send message ∷ steps) world = happen_keeps steps (happens (Send message) world)
happen_keeps (Deliver message joins ∷ steps) world = happen_keeps steps (happens (Deliver message joins) world)
happen_keeps (Other message ∷ steps) world = happen_keeps steps (happens (Other message) world)
happen_keeps (Relay message ∷ steps) world = happen_keeps steps (happens (Relay message) world)

allowed-asks : (P : Message → Type 0) (asks : List Ask) (step : Step) (world : World) → IsAllowed P world step → IsAllowed P (with_asks asks world) step
allowed-asks P asks (Send message) world may = may
allowed-asks P asks (Deliver message joins) world may = may
allowed-asks P asks (Other message) world may = may
allowed-asks P asks (Relay message) world may = may

AreAllowed-asks : (P : Message → Type 0) (asks : List Ask) (steps : List Step) (world : World) → AreAllowed P world steps → AreAllowed P (with_asks asks world) steps
AreAllowed-asks P asks [] world may = tt
AreAllowed-asks P asks (step ∷ steps) world may = (
  allowed-asks P asks step world may.0,
  subst (λ w. AreAllowed P w steps) (sym (happens-asks asks step world)) (AreAllowed-asks P asks steps (happens step world) may.1),
)

-- the same moves, between worlds of which other asks are told
pub moved_as : (P : Message → Type 0) (made one a b : List Ask) (v w : World) → MovedBy P made v w → b ≡ a ++ one
    → MovedBy P one (with_asks a v) (with_asks b w)
moved_as P made one a b v w moves grew = record {
  steps = moves.steps;
  allowed = AreAllowed-asks P a moves.steps v moves.allowed;
  result = ap (with_asks b) moves.result ∙ ap (λ asks. with_asks asks (happen moves.steps v)) grew
      ∙ ap (noted one) (sym (happen-asks a moves.steps v));
}

sendings-as : (P : Message → Type 0) (made one a b : List Ask) (v w : World) (moves : MovedBy P made v w) (grew : b ≡ a ++ one)
    → sendings (moved_as P made one a b v w moves grew).steps ≡ sendings moves.steps
unfolding moved_as
sendings-as P made one a b v w moves grew = refl

asks_grew : (P : Message → Type 0) (made : List Ask) (v w : World) → MovedBy P made v w → w.asks ≡ v.asks ++ made
asks_grew P made v w moves = ap (λ (world : World). world.asks) moves.result ∙ ap (λ asks. asks ++ made) (happen_keeps moves.steps v)

-- ---- one round more

length-filter_most : (asks : List Ask) → length (filter is_answered asks) ≤ length asks
length-filter_most [] = omega arith
length-filter_most (ask ∷ asks) =
    elim (is_answered ask) as (λ b. length (cond b (ask ∷ filter is_answered asks) (filter is_answered asks)) ≤ length (ask ∷ asks))
    [ true ↦ omega (arith, length-filter_most asks) | false ↦ omega (arith, length-filter_most asks) ]

in_rounds-more : (round : PoolRound) (earlier : List PoolRound) (a m : List Ask) → length m ≡ round.tries
    → in_rounds (round ∷ earlier) (a ++ m) ≡ in_rounds earlier a ++ as_one round m
in_rounds-more round earlier a m many =
    let before : length (a ++ m) - round.tries ≡ length a = omega (arith, length-append a m, many) in
    ap (λ n. in_rounds earlier (take n (a ++ m)) ++ as_one round (drop n (a ++ m))) before
    ∙ ap (λ asks. in_rounds earlier asks ++ as_one round (drop (length a) (a ++ m))) (take-append_seam a m)
    ∙ ap (λ asks. in_rounds earlier a ++ as_one round asks) (drop-append_seam a m)

-- the asks that a pool tells, before and after a round in which its link made these
pool_asks : (rounds : List PoolRound) (round : PoolRound) (made : List Ask) (v w : World) → w.asks ≡ v.asks ++ made
    → length (filter is_answered made) ≡ round.tries
    → (pool_world (rounds ++ round ∷ []) w).asks ≡ (pool_world rounds v).asks ++ as_one round (filter is_answered made)
pool_asks rounds round made v w grew many =
    ap (λ (newest : List PoolRound). in_rounds newest (filter is_answered w.asks)) (reverse-append rounds (round ∷ []))
    ∙ ap (λ (asks : List Ask). in_rounds (round ∷ reverse rounds) (filter is_answered asks)) grew
    ∙ ap (in_rounds (round ∷ reverse rounds)) (filter-append is_answered v.asks made)
    ∙ in_rounds-more round (reverse rounds) (filter is_answered v.asks) (filter is_answered made) many

-- as one ask
one_ask : (to : Peer) (address : List ℕ) (request : Message) (tries : ℕ) (asks : List Ask) (answer : Answer) → 1 ≤ length asks
    → AllByRecursion (λ ask. (ask.to ≡ to) × (ask.request ≡ request)) asks → pooled asks ≡ answer
    → as_one (record { address = address; tries = tries; answered = true }) asks ≡ ask_of to address request answer ∷ []
one_ask to address request tries [] answer some all is = absurd (omega (arith, some))
one_ask to address request tries (ask ∷ asks) answer some all is = λ i. ask_of (all.0.0 i) address (all.0.1 i) (is i) ∷ []

no_ask : (address : List ℕ) (tries : ℕ) (asks : List Ask) → as_one (record { address = address; tries = tries; answered = false }) asks ≡ []
no_ask address tries [] = refl
no_ask address tries (ask ∷ asks) = refl

of_request : (to : Peer) (address : List ℕ) (request : Message) (answer : Answer) (ask : Ask)
    → IsIn ask (ask_of to address request answer ∷ []) → ask.request ≡ request
of_request to address request answer ask (inl e) = ap (λ (x : Ask). x.request) e
of_request to address request answer ask (inr none) = absurd none

module _ (rounds : List PoolRound) (to : Peer) (address : List ℕ) (request : Message) (tries : ℕ) (v w : World) where
  abbrev pool_after : Result (Vec ℕ Global) LinkError → World
  pool_after result = pool_world (rounds ++ round_of address tries result ∷ []) w

  grew_by : (result : Result (Vec ℕ Global) LinkError) (asked : HasAsked to address request tries result v w) (one : List Ask)
      → as_one (round_of address tries result) (filter is_answered asked.made) ≡ one
      → (pool_after result).asks ≡ (pool_world rounds v).asks ++ one
  grew_by result asked one is =
      pool_asks rounds (round_of address tries result) asked.made v w (asks_grew (Is request) asked.made v w asked.moved.moves) asked.round.tries
      ∙ ap (λ asks. (pool_world rounds v).asks ++ asks) is

  moved_one : (result : Result (Vec ℕ Global) LinkError) (asked : HasAsked to address request tries result v w) (answer : Answer)
      → is_answer_of result ≡ true
      → as_one (round_of address tries result) (filter is_answered asked.made) ≡ ask_of to address request answer ∷ []
      → Moved request (ask_of to address request answer ∷ []) (pool_world rounds v) (pool_after result)
  moved_one result asked answer answered is =
      let one = ask_of to address request answer ∷ [] in
      let a = (pool_world rounds v).asks in
      let b = (pool_after result).asks in
      let grew = grew_by result asked one is in
      record {
        moves = moved_as (Is request) asked.made one a b v w asked.moved.moves grew;
        asked = λ ask among. of_request to address request answer ask among;
        sent = omega (
          arith,
          asked.moved.sent,
          asked.some answered,
          asked.round.tries,
          length-filter_most asked.made,
          sendings-as (Is request) asked.made one a b v w asked.moved.moves grew,
        );
      }

  pub asked_once : (result : Result (Vec ℕ Global) LinkError) → HasAsked to address request tries result v w
      → AsksOnce to address request (pool_world rounds v) (pool_after result) result
  asked_once (Ok frame) asked =
      let reply = asked.pools.0 in
      let some : 1 ≤ length (filter is_answered asked.made) = omega (arith, asked.some refl, asked.round.tries) in (
        reply,
        asked.pools.1.0,
        asked.pools.1.1,
        asked.pools.1.2,
        moved_one (Ok frame) asked (Reply reply) refl (one_ask to address request tries (filter is_answered asked.made) (Reply reply) some asked.asks asked.pools.2),
      )
  asked_once (Err LinkFailed) asked =
      let some : 1 ≤ length (filter is_answered asked.made) = omega (arith, asked.some refl, asked.round.tries) in
      moved_one (Err LinkFailed) asked Failed refl (one_ask to address request tries (filter is_answered asked.made) Failed some asked.asks asked.pools)
  asked_once (Err LinkMemory) asked = inr (
      let grew = grew_by (Err LinkMemory) asked [] (no_ask address tries (filter is_answered asked.made)) in
      record {
        moves = moved_as (Is request) asked.made [] (pool_world rounds v).asks (pool_after (Err LinkMemory)).asks v w asked.moved.moves grew;
        asked = λ ask among. absurd among;
        sent = omega arith;
      }
      )

  -- what the link's asks are to the pool's rounds
  pub adds_round : (result : Result (Vec ℕ Global) LinkError) → HasAsked to address request tries result v w
      → AddsRounds rounds (rounds ++ round_of address tries result ∷ []) v w
  adds_round result asked = record {
    rounds = round_of address tries result ∷ [];
    made = asked.made;
    kept = refl;
    asked = asks_grew (Is request) asked.made v w asked.moved.moves;
    are = (asked.made, [], sym (append-nil asked.made), asked.round, refl);
  }

-- ---- a fresh reply of the server

module _ (rounds : List PoolRound) (address : List ℕ) (request : Message) (v w : World) where
  fresh_as : (reply : Message) (a b : List Ask) → IsFresh request reply (ask_of Server address request (Reply reply) ∷ []) v w
      → b ≡ a ++ ask_of Server address request (Reply reply) ∷ []
      → IsFresh request reply (ask_of Server address request (Reply reply) ∷ []) (with_asks a v) (with_asks b w)
  fresh_as reply a b fresh grew =
      let one = ask_of Server address request (Reply reply) ∷ [] in
      record {
        moment = with_asks a fresh.moment;
        before = moved_as (Is request) [] [] a a v fresh.moment fresh.before (sym (append-nil a));
        after = moved_as (Is request) one one a b fresh.moment w fresh.after grew;
        sent = omega (
          arith,
          fresh.sent,
          sendings-as (Is request) [] [] a a v fresh.moment fresh.before (sym (append-nil a)),
          sendings-as (Is request) one one a b fresh.moment w fresh.after grew,
        );
        is = fresh.is;
      }

  pub directly : (result : Result (Vec ℕ Global) LinkError) (tries : ℕ) → (is_answer_of result ≡ true → tries ≡ 1)
      → IsDirect Server address request v w result
      → IsDirect Server address request (pool_world rounds v) (pool_world (rounds ++ round_of address tries result ∷ []) w) result
  directly (Err error) tries once direct = tt
  directly (Ok frame) tries once direct =
      let reply = direct.0 in
      let one = ask_of Server address request (Reply reply) ∷ [] in
      let fresh = direct.2 in
      let grew = asks_grew (Is request) one fresh.moment w fresh.after
      ∙ ap (λ asks. asks ++ one) (asks_grew (Is request) [] v fresh.moment fresh.before ∙ append-nil v.asks) in (
        reply,
        direct.1,
        fresh_as reply (pool_world rounds v).asks (pool_world (rounds ++ round_of address tries (Ok frame) ∷ []) w).asks fresh
            (pool_asks rounds (round_of address tries (Ok frame)) one v w grew (sym (once refl))),
      )

-- ---- over a link that tells

pub told_map : {A : Type 0} (a b : Option A) (f g : A → A) (P Q : A → A → Type 0) → Told a b P → ((x y : A) → P x y → Q (f x) (g y))
    → Told (option_map f a) (option_map g b) Q
told_map (Some x) (Some y) f g P Q told goes_on = goes_on x y told
told_map (Some x) None f g P Q told goes_on = told
told_map {A} None b f g P Q told goes_on = ap (option_map g) told

module _ (rounds : List PoolRound) (to : Peer) (address : List ℕ) (request : Message) (tries : ℕ) (answer : Result (Vec ℕ Global) LinkError) (t u : LinkTelling) where
  abbrev with_round : List PoolRound
  with_round = rounds ++ round_of address tries answer ∷ []

  pub told_once : ToldWorlds t u (HasAsked to address request tries answer)
      → ToldWorlds (pool_tells rounds t) (pool_tells with_round u) (λ v w. AsksOnce to address request v w answer)
  told_once asked = told_map t.world u.world (pool_world rounds) (pool_world with_round) (HasAsked to address request tries answer)
      (λ v w. AsksOnce to address request v w answer) asked (λ v w so. asked_once rounds to address request tries v w answer so)

  pub told_rounds : ToldWorlds t u (HasAsked to address request tries answer) → ToldWorlds t u (AddsRounds rounds with_round)
  told_rounds asked = told_as t.world u.world (HasAsked to address request tries answer) (AddsRounds rounds with_round) asked
      (λ v w so. adds_round rounds to address request tries v w answer so)

pub told_directly : (rounds : List PoolRound) (address : List ℕ) (request : Message) (tries : ℕ) (answer : Result (Vec ℕ Global) LinkError)
    (t u : LinkTelling) → OnOk answer (tries ≡ 1)
    → ToldWorlds t u (λ v w. IsDirect {E = LinkError} Server address request v w answer)
    → ToldWorlds (pool_tells rounds t) (pool_tells (rounds ++ round_of address tries answer ∷ []) u) (λ v w. IsDirect {E = LinkError} Server address request v w answer)
told_directly rounds address request tries (Ok frame) t u once direct = told_map t.world u.world (pool_world rounds)
    (pool_world (rounds ++ round_of address tries (Ok frame) ∷ [])) (λ v w. IsDirect {E = LinkError} Server address request v w (Ok frame))
    (λ v w. IsDirect {E = LinkError} Server address request v w (Ok frame)) direct (λ v w so. directly rounds address request v w (Ok frame) tries (λ answered. once) so)
told_directly rounds address request tries (Err error) t u once direct = told_map t.world u.world (pool_world rounds)
    (pool_world (rounds ++ round_of address tries (Err error) ∷ [])) (λ v w. IsDirect {E = LinkError} Server address request v w (Err error))
    (λ v w. IsDirect {E = LinkError} Server address request v w (Err error)) direct (λ v w so. tt)

-- where there was no room to keep an ask, nothing was asked
pub told_nothing : (rounds : List PoolRound) (to : Peer) (address : List ℕ) (request : Message) (t : LinkTelling)
    → ToldWorlds (pool_tells rounds t) (pool_tells rounds t) (λ v w. AsksOnce to address request v w (Err LinkMemory))
told_nothing rounds to address request t =
    told_start (option_map (pool_world rounds) t.world) (λ v w. AsksOnce to address request v w (Err LinkMemory)) (λ v. inr (moved_none request v))

-- ---- what is kept

-- the last of what is kept, with another in its place
pub noted_last : (items before : List PoolRound) (round new : PoolRound) (last : ℕ) → items ≡ before ++ round ∷ [] → last + 1 ≡ length items
    → slice_set items last new ≡ before ++ new ∷ []
noted_last items before round new last is at =
    let many : last ≡ length before = omega (arith, at, ap (λ (l : List PoolRound). length l) is, length-append before (round ∷ [])) in
    ap (λ l. slice_set l last new) is ∙ ap (λ n. slice_set (before ++ round ∷ []) n new) many ∙ set-append_seam before round [] new

-- and the address of that last one
pub address_of_last : (items before : List PoolRound) (round other : PoolRound) (last : ℕ) → items ≡ before ++ round ∷ [] → last + 1 ≡ length items
    → get_or items last other ≡ round
address_of_last items before round other last is at =
    let many : last ≡ length before = omega (arith, at, ap (λ (l : List PoolRound). length l) is, length-append before (round ∷ [])) in
    ap (λ l. get_or l last other) is ∙ ap (λ n. get_or (before ++ round ∷ []) n other) many ∙ get_or-append_seam before round [] other
