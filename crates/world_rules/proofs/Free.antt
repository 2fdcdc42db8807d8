-- While messages are asked that are free of the world's client, the world goes on without it.
use Rattle.std.proofs.Common.{◌≡◌, inl, inr, ⊎_elim, ℕ, List, [], ◌∷◌, refl, sym, ◌∙◌, ap, subst}
use Rattle.tree_values.specs.Lists.{IsIn}
use Rattle.wire_frames.specs.declared.message.Message.{Message}
use Rattle.wire_frames.specs.declared.message.Message.TheVariants.{Store, Operate, Pull, Accepted, Done, Declined}
use Rattle.world_rules.specs.declared.asking.Ask.{Ask}
use Rattle.world_rules.specs.World.{World, Step, Send, Deliver, Other, Relay, happens, happen, noted, Is, IsLicensed, IsFree, IsAllowed, AreAllowed, MovedBy, MovedAlone, Moved}
use Rattle.world_rules.proofs.Asks.{kept_packet}

pub same_client : (step : Step) (world : World) → (happens step world).client ≡ world.client
same_client (Send message) world = refl
same_client (Deliver message joins) world = refl
same_client (Other message) world = refl
same_client (Relay message) world = refl

-- what may be sent is free of the client while packets only grow
module _ (MaySend : Message → Type 0) (start : World)
    (free : (message : Message) (world : World) → MaySend message → world.client ≡ start.client → ((packet : Message) → IsIn packet start.packets → IsIn packet world.packets) → IsFree world message) where
  abbrev IsLater : World → Type 0
  IsLater world = (world.client ≡ start.client) × ((packet : Message) → IsIn packet start.packets → IsIn packet world.packets)

  still_later : (step : Step) (world : World) → IsLater world → IsLater (happens step world)
  still_later step world is = (same_client step world ∙ is.0, λ packet among. kept_packet step world packet (is.1 packet among))

  -- the same step, as one in which the client sends nothing
  alone : (step : Step) (world : World) → IsLater world → IsAllowed MaySend world step → (other : Step) × IsAllowed (λ message. ⊥) world other × (happens step world ≡ happens other world)
  alone (Send message) world is may =
      let is_free = free message world may is.0 is.1 in
      ⊎_elim (λ licensed. (Relay message, (licensed, is_free.0), refl)) (λ differs. (Other message, (differs, is_free.0), refl)) is_free.1
  alone (Deliver message joins) world is may = (Deliver message joins, may, refl)
  alone (Other message) world is may = (Other message, may, refl)
  alone (Relay message) world is may = (Relay message, may, refl)

  all_alone : (steps : List Step) (world : World) → IsLater world → AreAllowed MaySend world steps → (others : List Step) × AreAllowed (λ message. ⊥) world others × (happen steps world ≡ happen others world)
  all_alone [] world is may = ([], tt, refl)
  all_alone (step ∷ steps) world is may =
      let first = alone step world is may.0 in
      let rest = all_alone steps (happens step world) (still_later step world is) may.1 in
      (first.0 ∷ rest.0, (first.1, subst (λ w. AreAllowed (λ message. ⊥) w rest.0) first.2 rest.1), rest.2 ∙ ap (happen rest.0) first.2)

  pub moves_alone : (made : List Ask) (new : World) → MovedBy MaySend made start new → MovedAlone made start new
  moves_alone made new moves =
      let found = all_alone moves.steps start (refl, λ packet among. among) moves.allowed in
      record { steps = found.0; allowed = found.1; result = moves.result ∙ ap (noted made) found.2 }

-- ---- one message

-- what an operation licenses it licenses for good
licensed_later : (client : ℕ) (before after : List Message) (message : Message) → ((packet : Message) → IsIn packet before → IsIn packet after) → IsLicensed client before message → IsLicensed client after message
licensed_later client before after (Store of number parts) stay may = (may.0, (may.1.0, stay (Operate client may.1.0) may.1.1, may.1.2))
licensed_later client before after (Pull of number) stay may = (may.0, (may.1.0, stay (Operate client may.1.0) may.1.1, may.1.2))
licensed_later client before after (Declined of number cause) stay may = (may.0, (may.1.0, stay (Operate client may.1.0) may.1.1, may.1.2))
licensed_later client before after (Done of number) stay may = (may.0, (may.1.0, stay (Operate client may.1.0) may.1.1, may.1.2), (may.2.0, stay (Accepted client number may.2.0) may.2.1))
licensed_later client before after _ stay may = absurd may

pub free_later : (before after : World) (message : Message) → after.client ≡ before.client → ((packet : Message) → IsIn packet before.packets → IsIn packet after.packets) → IsFree before message → IsFree after message
free_later before after message same stay free = (
  free.0,
  ⊎_elim
      (λ licensed. inl (subst (λ client. IsLicensed client after.packets message) (sym same) (licensed_later before.client before.packets after.packets message stay licensed)))
      (λ differs. inr (λ own. differs (own ∙ same))) free.1,
)

pub asks_alone : (request : Message) (made : List Ask) (old new : World) → IsFree old request → Moved request made old new → MovedAlone made old new
asks_alone request made old new free moved =
    moves_alone (Is request) old (λ message world is same stay. subst (IsFree world) (sym is) (free_later old world request same stay free)) made new moved.moves
