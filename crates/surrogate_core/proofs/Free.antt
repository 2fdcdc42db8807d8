-- While a handling asks, the world goes on without its client; and the handling's answer is one that a surrogate may send.
use Rattle.std.proofs.Common.{◌≡◌, inl, inr, ℕ, ◌-◌, List, [], ◌∷◌, sym, ◌∙◌, subst}
use native.Mathlib.Decide.{ℕ_discrete}
use Rattle.tree_values.specs.Lists.{IsIn}
use Rattle.tree_values.specs.Tree.{Volume}
use Rattle.wire_frames.specs.Parts.{part_of}
use Rattle.wire_frames.specs.declared.parts.Part.{Part}
use Rattle.mod_log.specs.declared.sketching.SketchEntry.{SketchEntry}
use Rattle.replay_judge.proofs.Agreed.{all_fill}
use Rattle.wire_frames.specs.Frame.{client_of, IsValid}
use Rattle.wire_frames.specs.declared.message.Message.{Message}
use Rattle.wire_frames.specs.declared.message.Message.TheVariants.{Store, Operate, Pull, Accepted, Done, Declined}
use Rattle.wire_frames.proofs.Standing.{filled_stores}
use Rattle.world_rules.specs.declared.asking.Answer.{Answer}
use Rattle.world_rules.specs.declared.asking.Ask.{Ask}
use Rattle.world_rules.specs.World.{World, IsLicensed, IsFree}
use Rattle.world_rules.specs.Asking.{ReplyStands, AnswerStands, AnswersStand}
use Rattle.world_rules.proofs.Free.{moves_alone}
use Rattle.surrogate_core.specs.Serving.{MayAsk}
use Rattle.surrogate_core.specs.Laws.{EndsOperation}
use Rattle.surrogate_core.specs.Free.{HandlingsMoveAlone, RepliesAreFree}
use Rattle.surrogate_core.proofs.Copies.{keeps_the_copy}
use Rattle.surrogate_core.proofs.Valid.{pull_valid}

-- a valid message of the client is free where it is licensed in the client's own world
free_as : (client : ℕ) (message : Message) (world : World) → IsValid message → client_of message ≡ client
    → (client ≡ world.client → IsLicensed world.client world.packets message) → Dec (client ≡ world.client) → IsFree world message
free_as client message world valid of licensed (yes own) = (valid, inl (licensed own))
free_as client message world valid of licensed (no differs) = (valid, inr (λ same. differs (sym of ∙ same)))

module _ (client : ℕ) (sketched : SketchEntry) where
  -- what is known where the operation of the world's client was sent
  there : (world : World) → (client ≡ world.client → IsIn (Operate client sketched) world.packets) → client ≡ world.client → IsIn (Operate world.client sketched) world.packets
  there world operated own = subst (λ (c : ℕ). IsIn (Operate c sketched) world.packets) own (operated own)

  -- ---- what is asked

  store_as : (of number : ℕ) (parts other : List Part) → of ≡ client → number ≡ sketched.seq → parts ≡ other → IsValid (Store client sketched.seq other) → IsValid (Store of number parts)
  store_as of number parts other is_client is_number are valid =
      subst (λ (c : ℕ). IsValid (Store c number parts)) (sym is_client)
      (subst (λ (n : ℕ). IsValid (Store client n parts)) (sym is_number)
      (subst (λ (ps : List Part). IsValid (Store client sketched.seq ps)) (sym are) valid))

  pull_as : (of number : ℕ) → of ≡ client → number ≡ sketched.seq - 1 → IsValid (Pull client (sketched.seq - 1)) → IsValid (Pull of number)
  pull_as of number is_client is_number valid =
      subst (λ (c : ℕ). IsValid (Pull c number)) (sym is_client) (subst (λ (n : ℕ). IsValid (Pull client n)) (sym is_number) valid)

  pub may_ask_valid : IsValid (Operate client sketched) → (message : Message) → MayAsk client sketched message → IsValid message
  may_ask_valid valid (Store of number parts) may = store_as of number parts (part_of may.2.0 sketched.base ∷ []) may.0 may.1 may.2.1 (filled_stores client sketched may.2.0 valid may.2.2)
  may_ask_valid valid (Pull of number) may = pull_as of number may.0 may.1 (pull_valid client sketched valid)
  may_ask_valid valid _ may = absurd may

  pub may_ask_free : IsValid (Operate client sketched) → (message : Message) (world : World) → MayAsk client sketched message
      → (client ≡ world.client → IsIn (Operate client sketched) world.packets) → IsFree world message
  may_ask_free valid (Store of number parts) world may operated =
      free_as client (Store of number parts) world (may_ask_valid valid (Store of number parts) may) may.0
      (λ own. (may.0 ∙ own, (sketched, there world operated own, (may.1, may.2)))) (ℕ_discrete client world.client)
  may_ask_free valid (Pull of number) world may operated =
      free_as client (Pull of number) world (may_ask_valid valid (Pull of number) may) may.0
      (λ own. (may.0 ∙ own, (sketched, there world operated own, may.1))) (ℕ_discrete client world.client)
  may_ask_free valid _ world may operated = absurd may

  -- ---- what is answered

  stands : (world : World) (ask : Ask) (asks : List Ask) → AnswersStand world asks → IsIn ask asks → AnswerStands world ask
  stands world ask [] all among = absurd among
  stands world ask (x ∷ asks) all (inl is) = subst (AnswerStands world) (sym is) all.0
  stands world ask (x ∷ asks) all (inr among) = stands world ask asks all.1 among

  ends_free : (world : World) → (client ≡ world.client → IsIn (Operate client sketched) world.packets) → (copy after : Volume) (asks : List Ask) (message : Message)
      → AnswersStand world asks → IsValid message → EndsOperation client sketched copy asks after message → IsFree world message
  ends_free world operated copy after asks (Declined of number cause) stand valid ends =
      free_as client (Declined of number cause) world valid ends.0 (λ own. (ends.0 ∙ own, (sketched, there world operated own, ends.1))) (ℕ_discrete client world.client)
  ends_free world operated copy after asks (Done of number) stand valid ends =
      let done = ends.2 in
      let accepted : IsIn (Accepted client sketched.seq sketched.seq) world.packets =
      (subst (λ (a : Answer). ReplyStands world done.ask.request a) done.accepted (stands world done.ask asks stand done.among)).0 in
      free_as client (Done of number) world valid ends.0
      (λ own. (
        ends.0 ∙ own,
        (sketched, there world operated own, ends.1),
        (
          sketched.seq,
          subst (λ (c : ℕ). IsIn (Accepted c number sketched.seq) world.packets) own
              (subst (λ (n : ℕ). IsIn (Accepted client n sketched.seq) world.packets) (sym ends.1) accepted),
        ),
      )) (ℕ_discrete client world.client)
  ends_free world operated copy after asks _ stand valid ends = absurd ends

pub handlings_move_alone : HandlingsMoveAlone
handlings_move_alone client sketched asks old new valid operated moves =
    moves_alone (MayAsk client sketched) old
    (λ message world may same stay. may_ask_free client sketched valid message world may (λ own. stay (Operate client sketched) (operated (own ∙ same)))) asks new moves

pub replies_are_free : RepliesAreFree
replies_are_free server work copy after client sketched runs asks reply world operated stand handling valid =
    ends_free client sketched world operated copy after asks reply stand valid (keeps_the_copy all_fill client sketched copy server work runs asks reply after handling)
