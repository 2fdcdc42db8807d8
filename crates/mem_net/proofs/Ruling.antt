-- The rule that a network keeps which is handed on.
use Rattle.std.proofs.Common.{◌≡◌, ◌≢◌, ◌⊎◌, inl, inr, ⊎_elim, ℕ, suc, ◌+◌, ◌≤◌, Bool, true, false, List, [], ◌∷◌, ◌++◌, length, Result, Ok, Err, Vec, refl, sym, ◌∙◌, ap, subst, arith, eqb-true}
use Rattle.std.specs.Prelude.{◌==◌, if◌then◌else◌}
use Rattle.std.proofs.Math.Nat.{le_refl, le_trans}
use Rattle.std.specs.declared.alloc.Global.{Global}
use Rattle.std.specs.List.{AllByRecursion}
use Rattle.byte_fields.proofs.Facts.{eq_itself}
use Rattle.tree_values.specs.Lists.{IsIn}
use Rattle.tree_values.specs.Tree.{Volume}
use Rattle.tree_values.specs.declared.node.Base.{Base}
use Rattle.tree_values.specs.declared.node.Effect.{Effect}
use Rattle.wire_frames.specs.declared.message.Message.{Message}
use Rattle.world_rules.specs.declared.asking.Ask.{Ask}
use Rattle.world_rules.specs.declared.asking.Peer.{Peer}
use Rattle.world_rules.specs.declared.asking.Peer.TheVariants.{Server, Surrogate}
use Rattle.world_rules.specs.declared.asking.Answer.{Answer}
use Rattle.world_rules.specs.declared.asking.Answer.TheVariants.{Reply, Failed, Memory}
use Rattle.world_rules.specs.declared.link.LinkError.{LinkError}
use Rattle.world_rules.specs.declared.link.LinkError.TheVariants.{Failed as LinkFailed, Memory as LinkMemory}
use Rattle.world_rules.specs.Served.{Served, TakenEntry, entry_stored, taken_of, with_last}
use Rattle.world_rules.specs.World.{World, Step, Send, Deliver, Other, Relay, happens, happen, Moved}
use Rattle.world_rules.specs.Asking.{ask_of, AsksOnce}
use Rattle.world_rules.specs.Run.{AreAllOf}
use Rattle.world_rules.proofs.Asks.{in_either}
use Rattle.server_core.proofs.Through.{raised_to, Rule, of_message}
use Rattle.server_core.proofs.Many.{raised}
use Rattle.mem_wires.specs.declared.fate.Fate.{Fate}
use Rattle.mem_wires.specs.declared.fate.Fate.TheVariants.{Pass, LoseRequest, LoseReply, Twice, Old, Stop, Late, Inject}
use Rattle.mem_wires.specs.Fates.{decides, is_trouble, left_by, AreTakenFrom}
use Rattle.mem_wires.specs.Spending.{AreQuiet}
use Rattle.mem_net.specs.Scenes.{TakesFates}
use Rattle.mem_net.specs.Handed.{IsPlain, lets_pass, OnePasses, FourPass, losses, is_server_failure, is_failure_of, failures_behind, last_failures, WereFew, HasNoOthers, IsByRule, Handing, FewAsksFailInARow}
use Rattle.mem_net.specs.declared.parts.NetworkParts.{NetworkParts}

-- ---- fates

lose_more : (fate : Fate) (fates : List Fate) → losses (fate ∷ fates) ≤ suc (losses fates)
lose_more Pass fates = omega arith
lose_more LoseRequest fates = omega arith
lose_more LoseReply fates = omega arith
lose_more Twice fates = omega arith
lose_more (Old k) fates = omega arith
lose_more Stop fates = omega arith
lose_more (Late k) fates = omega arith
lose_more (Inject frame) fates = omega arith

pass_ends : (fate : Fate) (fates : List Fate) → lets_pass fate ≡ true → losses (fate ∷ fates) ≡ 0
pass_ends Pass fates is = refl
pass_ends LoseRequest fates is = absurd (cc (is))
pass_ends LoseReply fates is = absurd (cc (is))
pass_ends Twice fates is = absurd (cc (is))
pass_ends (Old k) fates is = absurd (cc (is))
pass_ends Stop fates is = absurd (cc (is))
pass_ends (Late k) fates is = absurd (cc (is))
pass_ends (Inject frame) fates is = absurd (cc (is))

one_passes : (a b c d : Fate) (fates : List Fate) → OnePasses a b c d → losses (a ∷ b ∷ c ∷ d ∷ fates) ≤ 3
one_passes a b c d fates (inl is) = omega (arith, pass_ends a (b ∷ c ∷ d ∷ fates) is)
one_passes a b c d fates (inr (inl is)) = omega (arith, lose_more a (b ∷ c ∷ d ∷ fates), pass_ends b (c ∷ d ∷ fates) is)
one_passes a b c d fates (inr (inr (inl is))) =
    omega (arith, lose_more a (b ∷ c ∷ d ∷ fates), lose_more b (c ∷ d ∷ fates), pass_ends c (d ∷ fates) is)
one_passes a b c d fates (inr (inr (inr is))) =
    omega (arith, lose_more a (b ∷ c ∷ d ∷ fates), lose_more b (c ∷ d ∷ fates), lose_more c (d ∷ fates), pass_ends d fates is)

-- no four lose in a row
pub few_lose : (fates : List Fate) → FourPass fates → losses fates ≤ 3
few_lose [] spread = omega arith
few_lose (a ∷ []) spread = omega (arith, lose_more a [])
few_lose (a ∷ b ∷ []) spread = omega (arith, lose_more a (b ∷ []), lose_more b [])
few_lose (a ∷ b ∷ c ∷ []) spread = omega (arith, lose_more a (b ∷ c ∷ []), lose_more b (c ∷ []), lose_more c [])
few_lose (a ∷ b ∷ c ∷ d ∷ fates) spread = one_passes a b c d fates spread.0

spread_rest : (fate : Fate) (fates : List Fate) → FourPass (fate ∷ fates) → FourPass fates
spread_rest a [] spread = tt
spread_rest a (b ∷ []) spread = tt
spread_rest a (b ∷ c ∷ []) spread = tt
spread_rest a (b ∷ c ∷ d ∷ fates) spread = spread.1

spread_behind : (taken left : List Fate) → FourPass (taken ++ left) → FourPass left
spread_behind [] left spread = spread
spread_behind (fate ∷ taken) left spread = spread_behind taken left (spread_rest fate (taken ++ left) spread)

plain_behind : (taken left : List Fate) → AllByRecursion IsPlain (taken ++ left) → AllByRecursion IsPlain left
plain_behind [] left plain = plain
plain_behind (fate ∷ taken) left plain = plain_behind taken left plain.1

-- a plain fate that is met is gone
plain_goes : (fate : Fate) (rest : List Fate) → IsPlain fate → left_by fate rest ≡ rest
plain_goes Pass rest plain = refl
plain_goes LoseRequest rest plain = refl
plain_goes LoseReply rest plain = refl
plain_goes Twice rest plain = refl
plain_goes (Old k) rest plain = absurd plain
plain_goes Stop rest plain = absurd plain
plain_goes (Late k) rest plain = absurd plain
plain_goes (Inject frame) rest plain = absurd plain

all_gone : (taken fates left : List Fate) → AllByRecursion IsPlain fates → AreTakenFrom taken fates left → fates ≡ taken ++ left
all_gone [] fates left plain is = sym is
all_gone (fate ∷ taken) fates left plain is =
    let rest = is.0 in
    let split : fates ≡ fate ∷ rest = is.1 in
    let both : IsPlain fate × AllByRecursion IsPlain rest = subst (AllByRecursion IsPlain) split plain in
    let behind : AreTakenFrom taken rest left = subst (λ (fs : List Fate). AreTakenFrom taken fs left) (plain_goes fate rest both.0) is.2 in
    split ∙ ap (λ (fs : List Fate). fate ∷ fs) (all_gone taken rest left both.1 behind)

plain_decides : (fate : Fate) → IsPlain fate → decides fate ≡ true
plain_decides Pass plain = refl
plain_decides LoseRequest plain = refl
plain_decides LoseReply plain = refl
plain_decides Twice plain = refl
plain_decides (Old k) plain = absurd plain
plain_decides Stop plain = absurd plain
plain_decides (Late k) plain = absurd plain
plain_decides (Inject frame) plain = absurd plain

-- a plain fate loses, or is no trouble
loses_or_quiet : (fate : Fate) (fates : List Fate) → IsPlain fate → (losses (fate ∷ fates) ≡ suc (losses fates)) ⊎ (is_trouble fate ≡ false)
loses_or_quiet Pass fates plain = inr refl
loses_or_quiet LoseRequest fates plain = inl refl
loses_or_quiet LoseReply fates plain = inl refl
loses_or_quiet Twice fates plain = inr refl
loses_or_quiet (Old k) fates plain = absurd plain
loses_or_quiet Stop fates plain = absurd plain
loses_or_quiet (Late k) fates plain = absurd plain
loses_or_quiet (Inject frame) fates plain = absurd plain

-- ---- asks

one_more_ask : (count : ℕ) (asks : List Ask) (ask : Ask) → failures_behind count (asks ++ ask ∷ []) ≡ (if is_server_failure ask then suc (failures_behind count asks) else 0)
one_more_ask count [] ask = refl
one_more_ask count (first ∷ asks) ask = one_more_ask (if is_server_failure first then suc count else 0) asks ask

behind_both : (count : ℕ) (earlier later : List Ask) → failures_behind count (earlier ++ later) ≡ failures_behind (failures_behind count earlier) later
behind_both count [] later = refl
behind_both count (ask ∷ earlier) later = behind_both (if is_server_failure ask then suc count else 0) earlier later

-- a front of one ask more is a front of those before, or the whole
front_or_whole : (asks earlier later : List Ask) (ask : Ask) → asks ++ ask ∷ [] ≡ earlier ++ later
    → ((rest : List Ask) × (asks ≡ earlier ++ rest)) ⊎ (earlier ≡ asks ++ ask ∷ [])
front_or_whole asks [] later ask is = inl (asks, refl)
front_or_whole [] (first ∷ []) later ask is = let same : first ≡ ask = cc (is) in inr (λ i. same i ∷ [])
front_or_whole [] (first ∷ second ∷ earlier) later ask is = absurd (cc (is))
front_or_whole (first ∷ asks) (head ∷ earlier) later ask is =
    let same : first ≡ head = cc (is) in
    let rest : asks ++ ask ∷ [] ≡ earlier ++ later = cc (is) in
    ⊎_elim (λ front. inl (front.0, λ i. same i ∷ front.1 i)) (λ whole. inr (λ i. sym same i ∷ whole i)) (front_or_whole asks earlier later ask rest)

-- where the last are few, all were
were_still : (asks : List Ask) (ask : Ask) → WereFew asks → last_failures (asks ++ ask ∷ []) ≤ 3 → WereFew (asks ++ ask ∷ [])
were_still asks ask were few earlier later is =
    ⊎_elim (λ front. were earlier front.0 front.1) (λ whole. subst (λ (xs : List Ask). last_failures xs ≤ 3) (sym whole) few) (front_or_whole asks earlier later ask is)

steps_keep_asks : (steps : List Step) (world : World) → (happen steps world).asks ≡ world.asks
steps_keep_asks [] world = refl
steps_keep_asks (Send message ∷ steps) world = steps_keep_asks steps (happens (Send message) world)
steps_keep_asks (Deliver message joins ∷ steps) world = steps_keep_asks steps (happens (Deliver message joins) world)
steps_keep_asks (Other message ∷ steps) world = steps_keep_asks steps (happens (Other message) world)
steps_keep_asks (Relay message ∷ steps) world = steps_keep_asks steps (happens (Relay message) world)

steps_keep_client : (steps : List Step) (world : World) → (happen steps world).client ≡ world.client
steps_keep_client [] world = refl
steps_keep_client (Send message ∷ steps) world = steps_keep_client steps (happens (Send message) world)
steps_keep_client (Deliver message joins ∷ steps) world = steps_keep_client steps (happens (Deliver message joins) world)
steps_keep_client (Other message ∷ steps) world = steps_keep_client steps (happens (Other message) world)
steps_keep_client (Relay message ∷ steps) world = steps_keep_client steps (happens (Relay message) world)

-- ---- what is taken

-- no number of a client fell, and where no other client has one then, what was taken is the client's
record GoesRuled (client : ℕ) (s : Served) (taken : List TakenEntry) (t : Served) : Type 0 where
  pub up : (other : ℕ) → s.last other ≤ t.last other
  pub own : HasNoOthers client t → AreAllOf client taken

-- the number of no client falls
raised_up : (last : ℕ → ℕ) (of number other : ℕ) → number ≡ last of + 1 → last other ≤ with_last last of number other
raised_up last of number other next = by (other == of) refl
  where
    by : (same : Bool) → (other == of) ≡ same → last other ≤ (if same then number else last other)
    by true is = omega (arith, next, ap last (eqb-true other of is))
    by false is = le_refl (last other)

other_of : (client of : ℕ) → (of ≡ client) ⊎ (of ≢ client)
other_of client of = by (of == client) refl
  where
    by : (same : Bool) → (of == client) ≡ same → (of ≡ client) ⊎ (of ≢ client)
    by true is = inl (eqb-true of client is)
    by false is = inr (λ same. absurd (cc (sym is ∙ ap (λ (c : ℕ). c == client) same ∙ eq_itself client)))

module _ (client : ℕ) where
  none_goes : (s : Served) → GoesRuled client s [] s
  none_goes s = record { up = λ other. le_refl (s.last other); own = λ none entry among. absurd among }

  one_goes : (of number : ℕ) (effects : List Effect) (base : List Base) (new : Volume) (s : Served) → number ≡ s.last of + 1
      → GoesRuled client s (entry_stored of number effects base ∷ []) (raised_to of number new s)
  one_goes of number effects base new s next = record {
    up = λ other. raised_up s.last of number other next;
    own = λ none entry among.
        let higher : (raised_to of number new s).last of ≡ number = raised s.last of number in
        let same : of ≡ client = ⊎_elim (λ is. is) (λ other. absurd (omega (arith, higher, none of other, next))) (other_of client of) in
        ⊎_elim (λ is. ap (λ (e : TakenEntry). e.client) is ∙ same) (λ nowhere. absurd nowhere) among;
  }

  goes_on : (s t u : Served) (first second : List TakenEntry) → GoesRuled client s first t → GoesRuled client t second u → GoesRuled client s (first ++ second) u
  goes_on s t u first second one two = record {
    up = λ other. le_trans (one.up other) (two.up other);
    own = λ none entry among.
        let before : HasNoOthers client t = λ other apart. omega (arith, none other apart, two.up other) in
        ⊎_elim (one.own before entry) (two.own none entry) (in_either entry first second among);
  }

  goes_rule : Rule (GoesRuled client)
  goes_rule = record {
    nothing = none_goes;
    one = λ of number effects base new s next applied. one_goes of number effects base new s next;
    joined = goes_on;
  }

  -- of a step
  record StepGoes (old new : World) : Type 0 where
    pub up : (other : ℕ) → old.served.last other ≤ new.served.last other
    pub own : HasNoOthers client new.served → AreAllOf client old.taken → AreAllOf client new.taken

  same_goes : (world : World) → StepGoes world world
  same_goes world = record { up = λ other. le_refl (world.served.last other); own = λ none own. own }

  delivered_goes : (message : Message) (joins : Bool) (world : World) → StepGoes world (happens (Deliver message joins) world)
  delivered_goes message joins world =
      let goes = of_message (GoesRuled client) goes_rule message world.served in
      record {
        up = goes.up;
        own = λ none own entry among. ⊎_elim (own entry) (goes.own none entry) (in_either entry world.taken (taken_of message world.served) among);
      }

  step_goes : (step : Step) (world : World) → StepGoes world (happens step world)
  step_goes (Send message) world = record { up = λ other. le_refl (world.served.last other); own = λ none own. own }
  step_goes (Deliver message joins) world = delivered_goes message joins world
  step_goes (Other message) world = record { up = λ other. le_refl (world.served.last other); own = λ none own. own }
  step_goes (Relay message) world = record { up = λ other. le_refl (world.served.last other); own = λ none own. own }

  steps_go : (steps : List Step) (world : World) → StepGoes world (happen steps world)
  steps_go [] world = same_goes world
  steps_go (step ∷ steps) world =
      let one = step_goes step world in
      let rest = steps_go steps (happens step world) in
      record {
        up = λ other. le_trans (one.up other) (rest.up other);
        own = λ none own.
            let before : HasNoOthers client (happens step world).served = λ other apart. omega (arith, none other apart, rest.up other) in
            rest.own none (one.own before own);
      }

-- ---- moves

module _ (request : Message) (made : List Ask) (old new : World) (moved : Moved request made old new) where
  asks_after : new.asks ≡ old.asks ++ made
  asks_after = ap (λ (w : World). w.asks) moved.moves.result ∙ ap (λ (asks : List Ask). asks ++ made) (steps_keep_asks moved.moves.steps old)

  client_after : new.client ≡ old.client
  client_after = ap (λ (w : World). w.client) moved.moves.result ∙ steps_keep_client moved.moves.steps old

  own_after : HasNoOthers new.client new.served → AreAllOf old.client old.taken → AreAllOf new.client new.taken
  own_after none own =
      subst (λ (w : World). HasNoOthers w.client w.served → AreAllOf w.client w.taken) (sym moved.moves.result)
      (subst (λ (client : ℕ). HasNoOthers client (happen moved.moves.steps old).served → AreAllOf client (happen moved.moves.steps old).taken) (sym (steps_keep_client moved.moves.steps old))
      (λ still. (steps_go old.client moved.moves.steps old).own still own))
      none

-- ---- an ask

-- the fates left and the asks are so behind an ask with this answer
module _ (to : Peer) (address : List ℕ) (request : Message) (old new : World) (fates left : List Fate) (troubles now : ℕ) (rule : IsByRule old fates) (none : HasNoOthers new.client new.served) where
  module _ (result : Result (Vec ℕ Global) LinkError) (takes : TakesFates fates left troubles now to result) where
    whole : fates ≡ takes.takes.taken ++ left
    whole = all_gone takes.takes.taken fates left rule.plain takes.takes.split

    spread : FourPass left
    spread = spread_behind takes.takes.taken left (subst FourPass whole rule.spread)

    module _ (answer : Answer) (moved : Moved request (ask_of to address request answer ∷ []) old new) where
      abbrev made : List Ask
      made = ask_of to address request answer ∷ []

      ruled : last_failures new.asks + losses left ≤ 3 → IsByRule new left
      ruled few =
          let behind : new.asks ≡ old.asks ++ made = asks_after request made old new moved in
          record {
            plain = plain_behind takes.takes.taken left (subst (AllByRecursion IsPlain) whole rule.plain);
            spread = spread;
            few = few;
            were = subst WereFew (sym behind)
                (were_still old.asks (ask_of to address request answer) rule.were (omega (arith, few, ap last_failures behind)));
            own = own_after request made old new moved none rule.own;
          }

      asked : last_failures new.asks ≡ (if is_failure_of to answer then suc (last_failures old.asks) else 0)
      asked = ap last_failures (asks_after request made old new moved) ∙ one_more_ask 0 old.asks (ask_of to address request answer)

      no_failure : is_failure_of to answer ≡ false → IsByRule new left
      no_failure is =
          let nothing : last_failures new.asks ≡ 0 = asked ∙ ap (λ (b : Bool). if b then suc (last_failures old.asks) else 0) is in
          ruled (omega (arith, nothing, few_lose left spread))

-- ---- an ask of the server that failed

abbrev tail : List Fate → List Fate
tail [] = []
tail (fate ∷ fates) = fates

empty_front : (taken left : List Fate) → taken ++ left ≡ [] → taken ≡ []
empty_front [] left is = refl
empty_front (fate ∷ taken) left is = absurd (cc (is))

none_quiet : AreQuiet []
none_quiet fate among = absurd among

one_quiet : (first : Fate) → is_trouble first ≡ false → AreQuiet (first ∷ [])
one_quiet first quiet fate (inl same) = ap is_trouble same ∙ quiet
one_quiet first quiet fate (inr nowhere) = absurd nowhere

-- it took a fate that loses
module _ (left : List Fate) (troubles now : ℕ) where
  one_lost : (fates : List Fate) → AllByRecursion IsPlain fates → TakesFates fates left troubles now Server (Err LinkFailed) → losses fates ≡ suc (losses left)
  one_lost [] plain takes =
      absurd (takes.calm (subst AreQuiet (sym (empty_front takes.takes.taken left (sym (all_gone takes.takes.taken [] left plain takes.takes.split)))) none_quiet) refl)
  one_lost (first ∷ rest) plain takes = ⊎_elim alone (λ none. absurd (cc (none.1))) (takes.alone first rest refl (plain_decides first plain.0) refl).0
    where
      alone : takes.takes.taken ≡ first ∷ [] → losses (first ∷ rest) ≡ suc (losses left)
      alone one =
          let behind : rest ≡ left =
          ap tail (all_gone takes.takes.taken (first ∷ rest) left plain takes.takes.split ∙ ap (λ (front : List Fate). front ++ left) one) in
          ⊎_elim (λ loss. loss ∙ ap (λ (fates : List Fate). suc (losses fates)) behind)
          (λ quiet. absurd (takes.calm (subst AreQuiet (sym one) (one_quiet first quiet)) refl))
          (loses_or_quiet first rest plain.0)

-- ---- the rule is kept by each ask for which memory was not wanted

is_reply : (to : Peer) (reply : Message) → is_failure_of to (Reply reply) ≡ false
is_reply Server reply = refl
is_reply Surrogate reply = refl

module _ (address : List ℕ) (request : Message) (old new : World) (fates left : List Fate) (troubles now : ℕ) (rule : IsByRule old fates) (none : HasNoOthers new.client new.served) where
  lost : (to : Peer) → TakesFates fates left troubles now to (Err LinkFailed) → Moved request (ask_of to address request Failed ∷ []) old new → IsByRule new left
  lost Surrogate takes moved = no_failure Surrogate address request old new fates left troubles now rule none (Err LinkFailed) takes Failed moved refl
  lost Server takes moved =
      let more : last_failures new.asks ≡ suc (last_failures old.asks) = asked Server address request old new fates left troubles now rule none (Err LinkFailed) takes Failed moved in
      ruled Server address request old new fates left troubles now rule none (Err LinkFailed) takes Failed moved
      (omega (arith, more, one_lost left troubles now fates rule.plain takes, rule.few))

  pub kept_rule : (to : Peer) (result : Result (Vec ℕ Global) LinkError) → result ≢ Err LinkMemory → AsksOnce to address request old new result → TakesFates fates left troubles now to result → IsByRule new left
  kept_rule to (Ok frame) other asks takes =
      no_failure to address request old new fates left troubles now rule none (Ok frame) takes (Reply asks.0) asks.4 (is_reply to asks.0)
  kept_rule to (Err LinkFailed) other asks takes = lost to takes asks
  kept_rule to (Err LinkMemory) other asks takes = absurd (other refl)

-- the client of a world that an ask moved is as before
pub client_kept : (to : Peer) (address : List ℕ) (request : Message) (old new : World) (result : Result (Vec ℕ Global) LinkError) → AsksOnce to address request old new result → new.client ≡ old.client
client_kept to address request old new (Ok frame) asks = client_after request (ask_of to address request (Reply asks.0) ∷ []) old new asks.4
client_kept to address request old new (Err LinkFailed) asks = client_after request (ask_of to address request Failed ∷ []) old new asks
client_kept to address request old new (Err LinkMemory) asks =
    ⊎_elim (client_after request (ask_of to address request Memory ∷ []) old new) (client_after request [] old new) asks

-- ---- the network that is handed on

abbrev pub net_of : {R : Type 0} → Handing R → NetworkParts R
net_of handing = handing.net

abbrev pub wanted_of : {R : Type 0} → Handing R → Bool
wanted_of handing = handing.wanted

-- ---- law

-- four failed asks in a row are four more
all_fail : (count : ℕ) (row : List Ask) → ((ask : Ask) → IsIn ask row → is_server_failure ask ≡ true) → failures_behind count row ≡ count + length row
all_fail count [] fail = omega arith
all_fail count (ask ∷ row) fail =
    ap (λ (b : Bool). failures_behind (if b then suc count else 0) row) (fail ask (inl refl))
    ∙ all_fail (suc count) row (λ other among. fail other (inr among))
    ∙ omega arith

-- one of them did not fail, or all did
one_or_all : (row : List Ask) → ((ask : Ask) × IsIn ask row × (is_server_failure ask ≡ false)) ⊎ ((ask : Ask) → IsIn ask row → is_server_failure ask ≡ true)
one_or_all [] = inr (λ ask among. absurd among)
one_or_all (first ∷ row) = by (is_server_failure first) refl (one_or_all row)
  where
    by : (fails : Bool) → is_server_failure first ≡ fails
        → ((ask : Ask) × IsIn ask row × (is_server_failure ask ≡ false)) ⊎ ((ask : Ask) → IsIn ask row → is_server_failure ask ≡ true)
        → ((ask : Ask) × IsIn ask (first ∷ row) × (is_server_failure ask ≡ false)) ⊎ ((ask : Ask) → IsIn ask (first ∷ row) → is_server_failure ask ≡ true)
    by false is rest = inl (first, inl refl, is)
    by true is (inl one) = inl (one.0, inr one.1, one.2)
    by true is (inr all) = inr (λ ask among. ⊎_elim (λ same. ap is_server_failure same ∙ is) (all ask) among)

pub few_asks_fail_in_a_row : FewAsksFailInARow
few_asks_fail_in_a_row world fates rule earlier row later is four =
    ⊎_elim (λ one. one) (λ all. absurd (omega (arith, four, few, behind_both 0 earlier row, all_fail (last_failures earlier) row all))) (one_or_all row)
  where
    few : last_failures (earlier ++ row) ≤ 3
    few = rule.were (earlier ++ row) later is
