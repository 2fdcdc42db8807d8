use Rattle.std.proofs.Common.{◌≡◌, ◌≢◌, inl, inr, ℕ, zero, suc, true, List, [], ◌∷◌, Vec, Result, Ok, Err, refl, sym, ◌∙◌, ap, subst}
use Rattle.std.specs.declared.alloc.Global.{Global}
use Rattle.wire_frames.specs.declared.message.Message.{Message}
use Rattle.world_rules.specs.declared.asking.Peer.{Peer}
use Rattle.world_rules.specs.declared.asking.Peer.TheVariants.{Server, Surrogate}
use Rattle.world_rules.specs.declared.asking.Answer.TheVariants.{Failed}
use Rattle.world_rules.specs.declared.link.LinkError.{LinkError}
use Rattle.world_rules.specs.declared.link.LinkError.TheVariants.{Failed as LinkFailed, Memory as LinkMemory}
use Rattle.world_rules.specs.World.{World, sent}
use Rattle.mem_wires.specs.declared.fate.Fate.{Fate}
use Rattle.mem_wires.specs.declared.fate.Fate.TheVariants.{Pass, LoseRequest, LoseReply, Twice, Old, Late, Inject, Stop}
use Rattle.mem_wires.specs.Fates.{is_stopped, answered, one_more}
use Rattle.mem_net.specs.Scenes.{Scene, with_world, with_fates, with_troubles, FrontDecides, Reaches, IsReached, MeetsAlone, IsDecided, IsMet}
use Rattle.mem_net.proofs.laws.stops_stay.Goals as goal

-- a network that is stopped has a stop in front
stop_first : (fates : List Fate) → is_stopped fates ≡ true → (rest : List Fate) × (fates ≡ Stop ∷ rest)
stop_first [] is = absurd (cc is)
stop_first (Pass ∷ rest) is = absurd (cc is)
stop_first (LoseRequest ∷ rest) is = absurd (cc is)
stop_first (LoseReply ∷ rest) is = absurd (cc is)
stop_first (Twice ∷ rest) is = absurd (cc is)
stop_first (Old k ∷ rest) is = absurd (cc is)
stop_first (Late k ∷ rest) is = absurd (cc is)
stop_first (Inject frame ∷ rest) is = absurd (cc is)
stop_first (Stop ∷ rest) is = (rest, refl)

-- the stop decides, and stays
stop_decides : (Next : Scene → Fate → Scene → Type 0) (rest : List Fate) (start : Scene) (fate : Fate) (reached : Scene) → start.fates ≡ Stop ∷ rest
    → FrontDecides Next (Stop ∷ rest) start fate reached → (fate ≡ Stop) × (reached ≡ start)
stop_decides Next rest start fate reached is (inl front) = (front.1, front.2 ∙ ap (λ (fates : List Fate). with_fates fates start) (sym is))
stop_decides Next rest start fate reached is (inr waits) = absurd (cc (waits.0))

stop_reached : (rest : List Fate) (start : Scene) (fate : Fate) (reached : Scene) → start.fates ≡ Stop ∷ rest → IsReached start fate reached
    → (fate ≡ Stop) × (reached ≡ start)
stop_reached rest start fate reached is (zero, never) = absurd never
stop_reached rest start fate reached is (suc count, reaches) =
    stop_decides (Reaches count) rest start fate reached is (subst (λ (fates : List Fate). FrontDecides (Reaches count) fates start fate reached) is reaches)

module _ (to : Peer) (address : List ℕ) (request : Message) (start new : Scene) where
  -- it is met alone, whoever is asked
  met_alone : (result : Result (Vec ℕ Global) LinkError) → MeetsAlone Stop to address request start new result → result ≢ Err LinkMemory
      → (result ≡ Err LinkFailed) × (new ≡ with_troubles (one_more start.troubles) (with_world (answered to address request Failed start.world) start))
  met_alone (Ok frame) (never, left) kept = absurd never
  met_alone (Err LinkMemory) meets kept = absurd (kept refl)
  met_alone (Err LinkFailed) (world, left) kept =
      (refl, left ∙ ap (λ (w : World). with_troubles (one_more start.troubles) (with_world w start)) world)

alone_of : (to : Peer) (address : List ℕ) (request : Message) (start new : Scene) (result : Result (Vec ℕ Global) LinkError)
    → IsDecided to Stop address request start new result → MeetsAlone Stop to address request start new result
alone_of Server address request start new result decided = decided
alone_of Surrogate address request start new result decided = decided

stays : (to : Peer) (address : List ℕ) (request : Message) (old new : Scene) (result : Result (Vec ℕ Global) LinkError) → is_stopped old.fates ≡ true
    → IsMet to address request old new result → result ≢ Err LinkMemory
    → (result ≡ Err LinkFailed) × (new ≡ with_troubles (one_more old.troubles) (with_world (answered to address request Failed (sent request old.world)) old))
stays to address request old new result stopped met kept =
    let first = stop_first old.fates stopped in
    let start = with_world (sent request old.world) old in
    let reached = stop_reached first.0 start met.fate met.reached first.1 met.reaches in
    let decided = subst (λ (f : Fate). IsDecided to f address request met.reached new result) reached.0 met.meets in
    met_alone to address request start new result
    (alone_of to address request start new result (subst (λ (s : Scene). IsDecided to Stop address request s new result) reached.1 decided)) kept

pub returns : goal.returns
returns c = stays
