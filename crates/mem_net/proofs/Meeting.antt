-- What becomes of an ask by the fate that decides it, beside a surrogate.
use Rattle.std.proofs.Common.{◌≡◌, ◌⊎◌, inl, inr, ℕ, suc, ◌≤◌, false, List, [], ◌++◌, Result, Ok, Err, Vec, IfOk, sym, ◌∙◌, subst, arith}
use Rattle.std.specs.Prelude.{IfErr, OnOk, OnErr}
use Rattle.std.specs.declared.alloc.Global.{Global}
use Rattle.outside.specs.Outside.{Rose}
use Rattle.tree_values.specs.Lists.{IsIn}
use Rattle.tree_values.specs.Tree.{Volume}
use Rattle.cmd_capture.specs.Runs.{RunnerTelling}
use Rattle.wire_frames.specs.declared.message.Message.{Message}
use Rattle.wire_frames.specs.Frame.{Spells, Echoes}
use Rattle.world_rules.specs.declared.asking.Peer.{Peer}
use Rattle.world_rules.specs.declared.asking.Peer.TheVariants.{Server, Surrogate}
use Rattle.world_rules.specs.declared.asking.Answer.TheVariants.{Reply, Failed}
use Rattle.world_rules.specs.declared.link.LinkError.{LinkError}
use Rattle.world_rules.specs.declared.link.LinkError.TheVariants.{Failed as LinkFailed, Memory as LinkMemory}
use Rattle.world_rules.specs.World.{World, Is, MovedBy, sent}
use Rattle.world_rules.proofs.Asks.{IsIn-last, moved_by_none}
use Rattle.mem_wires.specs.declared.fate.Fate.{Fate}
use Rattle.mem_wires.specs.declared.fate.Fate.TheVariants.{Pass, LoseRequest, LoseReply, Twice, Old, Late, Inject, Stop}
use Rattle.mem_wires.specs.Wire.{Wire, world_of}
use Rattle.mem_wires.specs.Fates.{answered, is_trouble, troubles_after}
use Rattle.mem_wires.specs.Spending.{TakesFront}
use Rattle.mem_net.specs.Scenes.{Scene, with_world, with_troubles, IsHandled, MeetsAlone, MeetsOperation, UnlessMemory, IsDecided, IsReached, IsMet}
use Rattle.mem_net.specs.Scenes.{OnMemory, StaysButWorld, IsHandledInPart, handlings, IsCutBefore, IsCutShort}
use Rattle.mem_wires.specs.Underway.{MovedFree, AsksSent, MeetsUnlessMemory, KeepsFates}
use Rattle.mem_net.specs.Inside.{TakesBeside}
use Rattle.mem_wires.proofs.Steps.{got_in, noted_ask}
use Rattle.mem_net.proofs.Handling.{scene_by, stays_by}

-- ---- the two errors

not_failed : LinkFailed ≡ LinkMemory → ⊥
not_failed is = absurd (cc)

-- ---- an ask that the wires meet

-- a fate that is no trouble does not fail an ask
pub quiet_meets : (fate : Fate) (to : Peer) (address : List ℕ) (m : Message) (a d : World) (result : Result (Vec ℕ Global) LinkError)
    → MeetsUnlessMemory fate to address m a d result → is_trouble fate ≡ false → result ≡ Err LinkFailed → ⊥
quiet_meets fate to address m a d (Ok bytes) met quiet failed = absurd (cc)
quiet_meets fate to address m a d (Err LinkMemory) met quiet failed = absurd (cc)
quiet_meets Pass to address m a d (Err LinkFailed) met quiet failed = met
quiet_meets Twice to address m a d (Err LinkFailed) met quiet failed = met
quiet_meets LoseRequest to address m a d (Err LinkFailed) met quiet failed = absurd (cc)
quiet_meets LoseReply to address m a d (Err LinkFailed) met quiet failed = absurd (cc)
quiet_meets (Old k) to address m a d (Err LinkFailed) met quiet failed = absurd (cc)
quiet_meets (Late k) to address m a d (Err LinkFailed) met quiet failed = met
quiet_meets (Inject frame) to address m a d (Err LinkFailed) met quiet failed = met
quiet_meets Stop to address m a d (Err LinkFailed) met quiet failed = absurd (cc)

module _ (to : Peer) (address : List ℕ) (m : Message) (copy : Volume) (runner : RunnerTelling) (a d : Wire) where
  scene_after : (fate : Fate) (result : Result (Vec ℕ Global) LinkError) → d.fates ≡ a.fates → d.troubles ≡ troubles_after fate result a.troubles
      → scene_by d copy runner ≡ with_troubles (troubles_after fate result a.troubles) (with_world (world_of d) (scene_by a copy runner))
  scene_after fate result same counted = λ i. record { world = world_of d; fates = same i; troubles = counted i; copy = copy; runner = runner }

  pub alone_met : (fate : Fate) (result : Result (Vec ℕ Global) LinkError) → MeetsUnlessMemory fate to address m (world_of a) (world_of d) result
      → d.fates ≡ a.fates → d.troubles ≡ troubles_after fate result a.troubles
      → UnlessMemory result (MeetsAlone fate to address m (scene_by a copy runner) (scene_by d copy runner) result)
  alone_met fate (Ok bytes) met same counted = (met, scene_after fate (Ok bytes) same counted)
  alone_met fate (Err LinkFailed) met same counted = (met, scene_after fate (Err LinkFailed) same counted)
  alone_met fate (Err LinkMemory) met same counted = tt

-- ---- an operation that is handled

pub handled_among : (m reply : Message) (a b : Scene) → IsHandled m reply a b → IsIn reply b.world.packets
handled_among m reply a b handled = subst (λ (s : Scene). IsIn reply s.world.packets) (sym handled.2) (IsIn-last reply handled.0.world.packets)

module _ (address : List ℕ) (m reply : Message) (copy : Volume) (runner : RunnerTelling) (start : Scene) (a b d : Wire)
    (handled : IsHandled m reply start (scene_by b copy runner)) (echoes : Echoes m reply) (moved : MovedFree (world_of a) (world_of b)) (kept : KeepsFates b d) where
  -- and its reply is the answer
  pub pass_met : (result : Result (Vec ℕ Global) LinkError) → OnOk result (world_of d ≡ answered Surrogate address m (Reply reply) (world_of b))
      → IfOk result (λ bytes. Spells reply bytes.items) → IfErr result (λ error. error ≡ LinkMemory)
      → UnlessMemory result (MeetsOperation Pass Surrogate address m start (scene_by d copy runner) result)
  pass_met (Ok bytes) is spells memory =
      (reply, scene_by b copy runner, handled, spells, λ i. record { world = is i; fates = kept.0 i; troubles = kept.1 i; copy = copy; runner = runner })
  pass_met (Err LinkFailed) is spells memory = absurd (not_failed memory)
  pass_met (Err LinkMemory) is spells memory = tt

  pub pass_once : (result : Result (Vec ℕ Global) LinkError) → OnOk result (world_of d ≡ answered Surrogate address m (Reply reply) (world_of b))
      → IfOk result (λ bytes. Spells reply bytes.items) → OnErr result (d ≡ b) → IfErr result (λ error. error ≡ LinkMemory)
      → AsksSent Surrogate address m (world_of a) (world_of d) result
  pass_once (Ok bytes) is spells same memory = (
    reply,
    spells,
    echoes,
    subst (λ (w : World). IsIn reply w.packets) (sym is) (handled_among m reply start (scene_by b copy runner) handled),
    noted_ask Surrogate address m (Reply reply) (world_of a) (world_of b) (world_of d) (moved m) is,
  )
  pass_once (Err LinkFailed) is spells same memory = absurd (not_failed memory)
  pass_once (Err LinkMemory) is spells same memory = inr (subst (λ (w : Wire). MovedBy (Is m) [] (world_of a) (world_of w)) (sym same) (moved m))

-- a second handling
pub twice_met : (address : List ℕ) (m first : Message) (a b d : Scene) (result : Result (Vec ℕ Global) LinkError) → IsHandled m first a b
    → UnlessMemory result (MeetsOperation Pass Surrogate address m b d result) → UnlessMemory result (MeetsOperation Twice Surrogate address m a d result)
twice_met address m first a b d (Ok bytes) handled met = (first, b, handled, met)
twice_met address m first a b d (Err LinkFailed) handled met = absurd met
twice_met address m first a b d (Err LinkMemory) handled met = tt

-- the reply is lost
pub lost_reply_met : (address : List ℕ) (m lost : Message) (a b d : Scene) (result : Result (Vec ℕ Global) LinkError) → IsHandled m lost a b
    → UnlessMemory result (MeetsAlone LoseRequest Surrogate address m b d result) → UnlessMemory result (MeetsOperation LoseReply Surrogate address m a d result)
lost_reply_met address m lost a b d (Ok bytes) handled met = absurd met.0
lost_reply_met address m lost a b d (Err LinkFailed) handled met = (lost, b, handled, met)
lost_reply_met address m lost a b d (Err LinkMemory) handled met = tt

-- an old packet is the answer, or none
pub old_once : (k : ℕ) (to : Peer) (address : List ℕ) (m : Message) (a d : World) (result : Result (Vec ℕ Global) LinkError)
    → MeetsUnlessMemory (Old k) to address m a d result → AsksSent to address m a d result
old_once k to address m a d (Ok bytes) met =
    let reply = met.0 in (
      reply,
      met.3,
      met.2,
      subst (λ (w : World). IsIn reply w.packets) (sym met.4) (got_in a.packets k reply met.1),
      noted_ask to address m (Reply reply) a a d (moved_by_none (Is m) a) met.4,
    )
old_once k to address m a d (Err LinkFailed) met = noted_ask to address m Failed a a d (moved_by_none (Is m) a) met.1
old_once k to address m a d (Err LinkMemory) met = met

-- ---- what it takes

pub beside_quiet : (fate : Fate) (a b : List Fate) (x y : ℕ) → TakesFront a b x y → TakesBeside fate a b x y
beside_quiet fate a b x y takes = record { taken = takes.taken; split = takes.split; later = takes.later; calm = λ quiet others. takes.calm others }

-- a count that rose after a while rose in the whole
pub rose_later : (x y z : ℕ) → x ≤ y → Rose y z → Rose x z
rose_later x y z later rose = omega (arith, later, rose)

-- ---- a whole ask

pub met_by_server : (to : Peer) (fate : Fate) (address : List ℕ) (m : Message) (b d : Scene) (result : Result (Vec ℕ Global) LinkError) → Server ≡ to
    → UnlessMemory result (MeetsAlone fate Server address m b d result) → UnlessMemory result (IsDecided to fate address m b d result)
met_by_server to fate address m b d result is met = subst (λ (p : Peer). UnlessMemory result (IsDecided p fate address m b d result)) is met

pub met_by_surrogate : (to : Peer) (fate : Fate) (address : List ℕ) (m : Message) (b d : Scene) (result : Result (Vec ℕ Global) LinkError) → Surrogate ≡ to
    → UnlessMemory result (MeetsOperation fate Surrogate address m b d result) → UnlessMemory result (IsDecided to fate address m b d result)
met_by_surrogate to fate address m b d result is met = subst (λ (p : Peer). UnlessMemory result (IsDecided p fate address m b d result)) is met

pub is_met : (to : Peer) (fate : Fate) (address : List ℕ) (m : Message) (a b d : Scene) (result : Result (Vec ℕ Global) LinkError)
    → IsReached (with_world (sent m a.world) a) fate b → UnlessMemory result (IsDecided to fate address m b d result) → UnlessMemory result (IsMet to address m a d result)
is_met to fate address m a b d (Ok bytes) reaches met = record { fate = fate; reached = b; reaches = reaches; meets = met }
is_met to fate address m a b d (Err LinkFailed) reaches met = record { fate = fate; reached = b; reaches = reaches; meets = met }
is_met to fate address m a b d (Err LinkMemory) reaches met = tt

-- the surrogate's ask, by a fate that is no trouble
pub quiet_operates : (fate : Fate) (address : List ℕ) (m : Message) (b d : Scene) (result : Result (Vec ℕ Global) LinkError)
    → UnlessMemory result (MeetsOperation fate Surrogate address m b d result) → is_trouble fate ≡ false → result ≡ Err LinkFailed → ⊥
quiet_operates fate address m b d (Ok bytes) met quiet failed = absurd (cc)
quiet_operates fate address m b d (Err LinkMemory) met quiet failed = absurd (cc)
quiet_operates Pass address m b d (Err LinkFailed) met quiet failed = met
quiet_operates Twice address m b d (Err LinkFailed) met quiet failed = met
quiet_operates LoseRequest address m b d (Err LinkFailed) met quiet failed = absurd (cc)
quiet_operates LoseReply address m b d (Err LinkFailed) met quiet failed = absurd (cc)
quiet_operates (Old k) address m b d (Err LinkFailed) met quiet failed = absurd (cc)
quiet_operates (Late k) address m b d (Err LinkFailed) met quiet failed = met
quiet_operates (Inject frame) address m b d (Err LinkFailed) met quiet failed = met
quiet_operates Stop address m b d (Err LinkFailed) met quiet failed = absurd (cc)

-- ---- where memory runs out

pub on_memory : (fact : Type 0) (result : Result (Vec ℕ Global) LinkError) → OnErr result fact → OnMemory result fact
on_memory fact (Ok bytes) is = tt
on_memory fact (Err LinkFailed) is = tt
on_memory fact (Err LinkMemory) is = is

-- what the wires meet alone stays but for the world
pub stays_met : (fate : Fate) (result : Result (Vec ℕ Global) LinkError) (a d : Wire) (copy : Volume) (runner : RunnerTelling) → d.fates ≡ a.fates → d.troubles ≡ troubles_after fate result a.troubles
    → OnMemory result (StaysButWorld (scene_by a copy runner) (scene_by d copy runner))
stays_met fate (Ok bytes) a d copy runner fates troubles = tt
stays_met fate (Err LinkFailed) a d copy runner fates troubles = tt
stays_met fate (Err LinkMemory) a d copy runner fates troubles = stays_by a d copy runner fates troubles

-- an operation was handled, and then memory ran out in it once more, or in noting the ask
pub cut_after : (count : ℕ) (m reply : Message) (a b d : Scene) (result : Result (Vec ℕ Global) LinkError) → IsHandled m reply a b → OnMemory result (IsHandledInPart count m b d)
    → OnMemory result (IsHandledInPart (suc count) m a d)
cut_after count m reply a b d (Ok bytes) handled cut = tt
cut_after count m reply a b d (Err LinkFailed) handled cut = tt
cut_after count m reply a b d (Err LinkMemory) handled cut = inr (reply, b, handled, cut)

pub cut_passing : (m reply : Message) (a : Scene) (b d : Wire) (copy : Volume) (runner : RunnerTelling) (result : Result (Vec ℕ Global) LinkError) → IsHandled m reply a (scene_by b copy runner)
    → KeepsFates b d → OnErr result (IsHandledInPart 1 m a (scene_by d copy runner))
cut_passing m reply a b d copy runner (Ok bytes) handled kept = tt
cut_passing m reply a b d copy runner (Err error) handled kept = inr (reply, scene_by b copy runner, handled, stays_by b d copy runner kept.0 kept.1)

pub is_cut : (to : Peer) (fate : Fate) (m : Message) (a b d : Scene) (result : Result (Vec ℕ Global) LinkError)
    → IsReached (with_world (sent m a.world) a) fate b → OnMemory result (IsHandledInPart (handlings to fate) m b d) → OnMemory result (IsCutShort to m a d)
is_cut to fate m a b d (Ok bytes) reaches cut = tt
is_cut to fate m a b d (Err LinkFailed) reaches cut = tt
is_cut to fate m a b d (Err LinkMemory) reaches cut = inr (inr (fate, b, reaches, cut))

-- before it was decided
pub is_cut_before : (to : Peer) (m : Message) (a d : Scene) → (d ≡ a) ⊎ IsCutBefore (with_world (sent m a.world) a) d → IsCutShort to m a d
is_cut_before to m a d (inl same) = inl same
is_cut_before to m a d (inr cut) = inr (inl cut)
