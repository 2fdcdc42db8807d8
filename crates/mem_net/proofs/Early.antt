-- Where no packet comes late before an ask is decided, the fates are taken and the troubles counted as without a surrogate.
use Rattle.std.proofs.Common.{◌≡◌, ◌⊎◌, inl, inr, ℕ, zero, suc, ◌+◌, Bool, true, false, List, [], ◌∷◌, drop, Result, Err, Vec, refl, sym, ◌∙◌, ap, subst}
use Rattle.std.specs.Prelude.{if◌then◌else◌}
use Rattle.std.specs.declared.alloc.Global.{Global}
use Rattle.std.proofs.lemmas.List.{drop-drop}
use Rattle.wire_frames.specs.declared.message.Message.{Message}
use Rattle.world_rules.specs.declared.link.LinkError.{LinkError}
use Rattle.world_rules.specs.declared.link.LinkError.TheVariants.{Memory as LinkMemory}
use Rattle.world_rules.specs.World.{sent}
use Rattle.mem_wires.specs.declared.fate.Fate.{Fate}
use Rattle.mem_wires.specs.declared.fate.Fate.TheVariants.{Pass, LoseRequest, LoseReply, Twice, Old, Late, Inject, Stop}
use Rattle.mem_wires.specs.Fates.{decides, deciding, left_by, left_after, comes_late, troubles_after, IsEndOf, LeavesFates}
use Rattle.mem_net.specs.Scenes.{Scene, with_world, with_fates, IsLateOperation, Befalls, FrontDecides, Reaches, BefallsInPart, IsFrontTaken, AllBefall, IsCutBefore}
use Rattle.mem_wires.proofs.Deciding.{left_is_end, leaves_after}

-- ---- one fate

-- no operation comes late by the front of such fates
front_not_late : (fate : Fate) (rest : List Fate) (scene : Scene) (request : Message) → comes_late (fate ∷ rest) ≡ false → IsLateOperation fate scene request → ⊥
front_not_late (Late k) rest scene request early late = absurd (cc)
front_not_late Pass rest scene request early late = absurd late
front_not_late LoseRequest rest scene request early late = absurd late
front_not_late LoseReply rest scene request early late = absurd late
front_not_late Twice rest scene request early late = absurd late
front_not_late (Old k) rest scene request early late = absurd late
front_not_late (Inject frame) rest scene request early late = absurd late
front_not_late Stop rest scene request early late = absurd late

-- and none behind it
rest_not_late : (fate : Fate) (rest : List Fate) → decides fate ≡ false → comes_late (fate ∷ rest) ≡ false → comes_late rest ≡ false
rest_not_late (Late k) rest waits early = absurd (cc)
rest_not_late Pass rest waits early = absurd (cc)
rest_not_late LoseRequest rest waits early = absurd (cc)
rest_not_late LoseReply rest waits early = absurd (cc)
rest_not_late Twice rest waits early = absurd (cc)
rest_not_late (Old k) rest waits early = absurd (cc)
rest_not_late (Inject frame) rest waits early = early
rest_not_late Stop rest waits early = absurd (cc)

skips : (fate : Fate) {X : Type 0} (here later : X) → decides fate ≡ false → (if decides fate then here else later) ≡ later
skips fate here later waits = ap (λ (b : Bool). if b then here else later) waits

stops : (fate : Fate) {X : Type 0} (here later : X) → decides fate ≡ true → (if decides fate then here else later) ≡ here
stops fate here later decided = ap (λ (b : Bool). if b then here else later) decided

-- the fates and the troubles are those of the scene before
abbrev Spares : Scene → Scene → Type 0
Spares old new = (new.fates ≡ old.fates) × (new.troubles ≡ old.troubles)

stays_spares : (old new : Scene) → new ≡ with_world new.world old → Spares old new
stays_spares old new stays = (ap (λ (s : Scene). s.fates) stays, ap (λ (s : Scene). s.troubles) stays)

befalls_spares : (fate : Fate) (old new : Scene) → ((request : Message) → IsLateOperation fate old request → ⊥) → Befalls fate old new → Spares old new
befalls_spares fate old new none (inl handled) = absurd (none handled.0 handled.2)
befalls_spares fate old new none (inr nothing) = (ap (λ (s : Scene). s.fates) nothing.1, ap (λ (s : Scene). s.troubles) nothing.1)

in_part_spares : (fate : Fate) (old new : Scene) → ((request : Message) → IsLateOperation fate old request → ⊥) → BefallsInPart fate old new → Spares old new
in_part_spares fate old new none (inl stays) = stays_spares old new stays
in_part_spares fate old new none (inr part) = absurd (none part.0 part.1)

-- ---- up to the fate that decides

pub record IsEarly (fate : Fate) (old new : Scene) : Type 0 where
  pub decided : fate ≡ deciding old.fates
  pub left : new.fates ≡ left_after old.fates
  pub troubles : new.troubles ≡ old.troubles

early_none : (fate : Fate) (old new : Scene) → old.fates ≡ [] → fate ≡ Pass → new ≡ old → IsEarly fate old new
early_none fate old new none pass same = record {
  decided = pass ∙ sym (ap deciding none);
  left = ap (λ (s : Scene). s.fates) same ∙ none ∙ sym (ap left_after none);
  troubles = ap (λ (s : Scene). s.troubles) same;
}

early_one : (fate first : Fate) (rest : List Fate) (old new : Scene) → old.fates ≡ first ∷ rest → decides first ≡ true → fate ≡ first → new ≡ with_fates (left_by first rest) old → IsEarly fate old new
early_one fate first rest old new front decided is same = record {
  decided = is ∙ sym (ap deciding front ∙ stops first first (deciding rest) decided);
  left = ap (λ (s : Scene). s.fates) same ∙ sym (ap left_after front ∙ stops first (left_by first rest) (left_after rest) decided);
  troubles = ap (λ (s : Scene). s.troubles) same;
}

early_more : (fate first : Fate) (rest : List Fate) (old middle new : Scene) → old.fates ≡ first ∷ rest → decides first ≡ false → Spares (with_fates rest old) middle → IsEarly fate middle new → IsEarly fate old new
early_more fate first rest old middle new front waits spares later = record {
  decided = later.decided ∙ ap deciding spares.0 ∙ sym (ap deciding front ∙ skips first first (deciding rest) waits);
  left = later.left ∙ ap left_after spares.0 ∙ sym (ap left_after front ∙ skips first (left_by first rest) (left_after rest) waits);
  troubles = later.troubles ∙ spares.1;
}

pub reached_early : (count : ℕ) (old : Scene) (fate : Fate) (new : Scene) → comes_late old.fates ≡ false → Reaches count old fate new → IsEarly fate old new
reached_early zero old fate new early reaches = absurd reaches
reached_early (suc count) old fate new early reaches = by old.fates refl reaches (λ middle still further. reached_early count middle fate new still further)
  where
    by : (fates : List Fate) → old.fates ≡ fates → FrontDecides (Reaches count) fates old fate new
        → ((middle : Scene) → comes_late middle.fates ≡ false → Reaches count middle fate new → IsEarly fate middle new) → IsEarly fate old new
    by [] is front later = early_none fate old new is front.0 front.1
    by (first ∷ rest) is (inl here) later = early_one fate first rest old new is here.0 here.1 here.2
    by (first ∷ rest) is (inr there) later =
        let so : comes_late (first ∷ rest) ≡ false = sym (ap comes_late is) ∙ early in
        let spares = befalls_spares first (with_fates rest old) there.1.0 (λ request late. front_not_late first rest (with_fates rest old) request so late) there.1.1 in
        early_more fate first rest old there.1.0 new is there.0 spares (later there.1.0 (ap comes_late spares.0 ∙ rest_not_late first rest there.0 so) there.1.2)

-- ---- where memory runs out before

-- fates that decide nothing are gone, and no trouble was counted
pub record GoesEarly (old new : Scene) : Type 0 where
  pub early : comes_late new.fates ≡ false
  pub left : left_after new.fates ≡ left_after old.fates
  pub rest : IsEndOf new.fates old.fates
  pub troubles : new.troubles ≡ old.troubles

-- one more is taken
module _ (old middle taken : Scene) (fate : Fate) (so_far : GoesEarly old middle) (front : IsFrontTaken fate middle taken) where
  so : comes_late (fate ∷ front.0) ≡ false
  so = sym (ap comes_late front.1) ∙ so_far.early

  none_late : (request : Message) → IsLateOperation fate taken request → ⊥
  none_late request late = front_not_late fate front.0 taken request so late

  pub goes_taken : (new : Scene) → Spares taken new → GoesEarly old new
  goes_taken new spares =
      let now : new.fates ≡ front.0 = spares.0 ∙ ap (λ (s : Scene). s.fates) front.3 in
      let behind : front.0 ≡ drop 1 middle.fates = sym (ap (λ (l : List Fate). drop 1 l) front.1) in
      record {
        early = ap comes_late now ∙ rest_not_late fate front.0 front.2 so;
        left = ap left_after now ∙ sym (ap left_after front.1 ∙ skips fate (left_by fate front.0) (left_after front.0) front.2) ∙ so_far.left;
        rest = (so_far.rest.0 + 1, now ∙ behind ∙ ap (λ (l : List Fate). drop 1 l) so_far.rest.1 ∙ drop-drop 1 so_far.rest.0 old.fates);
        troubles = spares.1 ∙ ap (λ (s : Scene). s.troubles) front.3 ∙ so_far.troubles;
      }

  pub goes_befallen : (new : Scene) → Befalls fate taken new → GoesEarly old new
  goes_befallen new befell = goes_taken new (befalls_spares fate taken new none_late befell)

  pub goes_in_part : (new : Scene) → BefallsInPart fate taken new → GoesEarly old new
  goes_in_part new part = goes_taken new (in_part_spares fate taken new none_late part)

goes_none_early : (old new : Scene) → comes_late old.fates ≡ false → new ≡ old → GoesEarly old new
goes_none_early old new early same = record {
  early = ap (λ (s : Scene). comes_late s.fates) same ∙ early;
  left = ap (λ (s : Scene). left_after s.fates) same;
  rest = (0, ap (λ (s : Scene). s.fates) same);
  troubles = ap (λ (s : Scene). s.troubles) same;
}

all_early : (count : ℕ) (old new : Scene) → comes_late old.fates ≡ false → AllBefall count old new → GoesEarly old new
all_early zero old new early same = goes_none_early old new early same
all_early (suc count) old new early all =
    goes_befallen old all.0 all.1 all.2 (all_early count old all.0 early all.3) all.4 new all.5

cut_goes : (old new : Scene) → comes_late old.fates ≡ false → IsCutBefore old new → GoesEarly old new
cut_goes old new early cut =
    goes_in_part old cut.1 cut.2 cut.3 (all_early cut.0 old cut.1 early cut.4) cut.5 new cut.6

-- ---- a whole ask of the server

abbrev pub IsLone : Result (Vec ℕ Global) LinkError → Scene → Scene → Type 0
IsLone result old new = LeavesFates result old.fates new.fates × (new.troubles ≡ troubles_after (deciding old.fates) result old.troubles)

goes_lone : (old new : Scene) → GoesEarly old new → IsLone (Err LinkMemory) old new
goes_lone old new goes = ((goes.rest, subst (λ (l : List Fate). IsEndOf l new.fates) goes.left (left_is_end new.fates)), goes.troubles)

pub lone_in_want : (m : Message) (old new : Scene) → comes_late old.fates ≡ false → (new ≡ old) ⊎ IsCutBefore (with_world (sent m old.world) old) new → IsLone (Err LinkMemory) old new
lone_in_want m old new early (inl same) = goes_lone old new (goes_none_early old new early same)
lone_in_want m old new early (inr cut) = goes_lone (with_world (sent m old.world) old) new (cut_goes (with_world (sent m old.world) old) new early cut)

pub lone_met : (result : Result (Vec ℕ Global) LinkError) (fate : Fate) (old reached new : Scene) → IsEarly fate old reached
    → new.fates ≡ reached.fates → new.troubles ≡ troubles_after fate result reached.troubles → IsLone result old new
lone_met result fate old reached new early same counted = (leaves_after result old.fates new.fates (same ∙ early.left), counted ∙ ap (λ (f : Fate). troubles_after f result reached.troubles) early.decided ∙ ap (troubles_after (deciding old.fates) result) early.troubles)
