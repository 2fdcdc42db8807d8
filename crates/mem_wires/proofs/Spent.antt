-- What one ask takes of the wires, and what it leaves.
use Rattle.std.proofs.Common.{◌≡◌, inl, inr, ⊎_elim, ℕ, ◌≤◌, Bool, true, false, List, [], ◌∷◌, ◌++◌, Result, Ok, Err, Vec, refl, sym, ◌∙◌, ap, subst, arith}
use Rattle.std.specs.Prelude.{if◌then◌else◌}
use Rattle.std.specs.declared.alloc.Global.{Global}
use Rattle.std.proofs.Math.Nat.{le_refl, le_trans}
use Rattle.std.proofs.lemmas.List.{append_cancel_left}
use Rattle.tree_values.specs.Lists.{IsIn}
use Rattle.wire_frames.specs.declared.message.Message.{Message}
use Rattle.world_rules.specs.declared.asking.Peer.{Peer}
use Rattle.world_rules.specs.declared.asking.Peer.TheVariants.{Server}
use Rattle.world_rules.specs.declared.asking.Ask.{Ask}
use Rattle.world_rules.specs.declared.asking.Answer.TheVariants.{Reply, Failed, Memory}
use Rattle.world_rules.specs.declared.link.LinkError.{LinkError}
use Rattle.world_rules.specs.declared.link.LinkError.TheVariants.{Failed as LinkFailed, Memory as LinkMemory}
use Rattle.world_rules.specs.World.{World, Step, happens, happen, Is, MovedBy, Moved}
use Rattle.world_rules.specs.Asking.{ask_of, AsksOnce, IsDirect}
use Rattle.world_rules.proofs.Asks.{moved_by_then}
use Rattle.world_rules.proofs.Runs.{asked_by_step}
use Rattle.mem_wires.specs.declared.fate.Fate.{Fate}
use Rattle.mem_wires.specs.Wire.{Wire, world_of}
use Rattle.mem_wires.specs.Fates.{decides, is_trouble, deciding, left_by, left_after, one_more, troubles_after, AreTakenFrom, AreLeft}
use Rattle.mem_wires.specs.Spending.{IsAny, AreGiven, AreQuiet, TakesFront, Spends, quiet_front, quiet_behind, taken_then}
use Rattle.world_rules.proofs.Allowing.{moved_as}
use Rattle.mem_wires.proofs.Deciding.{left_by_waiting}

-- ---- the asks that moves note

pub asks_kept : (steps : List Step) (world : World) → (happen steps world).asks ≡ world.asks
asks_kept [] world = refl
asks_kept (step ∷ steps) world = asks_kept steps (happens step world) ∙ asked_by_step step world

pub moved_asks : (P : Message → Type 0) (made : List Ask) (a b : World) → MovedBy P made a b → b.asks ≡ a.asks ++ made
moved_asks P made a b moves = ap (λ (w : World). w.asks) moves.result ∙ ap (λ (asks : List Ask). asks ++ made) (asks_kept moves.steps a)

-- asks that two moves between the same worlds note are the same
pub one_made : (P Q : Message → Type 0) (made asks : List Ask) (a b : World) → MovedBy P made a b → MovedBy Q asks a b → made ≡ asks
one_made P Q made asks a b first second = append_cancel_left a.asks made asks (sym (moved_asks P made a b first) ∙ moved_asks Q asks a b second)

-- ---- the fates up to the one that decides

abbrev pub taken_of : List Fate → List Fate
taken_of [] = []
taken_of (fate ∷ fates) = fate ∷ (if decides fate then [] else taken_of fates)

pub taken_left : (fates : List Fate) → AreTakenFrom (taken_of fates) fates (left_after fates)
taken_left [] = refl
taken_left (fate ∷ fates) = (fates, refl, by (decides fate) (left_by_waiting fate fates) (taken_left fates))
  where
    by : (b : Bool) → (b ≡ false → left_by fate fates ≡ fates) → AreTakenFrom (taken_of fates) fates (left_after fates)
        → AreTakenFrom (if b then [] else taken_of fates) (left_by fate fates) (if b then left_by fate fates else left_after fates)
    by true waits rest = refl
    by false waits rest = subst (λ (l : List Fate). AreTakenFrom (taken_of fates) l (left_after fates)) (sym (waits refl)) rest

pub taken_as : (taken fates left now : List Fate) → AreTakenFrom taken fates left → now ≡ left → AreTakenFrom taken fates now
taken_as taken fates left now are same = subst (λ (l : List Fate). AreTakenFrom taken fates l) (sym same) are

pub takes_left : (old new : Wire) → new.fates ≡ left_after old.fates → AreTakenFrom (taken_of old.fates) old.fates new.fates
takes_left old new left = taken_as (taken_of old.fates) old.fates (left_after old.fates) new.fates (taken_left old.fates) left

-- without a trouble among them the one that decides is none
pub quiet_deciding : (fates : List Fate) → AreQuiet (taken_of fates) → is_trouble (deciding fates) ≡ false
quiet_deciding [] quiet = refl
quiet_deciding (first ∷ fates) quiet = by (decides first) (quiet first (inl refl)) (λ fate among. quiet fate (inr among)) (quiet_deciding fates)
  where
    by : (b : Bool) → is_trouble first ≡ false → ((fate : Fate) → IsIn fate (if b then [] else taken_of fates) → is_trouble fate ≡ false)
        → (AreQuiet (taken_of fates) → is_trouble (deciding fates) ≡ false) → is_trouble (if b then first else deciding fates) ≡ false
    by true here later rest = here
    by false here later rest = rest later

-- without a trouble nothing is counted, nor where memory ran out
pub quiet_after : (fate : Fate) (result : Result (Vec ℕ Global) LinkError) (troubles : ℕ) → is_trouble fate ≡ false → troubles_after fate result troubles ≡ troubles
quiet_after fate (Ok bytes) troubles quiet = ap (λ (b : Bool). if b then one_more troubles else troubles) quiet
quiet_after fate (Err LinkFailed) troubles quiet = ap (λ (b : Bool). if b then one_more troubles else troubles) quiet
quiet_after fate (Err LinkMemory) troubles quiet = refl

pub want_after : (fate : Fate) (result : Result (Vec ℕ Global) LinkError) (troubles : ℕ) → result ≡ Err LinkMemory → troubles_after fate result troubles ≡ troubles
want_after fate result troubles want = ap (λ (r : Result (Vec ℕ Global) LinkError). troubles_after fate r troubles) want

-- ---- fates in a row

pub takes_none : (fates : List Fate) (troubles : ℕ) → TakesFront fates fates troubles troubles
takes_none fates troubles = record { taken = []; split = refl; later = le_refl troubles; calm = λ quiet. refl }

pub takes_then : (a b d : List Fate) (x y z : ℕ) → TakesFront a b x y → TakesFront b d y z → TakesFront a d x z
takes_then a b d x y z first second = record {
  taken = first.taken ++ second.taken;
  split = taken_then first.taken second.taken a b d first.split second.split;
  later = le_trans first.later second.later;
  calm = λ quiet. second.calm (quiet_behind first.taken second.taken quiet) ∙ first.calm (quiet_front first.taken second.taken quiet);
}

-- ---- one ask

-- memory was wanted before a fate decided it
pub spent_in_want : (m : Message) (old new : Wire) → MovedBy (Is m) [] (world_of old) (world_of new) → TakesFront old.fates new.fates old.troubles new.troubles → Spends old new
spent_in_want m old new moves takes = record {
  made = [];
  moved = moved_as (Is m) IsAny (λ x is. tt) [] (world_of old) (world_of new) moves;
  taken = takes.taken;
  split = takes.split;
  later = takes.later;
  calm = λ quiet served. (takes.calm quiet, tt);
}

-- the fates that are no longer there were taken
pub takes_end : (old new : Wire) → AreLeft new.fates old.fates → new.troubles ≡ old.troubles → TakesFront old.fates new.fates old.troubles new.troubles
takes_end old new left same = record {
  taken = left.0;
  split = left.1;
  later = omega (arith, same);
  calm = λ quiet. same;
}

-- the server's own answer at a moment of an ask
given_once : (to : Peer) (address : List ℕ) (m reply : Message) (bytes : Vec ℕ Global) (a b : World) → MovedBy (Is m) (ask_of to address m (Reply reply) ∷ []) a b
    → IsDirect {E = LinkError} to address m a b (Ok bytes) → AreGiven (ask_of to address m (Reply reply) ∷ []) a b
given_once to address m reply bytes a b moves direct =
    let fresh = direct.2 in
    let here = ask_of to address m (Reply direct.0) ∷ [] in
    let there = ask_of to address m (Reply reply) ∷ [] in
    let same : here ≡ there = one_made (Is m) (Is m) here there a b (moved_by_then (Is m) [] here a fresh.moment b fresh.before fresh.after) moves in
    subst (λ (asks : List Ask). AreGiven asks a b) same (
      record {
        moment = fresh.moment;
        earlier = [];
        later = here;
        before = moved_as (Is m) IsAny (λ x is. tt) [] a fresh.moment fresh.before;
        after = moved_as (Is m) IsAny (λ x is. tt) here fresh.moment b fresh.after;
        is = fresh.is;
      },
      tt,
    )

module _ (to : Peer) (address : List ℕ) (m : Message) (old new : Wire) (taken : List Fate) (split : AreTakenFrom taken old.fates new.fates) (later : old.troubles ≤ new.troubles) where
  spent_by : (made : List Ask) → Moved m made (world_of old) (world_of new)
      → (AreQuiet taken → ((ask : Ask) → IsIn ask made → ask.to ≡ Server) → (new.troubles ≡ old.troubles) × AreGiven made (world_of old) (world_of new)) → Spends old new
  spent_by made moved calm = record {
    made = made;
    moved = moved_as (Is m) IsAny (λ x is. tt) made (world_of old) (world_of new) moved.moves;
    taken = taken;
    split = split;
    later = later;
    calm = calm;
  }

  -- what an ask may do, where nothing is counted without a trouble, and the server's answer is its own then
  pub spent : (result : Result (Vec ℕ Global) LinkError) → AsksOnce to address m (world_of old) (world_of new) result
      → (AreQuiet taken → result ≡ Err LinkMemory → new.troubles ≡ old.troubles)
      → (AreQuiet taken → to ≡ Server → (new.troubles ≡ old.troubles) × IsDirect to address m (world_of old) (world_of new) result) → Spends old new
  spent (Ok bytes) once want calm =
      spent_by (ask_of to address m (Reply once.0) ∷ []) once.4
      (λ quiet served.
      let is = calm quiet (served (ask_of to address m (Reply once.0)) (inl refl)) in
      (is.0, given_once to address m once.0 bytes (world_of old) (world_of new) once.4.moves is.1))
  spent (Err LinkFailed) once want calm =
      spent_by (ask_of to address m Failed ∷ []) once (λ quiet served. ((calm quiet (served (ask_of to address m Failed) (inl refl))).0, (tt, tt)))
  spent (Err LinkMemory) once want calm =
      ⊎_elim
      (λ (one : Moved m (ask_of to address m Memory ∷ []) (world_of old) (world_of new)). spent_by (ask_of to address m Memory ∷ []) one (λ quiet served. (want quiet refl, (tt, tt))))
      (λ (none : Moved m [] (world_of old) (world_of new)). spent_by [] none (λ quiet served. (want quiet refl, tt))) once
