-- What happens by the fates before an ask is decided, beside a surrogate.
use Rattle.std.proofs.Common.{◌≡◌, inl, inr, ◌⊎◌, ℕ, zero, suc, ◌+◌, ◌<◌, ◌≤◌, length, Bool, true, false, List, [], ◌∷◌, ◌++◌, Result, Ok, Err, Vec, refl, sym, ◌∙◌, ap, subst, arith}
use Rattle.std.specs.Prelude.{OnErr, Some, slice_get}
use Rattle.std.specs.declared.alloc.Global.{Global}
use Rattle.std.specs.declared.alloc.AllocError.{AllocError}
use Rattle.std.proofs.Math.Nat.{le_refl, le_trans}
use Rattle.std.proofs.lemmas.List.{length-drop}
use Rattle.tree_values.specs.Tree.{Volume}
use Rattle.cmd_capture.specs.Runs.{RunnerTelling}
use Rattle.wire_frames.specs.declared.message.Message.{Message}
use Rattle.world_rules.specs.declared.asking.Peer.{Peer}
use Rattle.world_rules.specs.declared.asking.Peer.TheVariants.{Server, Surrogate}
use Rattle.world_rules.specs.declared.link.LinkError.{LinkError}
use Rattle.world_rules.specs.declared.link.LinkError.TheVariants.{Failed as LinkFailed, Memory as LinkMemory}
use Rattle.world_rules.specs.World.{World, sent}
use Rattle.world_rules.specs.Asking.{IsRequest}
use Rattle.mem_wires.specs.declared.fate.Fate.{Fate}
use Rattle.mem_wires.specs.declared.fate.Fate.TheVariants.{Pass, LoseRequest, LoseReply, Twice, Old, Late, Inject, Stop}
use Rattle.mem_wires.specs.Wire.{Wire, world_of}
use Rattle.mem_wires.specs.Fates.{decides, is_trouble, left_by, befallen, troubles_after, AreTakenFrom}
use Rattle.mem_wires.specs.Spending.{AreQuiet, TakesFront, quiet_front, quiet_behind, taken_then}
use Rattle.mem_net.specs.Scenes.{Scene, with_world, with_fates, IsHandled, IsLateOperation, Befalls, FrontDecides, Reaches, IsReached, TakesFates}
use Rattle.mem_net.specs.Scenes.{IsUnhandled, BefallsInPart, AllBefall, IsCutBefore}
use Rattle.mem_net.specs.Inside.{GoesFree, FrontWaits, TakesBeside}
use Rattle.mem_wires.proofs.Steps.{free_none, free_then, free_as}
use Rattle.mem_wires.proofs.Deciding.{left_by_waiting, gone_waiting, taken_is_end}
use Rattle.mem_wires.proofs.Spent.{takes_none, takes_then, quiet_after, taken_as}
use Rattle.mem_net.proofs.Handling.{scene_by, stays_by}

-- Fates that decide nothing happened: whatever is reached from here is reached from before.
pub record Nears (start now : Scene) (old new : Wire) : Type 0 where
  pub steps : ℕ
  pub reaches : (count : ℕ) (fate : Fate) (reached : Scene) → Reaches count now fate reached → Reaches (steps + count) start fate reached
  pub befell : AllBefall steps start now
  pub goes : GoesFree old new
  pub front : (new.fates ≡ old.fates) ⊎ FrontWaits old.fates

-- ---- moves of no client's own, in a row

pub goes_then : (a b d : Wire) → GoesFree a b → GoesFree b d → GoesFree a d
goes_then a b d first second = record {
  moved = free_then (world_of a) (world_of b) (world_of d) first.moved second.moved;
  takes = takes_then a.fates b.fates d.fates a.troubles b.troubles d.troubles first.takes second.takes;
}

pub stays_in_part : (fate : Fate) (scene : Scene) → BefallsInPart fate scene scene
stays_in_part fate scene = inl refl

-- a late operation is left unhandled
pub operation_in_part : (k : ℕ) (m : Message) (a b : Scene) → slice_get a.world.packets k ≡ Some m → IsRequest Surrogate m → IsUnhandled m a b → BefallsInPart (Late k) a b
operation_in_part k m a b found asked part = inr (m, (found, asked), part)

-- what the wires alone do stays but for the world, where memory runs out in it, too
pub kept_in_part : (fate : Fate) (a b : Wire) (copy : Volume) (runner : RunnerTelling) {T : Type 0} (result : Result T AllocError) → (b.fates ≡ a.fates) × (b.troubles ≡ a.troubles)
    → OnErr result (BefallsInPart fate (scene_by a copy runner) (scene_by b copy runner))
kept_in_part fate a b copy runner (Ok x) kept = tt
kept_in_part fate a b copy runner (Err refused) kept = inl (stays_by a b copy runner kept.0 kept.1)

-- one fate is taken
pub goes_taking : (a b : Wire) (fate : Fate) → AreTakenFrom (fate ∷ []) a.fates b.fates → b ≡ record a { fates = b.fates } → GoesFree a b
goes_taking a b fate front taking = record {
  moved = free_as (world_of a) (world_of a) (world_of b) (free_none (world_of a)) (ap world_of taking);
  takes = record {
    taken = fate ∷ [];
    split = front;
    later = subst (λ (n : ℕ). a.troubles ≤ n) (sym (ap (λ (w : Wire). w.troubles) taking)) (le_refl a.troubles);
    calm = λ quiet. ap (λ (w : Wire). w.troubles) taking;
  };
}

-- ---- what one fate does

no_operation : (fate : Fate) (scene : Scene) (request : Message) → decides fate ≡ true → IsLateOperation fate scene request → ⊥
no_operation (Late k) scene request decided late = absurd (cc)
no_operation Pass scene request decided late = absurd late
no_operation LoseRequest scene request decided late = absurd late
no_operation LoseReply scene request decided late = absurd late
no_operation Twice scene request decided late = absurd late
no_operation (Old k) scene request decided late = absurd late
no_operation (Inject frame) scene request decided late = absurd late
no_operation Stop scene request decided late = absurd late

befallen_decided : (fate : Fate) (world : World) → decides fate ≡ true → befallen fate world ≡ world
befallen_decided (Late k) world decided = absurd (cc)
befallen_decided (Inject frame) world decided = absurd (cc)
befallen_decided Pass world decided = refl
befallen_decided LoseRequest world decided = refl
befallen_decided LoseReply world decided = refl
befallen_decided Twice world decided = refl
befallen_decided (Old k) world decided = refl
befallen_decided Stop world decided = refl

-- one that decides does nothing by itself
decided_same : (fate : Fate) (a b : Scene) → decides fate ≡ true → Befalls fate a b → b ≡ a
decided_same fate a b decided (inl handled) = absurd (no_operation fate a handled.0 decided handled.2)
decided_same fate a b decided (inr nothing) = nothing.1 ∙ ap (λ (w : World). with_world w a) (befallen_decided fate a.world decided)

handled_takes : (request reply : Message) (a b : Scene) → IsHandled request reply a b → TakesFront a.fates b.fates a.troubles b.troubles
handled_takes request reply a b handled = subst (λ (s : Scene). TakesFront a.fates s.fates a.troubles s.troubles) (sym handled.2) handled.1.takes

befalls_takes : (fate : Fate) (a b : Scene) → Befalls fate a b → TakesFront a.fates b.fates a.troubles b.troubles
befalls_takes fate a b (inl handled) = handled_takes handled.0 handled.1 a b handled.3
befalls_takes fate a b (inr nothing) = subst (λ (s : Scene). TakesFront a.fates s.fates a.troubles s.troubles) (sym nothing.1) (takes_none a.fates a.troubles)

-- ---- the loop over the fates

abbrev first_of : Fate → List Fate → Fate
first_of fate [] = fate
first_of fate (x ∷ xs) = x

-- the front of the fates is the one that was taken first
waits_by : (start now : List Fate) (fate : Fate) (rest : List Fate) → now ≡ fate ∷ rest → decides fate ≡ false → (now ≡ start) ⊎ FrontWaits start → FrontWaits start
waits_by start now fate rest front first_waits (inl same) = λ first others is.
    ap (λ (l : List Fate). decides (first_of fate l)) (sym is ∙ sym same ∙ front) ∙ first_waits
waits_by start now fate rest front first_waits (inr waits) = waits

-- a fate was taken, and may have happened
module _ (start now : Scene) (old mid taken new : Wire) (fate : Fate) (so_far : Nears start now old mid)
    (mid_front : AreTakenFrom (fate ∷ []) mid.fates taken.fates) (taking : taken ≡ record mid { fates = taken.fates }) (goes : GoesFree taken new) where
  pub goes_on : GoesFree old new
  goes_on = goes_then old mid new so_far.goes (goes_then mid taken new (goes_taking mid taken fate mid_front taking) goes)

  pub waits_on : decides fate ≡ false → FrontWaits old.fates
  waits_on waiting = waits_by old.fates mid.fates fate mid_front.0 mid_front.1 waiting so_far.front

-- the scene once it was taken
pub taken_scene : (mid taken : Wire) (copy : Volume) (runner : RunnerTelling) → taken ≡ record mid { fates = taken.fates }
    → scene_by taken copy runner ≡ with_fates taken.fates (scene_by mid copy runner)
taken_scene mid taken copy runner taking = ap (λ (w : Wire). scene_by w copy runner) taking

-- where none was left nothing was taken
pub untaken_scene : (mid taken : Wire) (copy : Volume) (runner : RunnerTelling) → taken ≡ record mid { fates = taken.fates } → mid.fates ≡ [] → taken.fates ≡ []
    → scene_by taken copy runner ≡ scene_by mid copy runner
untaken_scene mid taken copy runner taking before after =
    ap (λ (w : Wire). scene_by w copy runner) (taking ∙ ap (λ (l : List Fate). record mid { fates = l }) (after ∙ sym before))

-- a fate was taken, and happened
module _ (start now next : Scene) (old mid taken new : Wire) (fate : Fate) (so_far : Nears start now old mid)
    (front : AreTakenFrom (fate ∷ []) now.fates taken.fates) (mid_front : AreTakenFrom (fate ∷ []) mid.fates taken.fates) (taking : taken ≡ record mid { fates = taken.fates })
    (befell : Befalls fate (with_fates taken.fates now) next) (goes : GoesFree taken new) where
  all_befell : decides fate ≡ false → AllBefall (so_far.steps + 1) start next
  all_befell waiting =
      let more : suc so_far.steps ≡ so_far.steps + 1 = omega arith in
      subst (λ (n : ℕ). AllBefall n start next) more (now, with_fates taken.fates now, fate, so_far.befell, (taken.fates, gone_waiting fate now.fates taken.fates front waiting, waiting, refl), befell)

  reaches_next : decides fate ≡ false → (count : ℕ) (last : Fate) (reached : Scene) → Reaches count next last reached → Reaches (suc count) now last reached
  reaches_next waiting count last reached reaches =
      subst (λ (l : List Fate). FrontDecides (Reaches count) l now last reached) (sym (gone_waiting fate now.fates taken.fates front waiting)) (inr (waiting, (next, befell, reaches)))

  pub nears_on : decides fate ≡ false → Nears start next old new
  nears_on waiting = record {
    steps = so_far.steps + 1;
    reaches = λ count last reached reaches.
        subst (λ (n : ℕ). Reaches n start last reached) (omega arith)
        (so_far.reaches (suc count) last reached (reaches_next waiting count last reached reaches));
    befell = all_befell waiting;
    goes = goes_on start now old mid taken new fate so_far mid_front taking goes;
    front = inr (waits_on start now old mid taken new fate so_far mid_front taking goes waiting);
  }

  -- the fate decides
  pub reached_by : decides fate ≡ true → IsReached start fate next
  reached_by decided = (
    so_far.steps + 1,
    so_far.reaches 1 fate next
        (subst (λ (l : List Fate). FrontDecides (Reaches 0) l now fate next) (sym front.1)
        (inl (decided, refl, decided_same fate (with_fates taken.fates now) next decided befell ∙ ap (λ (l : List Fate). with_fates l now) front.2))),
  )

-- one was taken that decides nothing, and perhaps others: fewer are left
pub fewer_left : (fate : Fate) (taken fates left later : List Fate) → fates ≡ fate ∷ left → AreTakenFrom taken left later → length later < length fates
fewer_left fate taken fates left later front are =
    let end = taken_is_end taken left later are in
    omega (arith, ap length front, ap length end.1, length-drop end.0 left)

-- memory ran out while it happened
pub cut_on : (start now next : Scene) (old mid : Wire) (fate : Fate) (rest : List Fate) → Nears start now old mid → now.fates ≡ fate ∷ rest → decides fate ≡ false
    → BefallsInPart fate (with_fates rest now) next → IsCutBefore start next
cut_on start now next old mid fate rest so_far front waiting part = (so_far.steps, now, with_fates rest now, fate, so_far.befell, (rest, front, waiting, refl), part)

-- no fate is left
pub reached_end : (start now : Scene) (old mid : Wire) → Nears start now old mid → now.fates ≡ [] → IsReached start Pass now
reached_end start now old mid so_far none = (
  so_far.steps + 1,
  so_far.reaches 1 Pass now (subst (λ (l : List Fate). FrontDecides (Reaches 0) l now Pass now) (sym none) (refl, refl)),
)

-- a request was not sent
pub unsent : (m : Message) (a b : Wire) (copy : Volume) (runner : RunnerTelling) → b ≡ a
    → (scene_by b copy runner ≡ scene_by a copy runner) ⊎ IsCutBefore (with_world (sent m (world_of a)) (scene_by a copy runner)) (scene_by b copy runner)
unsent m a b copy runner same = inl (ap (λ (w : Wire). scene_by w copy runner) same)

-- it was, and memory ran out before a fate decided
pub cut_sent : (m : Message) (a b : Wire) (copy : Volume) (runner : RunnerTelling) (last : Scene) {T : Type 0} (result : Result T AllocError) → b ≡ record a { packets = a.packets ++ m ∷ [] }
    → OnErr result (IsCutBefore (scene_by b copy runner) last)
    → OnErr result ((last ≡ scene_by a copy runner) ⊎ IsCutBefore (with_world (sent m (world_of a)) (scene_by a copy runner)) last)
cut_sent m a b copy runner last (Ok fate) sending cut = tt
cut_sent m a b copy runner last (Err refused) sending cut = inr (subst (λ (s : Scene). IsCutBefore s last) (ap (λ (w : Wire). scene_by w copy runner) sending) cut)

-- ---- what was taken until an ask was decided

pub record WasTaken (fate : Fate) (old new : Scene) : Type 0 where
  pub taken : List Fate
  pub split : AreTakenFrom taken old.fates new.fates
  pub later : old.troubles ≤ new.troubles
  pub calm : AreQuiet taken → (new.troubles ≡ old.troubles) × (is_trouble fate ≡ false)
  pub alone : (first : Fate) (rest : List Fate) → old.fates ≡ first ∷ rest → decides first ≡ true
      → (taken ≡ first ∷ []) × (fate ≡ first) × (new.troubles ≡ old.troubles)

no_front : (fates : List Fate) (first : Fate) (rest : List Fate) → fates ≡ [] → fates ≡ first ∷ rest → ⊥
no_front fates first rest none some = absurd (nothing (sym none ∙ some))
  where
    nothing : [] ≡ first ∷ rest → ⊥
    nothing is = absurd (cc)

same_front : (x y : Fate) (xs ys : List Fate) → x ∷ xs ≡ y ∷ ys → x ≡ y
same_front x y xs ys is = ap (first_of x) is

taken_none : (fate : Fate) (old new : Scene) → old.fates ≡ [] → fate ≡ Pass → new ≡ old → WasTaken fate old new
taken_none fate old new none pass same = record {
  taken = [];
  split = ap (λ (s : Scene). s.fates) same;
  later = subst (λ (s : Scene). old.troubles ≤ s.troubles) (sym same) (le_refl old.troubles);
  calm = λ quiet. (ap (λ (s : Scene). s.troubles) same, ap is_trouble pass);
  alone = λ first rest is decided. absurd (no_front old.fates first rest none is);
}

taken_one : (fate first : Fate) (rest : List Fate) (old new : Scene) → old.fates ≡ first ∷ rest → fate ≡ first → new ≡ with_fates (left_by first rest) old → WasTaken fate old new
taken_one fate first rest old new front is same = record {
  taken = first ∷ [];
  split = (rest, front, ap (λ (s : Scene). s.fates) same);
  later = subst (λ (s : Scene). old.troubles ≤ s.troubles) (sym same) (le_refl old.troubles);
  calm = λ quiet. (ap (λ (s : Scene). s.troubles) same, ap is_trouble is ∙ quiet first (inl refl));
  alone = λ other more other_is decided.
      let both : first ≡ other = same_front first other rest more (sym front ∙ other_is) in
      (ap (λ (f : Fate). f ∷ []) both, is ∙ both, ap (λ (s : Scene). s.troubles) same);
}

taken_more : (fate first : Fate) (rest : List Fate) (old middle new : Scene) → old.fates ≡ first ∷ rest → decides first ≡ false
    → Befalls first (with_fates rest old) middle → WasTaken fate middle new → WasTaken fate old new
taken_more fate first rest old middle new front waits befell later =
    let one = befalls_takes first (with_fates rest old) middle befell in
    record {
      taken = first ∷ (one.taken ++ later.taken);
      split = (
        rest,
        front,
        subst (λ (l : List Fate). AreTakenFrom (one.taken ++ later.taken) l new.fates) (sym (left_by_waiting first rest waits))
            (taken_then one.taken later.taken rest middle.fates new.fates one.split later.split),
      );
      later = le_trans one.later later.later;
      calm = λ quiet.
          let others : AreQuiet (one.taken ++ later.taken) = λ f among. quiet f (inr among) in
          let last = later.calm (quiet_behind one.taken later.taken others) in
          (last.0 ∙ one.calm (quiet_front one.taken later.taken others), last.1);
      alone = λ other more is decided. absurd (both_ways (decides other) decided (ap decides (sym (same_front first other rest more (sym front ∙ is))) ∙ waits));
    }
  where
    both_ways : (b : Bool) → b ≡ true → b ≡ false → ⊥
    both_ways true first second = absurd (cc)
    both_ways false first second = absurd (cc)

pub was_taken : (count : ℕ) (old : Scene) (fate : Fate) (new : Scene) → Reaches count old fate new → WasTaken fate old new
was_taken zero old fate new reaches = absurd reaches
was_taken (suc count) old fate new reaches = by old.fates refl reaches (λ middle further. was_taken count middle fate new further)
  where
    by : (fates : List Fate) → old.fates ≡ fates → FrontDecides (Reaches count) fates old fate new → ((middle : Scene) → Reaches count middle fate new → WasTaken fate middle new) → WasTaken fate old new
    by [] is front later = taken_none fate old new is front.0 front.1
    by (first ∷ rest) is (inl here) later = taken_one fate first rest old new is here.1 here.2
    by (first ∷ rest) is (inr there) later =
        taken_more fate first rest old there.1.0 new is there.0 there.1.1 (later there.1.0 there.1.2)

-- ---- what a whole ask takes

-- it was decided, and met
module _ (to : Peer) (fate : Fate) (result : Result (Vec ℕ Global) LinkError) (old reached : Scene) (was : WasTaken fate old reached) (fails : is_trouble fate ≡ false → (result ≡ Err LinkFailed → ⊥)) where
  pub takes_beside : (left : List Fate) (now : ℕ) → TakesBeside fate reached.fates left reached.troubles now → TakesFront old.fates left old.troubles now
  takes_beside left now beside = record {
    taken = was.taken ++ beside.taken;
    split = taken_then was.taken beside.taken old.fates reached.fates left was.split beside.split;
    later = le_trans was.later beside.later;
    calm = λ quiet.
        let front = was.calm (quiet_front was.taken beside.taken quiet) in
        beside.calm front.1 (quiet_behind was.taken beside.taken quiet) ∙ front.0;
  }

  -- by the surrogate
  pub takes_by_surrogate : (left : List Fate) (now : ℕ) → Surrogate ≡ to → TakesBeside fate reached.fates left reached.troubles now → TakesFates old.fates left old.troubles now to result
  unfolding takes_beside
  takes_by_surrogate left now is beside = record {
    takes = takes_beside left now beside;
    rest = taken_is_end (was.taken ++ beside.taken) old.fates left (taken_then was.taken beside.taken old.fates reached.fates left was.split beside.split);
    calm = λ quiet. fails (was.calm (quiet_front was.taken beside.taken quiet)).1;
    alone = λ first rest front decided served. absurd (two_peers (is ∙ served));
  }
    where
      two_peers : Surrogate ≡ Server → ⊥
      two_peers same = absurd (cc)

  -- by the server
  pub takes_by_server : (left : List Fate) (now : ℕ) → left ≡ reached.fates → now ≡ troubles_after fate result reached.troubles → reached.troubles ≤ now → TakesFates old.fates left old.troubles now to result
  takes_by_server left now same counted rises = record {
    takes = record {
      taken = was.taken;
      split = taken_as was.taken old.fates reached.fates left was.split same;
      later = le_trans was.later rises;
      calm = λ quiet. counted ∙ quiet_after fate result reached.troubles (was.calm quiet).1 ∙ (was.calm quiet).0;
    };
    rest = taken_is_end was.taken old.fates left (taken_as was.taken old.fates reached.fates left was.split same);
    calm = λ quiet. fails (was.calm quiet).1;
    alone = λ first rest front decided served.
        let one = was.alone first rest front decided in
        (inl one.0, counted ∙ ap (λ (f : Fate). troubles_after f result reached.troubles) one.1 ∙ ap (troubles_after first result) one.2);
  }

-- memory was wanted before it was met
memory_fails_not : ◌≡◌ {A = Result (Vec ℕ Global) LinkError} (Err LinkMemory) (Err LinkFailed) → ⊥
memory_fails_not is = absurd (cc)

pub takes_in_want : (to : Peer) (old new : Wire) → TakesFront old.fates new.fates old.troubles new.troubles → (new ≡ old) ⊎ FrontWaits old.fates
    → TakesFates old.fates new.fates old.troubles new.troubles to (Err LinkMemory)
takes_in_want to old new takes (inl same) = subst (λ (w : Wire). TakesFates old.fates w.fates old.troubles w.troubles to (Err LinkMemory)) (sym same) (record {
  takes = record { taken = []; split = refl; later = le_refl old.troubles; calm = λ quiet. refl };
  rest = (0, refl);
  calm = λ quiet. memory_fails_not;
  alone = λ first rest front decided served. (inr (refl, refl), refl);
})
takes_in_want to old new takes (inr waits) = record {
  takes = takes;
  rest = taken_is_end takes.taken old.fates new.fates takes.split;
  calm = λ quiet. memory_fails_not;
  alone = λ first rest front decided served. absurd (both_ways (decides first) decided (waits first rest front));
}
  where
    both_ways : (b : Bool) → b ≡ true → b ≡ false → ⊥
    both_ways true first second = absurd (cc)
    both_ways false first second = absurd (cc)
