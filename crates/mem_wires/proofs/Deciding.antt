-- What happens before an ask is decided.
use Rattle.std.proofs.Common.{◌≡◌, ℕ, suc, ◌+◌, Bool, true, false, List, [], ◌∷◌, ◌++◌, Some, None, Result, Ok, Err, Vec, drop, refl, sym, ◌∙◌, ap, subst}
use Rattle.std.specs.Prelude.{if◌then◌else◌}
use Rattle.std.specs.declared.alloc.Global.{Global}
use Rattle.std.proofs.lemmas.List.{drop-drop}
use Rattle.mem_wires.specs.declared.fate.Fate.{Fate}
use Rattle.world_rules.specs.declared.link.LinkError.{LinkError}
use Rattle.world_rules.specs.declared.link.LinkError.TheVariants.{Failed as LinkFailed, Memory as LinkMemory}
use Rattle.world_rules.specs.World.{World}
use Rattle.mem_wires.specs.Wire.{Wire, world_of}
use Rattle.mem_wires.specs.declared.fate.Fate.TheVariants.{Pass, LoseRequest, LoseReply, Twice, Old, Late, Inject, Stop}
use Rattle.mem_wires.specs.Fates.{decides, deciding, left_by, left_after, at_decision, befallen, AreTakenFrom, AreLeft, IsEndOf, LeavesFates}
use Rattle.mem_wires.specs.Spending.{taken_then}
use Rattle.mem_wires.specs.Underway.{MovedFree, KeepsFates, decision, IsUndecided}
use Rattle.mem_wires.proofs.Steps.{free_then}

-- ---- one fate

undecided_if : (b : Bool) (fate : Fate) → None ≡ (if b then Some fate else None) → b ≡ false
undecided_if true fate is = absurd (cc)
undecided_if false fate is = refl

pub undecided : (fate : Fate) → None ≡ decision fate → decides fate ≡ false
undecided fate is = undecided_if (decides fate) fate is

decided_if : (b : Bool) (fate got : Fate) → Some got ≡ (if b then Some fate else None) → (b ≡ true) × (got ≡ fate)
decided_if true fate got is = (refl, cc)
decided_if false fate got is = absurd (cc)

pub decided_by : (fate got : Fate) → Some got ≡ decision fate → (decides fate ≡ true) × (got ≡ fate)
decided_by fate got is = decided_if (decides fate) fate got is

-- ---- the fates in a row

-- one that decides nothing is gone, once it was taken
pub left_by_waiting : (fate : Fate) (rest : List Fate) → decides fate ≡ false → left_by fate rest ≡ rest
left_by_waiting (Late k) rest waits = refl
left_by_waiting (Inject frame) rest waits = refl
left_by_waiting Pass rest waits = absurd (cc)
left_by_waiting LoseRequest rest waits = absurd (cc)
left_by_waiting LoseReply rest waits = absurd (cc)
left_by_waiting Twice rest waits = absurd (cc)
left_by_waiting (Old k) rest waits = absurd (cc)
left_by_waiting Stop rest waits = absurd (cc)

pub gone_waiting : (fate : Fate) (fates left : List Fate) → AreTakenFrom (fate ∷ []) fates left → decides fate ≡ false → fates ≡ fate ∷ left
gone_waiting fate fates left taken waits = taken.1 ∙ ap (λ (l : List Fate). fate ∷ l) (sym (taken.2 ∙ left_by_waiting fate taken.0 waits))

-- any but a stop is
left_by_end : (fate : Fate) (rest : List Fate) → IsEndOf (left_by fate rest) (fate ∷ rest)
left_by_end Stop rest = (0, refl)
left_by_end Pass rest = (1, refl)
left_by_end LoseRequest rest = (1, refl)
left_by_end LoseReply rest = (1, refl)
left_by_end Twice rest = (1, refl)
left_by_end (Old k) rest = (1, refl)
left_by_end (Late k) rest = (1, refl)
left_by_end (Inject frame) rest = (1, refl)

end_of_end : (a b c : List Fate) → IsEndOf b a → IsEndOf c b → IsEndOf c a
end_of_end a b c first second = (first.0 + second.0, second.1 ∙ ap (λ (l : List Fate). drop second.0 l) first.1 ∙ drop-drop second.0 first.0 a)

-- the fates that are left are an end of those before
pub taken_is_end : (taken fates left : List Fate) → AreTakenFrom taken fates left → IsEndOf left fates
taken_is_end [] fates left same = (0, same)
taken_is_end (fate ∷ taken) fates left are =
    subst (λ (l : List Fate). IsEndOf left l) (sym are.1)
    (end_of_end (fate ∷ are.0) (left_by fate are.0) left (left_by_end fate are.0) (taken_is_end taken (left_by fate are.0) left are.2))

-- the fates left by the deciding one are an end of all
pub left_is_end : (fates : List Fate) → IsEndOf (left_after fates) fates
left_is_end [] = (0, refl)
left_is_end (fate ∷ fates) =
    elim (decides fate) as (λ (b : Bool). IsEndOf (if b then left_by fate fates else left_after fates) (fate ∷ fates)) [
      | true ↦ left_by_end fate fates
      | false ↦ let end = left_is_end fates in (suc end.0, end.1)
    ]

-- where the fates left are those left by the deciding one, they are what any ask may leave
pub leaves_after : (result : Result (Vec ℕ Global) LinkError) (fates left : List Fate) → left ≡ left_after fates → LeavesFates result fates left
leaves_after (Ok bytes) fates left same = same
leaves_after (Err LinkFailed) fates left same = same
leaves_after (Err LinkMemory) fates left same = (subst (λ (l : List Fate). IsEndOf l fates) (sym same) (left_is_end fates), (0, sym same))

-- a fate was taken, and the world went on
module _ (old mid taken new : Wire) (fate : Fate) (so_far : IsUndecided old mid) (first : AreTakenFrom (fate ∷ []) mid.fates taken.fates) (taking : taken ≡ record mid { fates = taken.fates })
    (moves : MovedFree (world_of taken) (world_of new)) (keeps : KeepsFates taken new) where
  same_world : world_of taken ≡ world_of mid
  same_world = ap world_of taking

  pub moved_on : MovedFree (world_of old) (world_of new)
  moved_on = free_then (world_of old) (world_of mid) (world_of new) so_far.moved (subst (λ (w : World). MovedFree w (world_of new)) same_world moves)

  pub rest_on : AreLeft new.fates old.fates
  rest_on =
      let more = so_far.rest.0 ++ fate ∷ [] in
      (more, subst (λ (l : List Fate). AreTakenFrom more old.fates l) (sym keeps.0) (taken_then so_far.rest.0 (fate ∷ []) old.fates mid.fates taken.fates so_far.rest.1 first))

  -- and it decides nothing, where memory ran out
  pub behind_on : decides fate ≡ false → IsEndOf (left_after old.fates) new.fates
  behind_on undecided =
      let skipped : left_after mid.fates ≡ left_after new.fates =
      ap left_after (gone_waiting fate mid.fates taken.fates first undecided) ∙ ap (λ (b : Bool). if b then left_by fate taken.fates else left_after taken.fates) undecided ∙ sym (ap left_after keeps.0) in
      subst (λ (l : List Fate). IsEndOf l new.fates) (sym skipped ∙ so_far.left) (left_is_end new.fates)

  pub troubles_on : new.troubles ≡ old.troubles
  troubles_on = keeps.1 ∙ ap (λ (n : Wire). n.troubles) taking ∙ so_far.troubles

  -- the fate decides nothing
  module _ (none : None ≡ decision fate) (befell : world_of new ≡ befallen fate (world_of taken)) where
    skip : {X : Type 0} (here later : X) → (if decides fate then here else later) ≡ later
    skip {X} here later = ap (λ (b : Bool). if b then here else later) (undecided fate none)

    front : mid.fates ≡ fate ∷ taken.fates
    front = gone_waiting fate mid.fates taken.fates first (undecided fate none)

    pub awaits_on : IsUndecided old new
    awaits_on = record {
      fate = ap deciding keeps.0 ∙ sym (skip fate (deciding taken.fates)) ∙ sym (ap deciding front) ∙ so_far.fate;
      left = ap left_after keeps.0 ∙ sym (skip (left_by fate taken.fates) (left_after taken.fates)) ∙ sym (ap left_after front) ∙ so_far.left;
      reached = ap (λ (l : List Fate). at_decision l (world_of new)) keeps.0
          ∙ ap (λ (w : World). at_decision taken.fates w) (befell ∙ ap (befallen fate) same_world)
          ∙ sym (skip (world_of mid) (at_decision taken.fates (befallen fate (world_of mid))))
          ∙ sym (ap (λ (l : List Fate). at_decision l (world_of mid)) front)
          ∙ so_far.reached;
      moved = moved_on;
      rest = rest_on;
      troubles = troubles_on;
    }
