-- The cases of a store, entry by entry: what is answered, and what is held then.
use Rattle.std.proofs.Common.{◌≡◌, ℕ, ◌+◌, ◌<◌, ◌≤◌, Bool, true, false, not, cond, List, [], ◌∷◌, ◌++◌, length, find, Option, Some, None, option_map, Result, Ok, Err, refl, sym, ap, ◌∙◌, arith}
use Rattle.std.specs.Prelude.{◌==◌, nat_lt, nat_le, if◌then◌else◌}
use Rattle.std.specs.List.{AllByRecursion}
use Rattle.byte_fields.proofs.Facts.{eq_holds, eq_fails, le_holds, le_fails, lt_holds, lt_fails}
use Rattle.tree_values.specs.declared.node.Base.{Base}
use Rattle.tree_values.specs.declared.node.Effect.{Effect}
use Rattle.tree_values.specs.declared.node.TreeError.{TreeError}
use Rattle.tree_values.specs.Tree.{Volume, version_at, apply}
use Rattle.tree_values.specs.Effects.{apply_all, unless_refused_at, Conflict, first_conflict}
use Rattle.vol_tree.proofs.Steps.{apply_all-append}
use Rattle.wire_frames.specs.declared.message.Message.TheVariants.{Store, Pull, Unfit, Full}
use Rattle.wire_frames.specs.declared.parts.Part.{Part}
use Rattle.wire_frames.specs.Parts.{part_of}
use Rattle.world_rules.specs.Served.{Served, StoreVerdict, Repeated, Early, Outdated, Refused, Taken, judged, verdict, served_after, passes, served_through, verdict_through, refusal, end_of, reply}
use Rattle.server_core.specs.Inside.{is_outdated, conflict_at}
use Rattle.server_core.specs.Laws.{IsServedAs, GoesOnBehind, IsCurrent, RepeatsChangeNothing, GapsChangeNothing, KnownEntriesArePassed, StaleEntriesEndStores, FullEntriesEndStores, UnfitEntriesEndStores, OtherEntriesAreTaken, PullsTellTheRows, OthersAreMalformed}

-- ---- the first path of a base that has another version

-- searching the base for it finds the first conflict
pub first_conflict-find : (volume : Volume) (bases : List Base) → option_map (conflict_at volume) (find (is_outdated volume) bases) ≡ first_conflict bases volume
first_conflict-find volume [] = refl
first_conflict-find volume (base ∷ bases) = by (version_at volume base.path == base.version) (first_conflict-find volume bases)
  where
    by : (b : Bool) → option_map (conflict_at volume) (find (is_outdated volume) bases) ≡ first_conflict bases volume
        → option_map (conflict_at volume) (cond (not b) (Some base) (find (is_outdated volume) bases)) ≡ cond b (first_conflict bases volume) (Some (conflict_at volume base))
    by true rest = rest
    by false rest = refl

pub first_conflict-current : (volume : Volume) (bases : List Base) → AllByRecursion (IsCurrent volume) bases → first_conflict bases volume ≡ None
first_conflict-current volume [] current = refl
first_conflict-current volume (base ∷ bases) current =
    ap (λ b. cond b (first_conflict bases volume) (Some (conflict_at volume base))) (eq_holds _ _ current.0) ∙ first_conflict-current volume bases current.1

pub first_conflict-outdated : (volume : Volume) (before : List Base) (first : Base) (later : List Base) → AllByRecursion (IsCurrent volume) before → (IsCurrent volume first → ⊥)
    → first_conflict (before ++ first ∷ later) volume ≡ Some (conflict_at volume first)
first_conflict-outdated volume [] first later current apart = ap (λ b. cond b (first_conflict later volume) (Some (conflict_at volume first))) (eq_fails _ _ apart)
first_conflict-outdated volume (base ∷ bases) first later current apart =
    ap (λ b. cond b (first_conflict (bases ++ first ∷ later) volume) (Some (conflict_at volume base))) (eq_holds _ _ current.0) ∙ first_conflict-outdated volume bases first later current.1 apart

-- ---- the first effect that is refused

pub apply_all-stops : (before : List Effect) (first : Effect) (later : List Effect) (volume middle : Volume) (fault : TreeError) → apply_all 0 before volume ≡ Ok middle → apply first middle ≡ Err fault
    → apply_all 0 (before ++ first ∷ later) volume ≡ Err (length before, fault)
apply_all-stops before first later volume middle fault applies refused =
    let index : 0 + length before ≡ length before = omega arith in
    apply_all-append before (first ∷ later) 0 volume middle applies
    ∙ ap (λ at. apply_all at (first ∷ later) middle) index
    ∙ ap (λ r. unless_refused_at (length before) r (apply_all (length before + 1) later)) refused

-- ---- the cases of one entry

-- an entry is judged by what is found of its number, its base and its effects
pub decided : (client number : ℕ) (effects : List Effect) (base : List Base) (s : Served) (repeated beyond : Bool) (conflict : Option Conflict) (applied : Result Volume (ℕ × TreeError))
    → nat_le number (s.last client) ≡ repeated → nat_lt (s.last client + 1) number ≡ beyond → first_conflict base s.volume ≡ conflict → apply_all 0 effects s.volume ≡ applied
    → verdict client number effects base s ≡ judged repeated beyond conflict applied
decided client number effects base s repeated beyond conflict applied is_repeated is_beyond is_conflict is_applied = λ i. judged (is_repeated i) (is_beyond i) (is_conflict i) (is_applied i)

pub known : (client number : ℕ) (effects : List Effect) (base : List Base) (s : Served) → number ≤ s.last client → verdict client number effects base s ≡ Repeated
known client number effects base s le = decided client number effects base s true _ _ _ (le_holds _ _ le) refl refl refl

pub early : (client number : ℕ) (effects : List Effect) (base : List Base) (s : Served) → s.last client + 1 < number → verdict client number effects base s ≡ Early
early client number effects base s lt = decided client number effects base s false true _ _ (le_fails _ _ (omega arith)) (lt_holds _ _ lt) refl refl

pub stale : (client number : ℕ) (effects : List Effect) (base : List Base) (s : Served) (conflict : Conflict) → number ≡ s.last client + 1 → first_conflict base s.volume ≡ Some conflict
    → verdict client number effects base s ≡ Outdated conflict
stale client number effects base s conflict next found =
    decided client number effects base s false false (Some conflict) _ (le_fails _ _ (omega (arith, next))) (lt_fails _ _ (omega (arith, next))) found refl

pub refused : (client number : ℕ) (effects : List Effect) (base : List Base) (s : Served) (cause : ℕ × TreeError) → number ≡ s.last client + 1 → first_conflict base s.volume ≡ None
    → apply_all 0 effects s.volume ≡ Err cause → verdict client number effects base s ≡ Refused cause
refused client number effects base s cause next current found =
    decided client number effects base s false false None (Err cause) (le_fails _ _ (omega (arith, next))) (lt_fails _ _ (omega (arith, next))) current found

pub taken : (client number : ℕ) (effects : List Effect) (base : List Base) (s : Served) (new : Volume) → number ≡ s.last client + 1 → first_conflict base s.volume ≡ None
    → apply_all 0 effects s.volume ≡ Ok new → verdict client number effects base s ≡ Taken new
taken client number effects base s new next current found =
    decided client number effects base s false false None (Ok new) (le_fails _ _ (omega (arith, next))) (lt_fails _ _ (omega (arith, next))) current found

-- what is made of a client's next entry whose base is current: it is taken, or refused
abbrev pub judged_current : Result Volume (ℕ × TreeError) → StoreVerdict
judged_current (Ok volume) = Taken volume
judged_current (Err cause) = Refused cause

pub current : (client number : ℕ) (effects : List Effect) (base : List Base) (s : Served) → number ≡ s.last client + 1 → first_conflict base s.volume ≡ None
    → verdict client number effects base s ≡ judged_current (apply_all 0 effects s.volume)
current client number effects base s next agrees = by (apply_all 0 effects s.volume) refl
  where
    by : (applied : Result Volume (ℕ × TreeError)) → apply_all 0 effects s.volume ≡ applied → verdict client number effects base s ≡ judged_current applied
    by (Ok volume) e = taken client number effects base s volume next agrees e
    by (Err cause) e = refused client number effects base s cause next agrees e

-- what is found in a base is its first conflict
pub found : (volume : Volume) (bases : List Base) (base : Base) → Some base ≡ find (is_outdated volume) bases → first_conflict bases volume ≡ Some (conflict_at volume base)
found volume bases base e = sym (first_conflict-find volume bases) ∙ ap (option_map (conflict_at volume)) (sym e)

pub found_none : (volume : Volume) (bases : List Base) → None ≡ find (is_outdated volume) bases → first_conflict bases volume ≡ None
found_none volume bases e = sym (first_conflict-find volume bases) ∙ ap (option_map (conflict_at volume)) (sym e)

-- ---- the cases of a store in the subject's words

-- the first entry of a store ends it, where the verdict on it is one that does
ends : (client number : ℕ) (first : Part) (later : List Part) (s : Served) (judgement : StoreVerdict) → verdict client number first.effects first.base s ≡ judgement → passes judgement ≡ false → served_after client number judgement s ≡ s
    → IsServedAs (Store client number (first ∷ later)) s (reply client number (end_of number (first ∷ later)) (s.last client) judgement) s
ends client number first later s judgement is stops same =
    let through : StoreVerdict → Served = λ j. if passes j then served_through client (number + 1) later (served_after client number j s) else served_after client number j s in
    let at : StoreVerdict → StoreVerdict = λ j. if passes j then verdict_through client (number + 1) later (served_after client number j s) else j in
    let state : through (verdict client number first.effects first.base s) ≡ s =
    ap through is ∙ ap (λ (b : Bool). if b then served_through client (number + 1) later (served_after client number judgement s) else served_after client number judgement s) stops ∙ same in
    let end : at (verdict client number first.effects first.base s) ≡ judgement =
    ap at is ∙ ap (λ (b : Bool). if b then verdict_through client (number + 1) later (served_after client number judgement s) else judgement) stops in
    record { replies = λ i. reply client number (end_of number (first ∷ later)) ((state i).last client) (end i); holds = state }

-- the first entry of a store is passed, where the verdict on it says so
goes : (client number : ℕ) (first : Part) (later : List Part) (s : Served) (judgement : StoreVerdict) → verdict client number first.effects first.base s ≡ judgement → passes judgement ≡ true
    → GoesOnBehind client number first later s (served_after client number judgement s)
goes client number first later s judgement is on = record {
  holds = ap (λ (j : StoreVerdict). if passes j then served_through client (number + 1) later (served_after client number j s) else served_after client number j s) is
      ∙ ap (λ (b : Bool). if b then served_through client (number + 1) later (served_after client number judgement s) else served_after client number judgement s) on;
  ends = ap (λ (j : StoreVerdict). if passes j then verdict_through client (number + 1) later (served_after client number j s) else j) is
      ∙ ap (λ (b : Bool). if b then verdict_through client (number + 1) later (served_after client number judgement s) else judgement) on;
}

pub knowns : KnownEntriesArePassed
knowns client number first later s le = goes client number first later s Repeated (known client number first.effects first.base s le) refl

-- nothing of a store that was accepted before is taken
pub all_known : (client number : ℕ) (parts : List Part) (s : Served) → number + length parts ≤ s.last client + 1 → (served_through client number parts s ≡ s) × (verdict_through client number parts s ≡ Repeated)
all_known client number [] s le = (refl, refl)
all_known client number (first ∷ later) s le =
    let on = knowns client number first later s (omega (arith, le)) in
    let rest = all_known client (number + 1) later s (omega (arith, le)) in
    (on.holds ∙ rest.0, on.ends ∙ rest.1)

pub repeats : RepeatsChangeNothing
repeats client number parts s le =
    let all = all_known client number parts s le in
    record { replies = λ i. reply client number (end_of number parts) ((all.0 i).last client) (all.1 i); holds = all.0 }

pub gaps : GapsChangeNothing
gaps client number first later s lt = ends client number first later s Early (early client number first.effects first.base s lt) refl refl

pub stales : StaleEntriesEndStores
stales client effects before base others later s is_current outdated =
    let first = part_of effects (before ++ base ∷ others) in
    ends client (s.last client + 1) first later s (Outdated (conflict_at s.volume base))
    (stale client (s.last client + 1) effects (before ++ base ∷ others) s (conflict_at s.volume base) refl (first_conflict-outdated s.volume before base others is_current outdated)) refl refl

refused_as : (client : ℕ) (before : List Effect) (effect : Effect) (others : List Effect) (base : List Base) (later : List Part) (s : Served) (middle : Volume) (fault : TreeError) → AllByRecursion (IsCurrent s.volume) base
    → apply_all 0 before s.volume ≡ Ok middle → apply effect middle ≡ Err fault
    → IsServedAs (Store client (s.last client + 1) (part_of (before ++ effect ∷ others) base ∷ later)) s (refusal client (s.last client + 1) (s.last client) (length before) fault) s
refused_as client before effect others base later s middle fault is_current applies stops =
    ends client (s.last client + 1) (part_of (before ++ effect ∷ others) base) later s (Refused (length before, fault))
    (refused client (s.last client + 1) (before ++ effect ∷ others) base s (length before, fault) refl (first_conflict-current s.volume base is_current) (apply_all-stops before effect others s.volume middle fault applies stops)) refl refl

pub fulls : FullEntriesEndStores
fulls client before effect others base later s middle fault is_current applies stops room =
    let all = refused_as client before effect others base later s middle fault is_current applies stops in
    record { replies = all.replies ∙ ap (λ b. if b then Full client (s.last client + 1) (s.last client) (length before) fault else Unfit client (s.last client + 1) (s.last client) (length before) fault) room; holds = all.holds }

pub unfits : UnfitEntriesEndStores
unfits client before effect others base later s middle fault is_current applies stops room =
    let all = refused_as client before effect others base later s middle fault is_current applies stops in
    record { replies = all.replies ∙ ap (λ b. if b then Full client (s.last client + 1) (s.last client) (length before) fault else Unfit client (s.last client + 1) (s.last client) (length before) fault) room; holds = all.holds }

pub takens : OtherEntriesAreTaken
takens client effects base later s new is_current applies =
    goes client (s.last client + 1) (part_of effects base) later s (Taken new)
    (taken client (s.last client + 1) effects base s new refl (first_conflict-current s.volume base is_current) applies) refl

pub pulls : PullsTellTheRows
pulls client number s = record { replies = refl; holds = refl }

pub others : OthersAreMalformed
others (Store client number parts) s apart = absurd (apart tt)
others (Pull client number) s apart = absurd (apart tt)
others _ s apart = record { replies = refl; holds = refl }
