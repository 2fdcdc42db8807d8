-- One more applied effect, with its undo.
use Rattle.std.proofs.Common.{◌≡◌, ◌≢◌, ℕ, suc, ◌+◌, ◌<◌, List, [], ◌∷◌, ◌++◌, length, take, drop, get_or, Result, Ok, Err, refl, sym, ap, ◌∙◌, subst, arith, drop-cons}
use Rattle.std.specs.List.{AllByRecursion}
use Rattle.std.proofs.lemmas.List.{length-take-le, take_more, take-append-drop}
use Rattle.tree_values.specs.declared.node.Effect.{Effect}
use Rattle.tree_values.specs.declared.node.TreeError.{TreeError}
use Rattle.tree_values.specs.declared.node.TreeError.TheVariants.{Memory as TreeMemory}
use Rattle.vol_tree.specs.declared.effects.ApplyAllError.{ApplyAllError}
use Rattle.vol_tree.specs.declared.effects.ApplyAllError.TheVariants.{At, Memory}
use Rattle.tree_values.specs.Effects.{unless_refused_at, apply_all}
use Rattle.vol_tree.specs.Applying.{IsAllRefusal}
use Rattle.tree_values.specs.declared.node.Row.{Row}
use Rattle.tree_values.specs.Tree.{Volume, apply, undone, CanUndo}
use Rattle.vol_tree.specs.Undos.{undone_all, CanUndoAll}
use Rattle.vol_tree.specs.Inside.{IsPushed}

pub undone_all-push : (front : List (List Row)) (last : List Row) (rows : List Row) → undone_all (front ++ last ∷ []) rows ≡ undone_all front (undone last rows)
undone_all-push [] last rows = refl
undone_all-push (undo ∷ front) last rows = ap (undone undo) (undone_all-push front last rows)

pub CanUndoAll-push : (front : List (List Row)) (last : List Row) (rows : List Row) → CanUndo last rows → CanUndoAll front (undone last rows) → CanUndoAll (front ++ last ∷ []) rows
CanUndoAll-push [] last rows can all = (tt, can)
CanUndoAll-push (undo ∷ front) last rows can all =
    (CanUndoAll-push front last rows can all.0, subst (CanUndo undo) (sym (undone_all-push front last rows)) all.1)

pub CanUndoAll-last : (front : List (List Row)) (last : List Row) (rows : List Row) → CanUndoAll (front ++ last ∷ []) rows → CanUndo last rows × CanUndoAll front (undone last rows)
CanUndoAll-last [] last rows all = (all.1, tt)
CanUndoAll-last (undo ∷ front) last rows all =
    let rest = CanUndoAll-last front last rows all.0 in
    (rest.0, (rest.1, subst (CanUndo undo) (undone_all-push front last rows) all.1))

pub undone_more : (undos new : List (List Row)) (before after start : List Row) → IsPushed undos new before after → undone_all undos before ≡ start → undone_all new after ≡ start
undone_more undos new before after start pushed same =
    ap (λ all. undone_all all after) pushed.1 ∙ undone_all-push undos pushed.0 after ∙ ap (undone_all undos) pushed.2 ∙ same

pub can_undo_more : (undos new : List (List Row)) (before after : List Row) → IsPushed undos new before after → CanUndoAll undos before → CanUndoAll new after
can_undo_more undos new before after pushed possible =
    subst (λ all. CanUndoAll all after) (sym pushed.1) (CanUndoAll-push undos pushed.0 after pushed.3 (subst (CanUndoAll undos) (sym pushed.2) possible))

-- effects behind others that apply
pub apply_all-append : (front back : List Effect) (at : ℕ) (rows middle : Volume) → apply_all at front rows ≡ Ok middle → apply_all at (front ++ back) rows ≡ apply_all (at + length front) back middle
apply_all-append [] back at rows middle e =
    let same : rows ≡ middle = cc in ap (apply_all at back) same ∙ ap (λ n. apply_all n back middle) (omega arith)
apply_all-append (effect ∷ front) back at rows middle e =
    by (apply effect rows) e (λ next h. apply_all-append front back (at + 1) next middle h) ∙ ap (λ n. apply_all n back middle) (omega arith)
  where
    by : (r : Result Volume TreeError) → unless_refused_at at r (apply_all (at + 1) front) ≡ Ok middle
        → ((next : Volume) → apply_all (at + 1) front next ≡ Ok middle → apply_all (at + 1) (front ++ back) next ≡ apply_all (at + 1 + length front) back middle)
        → unless_refused_at at r (apply_all (at + 1) (front ++ back)) ≡ apply_all (at + 1 + length front) back middle
    by (Ok next) e rest = rest next e
    by (Err refusal) e rest = absurd (cc)

-- one more effect, which applies or does not
pub apply_all-next : (effects : List Effect) (i : ℕ) (effect : Effect) (start rows : Volume) (r : Result Volume TreeError) → i < length effects → effect ≡ get_or effects i effect
    → apply_all 0 (take i effects) start ≡ Ok rows → apply effect rows ≡ r → apply_all 0 (take (i + 1) effects) start ≡ unless_refused_at i r Ok
apply_all-next effects i effect start rows r within is applied e =
    let more : take (i + 1) effects ≡ take i effects ++ effect ∷ [] = take_more effects i effect within ∙ ap (λ x. take i effects ++ x ∷ []) (sym is) in
    let index : 0 + length (take i effects) ≡ i = omega (arith, length-take-le i effects (omega arith)) in
    ap (λ es. apply_all 0 es start) more ∙ apply_all-append (take i effects) (effect ∷ []) 0 start rows applied
    ∙ ap (λ n. apply_all n (effect ∷ []) rows) index ∙ ap (λ q. unless_refused_at i q Ok) e

pub apply_all-refused : (effects : List Effect) (i : ℕ) (effect : Effect) (start rows : Volume) (refusal : TreeError) → i < length effects → effect ≡ get_or effects i effect
    → apply_all 0 (take i effects) start ≡ Ok rows → apply effect rows ≡ Err refusal → apply_all 0 effects start ≡ Err (i, refusal)
apply_all-refused effects i effect start rows refusal within is applied e =
    let whole : effects ≡ take i effects ++ drop i effects = sym (take-append-drop i effects) in
    let next : suc i ≡ i + 1 = omega arith in
    let rest : drop i effects ≡ effect ∷ drop (i + 1) effects =
    drop-cons effects i effect within ∙ ap (λ x. x ∷ drop (suc i) effects) (sym is) ∙ ap (λ n. effect ∷ drop n effects) next in
    let index : 0 + length (take i effects) ≡ i = omega (arith, length-take-le i effects (omega arith)) in
    ap (λ es. apply_all 0 es start) (whole ∙ ap (λ es. take i effects ++ es) rest) ∙ apply_all-append (take i effects) (effect ∷ drop (i + 1) effects) 0 start rows applied
    ∙ ap (λ n. apply_all n (effect ∷ drop (i + 1) effects) rows) index ∙ ap (λ q. unless_refused_at i q (apply_all (i + 1) (drop (i + 1) effects))) e

-- the error that names a refusal
pub refusal_of : (effects : List Effect) (rows : Volume) (i : ℕ) (refusal : TreeError) (e : ApplyAllError) → (e ≢ Memory → (refusal ≢ TreeMemory) × (e ≡ At i refusal)) → (refusal ≢ TreeMemory → apply_all 0 effects rows ≡ Err (i, refusal)) → IsAllRefusal effects rows e
refusal_of effects rows i refusal Memory told all = tt
refusal_of effects rows i refusal (At j cause) told all =
    let is = told (λ same. cc) in subst (IsAllRefusal effects rows) (sym is.1) (all is.0)

-- what holds of one effect more
pub all_next : (P : Effect → Type 0) (effects : List Effect) (i : ℕ) (effect : Effect) → i < length effects → effect ≡ get_or effects i effect → AllByRecursion P (take i effects) → P effect → AllByRecursion P (take (i + 1) effects)
all_next P effects i effect within is all here =
    subst (AllByRecursion P) (sym (take_more effects i effect within ∙ ap (λ x. take i effects ++ x ∷ []) (sym is))) (behind (take i effects) all)
  where
    behind : (front : List Effect) → AllByRecursion P front → AllByRecursion P (front ++ effect ∷ [])
    behind [] all = (here, tt)
    behind (first ∷ front) all = (all.0, behind front all.1)
