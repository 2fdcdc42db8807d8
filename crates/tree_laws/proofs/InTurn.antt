-- Effects that are applied one after the other, up to the first that is refused.
use Rattle.std.proofs.Common.{◌≡◌, ℕ, ◌+◌, List, [], ◌∷◌, ◌++◌, length, Result, Ok, Err, refl, ap, subst, ◌∙◌, arith}
use Rattle.tree_values.specs.declared.node.Effect.{Effect}
use Rattle.tree_values.specs.declared.node.TreeError.{TreeError}
use Rattle.tree_values.specs.Tree.{Volume, apply}
use Rattle.tree_values.specs.Effects.{unless_refused_at, apply_all}
use Rattle.tree_laws.specs.Laws.{IsFirstRefused}

-- what applies does so from any index on
from_any : (effects : List Effect) (at other : ℕ) (rows new : Volume) → apply_all at effects rows ≡ Ok new → apply_all other effects rows ≡ Ok new
from_any [] at other rows new e = e
from_any (effect ∷ later) at other rows new e = by (apply effect rows) refl e (λ next. from_any later (at + 1) (other + 1) next new)
  where
    by : (r : Result Volume TreeError) → apply effect rows ≡ r → unless_refused_at at r (apply_all (at + 1) later) ≡ Ok new
        → ((next : Volume) → apply_all (at + 1) later next ≡ Ok new → apply_all (other + 1) later next ≡ Ok new) → apply_all other (effect ∷ later) rows ≡ Ok new
    by (Ok next) is e rest = rw is (rest next e)
    by (Err refusal) is e rest = absurd cc

stops : (before : List Effect) (effect : Effect) (after : List Effect) (at : ℕ) (rows left : Volume) (cause : TreeError) → apply_all at before rows ≡ Ok left → apply effect left ≡ Err cause
    → apply_all at (before ++ effect ∷ after) rows ≡ Err (at + length before, cause)
stops [] effect after at rows left cause e refused =
    let same : rows ≡ left = cc in
    let zero : at ≡ at + 0 = omega arith in
    rw (same, refused) (ap (λ n. Err (n, cause)) zero)
stops (first ∷ before) effect after at rows left cause e refused = by (apply first rows) refl e (λ next h. stops before effect after (at + 1) next left cause h refused)
  where
    by : (r : Result Volume TreeError) → apply first rows ≡ r → unless_refused_at at r (apply_all (at + 1) before) ≡ Ok left
        → ((next : Volume) → apply_all (at + 1) before next ≡ Ok left → apply_all (at + 1) (before ++ effect ∷ after) next ≡ Err (at + 1 + length before, cause))
        → apply_all at (first ∷ before ++ effect ∷ after) rows ≡ Err (at + length (first ∷ before), cause)
    by (Ok next) is e rest =
        let one : at + 1 + length before ≡ at + length (first ∷ before) = omega arith in
        rw is (rest next e ∙ ap (λ n. Err (n, cause)) one)
    by (Err refusal) is e rest = absurd cc

pub stopped : (effects : List Effect) (rows : Volume) (i : ℕ) (cause : TreeError) → IsFirstRefused effects rows i cause → apply_all 0 effects rows ≡ Err (i, cause)
stopped effects rows i cause first =
    let place : 0 + length first.before ≡ i = omega (arith, first.index) in
    ap (λ all. apply_all 0 all rows) first.are
    ∙ stops first.before first.effect first.after 0 rows first.left cause first.applied first.refused
    ∙ ap (λ n. Err (n, cause)) place

-- the first that is refused is so many behind the first of all, which has this index
abbrev IsFoundFrom : ℕ → List Effect → Volume → ℕ → TreeError → Type 0
IsFoundFrom at effects rows i cause = (k : ℕ) × (at + k ≡ i) × IsFirstRefused effects rows k cause

found_from : (effects : List Effect) (at : ℕ) (rows : Volume) (i : ℕ) (cause : TreeError) → apply_all at effects rows ≡ Err (i, cause) → IsFoundFrom at effects rows i cause
found_from [] at rows i cause e = absurd cc
found_from (effect ∷ later) at rows i cause e = by (apply effect rows) refl e (λ next. found_from later (at + 1) next i cause)
  where
    by : (r : Result Volume TreeError) → apply effect rows ≡ r → unless_refused_at at r (apply_all (at + 1) later) ≡ Err (i, cause)
        → ((next : Volume) → apply_all (at + 1) later next ≡ Err (i, cause) → IsFoundFrom (at + 1) later next i cause) → IsFoundFrom at (effect ∷ later) rows i cause
    by (Ok next) is e rest =
        let found = rest next e in
        let first = found.2 in
        let place = found.1 in (
          found.0 + 1,
          omega (arith, place),
          record {
            before = effect ∷ first.before;
            effect = first.effect;
            after = first.after;
            are = ap (λ all. effect ∷ all) first.are;
            index = omega (arith, first.index);
            left = first.left;
            applied = rw is (from_any first.before 0 1 next first.left first.applied);
            refused = first.refused;
          },
        )
    by (Err refusal) is e rest =
        let same : ◌≡◌ {A = ℕ × TreeError} (at, refusal) (i, cause) = cc in
        let here : at ≡ i = ap (λ p. p.0) same in
        let why : refusal ≡ cause = ap (λ p. p.1) same in (
          0,
          omega (arith, here),
          record { before = []; effect = effect; after = later; are = refl; index = refl; left = rows; applied = refl; refused = is ∙ ap Err why },
        )

pub first_found : (effects : List Effect) (rows : Volume) (i : ℕ) (cause : TreeError) → apply_all 0 effects rows ≡ Err (i, cause) → IsFirstRefused effects rows i cause
first_found effects rows i cause e =
    let found = found_from effects 0 rows i cause e in
    let place = found.1 in
    let index : found.0 ≡ i = omega (arith, place) in
    subst (λ n. IsFirstRefused effects rows n cause) index found.2
