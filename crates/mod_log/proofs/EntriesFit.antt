-- Each pending entry of a log fits its number, with the versions of just the paths that it touches.
use Rattle.std.proofs.Common.{◌≡◌, ℕ, zero, suc, ◌+◌, ◌<◌, List, [], ◌∷◌, length, get_or, map, refl, sym, ap, subst, arith}
use Rattle.file_paths.specs.Path.{FilePath}
use Rattle.tree_values.specs.declared.node.Effect.{Effect}
use Rattle.tree_values.specs.Tree.{Volume, IsTree}
use Rattle.tree_values.specs.Effects.{touched_all, distinct, changed_all, base_of}
use Rattle.tree_values.specs.Spelling.{EffectsFit, AreBasesOf}
use Rattle.mod_log.specs.declared.log.Entry.{Entry}
use Rattle.mod_log.specs.Log.{IsEntryOf, AreEntriesOf}
use Rattle.mod_log.specs.Reading.{EntryFits}
use Rattle.mod_log.specs.Laws.{PendingEntriesFit}
use Rattle.mod_log.proofs.BasesFit.{versions_of, base_of-fits}
use Rattle.mod_log.proofs.Entries.{entry-tree}

paths_of_versions : (paths : List FilePath) (rows : Volume) → map (λ b. b.path) (versions_of paths rows) ≡ paths
paths_of_versions [] rows = refl
paths_of_versions (path ∷ paths) rows = ap (λ rest. path ∷ rest) (paths_of_versions paths rows)

-- the versions that effects rest on are those of just the paths that they touch
pub base_of-is : (effects : List Effect) (rows : Volume) → EffectsFit effects → IsTree rows → AreBasesOf (distinct (touched_all effects)) (base_of effects rows)
base_of-is effects rows fits tree = (paths_of_versions (distinct (touched_all effects)) rows, base_of-fits effects rows fits tree)

pub entry_fits : (number : ℕ) (v : Volume) (e : Entry) → IsTree v → IsEntryOf number v e → EntryFits number e
entry_fits number v e tree is = record {
  numbered = is.numbered;
  origin_fits = is.origin_fits;
  fits = is.fits;
  based = subst (AreBasesOf (distinct (touched_all e.effects))) (sym is.based) (base_of-is e.effects v is.fits tree);
}

each_fits : (number : ℕ) (v : Volume) (entries : List Entry) (i : ℕ) (d : Entry) → IsTree v → AreEntriesOf number v entries → i < length entries → EntryFits (number + i) (get_or entries i d)
each_fits number v [] i d tree are within = absurd (omega arith)
each_fits number v (e ∷ entries) zero d tree are within =
    let first : number ≡ number + 0 = omega arith in
    subst (λ n. EntryFits n e) first (entry_fits number v e tree are.0)
each_fits number v (e ∷ entries) (suc i) d tree are within =
    let later : number + 1 + i ≡ number + suc i = omega arith in
    subst (λ n. EntryFits n (get_or entries i d)) later (each_fits (number + 1) (changed_all e.effects v) entries i d (entry-tree number v e tree are.0) are.1 (omega (arith, within)))

pub pending_fit : PendingEntriesFit
pending_fit log i d is within = each_fits (log.acked + 1) log.base log.pending i d is.base_is is.entries within
