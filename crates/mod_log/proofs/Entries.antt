-- Entries in a row, and the trees between them.
use Rattle.std.proofs.Common.{◌≡◌, ℕ, zero, suc, ◌+◌, ◌-◌, ◌≤◌, List, [], ◌∷◌, ◌++◌, length, take, drop, Option, Some, None, refl, sym, ap, ◌∙◌, subst, arith}
use Rattle.std.specs.Prelude.{IfSome, slice_get}
use Rattle.std.specs.List.{AllByRecursion}
use Rattle.std.proofs.lemmas.List.{take-append-drop, length-drop}
use Rattle.tree_values.specs.declared.node.Effect.{Effect}
use Rattle.tree_values.specs.Tree.{Volume, IsTree, IsLegalEffect}
use Rattle.tree_values.specs.Effects.{changed_all}
use Rattle.tree_values.specs.Spelling.{EffectFits}
use Rattle.vol_tree.proofs.Behind.{applied_all-tree}
use Rattle.mod_log.specs.declared.log.Entry.{Entry}
use Rattle.mod_log.specs.Log.{Log, after, tree_of, tree_after, IsEntryOf, AreEntriesOf, IsLog, new_log_of, acknowledged, pulled}
use Rattle.mod_log.proofs.Sums.{size_dropped}

pub after-append : (xs ys : List Entry) (v : Volume) → after (xs ++ ys) v ≡ after ys (after xs v)
after-append [] ys v = refl
after-append (x ∷ xs) ys v = after-append xs ys (changed_all x.effects v)

pub legal_each : (es : List Effect) → AllByRecursion EffectFits es → AllByRecursion IsLegalEffect es
legal_each [] fits = tt
legal_each (e ∷ es) fits = (fits.0.0, legal_each es fits.1)

-- an entry leads from a tree to a tree
pub entry-tree : (number : ℕ) (v : Volume) (e : Entry) → IsTree v → IsEntryOf number v e → IsTree (changed_all e.effects v)
entry-tree number v e tree is = applied_all-tree e.effects 0 v (changed_all e.effects v) tree (legal_each e.effects is.fits.each) is.applies

pub after-tree : (number : ℕ) (v : Volume) (entries : List Entry) (count : ℕ) → IsTree v → AreEntriesOf number v entries → IsTree (after (take count entries) v)
after-tree number v entries zero tree are = tree
after-tree number v [] (suc count) tree are = tree
after-tree number v (e ∷ entries) (suc count) tree are = after-tree (number + 1) (changed_all e.effects v) entries count (entry-tree number v e tree are.0) are.1

pub AreEntriesOf-drop : (number : ℕ) (v : Volume) (entries : List Entry) (count : ℕ) → AreEntriesOf number v entries → AreEntriesOf (number + count) (after (take count entries) v) (drop count entries)
AreEntriesOf-drop number v entries zero are = subst (λ n. AreEntriesOf n v entries) (omega arith) are
AreEntriesOf-drop number v [] (suc count) are = tt
AreEntriesOf-drop number v (e ∷ entries) (suc count) are =
    subst (λ n. AreEntriesOf n (after (take count entries) (changed_all e.effects v)) (drop count entries)) (omega arith) (AreEntriesOf-drop (number + 1) (changed_all e.effects v) entries count are.1)

pub AreEntriesOf-push : (number : ℕ) (v : Volume) (entries : List Entry) (e : Entry) → AreEntriesOf number v entries → IsEntryOf (number + length entries) (after entries v) e → AreEntriesOf number v (entries ++ e ∷ [])
AreEntriesOf-push number v [] e are is = (subst (λ n. IsEntryOf n v e) (omega arith) is, tt)
AreEntriesOf-push number v (first ∷ entries) e are is =
    (are.0, AreEntriesOf-push (number + 1) (changed_all first.effects v) entries e are.1 (subst (λ n. IsEntryOf n (after entries (changed_all first.effects v)) e) (omega arith) is))

-- ---- the laws

pub new_is_log : (acked : ℕ) (base : Volume) → acked ≤ 18446744073709551615 → IsTree base → IsLog (new_log_of acked base)
new_is_log acked base le tree = record { base_is = tree; entries = tt; few = omega arith; small = omega arith; last = omega (arith, le) }

pub holds_trees : (log : Log) (count : ℕ) → IsLog log → IsTree (tree_after count log)
holds_trees log count is = after-tree (log.acked + 1) log.base log.pending count is.base_is is.entries

pub acknowledged_is_log : (log : Log) (number : ℕ) → IsLog log → log.acked ≤ number → number ≤ log.acked + length log.pending → IsLog (acknowledged number log)
acknowledged_is_log log number is lower upper =
    let long = length-drop (number - log.acked) log.pending in
    let numbers : log.acked + 1 + (number - log.acked) ≡ number + 1 = omega (arith, lower) in
    record {
      base_is = holds_trees log (number - log.acked) is;
      entries = subst (λ n. AreEntriesOf n (tree_after (number - log.acked) log) (drop (number - log.acked) log.pending)) numbers (AreEntriesOf-drop (log.acked + 1) log.base log.pending (number - log.acked) is.entries);
      few = omega (arith, long, is.few);
      small = omega (arith, size_dropped log.pending (number - log.acked), is.small);
      last = omega (arith, long, lower, upper, is.last);
    }

pub acknowledged_keeps : (log : Log) (number : ℕ) → tree_of (acknowledged number log) ≡ tree_of log
acknowledged_keeps log number =
    sym (after-append (take (number - log.acked) log.pending) (drop (number - log.acked) log.pending) log.base) ∙ ap (λ es. after es log.base) (take-append-drop (number - log.acked) log.pending)

pub pulled_is_log : (log : Log) (seen : Volume) → IsLog log → log.pending ≡ [] → IsTree seen → IsLog (pulled seen log)
pulled_is_log log seen is none tree =
    subst (λ es. IsLog (record { acked = log.acked; base = seen; pending = es })) (sym none) (new_is_log log.acked seen (omega (arith, is.last)) tree)

pub pulled_replaces : (log : Log) (seen : Volume) → log.pending ≡ [] → tree_of (pulled seen log) ≡ seen
pulled_replaces log seen none = ap (λ es. after es seen) none

-- ---- one entry

-- the entry with this index follows the tree of those before it
pub entry_at : (number : ℕ) (v : Volume) (entries : List Entry) (i : ℕ) → AreEntriesOf number v entries → IfSome (slice_get entries i) (IsEntryOf (number + i) (after (take i entries) v))
entry_at number v [] i are = tt
entry_at number v (e ∷ entries) zero are = subst (λ n. IsEntryOf n v e) (omega arith) are.0
entry_at number v (e ∷ entries) (suc i) are = by (slice_get entries i) (entry_at (number + 1) (changed_all e.effects v) entries i are.1)
  where
    by : (o : Option Entry) → IfSome o (IsEntryOf (number + 1 + i) (after (take i entries) (changed_all e.effects v))) → IfSome o (IsEntryOf (number + suc i) (after (take i entries) (changed_all e.effects v)))
    by None h = tt
    by (Some x) h = subst (λ n. IsEntryOf n (after (take i entries) (changed_all e.effects v)) x) (omega arith) h

pub log_entry_at : (log : Log) (i : ℕ) → IsLog log → IfSome (slice_get log.pending i) (IsEntryOf (log.acked + 1 + i) (tree_after i log))
log_entry_at log i is = entry_at (log.acked + 1) log.base log.pending i is.entries
