-- What an entry that is logged leaves.
use Rattle.std.proofs.Common.{◌≡◌, ◌≢◌, ℕ, ◌+◌, ◌≤◌, false, List, [], ◌∷◌, length, Option, None, Result, Ok, Err, refl, sym, ap, ◌∙◌, subst, arith, length-append}
use Rattle.std.specs.Prelude.{nat_lt, nat_le}
use Rattle.std.specs.List.{AllByRecursion}
use Rattle.std.proofs.lemmas.Bool.{eqb-false}
use Rattle.tree_values.specs.declared.node.Effect.{Effect}
use Rattle.tree_values.specs.declared.node.Effect.TheVariants.{Make, Put, Remove, Move, Mode}
use Rattle.tree_values.specs.declared.node.TreeError.{TreeError}
use Rattle.file_paths.specs.Limits.{max_file}
use Rattle.tree_values.specs.Limits.{max_effects, max_files}
use Rattle.mod_log.specs.Limits.{max_entries, max_log}
use Rattle.byte_fields.proofs.Facts.{not_lt_of, not_le_of, or_false_of}
use Rattle.file_paths.proofs.Refusals.{value_unrefused}
use Rattle.tree_values.specs.Tree.{Volume, refusals, changed, apply, IsLegalEffect}
use Rattle.tree_values.specs.Effects.{changed_all, unless_refused_at, apply_all, content_size, contents_size}
use Rattle.tree_values.specs.Spelling.{EffectFits, EffectsFit}
use Rattle.vol_tree.proofs.Trees.{none_refused, not_when}
use Rattle.vol_tree.proofs.Behind.{applied-changes}
use Rattle.mod_log.specs.declared.origin.Origin.{Origin}
use Rattle.mod_log.specs.Origin.{MadeByFits}
use Rattle.mod_log.specs.declared.log.Entry.{Entry}
use Rattle.mod_log.specs.Log.{Log, after, tree_of, IsLog, logged}
use Rattle.mod_log.specs.Append.{next_entry, is_too_large, log_size_with, log_has_no_room, is_at_last, refused_effect, append_refusals, appended}
use Rattle.mod_log.proofs.Entries.{AreEntriesOf-push, after-append}

-- ---- effects that apply fit

small_content : (e : Effect) (v after : Volume) → apply e v ≡ Ok after → content_size e ≤ max_file
small_content (Make p) v after e = omega arith
small_content (Put p content) v after e =
    let none = none_refused (refusals (Put p content) v) (changed (Put p content) v) after e in not_lt_of max_file (length content) (not_when _ _ none.1.1.1.1.0)
small_content (Remove p) v after e = omega arith
small_content (Move p q) v after e = omega arith
small_content (Mode p exec) v after e = omega arith

each_fits : (effects : List Effect) (at : ℕ) (v after : Volume) → AllByRecursion IsLegalEffect effects → apply_all at effects v ≡ Ok after → AllByRecursion EffectFits effects
each_fits [] at v after legal e = tt
each_fits (effect ∷ later) at v after legal e = by (apply effect v) refl e (λ next h. each_fits later (at + 1) next after legal.1 h)
  where
    by : (r : Result Volume TreeError) → apply effect v ≡ r → unless_refused_at at r (apply_all (at + 1) later) ≡ Ok after
        → ((next : Volume) → apply_all (at + 1) later next ≡ Ok after → AllByRecursion EffectFits later) → AllByRecursion EffectFits (effect ∷ later)
    by (Ok next) is e rest = ((legal.0, small_content effect v next is), rest next e)
    by (Err refusal) is e rest = absurd (cc)

pub effects_fit : (effects : List Effect) (v after : Volume) → 1 ≤ length effects → is_too_large effects ≡ false → AllByRecursion IsLegalEffect effects → apply_all 0 effects v ≡ Ok after → EffectsFit effects
effects_fit effects v after some small legal applies =
    let tests = or_false_of (nat_lt max_effects (length effects)) (nat_lt max_files (contents_size effects)) small in
    record { some = some; few = not_lt_of max_effects (length effects) tests.0; each = each_fits effects 0 v after legal applies; all_contents = not_lt_of max_files (contents_size effects) tests.1 }

-- ---- the log with one more

pub logged_is_log : (origin : Option Origin) (effects : List Effect) (log : Log) → IsLog log → MadeByFits origin → EffectsFit effects → apply_all 0 effects (tree_of log) ≡ Ok (changed_all effects (tree_of log))
    → log_has_no_room (next_entry origin effects log) log ≡ false → is_at_last log ≡ false → IsLog (logged (next_entry origin effects log) log)
logged_is_log origin effects log is made fits applies room number =
    let next : Entry = next_entry origin effects log in
    let tests = or_false_of (nat_le max_entries (length log.pending)) (nat_lt max_log (log_size_with (next_entry origin effects log) log)) room in
    let count = not_le_of max_entries (length log.pending) tests.0 in
    let long = length-append log.pending (next_entry origin effects log ∷ []) in
    let last = eqb-false (log.acked + length log.pending) 18446744073709551615 number in
    record {
      base_is = is.base_is;
      entries = AreEntriesOf-push (log.acked + 1) log.base log.pending (next_entry origin effects log) is.entries (record { numbered = omega arith; origin_fits = made; fits = fits; applies = applies; based = refl });
      few = omega (arith, count, long);
      small = not_lt_of max_log (log_size_with (next_entry origin effects log) log) tests.1;
      last = omega (arith, long, last, is.last);
    }

pub logged_tree : (origin : Option Origin) (effects : List Effect) (log : Log) → tree_of (logged (next_entry origin effects log) log) ≡ changed_all effects (tree_of log)
logged_tree origin effects log = after-append log.pending (next_entry origin effects log ∷ []) log.base

applied_by : (r : Result Volume (ℕ × TreeError)) → refused_effect r ≡ None → (next : Volume) × (r ≡ Ok next)
applied_by (Ok next) e = (next, refl)
applied_by (Err refusal) e = absurd (cc)

pub appended_adds : (origin : Option Origin) (effects : List Effect) (log new : Log) → IsLog log → MadeByFits origin → AllByRecursion IsLegalEffect effects → 1 ≤ length effects → appended origin effects log ≡ Ok new
    → (new ≡ logged (next_entry origin effects log) log) × IsLog new × (tree_of new ≡ changed_all effects (tree_of log))
appended_adds origin effects log new is made legal some e =
    let none = none_refused (append_refusals origin effects log) (logged (next_entry origin effects log) log) new e in
    let same = value_unrefused (append_refusals origin effects log) (logged (next_entry origin effects log) log) new e in
    let large = not_when (is_too_large effects) _ none.0 in
    let room = not_when (log_has_no_room (next_entry origin effects log) log) _ none.1.0 in
    let number = not_when (is_at_last log) _ none.1.1.0 in
    let applied = applied_by (apply_all 0 effects (tree_of log)) none.1.1.1.0 in
    let all = applied.1 ∙ ap Ok (applied-changes effects 0 (tree_of log) applied.0 applied.1) in
    let fits = effects_fit effects (tree_of log) (changed_all effects (tree_of log)) some large legal all in
    (same, subst IsLog (sym same) (logged_is_log origin effects log is made fits all room number), ap tree_of same ∙ logged_tree origin effects log)

pub some_effects : (effects : List Effect) → effects ≢ [] → 1 ≤ length effects
some_effects [] some = absurd (some refl)
some_effects (effect ∷ later) some = omega arith
