-- An entry that fits behind a log is what appending its effects gives.
use Rattle.std.proofs.Common.{◌≡◌, ◌≢◌, ℕ, ◌+◌, ◌≤◌, ◌||◌, Bool, false, List, [], ◌∷◌, ◌++◌, length, None, Ok, refl, sym, ap, ◌∙◌, subst, arith, length-append}
use Rattle.std.specs.Prelude.{◌==◌}
use Rattle.std.proofs.lemmas.Bool.Decides.{nat_tests}
use Rattle.byte_fields.proofs.Facts.{lt_fails, le_fails}
use Rattle.tree_values.specs.Limits.{max_effects, max_files}
use Rattle.tree_values.specs.Tree.{Volume}
use Rattle.tree_values.specs.Effects.{changed_all, contents_size}
use Rattle.tree_values.specs.declared.node.Effect.{Effect}
use Rattle.tree_values.specs.Spelling.{EffectsFit}
use Rattle.mod_log.specs.Limits.{max_entries, max_log}
use Rattle.mod_log.specs.declared.log.Entry.{Entry}
use Rattle.mod_log.specs.Log.{Log, after, IsEntryOf, AreEntriesOf, IsLog, logged}
use Rattle.mod_log.specs.Append.{next_entry, is_too_large, log_size_with, log_has_no_room, refused_effect, appended}
use Rattle.mod_log.proofs.Kept.{appended_as}

-- entries with one behind them
pub AreEntriesOf-last : (number : ℕ) (v : Volume) (entries : List Entry) (e : Entry) → AreEntriesOf number v (entries ++ e ∷ []) → AreEntriesOf number v entries × IsEntryOf (number + length entries) (after entries v) e
AreEntriesOf-last number v [] e are = (tt, subst (λ n. IsEntryOf n v e) (omega arith) are.0)
AreEntriesOf-last number v (first ∷ entries) e are =
    let rest = AreEntriesOf-last (number + 1) (changed_all first.effects v) entries e are.1 in
    ((are.0, rest.0), subst (λ n. IsEntryOf n (after entries (changed_all first.effects v)) e) (omega arith) rest.1)

apart : (n limit : ℕ) → n + 1 ≤ limit → (n == limit) ≡ false
apart n limit h = grind (arith, nat_tests)

neither : (a b : Bool) → a ≡ false → b ≡ false → (a || b) ≡ false
neither a b e e' = rw (e, e') refl

small_enough : (effects : List Effect) → EffectsFit effects → is_too_large effects ≡ false
small_enough effects fits = neither _ _ (lt_fails max_effects (length effects) fits.few) (lt_fails max_files (contents_size effects) fits.all_contents)

pub fit_is_appended : (log : Log) (e : Entry) → IsLog (logged e log) → appended e.origin e.effects log ≡ Ok (logged e log)
fit_is_appended log e is =
    let last = (AreEntriesOf-last (log.acked + 1) log.base log.pending e is.entries).1 in
    let seq : e.seq ≡ log.acked + length log.pending + 1 = omega (arith, last.numbered) in
    let same : next_entry e.origin e.effects log ≡ e = λ i. record { seq = sym seq i; origin = e.origin; effects = e.effects; base = sym last.based i } in
    let long = length-append log.pending (e ∷ []) in
    let room : log_has_no_room e log ≡ false = neither _ _ (le_fails max_entries (length log.pending) (omega (arith, long, is.few))) (lt_fails max_log (log_size_with e log) is.small) in
    appended_as e.origin e.effects log None (small_enough e.effects last.fits) (rw same room) (apart (log.acked + length log.pending) 18446744073709551615 (omega (arith, long, is.last))) (ap refused_effect last.applies)
    ∙ ap (λ next. Ok (logged next log)) same

no_effects : EffectsFit [] → ⊥
no_effects fits = omega (arith, fits.some)

pub fit_has_effects : (log : Log) (e : Entry) → IsLog (logged e log) → e.effects ≢ []
fit_has_effects log e is none = no_effects (subst EffectsFit none (AreEntriesOf-last (log.acked + 1) log.base log.pending e is.entries).1.fits)
