-- Pending entries and the tree that they lead to.
use Rattle.std.proofs.Common.{◌≡◌, ◌≢◌, ℕ, zero, suc, ◌+◌, ◌-◌, ◌<◌, ◌≤◌, get_or, Bool, true, false, List, [], ◌∷◌, ◌++◌, length, take, drop, Option, Some, None, Result, Ok, Err, refl, sym, ap, ◌∙◌, subst, arith}
use Rattle.std.specs.List.{sum_by, flat_map}
use Rattle.std.proofs.lemmas.List.{map-append}
use Rattle.std.proofs.lemmas.List.Sums.{sum_by-cons}
use Rattle.byte_fields.specs.Numbers.{as_u64}
use Rattle.tree_values.specs.declared.node.Effect.{Effect}
use Rattle.file_paths.specs.Refusals.{when, unless_refused}
use Rattle.tree_values.specs.Tree.{Volume}
use Rattle.vol_tree.specs.declared.effects.ApplyAllError.{ApplyAllError}
use Rattle.vol_tree.specs.declared.effects.ApplyAllError.TheVariants.{At, Memory as NoMemory}
use Rattle.tree_values.specs.Effects.{changed_all, apply_all, contents_size}
use Rattle.vol_tree.specs.Applying.{IsAllRefusal}
use Rattle.vol_tree.specs.Undos.{undone_all, CanUndoAll}
use Rattle.tree_values.specs.Spelling.{EffectsFit}
use Rattle.vol_tree.proofs.Behind.{applied-changes}
use Rattle.mod_log.specs.declared.origin.Origin.{Origin}
use Rattle.mod_log.specs.Origin.{MadeByFits}
use Rattle.mod_log.specs.declared.log.Pending.{Pending}
use Rattle.mod_log.specs.declared.log.LogError.{LogError}
use Rattle.mod_log.specs.declared.log.LogError.TheVariants.{EntryTooLarge, LogFull, LastNumber, Tree, Memory}
use Rattle.mod_log.specs.Log.{Log, entry, after, tree_of, IsLog, logged, acknowledged}
use Rattle.mod_log.specs.Append.{next_entry, is_too_large, log_size_with, log_has_no_room, is_at_last, refused_effect, appended}
use Rattle.mod_log.specs.Inside.{rolled_back, entries_of, KeepsEntry, AreKept, log_of, AreFields, room_refusals, log_error}
use Rattle.mod_log.proofs.Sums.{size_behind, size_front}
use Rattle.mod_log.proofs.Entries.{acknowledged_is_log}
use Rattle.mod_log.proofs.Appending.{logged_is_log}

-- the entries lead from the base to the tree
pub after_kept : (pending : List Pending) (tree : Volume) → AreKept pending tree → after (entries_of pending) (rolled_back pending tree) ≡ tree
after_kept [] tree kept = refl
after_kept (first ∷ later) tree kept = ap (after (entries_of later)) kept.0.leads ∙ after_kept later tree kept.1

-- ---- without the first entries

rolled_back-drop : (pending : List Pending) (tree : Volume) (count : ℕ) → AreKept pending tree → rolled_back (drop count pending) tree ≡ after (take count (entries_of pending)) (rolled_back pending tree)
rolled_back-drop pending tree zero kept = refl
rolled_back-drop [] tree (suc count) kept = refl
rolled_back-drop (first ∷ later) tree (suc count) kept = rolled_back-drop later tree count kept.1 ∙ ap (after (take count (entries_of later))) (sym kept.0.leads)

kept-drop : (pending : List Pending) (tree : Volume) (count : ℕ) → AreKept pending tree → AreKept (drop count pending) tree
kept-drop pending tree zero kept = kept
kept-drop [] tree (suc count) kept = tt
kept-drop (first ∷ later) tree (suc count) kept = kept-drop later tree count kept.1

entries-drop : (pending : List Pending) (count : ℕ) → entries_of (drop count pending) ≡ drop count (entries_of pending)
entries-drop pending zero = refl
entries-drop [] (suc count) = refl
entries-drop (first ∷ later) (suc count) = entries-drop later count

abbrev total_size : List Pending → ℕ
total_size pending = sum_by (λ kept. kept.size) pending

size-split : (pending : List Pending) (tree : Volume) (count : ℕ) → AreKept pending tree → length (flat_map entry (entries_of pending)) ≡ total_size (take count pending) + length (flat_map entry (entries_of (drop count pending)))
size-split pending tree zero kept = omega arith
size-split [] tree (suc count) kept = omega arith
size-split (first ∷ later) tree (suc count) kept =
    omega (arith, size_front first.entry (entries_of later), kept.0.size, sum_by-cons (λ (k : Pending). k.size) first (take count later), size-split later tree count kept.1)

pub record IsShorter (log : Log) (tree : Volume) (rest : List Pending) (size number front : ℕ) : Type 0 where
  pub fields : AreFields number tree rest (size - front)
  pub view : log_of number tree rest ≡ acknowledged number log
  pub small : front ≤ size

pub shorter : (log : Log) (acked : ℕ) (tree : Volume) (pending rest : List Pending) (size number front : ℕ) → log_of acked tree pending ≡ log → AreFields acked tree pending size → log.acked < number → number ≤ log.acked + length log.pending
    → rest ≡ drop (number - acked) pending → front ≡ as_u64 (total_size (take (number - acked) pending)) → IsShorter log tree rest size number front
shorter log acked tree pending rest size number front viewed fields above within is sum =
    let old = log_of acked tree pending in
    let count = number - acked in
    let split = size-split pending tree count fields.kept in
    let same : front ≡ total_size (take count pending) = omega (arith, sum, split, fields.sum, fields.log.small) in
    let from = ap (λ (l : Log). l.acked) viewed in
    let long = ap (λ (l : Log). length l.pending) viewed in
    let view : log_of number tree (drop count pending) ≡ acknowledged number old =
    λ i. record { acked = number; base = rolled_back-drop pending tree count fields.kept i; pending = entries-drop pending count i } in
    record {
      fields = subst (λ r. AreFields number tree r (size - front)) (sym is) (record {
        kept = kept-drop pending tree count fields.kept;
        log = subst IsLog (sym view) (acknowledged_is_log old number fields.log (omega (arith, from, above)) (omega (arith, from, long, within)));
        sum = omega (arith, same, split, fields.sum);
      });
      view = ap (log_of number tree) is ∙ view ∙ ap (acknowledged number) viewed;
      small = omega (arith, same, split, fields.sum);
    }

-- ---- what is answered

module _ (origin : Option Origin) (effects : List Effect) (log : Log) where
  abbrev table : Bool → Bool → Bool → Option LogError → Result Log LogError
  table large full last refusal =
      unless_refused
      (when large (EntryTooLarge (length effects) (as_u64 (contents_size effects)))
      ∷ when full (LogFull (length log.pending) (as_u64 (log_size_with (next_entry origin effects log) log)))
      ∷ when last LastNumber
      ∷ refusal
      ∷ [])
      (logged (next_entry origin effects log) log)

  pub appended_as : (refusal : Option LogError) → is_too_large effects ≡ false → log_has_no_room (next_entry origin effects log) log ≡ false → is_at_last log ≡ false
      → refused_effect (apply_all 0 effects (tree_of log)) ≡ refusal → appended origin effects log ≡ unless_refused (refusal ∷ []) (logged (next_entry origin effects log) log)
  appended_as refusal small room number is = λ i. table (small i) (room i) (number i) (is i)

-- ---- the log with one more

AreKept-push : (pending : List Pending) (tree after : Volume) (kept : Pending) → AreKept pending tree → KeepsEntry kept tree after → undone_all kept.undos.items after ≡ tree
    → AreKept (pending ++ kept ∷ []) after × (rolled_back (pending ++ kept ∷ []) after ≡ rolled_back pending tree)
AreKept-push [] tree after kept are is back = ((subst (λ before. KeepsEntry kept before after) (sym back) is, tt), back)
AreKept-push (first ∷ later) tree after kept are is back =
    let rest = AreKept-push later tree after kept are.1 is back in
    ((subst (λ r. KeepsEntry first (undone_all first.undos.items r) r) (sym rest.1) are.0, rest.0), ap (undone_all first.undos.items) rest.1)

pub record IsLonger (acked : ℕ) (after : Volume) (pending : List Pending) (size : ℕ) (log : Log) : Type 0 where
  pub fields : AreFields acked after pending size
  pub view : log_of acked after pending ≡ log

pub longer : (acked : ℕ) (tree next : Volume) (pending : List Pending) (size : ℕ) (kept : Pending) (origin : Option Origin) (effects : List Effect)
    → AreFields acked tree pending size → kept.entry ≡ next_entry origin effects (log_of acked tree pending) → kept.size ≡ length (entry kept.entry)
    → undone_all kept.undos.items next ≡ tree → CanUndoAll kept.undos.items next → apply_all 0 effects tree ≡ Ok next → MadeByFits origin → EffectsFit effects
    → log_has_no_room (next_entry origin effects (log_of acked tree pending)) (log_of acked tree pending) ≡ false → is_at_last (log_of acked tree pending) ≡ false
    → IsLonger acked next (pending ++ kept ∷ []) (size + kept.size) (logged (next_entry origin effects (log_of acked tree pending)) (log_of acked tree pending))
longer acked tree next pending size kept origin effects fields entry_is kept_size back can applies made fits room number =
    let more : entries_of (pending ++ kept ∷ []) ≡ entries_of pending ++ kept.entry ∷ [] = map-append (λ k. k.entry) pending (kept ∷ []) in
    let tree_is : tree_of (log_of acked tree pending) ≡ tree = after_kept pending tree fields.kept in
    let next_is : next ≡ changed_all effects tree = applied-changes effects 0 tree next applies in
    let here : KeepsEntry kept tree next = record {
      leads = ap (λ e. changed_all e.effects tree) entry_is ∙ sym next_is;
      can_undo = can;
      size = kept_size;
    } in
    let are = AreKept-push pending tree next kept fields.kept here back in
    let view : log_of acked next (pending ++ kept ∷ []) ≡ logged (next_entry origin effects (log_of acked tree pending)) (log_of acked tree pending) =
    λ i. record { acked = acked; base = are.1 i; pending = (more ∙ ap (λ e. entries_of pending ++ e ∷ []) entry_is) i } in
    let all : apply_all 0 effects (tree_of (log_of acked tree pending)) ≡ Ok (changed_all effects (tree_of (log_of acked tree pending))) =
    subst (λ t. apply_all 0 effects t ≡ Ok (changed_all effects t)) (sym tree_is) (applies ∙ ap Ok next_is) in
    let sizes = ap (λ es. length (flat_map entry es)) more ∙ size_behind (entries_of pending) kept.entry in
    record {
      fields = record {
        kept = are.0;
        log = subst IsLog (sym view) (logged_is_log origin effects (log_of acked tree pending) fields.log made fits all room number);
        sum = omega (arith, sizes, fields.sum, kept_size);
      };
      view = view;
    }

-- the next entry is logged, as appending its effects does
pub logged_next : (log : Log) (acked : ℕ) (tree next : Volume) (pending : List Pending) (size : ℕ) (kept : Pending) → log_of acked tree pending ≡ log → AreFields acked tree pending size
    → kept.entry ≡ next_entry kept.entry.origin kept.entry.effects log → kept.size ≡ length (entry kept.entry) → undone_all kept.undos.items next ≡ tree → CanUndoAll kept.undos.items next → apply_all 0 kept.entry.effects tree ≡ Ok next
    → MadeByFits kept.entry.origin → EffectsFit kept.entry.effects → is_too_large kept.entry.effects ≡ false → log_has_no_room kept.entry log ≡ false → is_at_last log ≡ false
    → IsLonger acked next (pending ++ kept ∷ []) (size + kept.size) (logged kept.entry log) × (appended kept.entry.origin kept.entry.effects log ≡ Ok (logged kept.entry log))
logged_next log acked tree next pending size kept viewed fields is_next kept_size back can applies made fits small room number =
    let o = kept.entry.origin in
    let es = kept.entry.effects in
    let has_room : log_has_no_room (next_entry o es log) log ≡ false = subst (λ e. log_has_no_room e log ≡ false) is_next room in
    let done = longer acked tree next pending size kept o es fields (is_next ∙ ap (next_entry o es) (sym viewed)) kept_size back can applies made fits
    (subst (λ l. log_has_no_room (next_entry o es l) l ≡ false) (sym viewed) has_room) (subst (λ l. is_at_last l ≡ false) (sym viewed) number) in
    let tree_is : tree ≡ tree_of log = sym (after_kept pending tree fields.kept) ∙ ap tree_of viewed in (
      record { fields = done.fields; view = done.view ∙ ap (λ l. logged (next_entry o es l) l) viewed ∙ ap (λ e. logged e log) (sym is_next) },
      appended_as o es log None small has_room number (ap refused_effect (ap (apply_all 0 es) (sym tree_is) ∙ applies)) ∙ ap (λ e. Ok (logged e log)) (sym is_next),
    )

-- ---- the first refusal

pub refused_in_room : (origin : Option Origin) (effects : List Effect) (log : Log) (e : LogError) → is_too_large effects ≡ false → unless_refused (room_refusals (next_entry origin effects log) log) log ≡ Err e → appended origin effects log ≡ Err e
refused_in_room origin effects log e small refused = by (is_too_large effects) (log_has_no_room (next_entry origin effects log) log) (is_at_last log) small refused
  where
    by : (a b d : Bool) → a ≡ false → unless_refused (when b (LogFull (length log.pending) (as_u64 (log_size_with (next_entry origin effects log) log))) ∷ when d LastNumber ∷ []) log ≡ Err e
        → table origin effects log a b d (refused_effect (apply_all 0 effects (tree_of log))) ≡ Err e
    by true b d h refused = absurd (cc)
    by false true d h refused = cc
    by false false true h refused = cc
    by false false false h refused = absurd (cc)

-- where the tree refuses an effect
pub refused_as : (origin : Option Origin) (effects : List Effect) (log : Log) (cause : ApplyAllError) (e : LogError) → is_too_large effects ≡ false → log_has_no_room (next_entry origin effects log) log ≡ false → is_at_last log ≡ false
    → IsAllRefusal effects (tree_of log) cause → e ≡ log_error cause → e ≢ Memory → appended origin effects log ≡ Err e
refused_as origin effects log (At i refusal) e small room number refused is no_memory =
    appended_as origin effects log (Some (Tree i refusal)) small room number (ap refused_effect refused) ∙ ap Err (sym is)
refused_as origin effects log NoMemory e small room number refused is no_memory = absurd (no_memory is)

-- ---- back to the base

-- the undos of one entry lead back over it
pub one_back : (pending : List Pending) (k : ℕ) (tree : Volume) → AreKept pending tree → k < length pending → (d : Pending)
    → CanUndoAll (get_or pending k d).undos.items (rolled_back (drop (suc k) pending) tree) × (undone_all (get_or pending k d).undos.items (rolled_back (drop (suc k) pending) tree) ≡ rolled_back (drop k pending) tree)
one_back [] k tree kept within d = absurd (omega arith)
one_back (first ∷ later) zero tree kept within d = (kept.0.can_undo, refl)
one_back (first ∷ later) (suc k) tree kept within d = one_back later k tree kept.1 (omega arith) d
