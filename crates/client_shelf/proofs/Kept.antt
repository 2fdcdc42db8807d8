-- What the keeping of entries that were logged together leaves.
use Rattle.std.proofs.Common.{Bool, true, false, ◌≡◌, ◌⊎◌, inl, inr, ℕ, suc, ◌+◌, ◌-◌, ◌≤◌, length, List, [], ◌++◌, map, take, drop, Option, None, Some, Ok, Err, refl, sym, ◌∙◌, ap, subst, arith}
use Rattle.std.specs.Prelude.{if◌then◌else◌}
use Rattle.std.specs.Str.{bytes_eq}
use Rattle.std.proofs.lemmas.Bool.{true≢false}
use Rattle.std.proofs.lemmas.Slice.Eq.{bytes_eq-Decides}
use Rattle.std.proofs.lemmas.List.{append-nil, take_all}
use Rattle.outside.specs.Outside.{Told}
use Rattle.outside.specs.Keeper.{Images, IsPut, followed_by}
use Rattle.outside.specs.declared.errors.KeepError.{KeepError}
use Rattle.tree_values.specs.declared.node.Effect.{Effect}
use Rattle.mod_log.specs.declared.log.Entry.{Entry}
use Rattle.mod_log.specs.Log.{Log}
use Rattle.store_image.specs.declared.record.ClientRecord.{ClientRecord}
use Rattle.store_image.specs.declared.record.ClientRecord.TheVariants.{Logged}
use Rattle.store_image.specs.Records.{client_records, with_records}
use Rattle.store_image.specs.Image.{Keeps}
use Rattle.store_image.proofs.Appended.{records_are_appended}
use Rattle.client_core.specs.declared.keeping.Journal.{Journal}
use Rattle.client_core.specs.Journal.{notes_since, may_add, next_notes}
use Rattle.client_core.specs.Keeping.{IsKept, IsReady, IsReadyFor, IsSmall, StaysSmall, OthersStay, Kept, most_records, StillKeeps, AddsSome, LeavesKept, KeepsNext, WritesNext}
use Rattle.store_image.specs.declared.image.TheConstants.{MAX_CLIENT_IMAGE, MAX_RECORDS}
use Rattle.world_rules.proofs.Asks.{told_start, told_as, told_then}
use Rattle.client_core.specs.declared.pulling.PullEnd.{PullEnd}
use Rattle.client_core.specs.Causes.{PullKeeps}
use Rattle.outside.specs.declared.errors.KeepError.TheVariants as keepers
use Rattle.client_shelf.specs.Inside.{IsBreak, shelving_stop_by}
use Rattle.client_shelf.specs.Shelving.{appended_all}
use Rattle.client_shelf.specs.Ending.{ChangesOnly, RefusesEntries}
use Rattle.client_shelf.proofs.Logged.{LogsAs, logs_as, logged_behind}
use Rattle.client_shelf.proofs.Due.{keeps_once}

module _ (name : List ℕ) (number : ℕ) (log : Log) (notes : Option (List ClientRecord)) where
  -- what was to be kept is kept
  pub all_kept : (i j : Option Images) → Told i j (KeepsNext {E = KeepError} name number log notes (Ok tt)) → IsKept j name number log
  all_kept (Some x) (Some y) told = subst (λ (found : Option (List ℕ)). Keeps found number log) (sym told.here) (records_are_appended.clients_kept number log told.bytes told.whole)
  all_kept (Some x) None told = absurd told
  all_kept None (Some y) told = absurd (cc)
  all_kept None None told = tt

-- ---- which names are touched

-- a pull touches the name under which its client is kept
pub changes_pulled : (name : List ℕ) (client : ℕ) (before : Log) (end : PullEnd) (after : Log) (i j : Option Images) → PullKeeps name client before end after i j → Told i j (ChangesOnly name)
changes_pulled name client before end after i j keeps =
    told_as i j (Kept name client keeps.kept keeps.changes) (ChangesOnly name) keeps.keeping.told (λ x y kept. (kept.others, kept.small))

-- ---- where nothing was changed

-- where the name has what it had, and the others have, all is as before
images_same : (name : List ℕ) (x y : Images) → y name ≡ x name → OthersStay name x y → y ≡ x
images_same name x y here others = λ i. λ other. each other (bytes_eq other name) refl i
  where
    each : (other : List ℕ) (b : Bool) → bytes_eq other name ≡ b → y other ≡ x other
    each other true is = let same = (bytes_eq-Decides other name).0 is in ap y same ∙ here ∙ sym (ap x same)
    each other false differs = others other (λ same. true≢false (sym ((bytes_eq-Decides other name).1 same) ∙ differs))

pub kept_same : (name : List ℕ) (client : ℕ) (log : Log) (changes : List Log) → changes ≡ [] → (i j : Option Images) → Told i j (Kept name client log changes) → j ≡ i
kept_same name client log changes none (Some x) (Some y) told = ap Some (images_same name x y (told.unchanged none) told.others)
kept_same name client log changes none (Some x) None told = absurd told
kept_same name client log changes none None j told = told

-- what is kept where a keeping was refused: a front of the entries
abbrev pub KeepsSome : ℕ → List ℕ → List (List Effect) → Log → Option Images → Type 0
KeepsSome number name lists log now = (count : ℕ) × (kept : Log) × (appended_all (take count lists) log ≡ Ok kept) × IsKept now name number kept

module _ (name : List ℕ) (number : ℕ) (lists : List (List Effect)) (log after : Log) (idle : log.pending ≡ []) (all : appended_all lists log ≡ Ok after) where
  all_front : appended_all (take (length lists) lists) log ≡ Ok after
  all_front = ap (λ (some : List (List Effect)). appended_all some log) (take_all (length lists) lists (omega arith)) ∙ all

  -- none of them, or all
  by_image : (x y : Images) → Keeps (x name) number log → StillKeeps (x name) (y name) ⊎ Keeps (y name) number after → KeepsSome number name lists log (Some y)
  by_image x y kept (inl still) = (0, log, refl, still number log kept)
  by_image x y kept (inr keeps) = (length lists, after, all_front, keeps)

  module _ (journal : Journal) (x y : Images) (ready : IsReadyFor number log journal (x name)) (kept : Keeps (x name) number log) where
    whole : LogsAs lists log after
    whole = logs_as lists log after all

    is : after ≡ record { acked = log.acked; base = log.base; pending = log.pending ++ whole.entries }
    is = whole.leads ∙ logged_behind log whole.entries

    pending_is : after.pending ≡ whole.entries
    pending_is = ap (λ (l : Log). l.pending) is ∙ ap (λ (before : List Entry). before ++ whole.entries) idle

    -- all of them are what is noted
    notes_are : notes_since journal false after ≡ map Logged whole.entries
    notes_are =
        let acked : after.acked ≡ log.acked = ap (λ (l : Log). l.acked) is in
        let none : length log.pending ≡ 0 = ap length idle in
        let front : journal.last - after.acked ≡ 0 = omega (arith, acked, none, ready.acked, ready.last) in
        append-nil (map Logged (drop (journal.last - after.acked) after.pending))
        ∙ ap (λ (count : ℕ). map Logged (drop count after.pending)) front ∙ ap (map Logged) pending_is

    added : AddsSome number after (notes_since journal false after) (x name) (y name) → KeepsSome number name lists log (Some y)
    added adds =
        let base : adds.base ≡ log = keeps_once (x name) number adds.base log adds.kept kept in
        let count : ℕ = suc adds.count in
        let front : with_records adds.base (take (suc adds.count) (notes_since journal false after)) ≡ with_records log (take (suc adds.count) (map Logged whole.entries)) =
        ap (λ (l : Log). with_records l (take (suc adds.count) (notes_since journal false after))) base
        ∙ ap (λ (notes : List ClientRecord). with_records log (take (suc adds.count) notes)) notes_are in
        (suc adds.count, with_records log (take (suc adds.count) (map Logged whole.entries)), whole.front (suc adds.count), subst (Keeps (y name) number) front adds.keeps)

    by_notes : (may : Bool) → LeavesKept number after (if may then Some (notes_since journal false after) else None) (x name) (y name) → KeepsSome number name lists log (Some y)
    by_notes true (inl still) = by_image x y kept (inl still)
    by_notes true (inr adds) = added adds
    by_notes false left = by_image x y kept left

    -- and these bytes
    wrote_notes : (may : Bool) (e : KeepError) → WritesNext {E = KeepError} name number after (if may then Some (notes_since journal false after) else None) (Err e) x y → RefusesEntries name number lists log (Some x) (Some y)
    wrote_notes true e (inl same) = inl (ap Some same)
    wrote_notes true e (inr put) =
        inr (after, all, inr (put.0, subst (λ (notes : List ClientRecord). IsPut name (followed_by (take put.0 (client_records notes)) (x name)) x y) (notes_are ∙ sym (ap (map Logged) pending_is)) put.1))
    wrote_notes false e (inl same) = inl (ap Some same)
    wrote_notes false e (inr put) = inr (after, all, inl (inr put))

  by_journal : (journal : Option Journal) (x y : Images) → IsReady (Some x) name (record { number = number; log = log; journal = journal }) → Keeps (x name) number log
      → LeavesKept number after (next_notes journal false after) (x name) (y name) → KeepsSome number name lists log (Some y)
  by_journal None x y ready kept left = by_image x y kept left
  by_journal (Some journal) x y ready kept left = by_notes journal x y ready kept (may_add journal false after) left

  pub some_kept : (journal : Option Journal) (e : KeepError) (i j : Option Images) → IsReady i name (record { number = number; log = log; journal = journal }) → IsKept i name number log
      → Told i j (KeepsNext {E = KeepError} name number after (next_notes journal false after) (Err e)) → KeepsSome number name lists log j
  some_kept journal e (Some x) (Some y) ready kept told = by_journal journal x y ready kept told.0
  some_kept journal e (Some x) None ready kept told = absurd told
  some_kept journal e None (Some y) ready kept told = absurd (cc)
  some_kept journal e None None ready kept told = (0, log, refl, tt)

  wrote_journal : (journal : Option Journal) (e : KeepError) (x y : Images) → IsReady (Some x) name (record { number = number; log = log; journal = journal }) → Keeps (x name) number log
      → WritesNext {E = KeepError} name number after (next_notes journal false after) (Err e) x y → RefusesEntries name number lists log (Some x) (Some y)
  wrote_journal None e x y ready kept (inl same) = inl (ap Some same)
  wrote_journal None e x y ready kept (inr put) = inr (after, all, inl (inr put))
  wrote_journal (Some journal) e x y ready kept wrote = wrote_notes journal x y ready kept (may_add journal false after) e wrote

  pub some_wrote : (journal : Option Journal) (e : KeepError) (i j : Option Images) → IsReady i name (record { number = number; log = log; journal = journal }) → IsKept i name number log
      → Told i j (WritesNext {E = KeepError} name number after (next_notes journal false after) (Err e)) → RefusesEntries name number lists log i j
  some_wrote journal e (Some x) (Some y) ready kept told = wrote_journal journal e x y ready kept told
  some_wrote journal e (Some x) None ready kept told = absurd told
  some_wrote journal e None j ready kept told = inl told

-- what stops a shelving whose keeping was refused
pub kept_break : (refused : KeepError) → IsBreak (shelving_stop_by refused)
kept_break keepers.Failed = inl refl
kept_break keepers.Memory = inr refl
