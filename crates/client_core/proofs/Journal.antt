-- What a keeping that adds to what is kept finds there, and what it leaves.
use Rattle.std.proofs.Common.{Bool, true, false, ◌≡◌, ◌⊎◌, inl, inr, ⊎_elim, ℕ, zero, suc, ◌+◌, ◌-◌, ◌≤◌, ◌<◌, List, [], ◌∷◌, ◌++◌, length, take, drop, map, Option, None, Some, IfSome, Result, Ok, Err, refl, sym, ◌∙◌, ap, subst, arith, append_assoc}
use Rattle.std.specs.Prelude.{if◌then◌else◌, nat_le, ◌&&◌, slice_get}
use Rattle.std.specs.List.{flat_map}
use Rattle.std.specs.Option.{option_to_list}
use Rattle.std.proofs.lemmas.List.{append-nil, map-append, length-append, length-drop, length-take, take-append-drop, take-append-le, drop-append-le, take_all}
use Rattle.std.proofs.lemmas.Grind.{flat_map-append}
use Rattle.std.proofs.Math.ListN.{drop_of_length-le}
use Rattle.std.proofs.lemmas.Bool.{leb-true}
use Rattle.outside.specs.Outside.{Told}
use Rattle.outside.specs.Keeper.{Images, IsPut, Appends, followed_by}
use Rattle.outside.specs.declared.errors.KeepError.{KeepError}
use Rattle.tree_values.specs.Tree.{Volume}
use Rattle.tree_values.specs.Effects.{changed_all}
use Rattle.mod_log.specs.declared.log.Entry.{Entry}
use Rattle.mod_log.specs.Log.{Log, entry, tree_after, IsEntryOf, AreEntriesOf, IsLog, logged, acknowledged}
use Rattle.mod_log.proofs.Entries.{log_entry_at}
use Rattle.store_image.specs.declared.record.ClientRecord.{ClientRecord}
use Rattle.store_image.specs.declared.record.ClientRecord.TheVariants.{Logged, Acked}
use Rattle.store_image.specs.declared.image.TheConstants.{MAX_CLIENT_IMAGE, MAX_RECORDS}
use Rattle.store_image.specs.Records.{client_record, client_records, with_records, AreNotes, IsSpelled}
use Rattle.store_image.specs.Image.{IsKeptFor, IsKeptWholeFor, Keeps}
use Rattle.store_image.proofs.Keeping.{client_once}
use Rattle.store_image.proofs.Appended.{records_are_appended, cut_records_are_torn}
use Rattle.world_rules.proofs.Asks.{told_as}
use Rattle.client_core.specs.declared.keeping.Journal.{Journal}
use Rattle.client_core.specs.declared.keeping.Piece.{Piece}
use Rattle.client_core.specs.Client.{Client}
use Rattle.client_core.specs.Journal.{last_logged, notes_since, bytes_with, may_add, next_notes, bytes_after, journal_with, journal_after}
use Rattle.client_core.specs.Keeping.{IsKept, log_until, IsReadyFor, IsReady, IsKeptNext, AddsSome, StillKeeps, OthersStay, IsSmall, StaysSmall, most_records, LeavesKept, KeepsNext, WritesNext}
use Rattle.client_core.specs.Inside.{LeadsTo, MayKeep, IsPiece, IsWithin, IsCountedBy}

-- ---- what stands under the name

-- what stands under the name is this very log, without a torn tail, where there is a journal and the keeper tells its images
pub record IsCurrentFor (number : ℕ) (log : Log) (journal : Journal) (found : Option (List ℕ)) : Type 0 where
  pub bytes : List ℕ
  pub stands : found ≡ Some bytes
  pub last : journal.last ≡ last_logged log
  pub whole : IsKeptWholeFor number log bytes

abbrev pub JournalIsCurrent : Option Images → List ℕ → ℕ → Log → Option Journal → Type 0
JournalIsCurrent None name number log journal = Unit {0}
JournalIsCurrent (Some images) name number log journal = IfSome journal (λ journal. IsCurrentFor number log journal (images name))

-- a log is kept under the name; where that is refused, what was kept there still is, or the log is
abbrev pub KeepsLog : {E : Type 0} → List ℕ → ℕ → Log → Result (Unit {0}) E → Images → Images → Type 0
KeepsLog name client log (Ok done) old new = Keeps (new name) client log × OthersStay name old new × StaysSmall name old new
KeepsLog name client log (Err e) old new =
    (StillKeeps (old name) (new name) ⊎ Keeps (new name) client log) × OthersStay name old new × StaysSmall name old new

-- ---- logs and their fronts

abbrev log_of : ℕ → Volume → List Entry → Log
log_of acked base entries = record { acked = acked; base = base; pending = entries }

front_entries : (number : ℕ) (v : Volume) (xs ys : List Entry) → AreEntriesOf number v (xs ++ ys) → AreEntriesOf number v xs
front_entries number v [] ys are = tt
front_entries number v (x ∷ xs) ys are = (are.0, front_entries (number + 1) (changed_all x.effects v) xs ys are.1)

-- a log without its last entries is one
front_is_log : (acked : ℕ) (base : Volume) (xs ys : List Entry) → IsLog (log_of acked base (xs ++ ys)) → IsLog (log_of acked base xs)
front_is_log acked base xs ys is =
    let count = length-append xs ys in
    let size = ap length (flat_map-append entry xs ys) ∙ length-append (flat_map entry xs) (flat_map entry ys) in
    record {
      base_is = is.base_is;
      entries = front_entries (acked + 1) base xs ys is.entries;
      few = omega (arith, is.few, count);
      small = omega (arith, is.small, size);
      last = omega (arith, is.last, count);
    }

-- each entry of a log has a spelling
entry_among : (es : List Entry) (i : ℕ) (e : Entry) → slice_get es i ≡ Some e → length (entry e) ≤ length (flat_map entry es)
entry_among [] zero e is = absurd (cc)
entry_among [] (suc i) e is = absurd (cc)
entry_among (x ∷ es) zero e is =
    let same : x ≡ e = cc in
    let parts = length-append (entry x) (flat_map entry es) in
    subst (λ (y : Entry). length (entry y) ≤ length (flat_map entry (x ∷ es))) same (omega (arith, parts))
entry_among (x ∷ es) (suc i) e is =
    let parts = length-append (entry x) (flat_map entry es) in
    omega (arith, parts, entry_among es i e is)

pub entry_spelled : (log : Log) (i : ℕ) (e : Entry) → Some e ≡ slice_get log.pending i → IsLog log → IsSpelled (Logged e)
entry_spelled log i e is sound =
    let at = sym is in
    let fits : IfSome (Some e) (IsEntryOf (log.acked + 1 + i) (tree_after i log)) = subst (λ (found : Option Entry). IfSome found (IsEntryOf (log.acked + 1 + i) (tree_after i log))) at (log_entry_at log i sound) in
    (fits.fits, omega (arith, entry_among log.pending i e at, sound.small))

-- the last entries of a log lead from the log without them to the log
entries_lead : (acked : ℕ) (base : Volume) (xs ys : List Entry) → IsLog (log_of acked base (xs ++ ys))
    → AreNotes (log_of acked base xs) (map Logged ys) × (with_records (log_of acked base xs) (map Logged ys) ≡ log_of acked base (xs ++ ys))
entries_lead acked base xs [] is = (tt, ap (log_of acked base) (sym (append-nil xs)))
entries_lead acked base xs (y ∷ ys) is =
    let same : (xs ++ y ∷ []) ++ ys ≡ xs ++ y ∷ ys = append_assoc xs (y ∷ []) ys in
    let here : IsLog (log_of acked base ((xs ++ y ∷ []) ++ ys)) = subst (λ (es : List Entry). IsLog (log_of acked base es)) (sym same) is in
    let rest = entries_lead acked base (xs ++ y ∷ []) ys here in
    ((front_is_log acked base (xs ++ y ∷ []) ys here, rest.0), rest.1 ∙ ap (log_of acked base) same)

since_lead : (number : ℕ) (log : Log) → IsLog log
    → AreNotes (log_until number log) (map Logged (drop (number - log.acked) log.pending)) × (with_records (log_until number log) (map Logged (drop (number - log.acked) log.pending)) ≡ log)
since_lead number log is =
    let n = number - log.acked in
    let whole = take-append-drop n log.pending in
    let lead = entries_lead log.acked log.base (take n log.pending) (drop n log.pending) (subst (λ (es : List Entry). IsLog (log_of log.acked log.base es)) (sym whole) is) in
    (lead.0, lead.1 ∙ ap (log_of log.acked log.base) whole)

-- with all its entries it is the log
until_last : (log : Log) (number : ℕ) → number ≡ last_logged log → log_until number log ≡ log
until_last log number is = ap (log_of log.acked log.base) (take_all (number - log.acked) log.pending (omega (arith, is)))

until_all : (log : Log) (number : ℕ) → log_until number log ≡ log → number ≤ last_logged log → log.acked ≤ number → number ≡ last_logged log
until_all log number is last acked =
    let same = ap (λ (l : Log). length l.pending) is in
    let count = length-take (number - log.acked) log.pending in
    omega (arith, same, count, last, acked)

-- and without an entry that was logged since it is the log without it
until_logged : (log : Log) (e : Entry) (number : ℕ) → number ≤ last_logged log → log_until number (logged e log) ≡ log_until number log
until_logged log e number last = ap (log_of log.acked log.base) (take-append-le (number - log.acked) log.pending (e ∷ []) (omega (arith, last)))

-- ---- what a keeping finds

module _ (name : List ℕ) (number : ℕ) where
  module _ (log : Log) (is : IsLog log) where
    ready_leads : (j : Journal) (found : Option (List ℕ)) → IsReadyFor number log j found → LeadsTo number log (notes_since j false log) found
    ready_leads j found ready =
        let lead = since_lead j.last log is in
        subst (λ (notes : List ClientRecord). LeadsTo number log notes found) (sym (append-nil (map Logged (drop (j.last - log.acked) log.pending))))
        (record { bytes = ready.bytes; stands = ready.stands; base = log_until j.last log; whole = ready.whole; noted = lead.0; leads = lead.1 })

    -- a client that may go on under the name
    pub may_keep : (journal : Option Journal) (i : Option Images) → IsReady i name (record { number = number; log = log; journal = journal }) → MayKeep (next_notes journal false log) i name number log
    may_keep None i ready = tt
    may_keep (Some j) i ready = by (may_add j false log) i ready
      where
        by : (may : Bool) (i : Option Images) → IsReady i name (record { number = number; log = log; journal = Some j }) → MayKeep (if may then Some (notes_since j false log) else None) i name number log
        by true None ready = tt
        by true (Some i) ready = ready_leads j (i name) ready
        by false i ready = tt

  module _ (log : Log) where
    -- the log that stands there is one under which the client may go on
    pub current_ready : (journal : Option Journal) (i : Option Images) → JournalIsCurrent i name number log journal → IsCountedBy i name journal → IsReady i name (record { number = number; log = log; journal = journal })
    current_ready journal None current counted = tt
    current_ready None (Some i) current counted = tt
    current_ready (Some j) (Some i) current counted = record {
      bytes = current.bytes;
      stands = current.stands;
      acked = omega (arith, current.last);
      last = omega (arith, current.last);
      whole = subst (λ (l : Log). IsKeptWholeFor number l current.bytes) (sym (until_last log j.last current.last)) current.whole;
      small = subst (λ (found : Option (List ℕ)). IfSome found (λ bytes. length bytes ≤ MAX_CLIENT_IMAGE + j.bytes)) current.stands counted;
    }

    -- and what stands there is counted
    pub ready_counted : (journal : Option Journal) (i : Option Images) → IsReady i name (record { number = number; log = log; journal = journal }) → IsCountedBy i name journal
    ready_counted None i ready = tt
    ready_counted (Some j) None ready = tt
    ready_counted (Some j) (Some i) ready = subst (λ (found : Option (List ℕ)). IfSome found (λ bytes. length bytes ≤ MAX_CLIENT_IMAGE + j.bytes)) (sym ready.stands) ready.small

    -- one that is kept, and may go on there, stands there
    pub ready_current : (journal : Option Journal) (i : Option Images) → IsKept i name number log → IsReady i name (record { number = number; log = log; journal = journal }) → JournalIsCurrent i name number log journal
    ready_current journal None keeps ready = tt
    ready_current None (Some i) keeps ready = tt
    ready_current (Some j) (Some i) keeps ready =
        let here : IsKeptFor number log ready.bytes = subst (λ (found : Option (List ℕ)). Keeps found number log) ready.stands keeps in
        let same = (client_once number number (log_until j.last log) log ready.bytes (records_are_appended.clients_kept number (log_until j.last log) ready.bytes ready.whole) here).1 in
        record {
          bytes = ready.bytes;
          stands = ready.stands;
          last = until_all log j.last same ready.last ready.acked;
          whole = subst (λ (l : Log). IsKeptWholeFor number l ready.bytes) same ready.whole;
        }

    -- logging an entry leaves a client that may go on
    pub logged_ready : (e : Entry) (journal : Option Journal) (i : Option Images) → IsReady i name (record { number = number; log = log; journal = journal }) → IsReady i name (record { number = number; log = logged e log; journal = journal })
    logged_ready e journal None ready = tt
    logged_ready e None (Some i) ready = tt
    logged_ready e (Some j) (Some i) ready =
        let count = length-append log.pending (e ∷ []) in
        record {
          bytes = ready.bytes;
          stands = ready.stands;
          acked = ready.acked;
          last = omega (arith, ready.last, count);
          whole = subst (λ (l : Log). IsKeptWholeFor number l ready.bytes) (sym (until_logged log e j.last ready.last)) ready.whole;
          small = ready.small;
        }

-- a client without a journal may go on anywhere
pub unkept_ready : (i : Option Images) (name : List ℕ) (client : Client) → client.journal ≡ None → IsReady i name client
unkept_ready None name client is = tt
unkept_ready (Some i) name client is = subst (λ (journal : Option Journal). IfSome journal (λ j. IsReadyFor client.number client.log j (i name))) (sym is) tt

-- ---- one note at most

-- where the keeper tells its images, one note at most is added
abbrev pub IsOneAtMost : Option Images → Option (List ClientRecord) → Type 0
IsOneAtMost None notes = Unit {0}
IsOneAtMost (Some images) notes = IfSome notes (λ some. length some ≤ 1)

-- an image adds none
pub none_added : (i : Option Images) → IsOneAtMost i None
none_added None = tt
none_added (Some i) = tt

few_notes : (may : Bool) (notes : List ClientRecord) → length notes ≤ 1 → IfSome (if may then Some notes else None) (λ some. length some ≤ 1)
few_notes true notes few = few
few_notes false notes few = tt

module _ (name : List ℕ) (number : ℕ) (log : Log) where
  -- the entry that was logged since the log was kept
  pub logged_one : (e : Entry) (journal : Option Journal) (i : Option Images) → JournalIsCurrent i name number log journal → IsOneAtMost i (next_notes journal false (logged e log))
  logged_one e journal None current = tt
  logged_one e None (Some i) current = tt
  logged_one e (Some j) (Some i) current =
      let n = j.last - log.acked in
      let rest = drop-append-le n log.pending (e ∷ []) (omega (arith, current.last)) in
      let none = drop_of_length-le log.pending {i = n} (omega (arith, current.last)) in
      let one : drop n (log.pending ++ e ∷ []) ≡ e ∷ [] = rest ∙ ap (λ (es : List Entry). es ++ e ∷ []) none in
      few_notes (may_add j false (logged e log)) (notes_since j false (logged e log))
      (subst (λ (es : List Entry). length (map Logged es ++ []) ≤ 1) (sym one) (omega arith))

  -- nothing, where nothing was logged
  pub same_one : (journal : Option Journal) (i : Option Images) → JournalIsCurrent i name number log journal → IsOneAtMost i (next_notes journal false log)
  same_one journal None current = tt
  same_one None (Some i) current = tt
  same_one (Some j) (Some i) current =
      let none = drop_of_length-le log.pending {i = j.last - log.acked} (omega (arith, current.last)) in
      few_notes (may_add j false log) (notes_since j false log) (subst (λ (es : List Entry). length (map Logged es ++ []) ≤ 1) (sym none) (omega arith))

  module _ (upto : ℕ) (rose : log.acked < upto) (high : upto ≤ log.acked + length log.pending) where
    abbrev next_log : Log
    next_log = acknowledged upto log

    -- the acknowledged number, where the log was kept before
    pub acked_note : (j : Journal) → j.last ≡ last_logged log → notes_since j true next_log ≡ Acked upto ∷ []
    acked_note j is =
        let m = upto - log.acked in
        let left = length-drop m log.pending in
        let none = drop_of_length-le (drop m log.pending) {i = j.last - upto} (omega (arith, left, is, rose, high)) in
        ap (λ (es : List Entry). map Logged es ++ Acked upto ∷ []) none

    pub acked_one : (journal : Option Journal) (i : Option Images) → JournalIsCurrent i name number log journal → IsOneAtMost i (next_notes journal true next_log)
    acked_one journal None current = tt
    acked_one None (Some i) current = tt
    acked_one (Some j) (Some i) current =
        few_notes (may_add j true next_log) (notes_since j true next_log) (subst (λ (notes : List ClientRecord). length notes ≤ 1) (sym (acked_note j current.last)) (omega arith))

    acked_leads : (j : Journal) (found : Option (List ℕ)) → IsCurrentFor number log j found → LeadsTo number next_log (notes_since j true next_log) found
    acked_leads j found current =
        subst (λ (notes : List ClientRecord). LeadsTo number next_log notes found) (sym (acked_note j current.last))
        (record { bytes = current.bytes; stands = current.stands; base = log; whole = current.whole; noted = ((rose, high), tt); leads = refl })

    pub may_keep_acked : (journal : Option Journal) (i : Option Images) → JournalIsCurrent i name number log journal → MayKeep (next_notes journal true next_log) i name number next_log
    may_keep_acked None i current = tt
    may_keep_acked (Some j) i current = by (may_add j true next_log) i current
      where
        by : (may : Bool) (i : Option Images) → JournalIsCurrent i name number log (Some j) → MayKeep (if may then Some (notes_since j true next_log) else None) i name number next_log
        by true None current = tt
        by true (Some i) current = acked_leads j (i name) current
        by false i current = tt

-- ---- what a keeping leaves

-- an image, and what was added to, are small
most_small : (notes : Option (List ClientRecord)) (bytes : List ℕ) → length bytes ≤ MAX_CLIENT_IMAGE + most_records notes → length bytes ≤ MAX_CLIENT_IMAGE + MAX_RECORDS
most_small None bytes small = omega (arith, small)
most_small (Some notes) bytes small = small

module _ {E : Type 0} (name : List ℕ) (number : ℕ) (log : Log) where
  one_keeps : (notes : Option (List ClientRecord)) → IfSome notes (λ some. length some ≤ 1) → (r : Result (Unit {0}) E) (x y : Images) → KeepsNext name number log notes r x y → KeepsLog name number log r x y
  one_keeps notes few (Ok done) x y next = (
    subst (λ (found : Option (List ℕ)). Keeps found number log) (sym next.here) (records_are_appended.clients_kept number log next.bytes next.whole),
    next.others,
    inr (subst IsSmall (sym next.here) (most_small notes next.bytes next.small)),
  )
  one_keeps None few (Err e) x y next = next
  one_keeps (Some notes) few (Err e) x y next = (⊎_elim inl added next.0, next.1, next.2)
    where
      added : AddsSome number log notes (x name) (y name) → StillKeeps (x name) (y name) ⊎ Keeps (y name) number log
      added adds =
          let all = take_all (suc adds.count) notes (omega (arith, few)) in
          inr (subst (Keeps (y name) number) (ap (with_records adds.base) all ∙ adds.leads) adds.keeps)

  -- a keeping that adds one note at most keeps the log
  pub next_keeps : (notes : Option (List ClientRecord)) (r : Result (Unit {0}) E) (i j : Option Images) → IsOneAtMost i notes → Told i j (KeepsNext name number log notes r) → Told i j (KeepsLog name number log r)
  next_keeps notes r (Some x) (Some y) few told = one_keeps notes few r x y told
  next_keeps notes r (Some x) None few told = told
  next_keeps notes r None j few told = told

  -- and what it leaves is what the next one finds
  pub next_current : (journal : Option Journal) (notes : Option (List ClientRecord)) (r : Result (Unit {0}) E) (i j : Option Images) → Told i j (KeepsNext name number log notes r)
      → JournalIsCurrent j name number log (journal_after journal notes log r)
  next_current journal notes r i None told = tt
  next_current journal notes (Err e) i (Some y) told = tt
  next_current journal notes (Ok done) None (Some y) told = absurd (cc)
  next_current journal notes (Ok done) (Some x) (Some y) told = record { bytes = told.bytes; stands = told.here; last = refl; whole = told.whole }

  -- an image that was saved has no records behind it
  pub saved_counted : (r : Result (Unit {0}) E) (i j : Option Images) → Told i j (KeepsNext name number log None r) → IsCountedBy j name (journal_with 0 log r)
  saved_counted (Err e) i j told = tt
  saved_counted (Ok done) i None told = tt
  saved_counted (Ok done) None (Some y) told = absurd (cc)
  saved_counted (Ok done) (Some x) (Some y) told = subst (λ (found : Option (List ℕ)). IfSome found (λ bytes. length bytes ≤ MAX_CLIENT_IMAGE + 0)) (sym told.here) told.small

-- ---- what an append leaves

module _ (name : List ℕ) (number : ℕ) (log : Log) (notes : List ClientRecord) where
  module _ (x y : Images) (leads : LeadsTo number log notes (x name)) (records : ℕ) (within : IsWithin (Some x) name records) (few : records + length (client_records notes) ≤ MAX_RECORDS) where
    behind_small : (piece : List ℕ) → length piece ≤ length (client_records notes) → length (leads.bytes ++ piece) ≤ MAX_CLIENT_IMAGE + MAX_RECORDS
    behind_small piece short =
        let before : length leads.bytes ≤ MAX_CLIENT_IMAGE + records = subst (λ (found : Option (List ℕ)). IfSome found (λ bytes. length bytes ≤ MAX_CLIENT_IMAGE + records)) leads.stands within in
        omega (arith, before, few, short, length-append leads.bytes piece)

    kept_base : Keeps (x name) number leads.base
    kept_base = subst (λ (found : Option (List ℕ)). Keeps found number leads.base) (sym leads.stands) (records_are_appended.clients_kept number leads.base leads.bytes leads.whole)

    stands_behind : (piece : List ℕ) → IsPut name (followed_by piece (x name)) x y → y name ≡ Some (leads.bytes ++ piece)
    stands_behind piece put = put.here ∙ ap (λ (found : Option (List ℕ)). Some (followed_by piece found)) leads.stands

    added_all : IsPut name (followed_by (client_records notes) (x name)) x y → IsKeptNext name number log (Some notes) x y
    added_all put = record {
      bytes = leads.bytes ++ client_records notes;
      here = stands_behind (client_records notes) put;
      written = (leads.bytes, leads.stands, refl);
      whole = subst (λ (l : Log). IsKeptWholeFor number l (leads.bytes ++ client_records notes)) leads.leads (records_are_appended.all_behind_client number leads.base leads.bytes notes leads.whole leads.noted);
      small = behind_small (client_records notes) (omega arith);
      others = put.others;
    }

    -- a state that was kept is the base, and still kept
    still : Keeps (y name) number leads.base → StillKeeps (x name) (y name)
    still keeps = λ client other was.
        let bytes : IsKeptFor client other leads.bytes = subst (λ (found : Option (List ℕ)). Keeps found client other) leads.stands was in
        let same = client_once number client leads.base other leads.bytes (records_are_appended.clients_kept number leads.base leads.bytes leads.whole) bytes in
        subst (λ (c : ℕ). Keeps (y name) c other) same.0 (subst (Keeps (y name) number) same.1 keeps)

    cut_leaves : (whole : ℕ) → Keeps (y name) number (with_records leads.base (take whole notes)) → LeavesKept number log (Some notes) (x name) (y name)
    cut_leaves zero keeps = inl (still keeps)
    cut_leaves (suc count) keeps = inr (record { base = leads.base; kept = kept_base; leads = leads.leads; count = count; keeps = keeps })

    added_cut : (count : ℕ) → IsPut name (followed_by (take count (client_records notes)) (x name)) x y → LeavesKept number log (Some notes) (x name) (y name)
    added_cut count put =
        let cut = cut_records_are_torn.all_behind_client number leads.base leads.bytes notes count leads.whole leads.noted in
        cut_leaves cut.0 (subst (λ (found : Option (List ℕ)). Keeps found number (with_records leads.base (take cut.0 notes))) (sym (stands_behind (take count (client_records notes)) put)) cut.1)

    cut_small : (count : ℕ) → IsPut name (followed_by (take count (client_records notes)) (x name)) x y → IsSmall (y name)
    cut_small count put =
        let short = length-take count (client_records notes) in
        subst IsSmall (sym (stands_behind (take count (client_records notes)) put)) (behind_small (take count (client_records notes)) (omega (arith, short)))

  module _ (records : ℕ) (few : records + length (client_records notes) ≤ MAX_RECORDS) where
    pub appended_keeps : (r : Result (Unit {0}) KeepError) (i j : Option Images) → IsWithin i name records → MayKeep (Some notes) i name number log
        → Told i j (λ old new. Appends name (client_records notes) r old new) → Told i j (KeepsNext name number log (Some notes) r)
    appended_keeps r None j within may told = told
    appended_keeps r (Some x) None within may told = told
    appended_keeps (Ok done) (Some x) (Some y) within may put = added_all x y may records within few put
    appended_keeps (Err e) (Some x) (Some y) within may (inl same) = (
      inl (λ c l keeps. subst (λ (images : Images). Keeps (images name) c l) (sym same) keeps),
      λ other differs. ap (λ (images : Images). images other) same,
      inl (ap (λ (images : Images). images name) same),
    )
    appended_keeps (Err e) (Some x) (Some y) within may (inr put) =
        (added_cut x y may records within few put.0 put.1, put.1.others, inr (cut_small x y may records within few put.0 put.1))

-- behind a piece there are so many more bytes
module _ (name piece : List ℕ) (records all : ℕ) (sum : all ≡ records + length piece) where
  behind_within : (found : Option (List ℕ)) → IfSome found (λ bytes. length bytes ≤ MAX_CLIENT_IMAGE + records) → length (followed_by piece found) ≤ MAX_CLIENT_IMAGE + all
  behind_within None within = omega (arith, sum)
  behind_within (Some bytes) within = omega (arith, sum, within, length-append bytes piece)

  appended_within : (done : Unit {0}) (i j : Option Images) → IsWithin i name records → Told i j (λ old new. Appends {E = KeepError} name piece (Ok done) old new) → IsWithin j name all
  appended_within done i None within told = tt
  appended_within done None (Some y) within told = absurd (cc)
  appended_within done (Some x) (Some y) within put = subst (λ (found : Option (List ℕ)). IfSome found (λ bytes. length bytes ≤ MAX_CLIENT_IMAGE + all)) (sym put.here) (behind_within (x name) within)

-- ---- there is room for what is added

abbrev pub HasRoom : Option Journal → Option (List ClientRecord) → Type 0
HasRoom journal None = Unit {0}
HasRoom None (Some notes) = ⊥
HasRoom (Some journal) (Some notes) = bytes_with journal notes ≤ MAX_RECORDS

and_right : (a b : Bool) → a && b ≡ true → b ≡ true
and_right true b is = is
and_right false b is = absurd (cc)

pub next_room : (journal : Option Journal) (rose : Bool) (log : Log) → HasRoom journal (next_notes journal rose log)
next_room None rose log = tt
next_room (Some j) rose log = by (may_add j rose log) refl
  where
    by : (may : Bool) → may ≡ may_add j rose log → HasRoom (Some j) (if may then Some (notes_since j rose log) else None)
    by true is = leb-true (bytes_with j (notes_since j rose log)) MAX_RECORDS (and_right (nat_le log.acked j.last) (nat_le (bytes_with j (notes_since j rose log)) MAX_RECORDS) (sym is))
    by false is = tt

-- so what stands there and what is added
record RoomFor (journal : Option Journal) (notes : List ClientRecord) (name : List ℕ) (i : Option Images) : Type 0 where
  records : ℕ
  within : IsWithin i name records
  sum : bytes_after (Some notes) journal ≡ records + length (client_records notes)
  few : records + length (client_records notes) ≤ MAX_RECORDS

room_for : (journal : Option Journal) (notes : List ClientRecord) (name : List ℕ) (i : Option Images) → HasRoom journal (Some notes) → IsCountedBy i name journal → RoomFor journal notes name i
room_for None notes name i room counted = absurd room
room_for (Some j) notes name i room counted = record { records = j.bytes; within = counted; sum = refl; few = room }

-- ---- the piece that is appended

module _ (journal : Option Journal) where
  piece_is : (notes : Option (List ClientRecord)) (piece : Piece) → IsPiece journal notes (Some piece) → (some : List ClientRecord) × (notes ≡ Some some) × (piece.records.items ≡ client_records some) × (piece.bytes ≡ bytes_after notes journal)
  piece_is None piece is = absurd is
  piece_is (Some notes) piece is = (notes, refl, is.0, is.1)

  pub no_piece : (notes : Option (List ClientRecord)) (found : Option Piece) → IsPiece journal notes found → found ≡ None → notes ≡ None
  no_piece None found is none = refl
  no_piece (Some notes) found is none = absurd (subst (IsPiece journal (Some notes)) none is)

  pub piece_bytes : (notes : Option (List ClientRecord)) (found : Option Piece) (piece : Piece) → IsPiece journal notes found → found ≡ Some piece → piece.bytes ≡ bytes_after notes journal
  piece_bytes notes found piece is found_is = (piece_is notes piece (subst (IsPiece journal notes) found_is is)).3

  module _ (notes : Option (List ClientRecord)) (found : Option Piece) (piece : Piece) (is : IsPiece journal notes found) (found_is : found ≡ Some piece) (room : HasRoom journal notes) (name : List ℕ) (log : Log) where
    pub piece_keeps : (number : ℕ) (r : Result (Unit {0}) KeepError) (i j : Option Images) → IsCountedBy i name journal → MayKeep notes i name number log → Told i j (λ old new. Appends name piece.records.items r old new)
        → Told i j (KeepsNext name number log notes r)
    piece_keeps number r i j counted may told =
        let p = piece_is notes piece (subst (IsPiece journal notes) found_is is) in
        let fits = room_for journal p.0 name i (subst (HasRoom journal) p.1 room) counted in
        subst (λ (n : Option (List ClientRecord)). Told i j (KeepsNext name number log n r)) (sym p.1)
        (appended_keeps name number log p.0 fits.records fits.few r i j fits.within (subst (λ (n : Option (List ClientRecord)). MayKeep n i name number log) p.1 may)
        (subst (λ (text : List ℕ). Told i j (λ old new. Appends name text r old new)) p.2 told))

    pub piece_counted : (r : Result (Unit {0}) KeepError) (i j : Option Images) → IsCountedBy i name journal → Told i j (λ old new. Appends name piece.records.items r old new) → IsCountedBy j name (journal_with piece.bytes log r)
    piece_counted (Err e) i j counted told = tt
    piece_counted (Ok done) i j counted told =
        let p = piece_is notes piece (subst (IsPiece journal notes) found_is is) in
        let fits = room_for journal p.0 name i (subst (HasRoom journal) p.1 room) counted in
        let sum : piece.bytes ≡ fits.records + length piece.records.items =
        p.3 ∙ ap (λ (n : Option (List ClientRecord)). bytes_after n journal) p.1 ∙ fits.sum ∙ ap (λ (text : List ℕ). fits.records + length text) (sym p.2) in
        appended_within name piece.records.items fits.records piece.bytes sum done i j fits.within told

-- the records of the notes are what is appended
pub piece_writes : (journal : Option Journal) (notes : Option (List ClientRecord)) (found : Option Piece) (piece : Piece) → IsPiece journal notes found → found ≡ Some piece → (name : List ℕ) (number : ℕ) (log : Log)
    (r : Result (Unit {0}) KeepError) (i j : Option Images) → Told i j (λ old new. Appends name piece.records.items r old new) → Told i j (WritesNext name number log notes r)
piece_writes journal notes found piece is found_is name number log r i j told =
    let p = piece_is journal notes piece (subst (IsPiece journal notes) found_is is) in
    subst (λ (n : Option (List ClientRecord)). Told i j (WritesNext name number log n r)) (sym p.1)
    (told_as i j (λ old new. Appends name (client_records p.0) r old new) (WritesNext name number log (Some p.0) r)
    (subst (λ (text : List ℕ). Told i j (λ old new. Appends name text r old new)) p.2 told) (λ x y put. put))

-- ---- the records of entries

drop_none : {X : Type 0} (n : ℕ) → drop {A = X} n [] ≡ []
drop_none zero = refl
drop_none (suc n) = refl

-- the entries up to the next place, behind so many
more_entries : {X : Type 0} (xs : List X) (before i : ℕ) → drop before (take (suc i) xs) ≡ drop before (take i xs) ++ drop (before - i) (option_to_list (slice_get xs i))
more_entries {X} [] before zero = drop_none before ∙ sym (ap (λ (front : List X). front ++ drop (before - 0) []) (drop_none before) ∙ drop_none (before - 0))
more_entries {X} [] before (suc i) = drop_none before ∙ sym (ap (λ (front : List X). front ++ drop (before - suc i) []) (drop_none before) ∙ drop_none (before - suc i))
more_entries (x ∷ xs) zero zero = refl
more_entries {X} (x ∷ xs) (suc before) zero =
    let same : suc before ≡ suc before - 0 = omega arith in
    ap (λ (n : ℕ). drop n (x ∷ [])) same
more_entries {X} (x ∷ xs) zero (suc i) =
    let here : 0 - i ≡ 0 = omega arith in
    let there : 0 ≡ 0 - suc i = omega arith in
    let next = option_to_list (slice_get xs i) in
    ap (λ (rest : List X). x ∷ rest) (more_entries xs zero i ∙ ap (λ (n : ℕ). take i xs ++ drop n next) (here ∙ there))
more_entries {X} (x ∷ xs) (suc before) (suc i) =
    let same : before - i ≡ suc before - suc i = omega arith in
    more_entries xs before i ∙ ap (λ (n : ℕ). drop before (take i xs) ++ drop n (option_to_list (slice_get xs i))) same

abbrev records_of : List Entry → List ℕ
records_of es = client_records (map Logged es)

records_then : (xs ys : List Entry) → records_of (xs ++ ys) ≡ records_of xs ++ records_of ys
records_then xs ys = ap client_records (map-append Logged xs ys) ∙ flat_map-append client_record (map Logged xs) (map Logged ys)

pub entry_put : (es : List Entry) (before i : ℕ) (old mid new : List ℕ) → mid ≡ old ++ records_of (drop before (take i es)) → new ≡ mid ++ records_of (drop (before - i) (option_to_list (slice_get es i)))
    → new ≡ old ++ records_of (drop before (take (suc i) es))
entry_put es before i old mid new was is =
    let next = drop (before - i) (option_to_list (slice_get es i)) in
    let all = sym (records_then (drop before (take i es)) next) ∙ ap records_of (sym (more_entries es before i)) in
    is ∙ ap (λ (front : List ℕ). front ++ records_of next) was ∙ append_assoc old (records_of (drop before (take i es))) (records_of next) ∙ ap (λ (rest : List ℕ). old ++ rest) all
