-- Changes that are kept one by one: how they go on from call to call.
use Rattle.std.proofs.Common.{Bool, true, false, ◌≡◌, ℕ, ◌+◌, ◌-◌, ◌<◌, ◌≤◌, List, [], ◌∷◌, ◌++◌, length, drop, map, Option, None, Some, IfSome, Ok, refl, sym, ◌∙◌, ap, subst, arith, append_assoc}
use Rattle.std.specs.Prelude.{if◌then◌else◌, nat_le, ◌&&◌, option_map}
use Rattle.std.proofs.lemmas.List.{append-nil, length-append, drop-append-le}
use Rattle.std.proofs.lemmas.Grind.{flat_map-append}
use Rattle.std.proofs.Math.ListN.{drop_of_length-le}
use Rattle.std.proofs.lemmas.Bool.{le-leb}
use Rattle.outside.specs.Outside.{Told}
use Rattle.outside.specs.Keeper.{Images}
use Rattle.outside.specs.declared.errors.KeepError.{KeepError}
use Rattle.mod_log.specs.declared.log.Entry.{Entry}
use Rattle.mod_log.specs.Log.{Log, logged, acknowledged}
use Rattle.store_image.specs.declared.record.ClientRecord.{ClientRecord}
use Rattle.store_image.specs.declared.record.ClientRecord.TheVariants.{Logged, Acked}
use Rattle.store_image.specs.declared.image.TheConstants.{MAX_RECORDS}
use Rattle.store_image.specs.Records.{client_record, client_records, with_record, with_records}
use Rattle.store_image.specs.Spelling.{client as image}
use Rattle.world_rules.proofs.Asks.{told_then, told_as, told_start}
use Rattle.client_core.specs.declared.keeping.Journal.{Journal}
use Rattle.client_core.specs.Client.{Client}
use Rattle.client_core.specs.Journal.{last_logged, notes_since, bytes_with, may_add, next_notes, journal_after}
use Rattle.client_core.specs.Keeping.{IsKeptReady, KeepsNext}
use Rattle.client_core.specs.Noting.{logs_behind, AreRecorded, AreAdded, KeepsRecords, KeepsChanges, records_logged, KeepsLogged}
use Rattle.client_core.proofs.Journal.{JournalIsCurrent, ready_current, acked_note}

-- ---- records, and the logs behind them

pub records_passed : (log : Log) (xs ys : List ClientRecord) → with_records log (xs ++ ys) ≡ with_records (with_records log xs) ys
records_passed log [] ys = refl
records_passed log (x ∷ xs) ys = records_passed (with_record log x) xs ys

pub logs_passed : (log : Log) (xs ys : List ClientRecord) → logs_behind log (xs ++ ys) ≡ logs_behind log xs ++ logs_behind (with_records log xs) ys
logs_passed log [] ys = refl
logs_passed log (x ∷ xs) ys = ap (λ (logs : List Log). with_record log x ∷ logs) (logs_passed (with_record log x) xs ys)

bytes_append : (xs ys : List ClientRecord) → client_records (xs ++ ys) ≡ client_records xs ++ client_records ys
bytes_append xs ys = flat_map-append client_record xs ys

bytes_count : (xs ys : List ClientRecord) → length (client_records (xs ++ ys)) ≡ length (client_records xs) + length (client_records ys)
bytes_count xs ys = ap length (bytes_append xs ys) ∙ length-append (client_records xs) (client_records ys)

-- ---- one stretch after another

added_then : (number : ℕ) (log : Log) (journal : Option Journal) (xs : List ClientRecord) (mid : Log) (later : Option Journal) (ys : List ClientRecord) (last : Log) (now : Option Journal) (a b c : Option (List ℕ))
    → mid ≡ with_records log xs → last ≡ with_records mid ys → AreAdded number log journal xs mid later a b → AreAdded number mid later ys last now b c → AreAdded number log journal (xs ++ ys) last now a c
added_then number log journal [] mid later ys last now a b c is ends first second =
    subst (λ (l : Log). AreAdded number l journal ys last now a c) is
    (subst (λ (j : Option Journal). AreAdded number mid j ys last now a c) first.0 (subst (λ (found : Option (List ℕ)). AreAdded number mid later ys last now found c) first.1 second))
added_then number log journal (x ∷ xs) mid later [] last now a b c is ends first second =
    subst (λ (notes : List ClientRecord). AreAdded number log journal notes last now a c) (sym (append-nil (x ∷ xs)))
    (subst (λ (l : Log). AreAdded number log journal (x ∷ xs) l now a c) (sym ends)
    (subst (λ (j : Option Journal). AreAdded number log journal (x ∷ xs) mid j a c) (sym second.0) (subst (λ (found : Option (List ℕ)). AreAdded number log journal (x ∷ xs) mid later a found) (sym second.1) first)))
added_then number log None (x ∷ xs) mid later (y ∷ ys) last now a b c is ends first second = λ few.
    let count = bytes_count xs (y ∷ ys) in
    let front = first (omega (arith, few, count)) in
    let j : Journal = record { last = last_logged mid; bytes = length (client_records xs) } in
    let behind = (subst (λ (journal : Option Journal). AreAdded number mid journal (y ∷ ys) last now b c) front.0 second) (omega (arith, few, count)) in
    let start = image (record { client = number; log = with_record log x }) in (
      behind.0 ∙ ap (λ (bytes : ℕ). Some (record { last = last_logged last; bytes = bytes })) (sym count),
      behind.1 ∙ ap (option_map (λ (bytes : List ℕ). bytes ++ client_records (y ∷ ys))) front.1
          ∙ ap Some (append_assoc start (client_records xs) (client_records (y ∷ ys)) ∙ ap (λ (rest : List ℕ). start ++ rest) (sym (bytes_append xs (y ∷ ys)))),
    )
added_then number log (Some journal) (x ∷ xs) mid later (y ∷ ys) last now a b c is ends first second = λ few.
    let count = bytes_count (x ∷ xs) (y ∷ ys) in
    let front = first (omega (arith, few, count)) in
    let behind = (subst (λ (j : Option Journal). AreAdded number mid j (y ∷ ys) last now b c) front.0 second) (omega (arith, few, count)) in
    let sum : bytes_with journal (x ∷ xs) + length (client_records (y ∷ ys)) ≡ bytes_with journal ((x ∷ xs) ++ (y ∷ ys)) = omega (arith, count) in (
      behind.0 ∙ ap (λ (bytes : ℕ). Some (record { last = last_logged last; bytes = bytes })) sum,
      behind.1 ∙ ap (option_map (λ (bytes : List ℕ). bytes ++ client_records (y ∷ ys))) front.1 ∙ twice a,
    )
  where
    twice : (found : Option (List ℕ)) → option_map (λ (bytes : List ℕ). bytes ++ client_records (y ∷ ys)) (option_map (λ (bytes : List ℕ). bytes ++ client_records (x ∷ xs)) found) ≡ option_map (λ (bytes : List ℕ). bytes ++ client_records ((x ∷ xs) ++ (y ∷ ys))) found
    twice None = refl
    twice (Some bytes) = ap Some (append_assoc bytes (client_records (x ∷ xs)) (client_records (y ∷ ys)) ∙ ap (λ (rest : List ℕ). bytes ++ rest) (sym (bytes_append (x ∷ xs) (y ∷ ys))))

module _ (name : List ℕ) where
  pub records_then : (x y z : Client) (ns ms : List ClientRecord) (a b c : Images) → KeepsRecords name x y ns a b → KeepsRecords name y z ms b c → KeepsRecords name x z (ns ++ ms) a c
  records_then x y z ns ms a b c first second = record {
    number = second.number ∙ first.number;
    leads = second.leads ∙ ap (λ (log : Log). with_records log ms) first.leads ∙ sym (records_passed x.log ns ms);
    added = added_then x.number x.log x.journal ns y.log y.journal ms z.log z.journal (a name) (b name) (c name) first.leads second.leads first.added
        (subst (λ (number : ℕ). AreAdded number y.log y.journal ms z.log z.journal (b name) (c name)) first.number second.added);
  }

  pub keeps_then : (x y z : Client) (ns ms : List ClientRecord) (i j l : Option Images) → Told i j (KeepsRecords name x y ns) → Told j l (KeepsRecords name y z ms) → Told i l (KeepsRecords name x z (ns ++ ms))
  keeps_then x y z ns ms i j l first second =
      told_then i j l (KeepsRecords name x y ns) (KeepsRecords name y z ms) (KeepsRecords name x z (ns ++ ms)) first second (λ a b c p q. records_then x y z ns ms a b c p q)

  pub keeps_none : (x : Client) (i : Option Images) → Told i i (KeepsRecords name x x [])
  keeps_none x i = told_start i (KeepsRecords name x x []) (λ a. record { number = refl; leads = refl; added = (refl, refl) })

-- ---- the records of what was logged between two logs

pub records_none : (log : Log) → records_logged log log ≡ []
records_none log = ap (map Logged) (drop_of_length-le log.pending {i = last_logged log - log.acked} (omega arith))

pub records_one : (log : Log) (e : Entry) → records_logged log (logged e log) ≡ Logged e ∷ []
records_one log e =
    let n = last_logged log - log.acked in
    let rest = drop-append-le n log.pending (e ∷ []) (omega arith) in
    let none = drop_of_length-le log.pending {i = n} (omega arith) in
    let one : drop n (log.pending ++ e ∷ []) ≡ e ∷ [] = rest ∙ ap (λ (es : List Entry). es ++ e ∷ []) none in
    ap (map Logged) one

pub keeps_same : (name : List ℕ) (x : Client) (i : Option Images) → KeepsLogged name x x i i
keeps_same name x i = subst (λ (notes : List ClientRecord). Told i i (KeepsRecords name x x notes)) (sym (records_none x.log)) (keeps_none name x i)

-- ---- changes

module _ (name : List ℕ) where
  pub logged_changes : (x y : Client) (changes : List Log) (i j : Option Images) → changes ≡ logs_behind x.log (records_logged x.log y.log) → KeepsLogged name x y i j → KeepsChanges name x y changes i j
  logged_changes x y changes i j is kept =
      told_as i j (KeepsRecords name x y (records_logged x.log y.log)) (λ a b. (notes : List ClientRecord) × (changes ≡ logs_behind x.log notes) × KeepsRecords name x y notes a b) kept
      (λ a b keeps. (records_logged x.log y.log, is, keeps))

  -- of one record
  pub noted_changes : (x y : Client) (note : ClientRecord) (i j : Option Images) → Told i j (KeepsRecords name x y (note ∷ [])) → KeepsChanges name x y (with_record x.log note ∷ []) i j
  noted_changes x y note i j kept =
      told_as i j (KeepsRecords name x y (note ∷ [])) (λ a b. (notes : List ClientRecord) × (with_record x.log note ∷ [] ≡ logs_behind x.log notes) × KeepsRecords name x y notes a b) kept
      (λ a b keeps. (note ∷ [], refl, keeps))

  pub changes_same : (x : Client) (i : Option Images) → KeepsChanges name x x [] i i
  changes_same x i =
      told_as i i (KeepsRecords name x x []) (λ a b. (notes : List ClientRecord) × ([] ≡ logs_behind x.log notes) × KeepsRecords name x x notes a b) (keeps_none name x i) (λ a b keeps. ([], refl, keeps))

  pub changes_then : (x y z : Client) (xs ys : List Log) (i j l : Option Images) → KeepsChanges name x y xs i j → KeepsChanges name y z ys j l → KeepsChanges name x z (xs ++ ys) i l
  changes_then x y z xs ys i j l first second =
      told_then i j l (λ a b. (notes : List ClientRecord) × (xs ≡ logs_behind x.log notes) × KeepsRecords name x y notes a b)
      (λ a b. (notes : List ClientRecord) × (ys ≡ logs_behind y.log notes) × KeepsRecords name y z notes a b)
      (λ a b. (notes : List ClientRecord) × (xs ++ ys ≡ logs_behind x.log notes) × KeepsRecords name x z notes a b)
      first second
      (λ a b c p q. (
        p.0 ++ q.0,
        ap (λ (logs : List Log). logs ++ ys) p.1 ∙ ap (λ (logs : List Log). logs_behind x.log p.0 ++ logs) (q.1 ∙ ap (λ (log : Log). logs_behind log q.0) p.2.leads) ∙ sym (logs_passed x.log p.0 q.0),
        records_then name x y z p.0 q.0 a b c p.2 q.2,
      ))

-- ---- one change that is kept

module _ (name : List ℕ) (number : ℕ) (next log : Log) (note : ClientRecord) (is : next ≡ with_record log note) where
  -- the keeping adds just its record, or saves the image where there was no journal
  abbrev IsNext : Option Journal → Bool → Type 0
  IsNext journal rose = IfSome journal (λ j. (notes_since j rose next ≡ note ∷ []) × (next.acked ≤ j.last))

  one_added : (journal : Option Journal) (rose : Bool) → IsNext journal rose → (done : Unit {0}) (x y : Images) → KeepsNext {E = KeepError} name number next (next_notes journal rose next) (Ok done) x y
      → AreAdded number log journal (note ∷ []) next (journal_after {E = KeepError} journal (next_notes journal rose next) next (Ok done)) (x name) (y name)
  one_added None rose one done x y kept = λ few.
      let start : image (record { client = number; log = next }) ≡ image (record { client = number; log = with_record log note }) ++ [] =
      ap (λ (l : Log). image (record { client = number; log = l })) is ∙ sym (append-nil (image (record { client = number; log = with_record log note }))) in
      (refl, kept.here ∙ ap Some (kept.written ∙ start))
  one_added (Some j) rose one done x y kept = λ few.
      let short : bytes_with j (notes_since j rose next) ≤ MAX_RECORDS = subst (λ (notes : List ClientRecord). bytes_with j notes ≤ MAX_RECORDS) (sym one.0) few in
      let may : may_add j rose next ≡ true =
      ap (λ (fresh : Bool). fresh && nat_le (bytes_with j (notes_since j rose next)) MAX_RECORDS) (le-leb next.acked j.last one.1) ∙ le-leb (bytes_with j (notes_since j rose next)) MAX_RECORDS short in
      let chosen : next_notes (Some j) rose next ≡ Some (note ∷ []) = ap (λ (m : Bool). if m then Some (notes_since j rose next) else None) may ∙ ap Some one.0 in
      by (next_notes (Some j) rose next) chosen kept
    where
      by : (some : Option (List ClientRecord)) → some ≡ Some (note ∷ []) → KeepsNext {E = KeepError} name number next some (Ok done) x y
          → (journal_after {E = KeepError} (Some j) some next (Ok done) ≡ Some (record { last = last_logged next; bytes = bytes_with j (note ∷ []) })) × (y name ≡ option_map (λ bytes. bytes ++ client_records (note ∷ [])) (x name))
      by some chosen kept =
          let now = subst (λ (s : Option (List ClientRecord)). KeepsNext {E = KeepError} name number next s (Ok done) x y) chosen kept in (
            ap (λ (s : Option (List ClientRecord)). journal_after {E = KeepError} (Some j) s next (Ok done)) chosen,
            now.here ∙ ap Some now.written.2 ∙ sym (ap (option_map (λ (bytes : List ℕ). bytes ++ client_records (note ∷ []))) now.written.1),
          )

  -- between two moments
  abbrev client_with : Log → Option Journal → Client
  client_with l journal = record { number = number; log = l; journal = journal }

  one_keeps_records : (journal : Option Journal) (rose : Bool) (done : Unit {0}) (i j : Option Images) → ((a : Images) → i ≡ Some a → IsNext journal rose) → Told i j (KeepsNext {E = KeepError} name number next (next_notes journal rose next) (Ok done))
      → Told i j (KeepsRecords name (client_with log journal) (client_with next (journal_after {E = KeepError} journal (next_notes journal rose next) next (Ok done))) (note ∷ []))
  one_keeps_records journal rose done (Some a) (Some b) one told = record { number = refl; leads = is; added = one_added journal rose (one a refl) done a b told }
  one_keeps_records journal rose done (Some a) None one told = told
  one_keeps_records journal rose done None j one told = told

-- the entry that was logged since the log was kept
logged_next : (name : List ℕ) (number : ℕ) (log : Log) (e : Entry) (journal : Option Journal) (a : Images) → JournalIsCurrent (Some a) name number log journal → IsNext name number (logged e log) log (Logged e) refl journal false
logged_next name number log e None a current = tt
logged_next name number log e (Some j) a current =
    let n = j.last - log.acked in
    let rest = drop-append-le n log.pending (e ∷ []) (omega (arith, current.last)) in
    let none = drop_of_length-le log.pending {i = n} (omega (arith, current.last)) in
    let one : drop n (log.pending ++ e ∷ []) ≡ e ∷ [] = rest ∙ ap (λ (es : List Entry). es ++ e ∷ []) none in
    (ap (λ (es : List Entry). map Logged es ++ []) one, omega (arith, current.last))

-- the number up to which entries were acknowledged since
acked_next : (name : List ℕ) (number : ℕ) (log : Log) (upto : ℕ) → log.acked < upto → upto ≤ log.acked + length log.pending → (journal : Option Journal) (a : Images) → JournalIsCurrent (Some a) name number log journal
    → IsNext name number (acknowledged upto log) log (Acked upto) refl journal true
acked_next name number log upto rose high None a current = tt
acked_next name number log upto rose high (Some j) a current = (acked_note name number log upto rose high j current.last, omega (arith, current.last, high))

module _ (name : List ℕ) (x mid y : Client) (done : Unit {0}) (i j : Option Images) where
  -- a client that was kept, logged an entry, and was kept again
  pub keeps_logged : (e : Entry) → mid.number ≡ x.number → mid.log ≡ logged e x.log → mid.journal ≡ x.journal → y.number ≡ mid.number → y.log ≡ mid.log
      → y.journal ≡ journal_after {E = KeepError} mid.journal (next_notes mid.journal false mid.log) mid.log (Ok done) → IsKeptReady i name x
      → Told i j (KeepsNext {E = KeepError} name mid.number mid.log (next_notes mid.journal false mid.log) (Ok done)) → KeepsLogged name x y i j
  keeps_logged e number log journal same_number same_log next kept told =
      let later : Client = record { number = x.number; log = logged e x.log; journal = x.journal } in
      let was : mid ≡ later = λ k. record { number = number k; log = log k; journal = journal k } in
      let after : Client = record { number = x.number; log = logged e x.log; journal = journal_after {E = KeepError} x.journal (next_notes x.journal false (logged e x.log)) (logged e x.log) (Ok done) } in
      let saved : Told i j (KeepsNext {E = KeepError} name x.number (logged e x.log) (next_notes x.journal false (logged e x.log)) (Ok done)) =
      subst (λ (c : Client). Told i j (KeepsNext {E = KeepError} name c.number c.log (next_notes c.journal false c.log) (Ok done))) was told in
      let left : y.journal ≡ after.journal = next ∙ ap (λ (c : Client). journal_after {E = KeepError} c.journal (next_notes c.journal false c.log) c.log (Ok done)) was in
      let now : y ≡ after = λ k. record { number = (same_number ∙ number) k; log = (same_log ∙ log) k; journal = left k } in
      let current = λ (a : Images) (is : i ≡ Some a). subst (λ (k : Option Images). JournalIsCurrent k name x.number x.log x.journal) is (ready_current name x.number x.log x.journal i kept.0 kept.1) in
      subst (λ (c : Client). KeepsLogged name x c i j) (sym now)
      (subst (λ (notes : List ClientRecord). Told i j (KeepsRecords name x after notes)) (sym (records_one x.log e))
      (one_keeps_records name x.number (logged e x.log) x.log (Logged e) refl x.journal false done i j (λ a is. logged_next name x.number x.log e x.journal a (current a is)) saved))

-- ---- a sync

module _ (name : List ℕ) (number : ℕ) where
  abbrev pub client_at : Log → Option Journal → Client
  client_at log journal = record { number = number; log = log; journal = journal }

  -- an acknowledgement that was kept
  pub changes_acked : (mid : Log) (journal : Option Journal) (upto : ℕ) (done : Unit {0}) (i j : Option Images) → mid.acked < upto → upto ≤ mid.acked + length mid.pending → JournalIsCurrent i name number mid journal
      → Told i j (KeepsNext {E = KeepError} name number (acknowledged upto mid) (next_notes journal true (acknowledged upto mid)) (Ok done))
      → KeepsChanges name (client_at mid journal)
      (client_at (acknowledged upto mid) (journal_after {E = KeepError} journal (next_notes journal true (acknowledged upto mid)) (acknowledged upto mid) (Ok done))) (acknowledged upto mid ∷ []) i j
  changes_acked mid journal upto done i j rose high current told =
      let next = acknowledged upto mid in
      let later = journal_after {E = KeepError} journal (next_notes journal true next) next (Ok done) in
      noted_changes name (client_at mid journal) (client_at next later) (Acked upto) i j
      (one_keeps_records name number next mid (Acked upto) refl journal true done i j
      (λ a is. acked_next name number mid upto rose high journal a (subst (λ (k : Option Images). JournalIsCurrent k name number mid journal) is current)) told)

-- ---- from the first keeping of a value on

added_recorded : (number : ℕ) (log : Log) (notes : List ClientRecord) (last : Log) (now : Option Journal) (a b : Option (List ℕ)) → AreAdded number log None notes last now a b → AreRecorded number (logs_behind log notes) a b
added_recorded number log [] last now a b added = added.1
added_recorded number log (note ∷ notes) last now a b added = (notes, refl, λ few. (added few).1)

-- what a client leaves that had no journal
pub recorded_from_none : (name : List ℕ) (x y : Client) (notes : List ClientRecord) (changes : List Log) (old new : Images) → x.journal ≡ None → changes ≡ logs_behind x.log notes → KeepsRecords name x y notes old new
    → AreRecorded x.number changes (old name) (new name)
recorded_from_none name x y notes changes old new none is kept =
    subst (λ (logs : List Log). AreRecorded x.number logs (old name) (new name)) (sym is)
    (added_recorded x.number x.log notes y.log y.journal (old name) (new name) (subst (λ (journal : Option Journal). AreAdded x.number x.log journal notes y.log y.journal (old name) (new name)) none kept.added))
