-- What is appended to what is kept, whole or cut short.
use Rattle.std.proofs.Common.{◌≡◌, ℕ, zero, suc, ◌-◌, ◌^◌, ◌<◌, ◌≤◌, List, [], ◌∷◌, ◌++◌, length, take, refl, sym, ap, subst, ◌∙◌, append_assoc, append-nil, arith, inl, inr}
use Rattle.std.specs.List.{flat_map}
use Rattle.std.proofs.lemmas.Bool.{cases_lt}
use Rattle.std.proofs.lemmas.Grind.{flat_map-append}
use Rattle.std.proofs.lemmas.List.Concat.{flat_map-cons}
use Rattle.byte_fields.specs.Field.{passed, EachFits}
use Rattle.byte_fields.specs.Records.{framed}
use Rattle.byte_fields.proofs.Facts.{eight_bytes}
use Rattle.byte_fields.proofs.Tails.{end_is_torn, cut_is_torn}
use Rattle.mod_log.specs.Log.{Log}
use Rattle.mod_log.proofs.Sums.{size_behind}
use Rattle.store_image.specs.declared.image.ServerImage.{ServerImage}
use Rattle.store_image.specs.declared.record.ClientRecord.{ClientRecord}
use Rattle.store_image.specs.declared.record.ClientRecord.TheVariants.{Logged, Acked}
use Rattle.store_image.specs.declared.record.ServerRecord.{ServerRecord}
use Rattle.store_image.specs.Spelling.{client, ClientFits, IsLogOf, server, ServerFits}
use Rattle.store_image.specs.Records.{IsTorn, client_note, client_record, client_records, with_record, with_records, IsNoteOf, AreNotes, AreRecordsOf, server_record, server_records, server_note, with_taken, with_all_taken, IsTakenOf, AreTakenOf, AreTakenIn}
use Rattle.store_image.specs.Image.{IsKeptWholeFor, IsKeptFor, IsKeptWholeForServer, IsKeptForServer}
use Rattle.store_image.specs.Laws.{RecordsAreAppended, CutRecordsAreTorn}
use Rattle.tree_laws.proofs.Parts.{all_rows}
use Rattle.tree_values.specs.declared.format.Format.TheVariants.{Second}
use Rattle.mod_log.specs.declared.log.Entry.{Entry}
use Rattle.store_image.proofs.Growing.{all_known}
use Rattle.store_image.proofs.Entries.{AreOf}
use Rattle.store_image.proofs.Images.{client_made}
use Rattle.store_image.proofs.Notes.{note_spelled}
use Rattle.store_image.proofs.Taken.{taken_small}
use Rattle.store_image.proofs.Whole.{whole_stands}

-- ---- any records

module _ {S A : Type 0} (after : S → A → S) where
  passed_append : (state : S) (xs ys : List A) → passed after state (xs ++ ys) ≡ passed after (passed after state xs) ys
  passed_append state [] ys = refl
  passed_append state (x ∷ xs) ys = passed_append (after state x) xs ys

  each_append : (Fits : S → A → Type 0) (state : S) (xs ys : List A) → EachFits Fits after state xs → EachFits Fits after (passed after state xs) ys → EachFits Fits after state (xs ++ ys)
  each_append Fits state [] ys each more = more
  each_append Fits state (x ∷ xs) ys each more = (each.0, each_append Fits (after state x) xs ys each.1 more)

no_tail : IsTorn []
no_tail = end_is_torn [] 0 (omega arith)

-- a record that is cut short is torn
cut_torn : (text : List ℕ) (count : ℕ) → length text < 2 ^ 32 → count < length (framed text) → IsTorn (take count (framed text))
cut_torn text count small lt = cut_is_torn (framed text) 0 text (length (framed text)) count (whole_stands (framed text)) small (omega arith) lt

take_within : (n : ℕ) (xs ys : List ℕ) → n ≤ length xs → take n (xs ++ ys) ≡ take n xs
take_within zero xs ys le = refl
take_within (suc n) [] ys le = absurd (omega arith)
take_within (suc n) (x ∷ xs) ys le = ap (λ (rest : List ℕ). x ∷ rest) (take_within n xs ys (omega arith))

pub take_past : (n : ℕ) (xs ys : List ℕ) → length xs ≤ n → take n (xs ++ ys) ≡ xs ++ take (n - length xs) ys
take_past n [] ys le = let same : n ≡ n - 0 = omega arith in ap (λ (k : ℕ). take k ys) same
take_past zero (x ∷ xs) ys le = absurd (omega arith)
take_past (suc n) (x ∷ xs) ys le =
    let same : n - length xs ≡ suc n - suc (length xs) = omega arith in
    ap (λ (rest : List ℕ). x ∷ rest) (take_past n xs ys (omega arith) ∙ ap (λ (k : ℕ). xs ++ take k ys) same)

pub take_none : (n : ℕ) → take {A = ℕ} n [] ≡ []
take_none zero = refl
take_none (suc n) = refl

module _ {S A : Type 0} (record_of : A → List ℕ) (after : S → A → S) (Fits : S → A → Type 0) (Whole Kept : S → List ℕ → Type 0)
    (kept : (state : S) (bytes : List ℕ) → Whole state bytes → Kept state bytes)
    (one : (state : S) (bytes : List ℕ) (x : A) → Whole state bytes → Fits state x → Whole (after state x) (bytes ++ record_of x))
    (cut : (state : S) (bytes : List ℕ) (x : A) (count : ℕ) → Whole state bytes → Fits state x → count < length (record_of x) → Kept state (bytes ++ take count (record_of x))) where
  all_cut : (xs : List A) (state : S) (bytes : List ℕ) (count : ℕ) → Whole state bytes → EachFits Fits after state xs → (whole : ℕ) × Kept (passed after state (take whole xs)) (bytes ++ take count (flat_map record_of xs))
  all_cut [] state bytes count whole each = (0, rw (take_none count, append-nil bytes) (kept state bytes whole))
  all_cut (x ∷ xs) state bytes count whole each =
      let first = record_of x in
      let rest = flat_map record_of xs in
      let split : flat_map record_of (x ∷ xs) ≡ first ++ rest = flat_map-cons record_of x xs in
      elim (cases_lt count (length first)) [
        | inl lt ↦
            let front : take count first ≡ take count (flat_map record_of (x ∷ xs)) = sym (ap (take count) split ∙ take_within count first rest (omega (arith, lt))) in
            (0, subst (λ (text : List ℕ). Kept state (bytes ++ text)) front (cut state bytes x count whole each.0 lt))
        | inr ge ↦
            let r = all_cut xs (after state x) (bytes ++ first) (count - length first) (one state bytes x whole each.0) each.1 in
            let same : (bytes ++ first) ++ take (count - length first) rest ≡ bytes ++ take count (flat_map record_of (x ∷ xs)) =
            append_assoc bytes first (take (count - length first) rest) ∙ ap (λ (text : List ℕ). bytes ++ text) (sym (ap (take count) split ∙ take_past count first rest ge)) in
            (suc r.0, subst (λ (text : List ℕ). Kept (passed after (after state x) (take r.0 xs)) text) same r.1)
      ]

alone : {A : Type 0} (f : A → List ℕ) (x : A) → flat_map f (x ∷ []) ≡ f x
alone f x = flat_map-cons f x [] ∙ append-nil (f x)

-- ---- the second format has all

notes_known : (notes : List ClientRecord) → AreRecordsOf Second notes
notes_known [] = tt
notes_known (Logged e ∷ notes) = (all_known e.effects, notes_known notes)
notes_known (Acked n ∷ notes) = (tt, notes_known notes)

taken_known : (notes : List ServerRecord) → AreTakenIn Second notes
taken_known [] = tt
taken_known (note ∷ notes) = (all_known note.effects, taken_known notes)

pub entries_known : (es : List Entry) → AreOf Second es
entries_known [] = tt
entries_known (e ∷ es) = (all_known e.effects, entries_known es)

pub log_known : (l : Log) → IsLogOf Second l
log_known l = record { rows_are = all_rows l.base; entries_are = entries_known l.pending }

-- ---- of a client

module _ (number : ℕ) where
  client_kept : (log : Log) (bytes : List ℕ) → IsKeptWholeFor number log bytes → IsKeptFor number log bytes
  client_kept log bytes whole = record { format = Second; front = bytes; tail = []; whole = whole; torn = no_tail; parts = sym (append-nil bytes) }

  client_all : (log : Log) (bytes : List ℕ) (notes : List ClientRecord) → IsKeptWholeFor number log bytes → AreNotes log notes → IsKeptWholeFor number (with_records log notes) (bytes ++ client_records notes)
  client_all log bytes notes w are =
      let text = client (client_made number w.first) in
      record {
        first = w.first;
        notes = w.notes ++ notes;
        fits = w.fits;
        are = each_append with_record IsNoteOf w.first w.notes notes w.are (subst (λ (l : Log). AreNotes l notes) w.leads are);
        known = notes_known (w.notes ++ notes);
        leads = ap (λ (l : Log). with_records l notes) w.leads ∙ sym (passed_append with_record w.first w.notes notes);
        spelled =
            ap (λ (b : List ℕ). b ++ client_records notes) w.spelled ∙ append_assoc text (client_records w.notes) (client_records notes)
            ∙ ap (λ (more : List ℕ). text ++ more) (sym (flat_map-append client_record w.notes notes));
      }

  client_one : (log : Log) (bytes : List ℕ) (note : ClientRecord) → IsKeptWholeFor number log bytes → IsNoteOf log note → IsKeptWholeFor number (with_record log note) (bytes ++ client_record note)
  client_one log bytes note w is = subst (λ (text : List ℕ). IsKeptWholeFor number (with_record log note) (bytes ++ text)) (alone client_record note) (client_all log bytes (note ∷ []) w (is, tt))

  note_small : (log : Log) (note : ClientRecord) → IsNoteOf log note → length (client_note note) < 2 ^ 32
  note_small log (Logged e) is = omega (arith, size_behind log.pending e, is.small)
  note_small log (Acked n) is = omega (arith, eight_bytes n)

  client_cut : (log : Log) (bytes : List ℕ) (note : ClientRecord) (count : ℕ) → IsKeptWholeFor number log bytes → IsNoteOf log note → count < length (client_record note) → IsKeptFor number log (bytes ++ take count (client_record note))
  client_cut log bytes note count w is lt = record { format = Second; front = bytes; tail = take count (client_record note); whole = w; torn = cut_torn (client_note note) count (note_small log note is) lt; parts = refl }

-- ---- of a server

server_kept : (image : ServerImage) (bytes : List ℕ) → IsKeptWholeForServer image bytes → IsKeptForServer image bytes
server_kept image bytes whole = record { format = Second; front = bytes; tail = []; whole = whole; torn = no_tail; parts = sym (append-nil bytes) }

server_all : (image : ServerImage) (bytes : List ℕ) (notes : List ServerRecord) → IsKeptWholeForServer image bytes → AreTakenOf image notes → IsKeptWholeForServer (with_all_taken image notes) (bytes ++ server_records notes)
server_all image bytes notes w are = record {
  first = w.first;
  notes = w.notes ++ notes;
  fits = w.fits;
  are = each_append with_taken IsTakenOf w.first w.notes notes w.are (subst (λ (i : ServerImage). AreTakenOf i notes) w.leads are);
  known = taken_known (w.notes ++ notes);
  leads = ap (λ (i : ServerImage). with_all_taken i notes) w.leads ∙ sym (passed_append with_taken w.first w.notes notes);
  spelled =
      ap (λ (b : List ℕ). b ++ server_records notes) w.spelled ∙ append_assoc (server w.first) (server_records w.notes) (server_records notes)
      ∙ ap (λ (more : List ℕ). server w.first ++ more) (sym (flat_map-append server_record w.notes notes));
}

server_one : (image : ServerImage) (bytes : List ℕ) (note : ServerRecord) → IsKeptWholeForServer image bytes → IsTakenOf image note → IsKeptWholeForServer (with_taken image note) (bytes ++ server_record note)
server_one image bytes note w is = subst (λ (text : List ℕ). IsKeptWholeForServer (with_taken image note) (bytes ++ text)) (alone server_record note) (server_all image bytes (note ∷ []) w (is, tt))

server_cut : (image : ServerImage) (bytes : List ℕ) (note : ServerRecord) (count : ℕ) → IsKeptWholeForServer image bytes → IsTakenOf image note → count < length (server_record note) → IsKeptForServer image (bytes ++ take count (server_record note))
server_cut image bytes note count w is lt = record { format = Second; front = bytes; tail = take count (server_record note); whole = w; torn = cut_torn (server_note note) count (taken_small image note is) lt; parts = refl }

-- ---- images

pub client_image_kept : (number : ℕ) (log : Log) (bytes : List ℕ) → ClientFits (client_made number log) → bytes ≡ client (client_made number log) → IsKeptWholeFor number log bytes × IsKeptFor number log bytes
client_image_kept number log bytes fits is =
    let whole : IsKeptWholeFor number log bytes = record { first = log; notes = []; fits = record { fits = fits; known = log_known log }; are = tt; known = tt; leads = refl; spelled = is ∙ sym (append-nil (client (client_made number log))) } in
    (whole, client_kept number log bytes whole)

pub server_image_kept : (image : ServerImage) (bytes : List ℕ) → ServerFits image → bytes ≡ server image → IsKeptWholeForServer image bytes × IsKeptForServer image bytes
server_image_kept image bytes fits is =
    let whole : IsKeptWholeForServer image bytes = record { first = image; notes = []; fits = record { fits = fits; known = all_rows image.tree }; are = tt; known = tt; leads = refl; spelled = is ∙ sym (append-nil (server image)) } in
    (whole, server_kept image bytes whole)

-- ---- the laws

pub records_are_appended : RecordsAreAppended
records_are_appended = record {
  clients_kept = client_kept;
  servers_kept = server_kept;
  behind_client = client_one;
  behind_server = server_one;
  all_behind_client = client_all;
  all_behind_server = server_all;
  client_spelled = note_spelled;
}

pub cut_records_are_torn : CutRecordsAreTorn
cut_records_are_torn = record {
  behind_client = client_cut;
  behind_server = server_cut;
  all_behind_client = λ number log bytes notes count w are. all_cut client_record with_record IsNoteOf (IsKeptWholeFor number) (IsKeptFor number) (client_kept number) (client_one number) (client_cut number) notes log bytes count w are;
  all_behind_server = λ image bytes notes count w are. all_cut server_record with_taken IsTakenOf IsKeptWholeForServer IsKeptForServer server_kept server_one server_cut notes image bytes count w are;
}
