-- The laws of a client's records that break a rule.
use Rattle.std.proofs.Common.{◌≡◌, ◌⊎◌, ℕ, zero, suc, ◌+◌, ◌-◌, ◌^◌, ◌<◌, ◌≤◌, false, List, [], ◌∷◌, ◌++◌, length, take, Ok, Err, inl, inr, refl, sym, ap, subst, ◌∙◌, arith, lit<, append_assoc, length-append}
use Rattle.std.specs.Prelude.{nat_lt, nat_le, sum}
use Rattle.std.specs.Int.{w32, w64}
use Rattle.std.specs.Str.{bytes_eq}
use Rattle.std.specs.List.{AllByRecursion}
use Rattle.std.proofs.lemmas.List.Concat.{flat_map-cons}
use Rattle.byte_fields.specs.Field.{◌>>=◌, digits, limited, ruled, number_at, one, tagged_at, EachFits}
use Rattle.byte_fields.specs.Numbers.{as_u32}
use Rattle.byte_fields.specs.Codec.{Stands}
use Rattle.byte_fields.specs.Cuts.{start_of, IsCut}
use Rattle.byte_fields.specs.Broken.{IsRefused, IsRead}
use Rattle.byte_fields.specs.Records.{framed, framed_at}
use Rattle.byte_fields.proofs.Codec.{failed, u64_codec, stands_first, stands_second}
use Rattle.byte_fields.proofs.Facts.{and_holds, lt_holds, lt_fails, le_holds, le_fails, four_bytes, eight_bytes, sum_more}
use Rattle.byte_fields.proofs.Cutting.{u64_cut, ruled_cut, one_cut, tagged_cut}
use Rattle.byte_fields.proofs.Tails.{whole_is_not_torn, framed_read, framed_refused, left_refused}
use Rattle.byte_fields.proofs.Breaking.{read_again, refused_there, rule_refused, ruled_refused, first_refused, later_refused, tagged_refused, unknown_kind, second_fails}
use Rattle.tree_values.specs.Spelling.{BaseFits}
use Rattle.mod_log.specs.declared.log.Entry.{Entry}
use Rattle.mod_log.specs.Fields.{entry_fields}
use Rattle.mod_log.specs.Log.{Log, entry, tree_of, IsLog}
use Rattle.mod_log.proofs.BasesFit.{base_of-fits}
use Rattle.tree_values.specs.declared.format.Format.TheVariants.{Second}
use Rattle.store_image.specs.declared.image.ImageError.TheVariants.{BadImage}
use Rattle.store_image.specs.declared.record.ClientRecord.{ClientRecord}
use Rattle.store_image.specs.declared.record.ClientRecord.TheVariants.{Logged, Acked}
use Rattle.store_image.specs.Reading.{next_entry_at, server_mark, format_of, client_at}
use Rattle.store_image.specs.Spelling.{client}
use Rattle.store_image.specs.Fields.{client_note_fields}
use Rattle.store_image.specs.Records.{behind_records, client_note, client_record, client_records, client_kinds, client_record_at, client_records_within, client_records_at, is_pending, has_room, with_record, with_records}
use Rattle.store_image.specs.Image.{kept_client_in, kept_client_at, kept_client_of, IsKeptWholeFor}
use Rattle.store_image.specs.BrokenRecords.{IsRefusedClientRecord, ComesNext, BrokenClientRecords}
use Rattle.store_image.proofs.Growing.{all_known}
use Rattle.store_image.proofs.Images.{client_made, client_codec}
use Rattle.store_image.proofs.Notes.{NoteFits, note_codec, RecordFits, client_record_codec, notes_again, log_after_all}
use Rattle.store_image.proofs.Records.{more_than_records}
use Rattle.store_image.proofs.Cuts.{next_entry_cut}
use Rattle.store_image.proofs.Breaking.{whole_refused}
use Rattle.store_image.proofs.BreakingLists.{first_fails}
use Rattle.store_image.proofs.BreakingParts.{whole_tree}
use Rattle.store_image.proofs.BreakingFrames.{front_refused, no_kind, cut_refused}

-- ---- behind an image and whole records

records_refused : (before : List ClientRecord) (most : ℕ) (log : Log) (text : List ℕ) (offset : ℕ) → length before < most → EachFits (RecordFits Second) with_record log before → length text < 2 ^ 32
    → IsRefused (client_record_at Second (with_records log before)) (framed text) offset → IsRefused (client_records_within Second most log) (client_records before ++ framed text) (length (client_records before) + offset)
unfolding client_records_within
records_refused [] zero log text offset lt each small refused bytes at next stands = absurd (omega arith)
records_refused (x ∷ xs) zero log text offset lt each small refused bytes at next stands = absurd (omega arith)
records_refused [] (suc most) log text offset lt each small refused bytes at next stands =
    rw (whole_is_not_torn bytes at text next stands small, refused bytes at next stands) (ap (failed (List ClientRecord × ℕ)) (omega arith))
records_refused (x ∷ xs) (suc most) log text offset lt each small refused bytes at next stands =
    let first = client_record x in
    let more = client_records xs in
    let split : client_records (x ∷ xs) ≡ first ++ more = flat_map-cons client_record x xs in
    let both : Stands bytes at (first ++ (more ++ framed text)) next = subst (λ (t : List ℕ). Stands bytes at t next) (ap (λ (t : List ℕ). t ++ framed text) split ∙ append_assoc first more (framed text)) stands in
    let here = stands_first bytes at first (more ++ framed text) next both in
    let whole = whole_is_not_torn bytes at (client_note x) (at + length first) here each.0.0.1 in
    let one = (client_record_codec Second log).again bytes at x (at + length first) here each.0 in
    let rest = records_refused xs most (with_record log x) text offset (omega (arith, lt)) each.1 small refused bytes (at + length first) next (stands_second bytes at first (more ++ framed text) next both) in
    rw (whole, one, rest) (ap (failed (List ClientRecord × ℕ)) (omega (arith, ap length split, length-append first more)))

-- the same without a bound
all_refused : (before : List ClientRecord) (log : Log) (text : List ℕ) (offset : ℕ) → EachFits (RecordFits Second) with_record log before → length text < 2 ^ 32 → IsRefused (client_record_at Second (with_records log before)) (framed text) offset
    → IsRefused (client_records_at Second log) (client_records before ++ framed text) (length (client_records before) + offset)
all_refused before log text offset each small refused bytes at next stands =
    let enough : length before < length bytes =
    omega (arith, more_than_records before, length-append (client_records before) (framed text), length-append (digits w32 (length text)) text, four_bytes (length text), stands.next_is, stands.within) in
    records_refused before (length bytes) log text offset enough each small refused bytes at next stands

-- behind the image, too
kept_refused : (number : ℕ) (log : Log) (text : List ℕ) (offset : ℕ) (bytes : List ℕ) → IsKeptWholeFor number log bytes → length text < 2 ^ 32 → IsRefused (client_record_at Second log) (framed text) offset
    → IsRefused (kept_client_in Second) (bytes ++ framed text) (length bytes + offset)
unfolding kept_client_in
kept_refused number log text offset bytes w small refused =
    let image = client_made number w.first in
    let records = client_records w.notes in
    let here = all_refused w.notes w.first text offset (notes_again Second w.first w.notes w.fits.fits.log w.are w.known) small (subst (λ (l : Log). IsRefused (client_record_at Second l) (framed text) offset) w.leads refused) in
    let behind = first_refused (client_records_at Second w.first) (λ notes bytes at. Ok (with_records w.first notes, at)) (records ++ framed text) (length records + offset) here in
    let all = later_refused (client_at Second) (λ i bytes at. behind_records (client_records_at Second) with_record i.log bytes at >>= λ log. Ok (client_made i.client log.0, log.1)) (client image) (records ++ framed text) image (length records + offset)
    (read_again (client_codec Second) image w.fits) (first_refused (behind_records (client_records_at Second) with_record w.first) (λ l bytes at. Ok (client_made number l, at)) (records ++ framed text) (length records + offset) behind) in
    let same : client image ++ (records ++ framed text) ≡ bytes ++ framed text = sym (append_assoc (client image) records (framed text)) ∙ ap (λ (t : List ℕ). t ++ framed text) (sym w.spelled) in
    subst (λ (t : List ℕ). IsRefused (kept_client_in Second) t (length bytes + offset)) same
    (refused_there (kept_client_in Second) (client image ++ (records ++ framed text)) (length (client image) + (length records + offset)) (length bytes + offset) (omega (arith, ap length w.spelled, length-append (client image) records)) all)

client_in_told : (bytes : List ℕ) (place : ℕ) → format_of bytes ≡ Second → kept_client_in Second bytes 0 ≡ Err place → kept_client_at bytes 0 ≡ Err place
unfolding kept_client_at
client_in_told bytes place told e = rw told e

record_refused : (log : Log) (text : List ℕ) (offset : ℕ) → ((number : ℕ) (bytes : List ℕ) → IsKeptWholeFor number log bytes → length text < 2 ^ 32 → IsRefused (client_record_at Second log) (framed text) offset) → IsRefusedClientRecord log text offset
record_refused log text offset refused number bytes more w small =
    let apart : bytes_eq server_mark (take 4 ((bytes ++ framed text) ++ more)) ≡ false = rw w.spelled refl in
    let told : format_of ((bytes ++ framed text) ++ more) ≡ Second = rw w.spelled refl in
    let all = whole_refused server_mark (kept_client_in Second) kept_client_at (bytes ++ framed text) more (length bytes + offset) (kept_refused number log text offset bytes w small (refused number bytes w small)) (λ place e. client_in_told ((bytes ++ framed text) ++ more) place told e) apart in
    subst (λ (b : List ℕ). kept_client_of b ≡ Err (BadImage (as_u32 (length bytes + offset)))) (append_assoc bytes (framed text) more) all

-- ---- in a record

-- what is refused in the text of a record
note_refused : (log : Log) (text : List ℕ) (offset : ℕ) → IsRefused (limited (length text) (tagged_at (client_kinds Second log))) text offset → IsRefusedClientRecord log text (4 + offset)
unfolding client_record_at
note_refused log text offset refused =
    record_refused log text (4 + offset) (λ number bytes w small. ruled_refused (framed_at (tagged_at (client_kinds Second log))) (has_room log) (framed text) (4 + offset) (framed_refused (tagged_at (client_kinds Second log)) text offset refused small))

-- ---- what comes next is read

kept_log : (number : ℕ) (log : Log) (bytes : List ℕ) → IsKeptWholeFor number log bytes → IsLog log
kept_log number log bytes w = subst IsLog (sym w.leads) (log_after_all w.first w.notes w.fits.fits.log w.are)

comes_fits : (log : Log) (note : ClientRecord) → IsLog log → ComesNext log note → NoteFits Second log note
comes_fits log (Logged e) is next = record { is = next; spelled = subst (AllByRecursion BaseFits) (sym next.based) (base_of-fits e.effects (tree_of log) next.fits (whole_tree log is)); known = all_known e.effects }
comes_fits log (Acked number) is next =
    (omega (arith, next.1, is.last), and_holds (nat_lt log.acked number) (nat_le number (log.acked + length log.pending)) (lt_holds log.acked number next.0) (le_holds number (log.acked + length log.pending) next.1))

comes_read : (log : Log) (note : ClientRecord) → IsLog log → ComesNext log note → IsRead (tagged_at (client_kinds Second log)) (client_note note) note
comes_read log note is next = read_again (note_codec Second log) note (comes_fits log note is next)

note_ends : (log : Log) (note : ClientRecord) (bytes : List ℕ) (at next end : ℕ) → Stands bytes at (client_note note) next → NoteFits Second log note → at ≤ end → end < next
    → tagged_at (client_kinds Second log) (take end bytes) at ≡ Err (at + start_of (end - at) (client_note_fields note))
note_ends log (Logged e) bytes at next end stands fits le lt =
    tagged_cut (client_kinds Second log) 1 (lit< tt) bytes at (entry e) next end (entry_fields e) stands le
    (λ ge. one_cut (next_entry_cut log) Logged bytes (at + 1) e next end (stands_second bytes at (1 ∷ []) (entry e) next stands) fits ge lt)
note_ends log (Acked number) bytes at next end stands fits le lt =
    tagged_cut (client_kinds Second log) 2 (lit< tt) bytes at (digits w64 number) next end (8 ∷ []) stands le
    (λ ge. one_cut (ruled_cut u64_cut (is_pending log)) Acked bytes (at + 1) number next end (stands_second bytes at (2 ∷ []) (digits w64 number) next stands) fits ge lt)

note_whole : (log : Log) (note : ClientRecord) → NoteFits Second log note → sum (client_note_fields note) ≡ length (client_note note)
note_whole log (Logged e) fits = omega (arith, sum_more 1 (entry_fields e), (next_entry_cut log).whole e fits)
note_whole log (Acked number) fits = omega (arith, sum_more 1 (8 ∷ []), sum_more 8 [], eight_bytes number)

note_cut : (log : Log) → IsCut (tagged_at (client_kinds Second log)) client_note client_note_fields (NoteFits Second log)
note_cut log = record { whole = note_whole log; cut = λ bytes at note next end stands fits le lt. note_ends log note bytes at next end stands fits le lt }

-- ---- the laws

there : (log : Log) (text : List ℕ) (offset offset' : ℕ) → offset ≡ offset' → IsRefusedClientRecord log text offset → IsRefusedClientRecord log text offset'
there log text offset offset' e is = subst (IsRefusedClientRecord log text) e is

-- what is refused at the front of a record's text
front_of_note : (log : Log) (text rest : List ℕ) (offset : ℕ) → IsRefused (tagged_at (client_kinds Second log)) text offset → IsRefusedClientRecord log (text ++ rest) (4 + offset)
front_of_note log text rest offset refused = note_refused log (text ++ rest) offset (front_refused (tagged_at (client_kinds Second log)) text rest offset refused)

wrong_number : (log : Log) (number : ℕ) → (number ≤ log.acked) ⊎ (log.acked + length log.pending < number) → is_pending log number ≡ false
wrong_number log number (inl low) = first_fails (nat_lt log.acked number) (nat_le number (log.acked + length log.pending)) (lt_fails log.acked number low)
wrong_number log number (inr high) = second_fails (nat_lt log.acked number) (nat_le number (log.acked + length log.pending)) (le_fails number (log.acked + length log.pending) high)

number_refused : (log : Log) (number : ℕ) → number < 2 ^ 64 → is_pending log number ≡ false → IsRefused (tagged_at (client_kinds Second log)) (2 ∷ digits w64 number) 1
number_refused log number small wrong =
    tagged_refused (client_kinds Second log) 2 (one (ruled (is_pending log) (number_at w64)) Acked) (digits w64 number) 0 (lit< tt) (λ tag at bytes. refl)
    (first_refused (ruled (is_pending log) (number_at w64)) (λ n bytes at. Ok (Acked n, at)) (digits w64 number) 0
    (rule_refused (number_at w64) (is_pending log) (digits w64 number) number (read_again u64_codec number small) wrong))

entry_refused : (log : Log) (text : List ℕ) (offset : ℕ) → IsRefused (next_entry_at Second log) text offset → IsRefused (tagged_at (client_kinds Second log)) (1 ∷ text) (1 + offset)
entry_refused log text offset refused =
    tagged_refused (client_kinds Second log) 1 (one (next_entry_at Second log) Logged) text offset (lit< tt) (λ tag at bytes. refl) (first_refused (next_entry_at Second log) (λ e bytes at. Ok (Logged e, at)) text offset refused)

full_refused : (log : Log) (e : Entry) → ComesNext log (Logged e) → has_room log (Logged e) ≡ false → IsRefusedClientRecord log (client_note (Logged e)) 0
unfolding client_record_at
full_refused log e next full =
    record_refused log (client_note (Logged e)) 0
    (λ number bytes w small. rule_refused (framed_at (tagged_at (client_kinds Second log))) (has_room log) (framed (client_note (Logged e))) (Logged e)
    (framed_read (tagged_at (client_kinds Second log)) (client_note (Logged e)) (Logged e) (comes_read log (Logged e) (kept_log number log bytes w) next) small) full)

rest_refused : (log : Log) (note : ClientRecord) (left : List ℕ) → ComesNext log note → 0 < length left → IsRefusedClientRecord log (client_note note ++ left) (4 + length (client_note note))
unfolding client_record_at
rest_refused log note left next some =
    record_refused log (client_note note ++ left) (4 + length (client_note note))
    (λ number bytes w small. ruled_refused (framed_at (tagged_at (client_kinds Second log))) (has_room log) (framed (client_note note ++ left)) (4 + length (client_note note))
    (left_refused (tagged_at (client_kinds Second log)) (client_note note) left note (comes_read log note (kept_log number log bytes w) next) some small))

short_refused : (log : Log) (note : ClientRecord) (end : ℕ) → ComesNext log note → end < length (client_note note) → IsRefusedClientRecord log (take end (client_note note)) (4 + start_of end (client_note_fields note))
short_refused log note end next lt number bytes more w small =
    note_refused log (take end (client_note note)) (start_of end (client_note_fields note)) (cut_refused (note_cut log) note end (comes_fits log note (kept_log number log bytes w) next) lt) number bytes more w small

pub broken_client_records : BrokenClientRecords
broken_client_records = record {
  kind_is_missing = λ log. note_refused log [] 0 (no_kind (client_kinds Second log));
  kind_is_another = λ log kind rest byte another. front_of_note log (kind ∷ []) rest 0 (unknown_kind (client_kinds Second log) kind byte another);
  entry_is_none = λ log text rest offset refused. there log (1 ∷ (text ++ rest)) (4 + (1 + offset)) (5 + offset) (omega arith) (front_of_note log (1 ∷ text) rest (1 + offset) (entry_refused log text offset refused));
  log_is_full = full_refused;
  number_is_none = λ log number rest small wrong. front_of_note log (2 ∷ digits w64 number) rest 1 (number_refused log number small (wrong_number log number wrong));
  text_is_cut = short_refused;
  bytes_are_left = rest_refused;
}
