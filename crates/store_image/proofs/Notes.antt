-- The laws of one record of a client: it is read where it may come, and only there.
use Rattle.std.proofs.Common.{◌≡◌, ℕ, ◌+◌, ◌^◌, ◌<◌, ◌≤◌, ◌≢◌, ◌||◌, Bool, true, false, not, List, [], ◌∷◌, ◌++◌, length, Ok, refl, sym, subst, arith, lit<, length-append}
use Rattle.std.specs.Prelude.{nat_lt, nat_le}
use Rattle.std.specs.Int.{w64}
use Rattle.std.specs.List.{AllByRecursion, flat_map}
use Rattle.std.proofs.lemmas.Bool.{eqb-false}
use Rattle.std.proofs.lemmas.List.{take_at}
use Rattle.byte_fields.specs.Field.{ruled, number_at, tagged_at, digits, EachFits}
use Rattle.byte_fields.specs.Codec.{Stands, IsCodec}
use Rattle.byte_fields.proofs.Facts.{not_of, and_holds, and_of, or_false_of, lt_holds, lt_fails, lt_of, le_holds, le_fails, le_of, not_lt_of, not_le_of, eq_fails, eight_bytes}
use Rattle.byte_fields.proofs.Codec.{u64_codec, ruled_codec, branch1, IsBranch, tagged_found, tagged_fault, tagged_again1}
use Rattle.tree_values.specs.Tree.{IsTree}
use Rattle.tree_values.specs.Spelling.{BaseFits, IsEffectOf}
use Rattle.mod_log.specs.Limits.{max_entries, max_log}
use Rattle.mod_log.specs.declared.log.Entry.{Entry}
use Rattle.mod_log.specs.Log.{Log, entry, after, tree_of, IsEntryOf, IsLog, logged}
use Rattle.mod_log.specs.Append.{log_has_no_room, is_at_last, log_size_with}
use Rattle.mod_log.proofs.Entries.{AreEntriesOf-push, acknowledged_is_log, after-tree}
use Rattle.mod_log.proofs.Fitting.{AreEntriesOf-last}
use Rattle.mod_log.proofs.BasesFit.{base_of-fits}
use Rattle.mod_log.proofs.Sums.{size_behind}
use Rattle.tree_values.specs.declared.format.Format.{Format}
use Rattle.store_image.specs.declared.record.ClientRecord.{ClientRecord}
use Rattle.store_image.specs.declared.record.ClientRecord.TheVariants.{Logged, Acked}
use Rattle.store_image.specs.declared.journal.Note.{Note}
use Rattle.store_image.specs.declared.journal.Note.TheVariants as notes
use Rattle.store_image.specs.Records.{client_note, client_record, client_kinds, client_record_at, is_pending, has_room, with_record, with_records, IsSpelled, IsNoteOf, AreNotes, IsRecordOf, AreRecordsOf}
use Rattle.store_image.specs.Inside.{record_of, TakesNote}
use Rattle.store_image.proofs.Entries.{NextFits, next_entry_codec}
use Rattle.store_image.proofs.Framing.{framed_codec}

-- ---- a note, as it is read

abbrev pub NoteFits : Format → Log → ClientRecord → Type 0
NoteFits format l (Logged e) = NextFits format l e
NoteFits format l (Acked n) = (n < 2 ^ 64) × (is_pending l n ≡ true)

number_codec : (l : Log) → IsCodec (ruled (is_pending l) (number_at w64)) (digits w64) (λ n. (n < 2 ^ 64) × (is_pending l n ≡ true))
number_codec l = ruled_codec (is_pending l) u64_codec

branches : (format : Format) (l : Log) → AllByRecursion (λ k. IsBranch client_note (NoteFits format l) k.0 k.1) (client_kinds format l)
branches format l = (branch1 (lit< tt) (next_entry_codec format l) Logged (λ e. refl) (λ e fits. fits), (branch1 (lit< tt) (number_codec l) Acked (λ n. refl) (λ n fits. fits), tt))

pub note_codec : (format : Format) (l : Log) → IsCodec (tagged_at (client_kinds format l)) client_note (NoteFits format l)
note_codec format l = record {
  found = tagged_found client_note (NoteFits format l) (client_kinds format l) (branches format l);
  fault = tagged_fault client_note (NoteFits format l) (client_kinds format l) (branches format l);
  again = λ bytes at x next stands fits. by x bytes at next stands fits;
}
  where
    by : (x : ClientRecord) (bytes : List ℕ) (at next : ℕ) → Stands bytes at (client_note x) next → NoteFits format l x → tagged_at (client_kinds format l) bytes at ≡ Ok (x, next)
    by (Logged e) bytes at next stands fits = tagged_again1 (client_kinds format l) 1 (lit< tt) (next_entry_codec format l) Logged bytes at e next refl stands fits
    by (Acked n) bytes at next stands fits = tagged_again1 (client_kinds format l) 2 (lit< tt) (number_codec l) Acked bytes at n next refl stands fits

-- a record, as it is read
abbrev pub RecordFits : Format → Log → ClientRecord → Type 0
RecordFits format l x = (NoteFits format l x × (length (client_note x) < 2 ^ 32)) × (has_room l x ≡ true)

pub client_record_codec : (format : Format) (l : Log) → IsCodec (client_record_at format l) client_record (RecordFits format l)
unfolding client_record_at
client_record_codec format l = ruled_codec (has_room l) (framed_codec (note_codec format l))

-- ---- what is read may come next, and what may come next is read

-- room for an entry, and a number
pub record Room (e : Entry) (l : Log) : Type 0 where
  pub few : length l.pending + 1 ≤ 1024
  pub small : length (flat_map entry (l.pending ++ e ∷ [])) ≤ 67108864
  pub last : l.acked + length l.pending ≢ 18446744073709551615

pub room_found : (e : Entry) (l : Log) → has_room l (Logged e) ≡ true → Room e l
room_found e l room =
    let both = or_false_of (log_has_no_room e l) (is_at_last l) (not_of (log_has_no_room e l || is_at_last l) room) in
    let tests = or_false_of (nat_le max_entries (length l.pending)) (nat_lt max_log (log_size_with e l)) both.0 in
    record {
      few = omega (arith, not_le_of max_entries (length l.pending) tests.0);
      small = not_lt_of max_log (log_size_with e l) tests.1;
      last = eqb-false (l.acked + length l.pending) 18446744073709551615 both.1;
    }

neither : (a b : Bool) → a ≡ false → b ≡ false → not (a || b) ≡ true
neither a b e e' = rw (e, e') refl

pub room_again : (e : Entry) (l : Log) → IsLog (logged e l) → has_room l (Logged e) ≡ true
room_again e l is =
    let long = length-append l.pending (e ∷ []) in
    let few = le_fails max_entries (length l.pending) (omega (arith, long, is.few)) in
    let small = lt_fails max_log (log_size_with e l) is.small in
    let none : log_has_no_room e l ≡ false = rw (few, small) refl in
    neither (log_has_no_room e l) (is_at_last l) none (eq_fails (l.acked + length l.pending) 18446744073709551615 (λ same. omega (arith, same, long, is.last)))

pub note_found : (format : Format) (l : Log) (x : ClientRecord) → IsLog l → RecordFits format l x → IsNoteOf l x
note_found format l (Logged e) is fits =
    let room = room_found e l fits.1 in
    let long = length-append l.pending (e ∷ []) in
    let one : IsEntryOf (l.acked + 1 + length l.pending) (after l.pending l.base) e = subst (λ n. IsEntryOf n (tree_of l) e) (omega arith) fits.0.0.is in
    record {
      base_is = is.base_is;
      entries = AreEntriesOf-push (l.acked + 1) l.base l.pending e is.entries one;
      few = omega (arith, room.few, long);
      small = room.small;
      last = omega (arith, room.last, long, is.last);
    }
note_found format l (Acked n) is fits =
    let both = and_of (nat_lt l.acked n) (nat_le n (l.acked + length l.pending)) fits.0.0.1 in
    (lt_of l.acked n both.0, le_of n (l.acked + length l.pending) both.1)

-- an entry that may come next
pub next_fits : (format : Format) (l : Log) (e : Entry) → IsLog (logged e l) → AllByRecursion (IsEffectOf format) e.effects → NextFits format l e
next_fits format l e is known =
    let last = (AreEntriesOf-last (l.acked + 1) l.base l.pending e is.entries).1 in
    let tree = after-tree (l.acked + 1) l.base (l.pending ++ e ∷ []) (length l.pending) is.base_is is.entries in
    let here = subst (λ (es : List Entry). IsTree (after es l.base)) (take_at l.pending (e ∷ []) (length l.pending) refl) tree in
    record {
      is = subst (λ n. IsEntryOf n (tree_of l) e) (omega arith) last;
      spelled = subst (AllByRecursion BaseFits) (sym last.based) (base_of-fits e.effects (tree_of l) last.fits here);
      known = known;
    }

pub note_again : (format : Format) (l : Log) (x : ClientRecord) → IsLog l → IsNoteOf l x → IsRecordOf format x → RecordFits format l x
note_again format l (Logged e) is note known =
    ((next_fits format l e note known, omega (arith, size_behind l.pending e, note.small)), room_again e l note)
note_again format l (Acked n) is note known =
    let pending = and_holds (nat_lt l.acked n) (nat_le n (l.acked + length l.pending)) (lt_holds l.acked n note.0) (le_holds n (l.acked + length l.pending) note.1) in
    (((omega (arith, note.1, is.last), pending), omega (arith, eight_bytes n)), refl)

-- a log stays one
pub log_after : (l : Log) (x : ClientRecord) → IsLog l → IsNoteOf l x → IsLog (with_record l x)
log_after l (Logged e) is note = note
log_after l (Acked n) is note = acknowledged_is_log l n is (omega (arith, note.0)) note.1

known_of : (format : Format) (l : Log) (x : ClientRecord) → RecordFits format l x → IsRecordOf format x
known_of format l (Logged e) fits = fits.0.0.known
known_of format l (Acked n) fits = tt

pub notes_found : (format : Format) (l : Log) (xs : List ClientRecord) → IsLog l → EachFits (RecordFits format) with_record l xs → AreNotes l xs × AreRecordsOf format xs
notes_found format l [] is fits = (tt, tt)
notes_found format l (x ∷ xs) is fits =
    let here = note_found format l x is fits.0 in
    let rest = notes_found format (with_record l x) xs (log_after l x is here) fits.1 in
    ((here, rest.0), (known_of format l x fits.0, rest.1))

pub notes_again : (format : Format) (l : Log) (xs : List ClientRecord) → IsLog l → AreNotes l xs → AreRecordsOf format xs → EachFits (RecordFits format) with_record l xs
notes_again format l [] is are known = tt
notes_again format l (x ∷ xs) is are known = (note_again format l x is are.0 known.0, notes_again format (with_record l x) xs (log_after l x is are.0) are.1 known.1)

pub log_after_all : (l : Log) (xs : List ClientRecord) → IsLog l → AreNotes l xs → IsLog (with_records l xs)
log_after_all l [] is are = is
log_after_all l (x ∷ xs) is are = log_after_all (with_record l x) xs (log_after l x is are.0) are.1

-- what may come next has a spelling
pub note_spelled : (l : Log) (x : ClientRecord) → IsNoteOf l x → IsSpelled x
note_spelled l (Logged e) note = ((AreEntriesOf-last (l.acked + 1) l.base l.pending e note.entries).1.fits, omega (arith, size_behind l.pending e, note.small))
note_spelled l (Acked n) note = tt

-- what was read of a record follows
pub follows : (format : Format) (l : Log) (note : Note) → NoteFits format l (record_of note l) → TakesNote l note
follows format l (notes.Logged origin effects) fits = fits.is
follows format l (notes.Acked n) fits =
    let both = and_of (nat_lt l.acked n) (nat_le n (l.acked + length l.pending)) fits.1 in
    (lt_of l.acked n both.0, le_of n (l.acked + length l.pending) both.1)
