-- The laws of a server's records that break a rule.
use Rattle.std.proofs.Common.{◌≡◌, ◌⊎◌, ℕ, ◌+◌, ◌^◌, ◌<◌, ◌≤◌, false, ◌&&◌, leb, List, [], ◌∷◌, ◌++◌, length, take, Ok, Err, refl, sym, ap, subst, ◌∙◌, arith, lit<, append_assoc, length-append}
use Rattle.std.specs.Prelude.{nat_lt}
use Rattle.std.specs.Int.{w8, w32, w64}
use Rattle.std.specs.Str.{bytes_eq}
use Rattle.std.specs.List.{flat_map}
use Rattle.std.proofs.lemmas.Bool.{le-leb}
use Rattle.byte_fields.specs.Field.{Reader, ◌>>=◌, digits, limited, ruled, number_at, tagged_at}
use Rattle.byte_fields.specs.Numbers.{as_u32}
use Rattle.byte_fields.specs.Cuts.{start_of, IsCut}
use Rattle.byte_fields.specs.Broken.{IsRefused}
use Rattle.byte_fields.specs.Records.{framed, framed_at}
use Rattle.byte_fields.proofs.Codec.{u8_codec, u64_codec}
use Rattle.byte_fields.proofs.Facts.{lt_holds, lt_fails, le_holds, eight_bytes, sum_more}
use Rattle.byte_fields.proofs.Cutting.{u64_cut, ruled_cut, three_cut}
use Rattle.byte_fields.proofs.Tails.{framed_refused, left_refused, all_refused}
use Rattle.byte_fields.proofs.Breaking.{read_again, refused_there, rule_refused, first_refused, later_refused, tagged_refused, unknown_kind}
use Rattle.tree_values.specs.Spelling.{effect, effects}
use Rattle.tree_values.specs.Fields.{effects_fields}
use Rattle.tree_values.specs.declared.format.Format.TheVariants.{Second}
use Rattle.store_image.specs.declared.image.ImageError.TheVariants.{BadImage}
use Rattle.store_image.specs.declared.image.ServerImage.{ServerImage}
use Rattle.store_image.specs.declared.record.ServerRecord.{ServerRecord}
use Rattle.store_image.specs.Reading.{applied_effects_at, client_mark, format_of, server_at}
use Rattle.store_image.specs.Spelling.{server}
use Rattle.store_image.specs.Fields.{server_note_fields}
use Rattle.store_image.specs.Records.{behind_records, server_note, server_records, server_kinds, server_records_at, last_of, with_taken, with_all_taken, IsTakenOf, made_taken, taken_at}
use Rattle.store_image.specs.Image.{kept_server_in, kept_server_at, server_of, IsKeptWholeForServer}
use Rattle.store_image.specs.BrokenRecords.{IsRefusedServerRecord, IsLaterEntry, BrokenServerRecords}
use Rattle.store_image.proofs.Growing.{all_known}
use Rattle.store_image.proofs.Images.{number_codec, server_codec}
use Rattle.store_image.proofs.Taken.{body, later_codec, taken_note_codec, are_framed}
use Rattle.store_image.proofs.Cuts.{number_cut, applied_effects_cut, version_cut}
use Rattle.store_image.proofs.Breaking.{wrong_client, whole_refused}
use Rattle.store_image.proofs.BreakingParts.{effects_count_refused, effect_refused}
use Rattle.store_image.proofs.BreakingFrames.{front_refused, no_kind, cut_refused}

-- ---- behind an image and whole records

abbrev item : ServerImage → Reader ServerRecord
item image = tagged_at (server_kinds Second image)

kept_refused : (image : ServerImage) (text : List ℕ) (offset : ℕ) (bytes : List ℕ) → IsKeptWholeForServer image bytes → length text < 2 ^ 32 → IsRefused (framed_at (item image)) (framed text) offset
    → IsRefused (kept_server_in Second) (bytes ++ framed text) (length bytes + offset)
unfolding kept_server_in
kept_refused image text offset bytes w small refused =
    let records = server_records w.notes in
    let here = all_refused item with_taken server_note w.notes w.first text offset (are_framed Second w.first w.notes w.are w.known) small (subst (λ (i : ServerImage). IsRefused (framed_at (item i)) (framed text) offset) w.leads refused) in
    let behind = first_refused (server_records_at Second w.first) (λ notes bytes at. Ok (with_all_taken w.first notes, at)) (records ++ framed text) (length records + offset) here in
    let all = later_refused (server_at Second) (λ i bytes at. behind_records (server_records_at Second) with_taken i bytes at) (server w.first) (records ++ framed text) w.first (length records + offset) (read_again (server_codec Second) w.first w.fits) behind in
    let same : server w.first ++ (records ++ framed text) ≡ bytes ++ framed text = sym (append_assoc (server w.first) records (framed text)) ∙ ap (λ (t : List ℕ). t ++ framed text) (sym w.spelled) in
    subst (λ (t : List ℕ). IsRefused (kept_server_in Second) t (length bytes + offset)) same
    (refused_there (kept_server_in Second) (server w.first ++ (records ++ framed text)) (length (server w.first) + (length records + offset)) (length bytes + offset) (omega (arith, ap length w.spelled, length-append (server w.first) records)) all)

server_in_told : (bytes : List ℕ) (place : ℕ) → format_of bytes ≡ Second → kept_server_in Second bytes 0 ≡ Err place → kept_server_at bytes 0 ≡ Err place
unfolding kept_server_at
server_in_told bytes place told e = rw told e

record_refused : (image : ServerImage) (text : List ℕ) (offset : ℕ) → (length text < 2 ^ 32 → IsRefused (framed_at (item image)) (framed text) offset) → IsRefusedServerRecord image text offset
record_refused image text offset refused bytes more w small =
    let apart : bytes_eq client_mark (take 4 ((bytes ++ framed text) ++ more)) ≡ false = rw w.spelled refl in
    let told : format_of ((bytes ++ framed text) ++ more) ≡ Second = rw w.spelled refl in
    let all = whole_refused client_mark (kept_server_in Second) kept_server_at (bytes ++ framed text) more (length bytes + offset) (kept_refused image text offset bytes w small (refused small)) (λ place e. server_in_told ((bytes ++ framed text) ++ more) place told e) apart in
    subst (λ (b : List ℕ). server_of b ≡ Err (BadImage (as_u32 (length bytes + offset)))) (append_assoc bytes (framed text) more) all

-- ---- in a record

note_refused : (image : ServerImage) (text : List ℕ) (offset : ℕ) → IsRefused (limited (length text) (item image)) text offset → IsRefusedServerRecord image text (4 + offset)
note_refused image text offset refused = record_refused image text (4 + offset) (λ small. framed_refused (item image) text offset refused small)

front_of_note : (image : ServerImage) (text rest : List ℕ) (offset : ℕ) → IsRefused (item image) text offset → IsRefusedServerRecord image (text ++ rest) (4 + offset)
front_of_note image text rest offset refused = note_refused image (text ++ rest) offset (front_refused (item image) text rest offset refused)

taken_refused : (image : ServerImage) (text : List ℕ) (offset : ℕ) → IsRefused (taken_at Second image) text offset → IsRefused (item image) (3 ∷ text) (1 + offset)
taken_refused image text offset refused = tagged_refused (server_kinds Second image) 3 (taken_at Second image) text offset (lit< tt) (λ tag at bytes. refl) refused

-- ---- its fields

abbrev behind_number : ServerImage → ℕ → ℕ → Reader ServerRecord
behind_number image client last bytes at = applied_effects_at Second image.tree bytes at >>= λ es. Ok (made_taken client last es.0, es.1)

abbrev later_number : ServerImage → ℕ → Reader ℕ
later_number image client = ruled (λ n. nat_lt (last_of image client) n) (number_at w64)

client_refused : (image : ServerImage) (client : ℕ) → client < 2 ^ 8 → (client ≡ 0) ⊎ (64 < client) → IsRefused (taken_at Second image) (client ∷ []) 0
unfolding taken_at
client_refused image client byte none =
    first_refused (ruled (λ n. leb 1 n && leb n 64) (number_at w8)) (λ c bytes at. later_number image c bytes at >>= λ n. behind_number image c n.0 bytes n.1) (client ∷ []) 0
    (rule_refused (number_at w8) (λ n. leb 1 n && leb n 64) (client ∷ []) client (read_again u8_codec client byte) (wrong_client client none))

behind_client : (image : ServerImage) (client : ℕ) (text : List ℕ) (offset : ℕ) → 1 ≤ client → client ≤ 64 → IsRefused (λ bytes at. later_number image client bytes at >>= λ n. behind_number image client n.0 bytes n.1) text offset
    → IsRefused (taken_at Second image) (client ∷ text) (1 + offset)
unfolding taken_at
behind_client image client text offset some few refused =
    later_refused (ruled (λ n. leb 1 n && leb n 64) (number_at w8)) (λ c bytes at. later_number image c bytes at >>= λ n. behind_number image c n.0 bytes n.1) (client ∷ []) text client offset
    (read_again number_codec client (omega (arith, few), rw (le-leb 1 client some, le-leb client 64 few) refl)) refused

number_refused : (image : ServerImage) (client last : ℕ) → 1 ≤ client → client ≤ 64 → last < 2 ^ 64 → last ≤ last_of image client → IsRefused (taken_at Second image) (client ∷ digits w64 last) 1
number_refused image client last some few small le =
    behind_client image client (digits w64 last) 0 some few
    (first_refused (later_number image client) (behind_number image client) (digits w64 last) 0
    (rule_refused (number_at w64) (λ n. nat_lt (last_of image client) n) (digits w64 last) last (read_again u64_codec last small) (lt_fails (last_of image client) last le)))

effects_refused : (image : ServerImage) (client last : ℕ) (text : List ℕ) (offset : ℕ) → IsLaterEntry image client last → IsRefused (applied_effects_at Second image.tree) text offset
    → IsRefused (taken_at Second image) (client ∷ (digits w64 last ++ text)) (9 + offset)
effects_refused image client last text offset is refused =
    refused_there (taken_at Second image) (client ∷ (digits w64 last ++ text)) (1 + (length (digits w64 last) + offset)) (9 + offset) (omega (arith, eight_bytes last))
    (behind_client image client (digits w64 last ++ text) (length (digits w64 last) + offset) is.some is.few
    (later_refused (later_number image client) (behind_number image client) (digits w64 last) text last offset (read_again (later_codec image client) last (is.number, lt_holds (last_of image client) last is.later))
    (first_refused (applied_effects_at Second image.tree) (λ es bytes at. Ok (made_taken client last es, at)) text offset refused)))

-- ---- what comes next is read

taken_cut : (image : ServerImage) → IsCut (taken_at Second image) body (λ note. 1 ∷ 8 ∷ effects_fields note.effects) (IsTakenOf image)
unfolding taken_at
taken_cut image = record {
  whole = λ note is.
      omega (
        arith,
        sum_more 1 (8 ∷ effects_fields note.effects),
        sum_more 8 (effects_fields note.effects),
        length-append (digits w64 note.last) (effects note.effects),
        eight_bytes note.last,
        (applied_effects_cut image.tree).whole note.effects (record { fits = is.fits; known = all_known note.effects; applies = is.applies }),
      );
  cut = λ bytes at note next end stands is le lt.
      three_cut number_codec number_cut (λ client _. later_codec image client) (λ client _. ruled_cut u64_cut (λ n. nat_lt (last_of image client) n)) (λ _ _ _ _. applied_effects_cut image.tree) made_taken
      bytes at note.client note.last note.effects next end stands (omega (arith, is.few), rw (le_holds 1 note.client is.some, le_holds note.client 64 is.few) refl) (is.number, lt_holds (last_of image note.client) note.last is.later) (record { fits = is.fits; known = all_known note.effects; applies = is.applies }) le lt;
}

note_cut : (image : ServerImage) → IsCut (item image) server_note server_note_fields (IsTakenOf image)
note_cut image = version_cut 3 (lit< tt) (taken_cut image)

-- ---- the laws

there : (image : ServerImage) (text : List ℕ) (offset offset' : ℕ) → offset ≡ offset' → IsRefusedServerRecord image text offset → IsRefusedServerRecord image text offset'
there image text offset offset' e is = subst (IsRefusedServerRecord image text) e is

text_there : (image : ServerImage) (text text' : List ℕ) (offset : ℕ) → text ≡ text' → IsRefusedServerRecord image text offset → IsRefusedServerRecord image text' offset
text_there image text text' offset e is = subst (λ (t : List ℕ). IsRefusedServerRecord image t offset) e is

behind_last : (image : ServerImage) (client last : ℕ) (text rest : List ℕ) (offset : ℕ) → IsLaterEntry image client last → IsRefused (applied_effects_at Second image.tree) text offset
    → IsRefusedServerRecord image (3 ∷ client ∷ (digits w64 last ++ (text ++ rest))) (14 + offset)
behind_last image client last text rest offset is refused =
    let whole = 3 ∷ client ∷ (digits w64 last ++ text) in
    text_there image (whole ++ rest) (3 ∷ client ∷ (digits w64 last ++ (text ++ rest))) (14 + offset) (ap (λ (t : List ℕ). 3 ∷ client ∷ t) (append_assoc (digits w64 last) text rest))
    (there image (whole ++ rest) (4 + (1 + (9 + offset))) (14 + offset) (omega arith)
    (front_of_note image whole rest (1 + (9 + offset)) (taken_refused image (client ∷ (digits w64 last ++ text)) (9 + offset) (effects_refused image client last text offset is refused))))

pub broken_server_records : BrokenServerRecords
broken_server_records = record {
  kind_is_missing = λ image. note_refused image [] 0 (no_kind (server_kinds Second image));
  kind_is_another = λ image kind rest byte another. front_of_note image (kind ∷ []) rest 0 (unknown_kind (server_kinds Second image) kind byte another);
  client_is_none = λ image client rest byte none. front_of_note image (3 ∷ client ∷ []) rest 1 (taken_refused image (client ∷ []) 0 (client_refused image client byte none));
  number_is_taken = λ image client last rest some few small le. front_of_note image (3 ∷ client ∷ digits w64 last) rest 2 (taken_refused image (client ∷ digits w64 last) 1 (number_refused image client last some few small le));
  effects_are_none = λ image client last count rest is small wrong. behind_last image client last (digits w32 count) rest 0 is (effects_count_refused image.tree count small wrong);
  effect_is_refused = λ image client last before count text rest offset is taken some few refused.
      let behind = flat_map effect before in
      let inner : (digits w32 count ++ (behind ++ text)) ++ rest ≡ digits w32 count ++ (behind ++ (text ++ rest)) = append_assoc (digits w32 count) (behind ++ text) rest ∙ ap (λ (t : List ℕ). digits w32 count ++ t) (append_assoc behind text rest) in
      there image (3 ∷ client ∷ (digits w64 last ++ (digits w32 count ++ (behind ++ (text ++ rest))))) (14 + (4 + (length behind + offset))) (18 + (length behind + offset)) (omega arith)
      (text_there image (3 ∷ client ∷ (digits w64 last ++ ((digits w32 count ++ (behind ++ text)) ++ rest))) (3 ∷ client ∷ (digits w64 last ++ (digits w32 count ++ (behind ++ (text ++ rest))))) (14 + (4 + (length behind + offset)))
      (ap (λ (t : List ℕ). 3 ∷ client ∷ (digits w64 last ++ t)) inner)
      (behind_last image client last (digits w32 count ++ (behind ++ text)) rest (4 + (length behind + offset)) is (effect_refused image.tree before count text offset taken some few refused)));
  text_is_cut = λ image note end is lt. note_refused image (take end (server_note note)) (start_of end (server_note_fields note)) (cut_refused (note_cut image) note end is lt);
  bytes_are_left = λ image note left is some.
      record_refused image (server_note note ++ left) (4 + length (server_note note)) (λ small. left_refused (item image) (server_note note) left note (read_again (taken_note_codec Second image) note (is, all_known note.effects)) some small);
}
