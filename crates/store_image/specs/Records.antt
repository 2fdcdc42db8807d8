-- Records behind an image: how each is spelled, when it may come, what it makes of the state, and how it is read.
use Rattle.std.specs.Prelude.{◌≡◌, ℕ, zero, suc, ◌+◌, ◌-◌, ◌^◌, ◌<◌, ◌≤◌, nat_lt, nat_le, not, ◌&&◌, ◌||◌, Bool, true, List, [], ◌∷◌, ◌++◌}
use Rattle.std.specs.Prelude.{length, set, slice_index_or, Ok, if◌then◌else◌}
use Rattle.std.specs.Int.{w8, w64}
use Rattle.std.specs.List.{flat_map, AllByRecursion}
use Rattle.byte_fields.specs.Field.{Reader, ◌>>=◌, one, three, ruled, digits, number_at, tagged_at, passed, EachFits}
use Rattle.byte_fields.specs.Records.{framed, framed_at, is_torn, until_end}
use Rattle.tree_values.specs.Effects.{changed_all, apply_all}
use Rattle.tree_values.specs.Spelling.{effects, EffectsFit, IsEffectOf}
use Rattle.tree_values.specs.declared.format.Format.{Format}
use Rattle.tree_values.specs.declared.node.Effect.{Effect}
use Rattle.mod_log.specs.Limits.{max_log}
use Rattle.mod_log.specs.Log.{Log, entry, IsLog, logged, acknowledged}
use Rattle.mod_log.specs.Append.{log_has_no_room, is_at_last}
use Rattle.store_image.specs.Reading.{next_entry_at, applied_effects_at}
use Rattle.store_image.specs.declared.image.ServerImage.{ServerImage}
use Rattle.store_image.specs.declared.record.ClientRecord.{ClientRecord}
use Rattle.store_image.specs.declared.record.ClientRecord.TheVariants.{Logged, Acked}
use Rattle.store_image.specs.declared.record.ServerRecord.{ServerRecord}

-- ---- records one after the other

-- Fewer than four bytes, or fewer than the number in them tells.
abbrev pub IsTorn : List ℕ → Type 0
IsTorn tail = is_torn tail 0 ≡ true

-- the state behind the records from the place on, and the place where a torn tail begins
abbrev pub behind_records : {S A : Type 0} → (S → Reader (List A)) → (S → A → S) → S → Reader S
behind_records records_at after state bytes at = do
  notes ← records_at state bytes at
  Ok (passed after state notes.0, notes.1)

-- ---- records of a client

-- a record's kind and what it tells
abbrev pub client_note : ClientRecord → List ℕ
client_note (Logged e) = 1 ∷ entry e
client_note (Acked number) = 2 ∷ digits w64 number

-- the same behind the number of its bytes
abbrev pub client_record : ClientRecord → List ℕ
client_record note = framed (client_note note)

-- the records one after the other
abbrev pub client_records : List ClientRecord → List ℕ
client_records = flat_map client_record

-- what is spelled: an entry of at most 64 MiB, and any number
abbrev pub IsSpelled : ClientRecord → Type 0
IsSpelled (Logged e) = EffectsFit e.effects × (length (entry e) ≤ max_log)
IsSpelled (Acked number) = Unit {0}

-- the log after a record
abbrev pub with_record : Log → ClientRecord → Log
with_record log (Logged e) = logged e log
with_record log (Acked number) = acknowledged number log

-- the log after records
abbrev pub with_records : Log → List ClientRecord → Log
with_records = passed with_record

-- the record may come next: an entry with which the log is one, or the number of a pending entry
abbrev pub IsNoteOf : Log → ClientRecord → Type 0
IsNoteOf log (Logged e) = IsLog (logged e log)
IsNoteOf log (Acked number) = (log.acked < number) × (number ≤ log.acked + length log.pending)

-- each may come after those before it
abbrev pub AreNotes : Log → List ClientRecord → Type 0
AreNotes = EachFits IsNoteOf with_record

-- the format has the record's effects
abbrev pub IsRecordOf : Format → ClientRecord → Type 0
IsRecordOf format (Logged e) = AllByRecursion (IsEffectOf format) e.effects
IsRecordOf format (Acked number) = Unit {0}

-- the format has those of all records
abbrev pub AreRecordsOf : Format → List ClientRecord → Type 0
AreRecordsOf format notes = AllByRecursion (IsRecordOf format) notes

-- whether it is the number of a pending entry
abbrev pub is_pending : Log → ℕ → Bool
is_pending log number = nat_lt log.acked number && nat_le number (log.acked + length log.pending)

-- the kinds of records: 1 for an entry behind those of the log, 2 for the number up to which entries were acknowledged
abbrev pub client_kinds : Format → Log → List (ℕ × Reader ClientRecord)
client_kinds format log = (1, one (next_entry_at format log) Logged) ∷ (2, one (ruled (is_pending log) (number_at w64)) Acked) ∷ []

-- whether the log has room for what is logged, and a number
abbrev pub has_room : Log → ClientRecord → Bool
has_room log (Logged e) = not (log_has_no_room e log || is_at_last log)
has_room log (Acked number) = true

-- a record behind the number of its bytes; an entry for which the log has no room is a fault of that number
unfoldable pub client_record_at : Format → Log → Reader ClientRecord
client_record_at format log = ruled (has_room log) (framed_at (tagged_at (client_kinds format log)))

-- the whole records from the place on, so many at most, and the place where a torn tail begins
unfoldable pub client_records_within : Format → ℕ → Log → Reader (List ClientRecord)
client_records_within format zero log bytes at = Ok ([], at)
client_records_within format (suc most) log bytes at =
    if is_torn bytes at then Ok ([], at)
    else (do
      first ← client_record_at format log bytes at
      others ← client_records_within format most (with_record log first.0) bytes first.1
      Ok (first.0 ∷ others.0, others.1))

-- all of them; there are no more records than bytes
abbrev pub client_records_at : Format → Log → Reader (List ClientRecord)
client_records_at format log bytes = client_records_within format (length bytes) log bytes

-- ---- records of a server

-- a record's kind, the client, the number of its entry, and the effects
abbrev pub server_note : ServerRecord → List ℕ
server_note note = 3 ∷ note.client ∷ (digits w64 note.last ++ effects note.effects)

-- the same behind the number of its bytes
abbrev pub server_record : ServerRecord → List ℕ
server_record note = framed (server_note note)

-- the records one after the other
abbrev pub server_records : List ServerRecord → List ℕ
server_records = flat_map server_record

-- the number of the client's last accepted entry
abbrev pub last_of : ServerImage → ℕ → ℕ
last_of image client = slice_index_or (0 ∷ image.last) client 0

-- the server after a record
abbrev pub with_taken : ServerImage → ServerRecord → ServerImage
with_taken image note = record { last = set image.last (note.client - 1) note.last; tree = changed_all note.effects image.tree }

-- the server after records
abbrev pub with_all_taken : ServerImage → List ServerRecord → ServerImage
with_all_taken = passed with_taken

-- the record may come next: it is of a client from 1 to 64 and of a later entry, whose effects apply
pub record IsTakenOf (image : ServerImage) (note : ServerRecord) : Type 0 where
  pub some : 1 ≤ note.client
  pub few : note.client ≤ 64
  pub later : last_of image note.client < note.last
  pub number : note.last < 2 ^ 64
  pub fits : EffectsFit note.effects
  pub applies : apply_all 0 note.effects image.tree ≡ Ok (changed_all note.effects image.tree)

-- each may come after those before it
abbrev pub AreTakenOf : ServerImage → List ServerRecord → Type 0
AreTakenOf = EachFits IsTakenOf with_taken

-- the format has the effects of all records
abbrev pub AreTakenIn : Format → List ServerRecord → Type 0
AreTakenIn format notes = AllByRecursion (λ note. AllByRecursion (IsEffectOf format) note.effects) notes

abbrev pub made_taken : ℕ → ℕ → List Effect → ServerRecord
made_taken client last effects = record { client = client; last = last; effects = effects }

-- the client, a number above its last one, and effects that apply
unfoldable pub taken_at : Format → ServerImage → Reader ServerRecord
taken_at format image = three (ruled (λ n. nat_le 1 n && nat_le n 64) (number_at w8))
    (λ client. ruled (λ n. nat_lt (last_of image client) n) (number_at w64)) (λ _ _. applied_effects_at format image.tree) made_taken

-- the one kind of records
abbrev pub server_kinds : Format → ServerImage → List (ℕ × Reader ServerRecord)
server_kinds format image = (3, taken_at format image) ∷ []

-- the whole records from the place on, and the place where a torn tail begins
abbrev pub server_records_at : Format → ServerImage → Reader (List ServerRecord)
server_records_at format = until_end (λ image. tagged_at (server_kinds format image)) with_taken
