-- The fields of each image and of each record's text in their order, given by their numbers of bytes.
use Rattle.std.specs.Prelude.{ℕ, List, [], ◌∷◌, ◌++◌}
use Rattle.std.specs.List.{flat_map}
use Rattle.tree_values.specs.Fields.{effects_fields, rows_fields}
use Rattle.mod_log.specs.declared.log.Entry.{Entry}
use Rattle.mod_log.specs.Fields.{entry_fields}
use Rattle.mod_log.specs.Log.{Log}
use Rattle.store_image.specs.declared.image.ClientImage.{ClientImage}
use Rattle.store_image.specs.declared.image.ServerImage.{ServerImage}
use Rattle.store_image.specs.declared.record.ClientRecord.{ClientRecord}
use Rattle.store_image.specs.declared.record.ClientRecord.TheVariants.{Logged, Acked}
use Rattle.store_image.specs.declared.record.ServerRecord.{ServerRecord}

-- the count, and the fields of the entries
abbrev pub entries_fields : List Entry → List ℕ
entries_fields es = 4 ∷ flat_map entry_fields es

-- the acknowledged number, and the fields of the base and the entries
abbrev pub log_fields : Log → List ℕ
log_fields l = 8 ∷ (rows_fields l.base ++ entries_fields l.pending)

-- the mark, the version, the client's number and the log's fields
abbrev pub client_fields : ClientImage → List ℕ
client_fields image = 4 ∷ 1 ∷ 1 ∷ log_fields image.log

-- a field for each number
abbrev pub numbers_fields : List ℕ → List ℕ
numbers_fields last = flat_map (λ n. 8 ∷ []) last

-- the mark, the version, the numbers and the rows' fields
abbrev pub server_fields : ServerImage → List ℕ
server_fields image = 4 ∷ 1 ∷ (numbers_fields image.last ++ rows_fields image.tree)

-- the kind, and the fields of the entry or the number
abbrev pub client_note_fields : ClientRecord → List ℕ
client_note_fields (Logged e) = 1 ∷ entry_fields e
client_note_fields (Acked number) = 1 ∷ 8 ∷ []

-- the kind, the client, the number of its entry and the fields of the effects
abbrev pub server_note_fields : ServerRecord → List ℕ
server_note_fields note = 1 ∷ 1 ∷ 8 ∷ effects_fields note.effects
