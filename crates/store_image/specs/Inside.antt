-- What the functions of the crate say of each other's values.
use Rattle.std.specs.Prelude.{◌+◌, length}
use Rattle.mod_log.specs.Log.{Log, tree_of, IsEntryOf}
use Rattle.mod_log.specs.Append.{next_entry}
use Rattle.store_image.specs.declared.record.ClientRecord.{ClientRecord}
use Rattle.store_image.specs.declared.record.ClientRecord.TheVariants as records
use Rattle.store_image.specs.declared.journal.Note.{Note}
use Rattle.store_image.specs.declared.journal.Note.TheVariants.{Logged, Acked}
use Rattle.byte_fields.specs.Field.{Reader, tagged_at}
use Rattle.store_image.specs.declared.record.ServerRecord.{ServerRecord}
use Rattle.store_image.specs.declared.journal.Opened.{Opened}
use Rattle.store_image.specs.Records.{IsNoteOf, server_kinds, with_taken}

-- the record that a note is of
abbrev pub record_of : Note → Log → ClientRecord
record_of (Logged origin effects) log = records.Logged (next_entry origin effects log)
record_of (Acked number) log = records.Acked number

-- the log takes the note, if it has room
abbrev pub TakesNote : Log → Note → Type 0
TakesNote log (Logged origin effects) = IsEntryOf (log.acked + length log.pending + 1) (tree_of log) (next_entry origin effects log)
TakesNote log (Acked number) = IsNoteOf log (records.Acked number)

-- the record that follows what was opened
abbrev pub opened_record_at : Opened → Reader ServerRecord
opened_record_at opened = tagged_at (server_kinds opened.format opened.image)

-- what was opened, with the record
abbrev pub with_opened : Opened → ServerRecord → Opened
with_opened opened note = record { format = opened.format; image = with_taken opened.image note }
