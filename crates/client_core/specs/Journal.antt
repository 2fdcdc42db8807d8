-- What the next keeping of a client writes: the notes of what changed since the last one, or the whole image.
use Rattle.std.specs.Prelude.{ℕ, ◌+◌, ◌-◌, nat_le, Bool, true, false, ◌&&◌, List, [], ◌∷◌, ◌++◌, length, drop, map, Option, None, Some}
use Rattle.std.specs.Prelude.{Result, Ok, Err, if◌then◌else◌}
use Rattle.mod_log.specs.Log.{Log}
use Rattle.store_image.specs.declared.record.ClientRecord.{ClientRecord}
use Rattle.store_image.specs.declared.record.ClientRecord.TheVariants.{Logged, Acked}
use Rattle.store_image.specs.declared.image.TheConstants.{MAX_RECORDS}
use Rattle.store_image.specs.Records.{client_records}
use Rattle.client_core.specs.declared.keeping.Journal.{Journal}

-- the number of the log's last entry
abbrev pub last_logged : Log → ℕ
last_logged log = log.acked + length log.pending

-- the acknowledged number, where it rose
abbrev pub acked_notes : Bool → Log → List ClientRecord
acked_notes true log = Acked log.acked ∷ []
acked_notes false log = []

-- the notes of what changed since the journal's keeping: each entry that was logged, and then the acknowledged number, where it rose
abbrev pub notes_since : Journal → Bool → Log → List ClientRecord
notes_since journal rose log = map Logged (drop (journal.last - log.acked) log.pending) ++ acked_notes rose log

-- the bytes of all records, once these are added
abbrev pub bytes_with : Journal → List ClientRecord → ℕ
bytes_with journal notes = journal.bytes + length (client_records notes)

-- whether the notes may be added: no entry that was not kept is acknowledged, and the records have no more bytes than they may
abbrev pub may_add : Journal → Bool → Log → Bool
may_add journal rose log = nat_le log.acked journal.last && nat_le (bytes_with journal (notes_since journal rose log)) MAX_RECORDS

-- The notes that the next keeping adds. `None`: it saves the whole image.
abbrev pub next_notes : Option Journal → Bool → Log → Option (List ClientRecord)
next_notes None rose log = None
next_notes (Some journal) rose log = if may_add journal rose log then Some (notes_since journal rose log) else None

-- the bytes of all records after a keeping that adds these notes; an image that is saved has none
abbrev pub bytes_after : Option (List ClientRecord) → Option Journal → ℕ
bytes_after None journal = 0
bytes_after (Some notes) None = 0
bytes_after (Some notes) (Some journal) = bytes_with journal notes

-- the journal after a keeping of a log, with so many bytes of records; none where it was refused
abbrev pub journal_with : {E : Type 0} → ℕ → Log → Result (Unit {0}) E → Option Journal
journal_with bytes log (Ok done) = Some (record { last = last_logged log; bytes = bytes })
journal_with bytes log (Err e) = None

-- the journal after a keeping that was to add these notes
abbrev pub journal_after : {E : Type 0} → Option Journal → Option (List ClientRecord) → Log → Result (Unit {0}) E → Option Journal
journal_after journal notes log result = journal_with (bytes_after notes journal) log result
