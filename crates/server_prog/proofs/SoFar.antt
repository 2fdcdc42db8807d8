-- How serving connection by connection stands from turn to turn.
use Rattle.std.specs.Prelude.{◌≡◌, ◌≤◌, ℕ, List, length, Option, None, Some}
use Rattle.outside.specs.Outside.{Told}
use Rattle.port_serving.specs.declared.serving.Tally.{Tally}
use Rattle.port_serving.specs.Serving.{Connection, frames_taken}
use Rattle.port_serving.proofs.Connections.{UsesSoFar}
use Rattle.store_image.specs.declared.image.TheConstants.{MAX_RECORDS}
use Rattle.store_image.specs.declared.record.ServerRecord.{ServerRecord}
use Rattle.store_image.specs.Records.{server_records}
use Rattle.world_rules.specs.Served.{Served}
use Rattle.server_core.specs.Framing.{change}
use Rattle.server_prog.specs.declared.journal.ServerJournal.{ServerJournal}
use Rattle.server_prog.specs.declared.journal.ServerJournal.TheVariants as journals
use Rattle.server_prog.specs.Serving.{IsImageWithRecords, first_and_records, ServesConnections, ServerTelling}
use Rattle.server_prog.specs.Inside.{is_saved, Journals}

-- the journal of frames, of which this is the state after the first that changed it, with the records of the later ones: nothing was
-- saved where none did; else it counts the bytes of the records behind an image for that state, where a run appends so many
abbrev pub IsJournalOf : ServerJournal → Option (Served × List ServerRecord) → Option (List ℕ) → Option (List ℕ) → Type 0
IsJournalOf journal None old new = (journal ≡ journals.Unsaved) × (new ≡ old)
IsJournalOf journal (Some first) old new =
    length (server_records first.1) ≤ MAX_RECORDS
    → (journal ≡ journals.Saved (length (server_records first.1))) × IsImageWithRecords first.0 first.1 new

-- connections were served and counted, one for each take so far
pub record ServesSoFar (made : ℕ) (tally : Tally) (journal : ServerJournal) (before after : Served) (old new : ServerTelling) : Type 0 where
  pub connections : List Connection
  pub port : UsesSoFar made tally connections old.port new.port
  pub serves : ServesConnections connections before after old.kept new.kept
  pub journals : Journals journal after new.kept
  pub saved : is_saved journal ≡ change (frames_taken connections) before
  pub counted : Told old.kept new.kept (IsJournalOf journal (first_and_records (frames_taken connections) before))
