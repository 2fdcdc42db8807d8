-- How changes of a client are kept: the first one that a value keeps by an image, and each later one by a record behind that.
use Rattle.std.specs.Prelude.{◌≡◌, ℕ, ◌-◌, ◌≤◌, false, List, [], ◌∷◌, ◌++◌, length, drop, map, Option, None, Some, option_map}
use Rattle.outside.specs.Outside.{Told}
use Rattle.outside.specs.Keeper.{Images}
use Rattle.tree_values.specs.Lists.{IsIn}
use Rattle.mod_log.specs.Log.{Log}
use Rattle.store_image.specs.declared.record.ClientRecord.{ClientRecord}
use Rattle.store_image.specs.declared.record.ClientRecord.TheVariants.{Logged}
use Rattle.store_image.specs.declared.image.TheConstants.{MAX_RECORDS}
use Rattle.store_image.specs.Records.{client_records, with_record, with_records}
use Rattle.store_image.specs.Spelling.{client as image}
use Rattle.client_core.specs.declared.keeping.Journal.{Journal}
use Rattle.client_core.specs.declared.pulling.PullEnd.TheVariants.{Pulled}
use Rattle.client_core.specs.declared.route.Route.{Route}
use Rattle.client_core.specs.declared.syncing.SyncEnd.{SyncEnd}
use Rattle.client_core.specs.Client.{Client}
use Rattle.client_core.specs.Syncing.{SyncEnds, is_broken_sync}
use Rattle.client_core.specs.Trace.{Trace}
use Rattle.client_core.specs.Journal.{last_logged, bytes_with}

-- the log after each of these records
abbrev pub logs_behind : Log → List ClientRecord → List Log
logs_behind log [] = []
logs_behind log (note ∷ notes) = with_record log note ∷ logs_behind (with_record log note) notes

-- What is kept after these changes of a log: an image for the log after the first of them, and behind it one record for each later one, as
-- long as these records have no more bytes than they may. Where nothing was changed, it is as before.
abbrev pub AreRecorded : ℕ → List Log → Option (List ℕ) → Option (List ℕ) → Type 0
AreRecorded number [] old new = new ≡ old
AreRecorded number (first ∷ later) old new =
    (notes : List ClientRecord) × (later ≡ logs_behind first notes)
    × (length (client_records notes) ≤ MAX_RECORDS → new ≡ Some (image (record { client = number; log = first }) ++ client_records notes))

-- no pull of a trace took rows
abbrev pub TakesNoRows : Trace → Type 0
TakesNoRows trace = (count : ℕ) → IsIn (Pulled count) trace.pulls → ⊥

-- ---- from one keeping to the next

-- What is kept, and what the next keeping may add to, once each of these records was kept. Where there was no journal, the first one is
-- kept by the image of the log after it. Nothing is said where all records together have more bytes than they may.
abbrev pub AreAdded : ℕ → Log → Option Journal → List ClientRecord → Log → Option Journal → Option (List ℕ) → Option (List ℕ) → Type 0
AreAdded number before journal [] after now old new = (now ≡ journal) × (new ≡ old)
AreAdded number before None (note ∷ notes) after now old new =
    length (client_records notes) ≤ MAX_RECORDS
    → (now ≡ Some (record { last = last_logged after; bytes = length (client_records notes) }))
    × (new ≡ Some (image (record { client = number; log = with_record before note }) ++ client_records notes))
AreAdded number before (Some journal) (note ∷ notes) after now old new =
    bytes_with journal (note ∷ notes) ≤ MAX_RECORDS
    → (now ≡ Some (record { last = last_logged after; bytes = bytes_with journal (note ∷ notes) }))
    × (new ≡ option_map (λ bytes. bytes ++ client_records (note ∷ notes)) old)

-- between two moments these records led a client from one log to another, and each was kept
pub record KeepsRecords (name : List ℕ) (before after : Client) (notes : List ClientRecord) (old new : Images) : Type 0 where
  pub number : after.number ≡ before.number
  pub leads : after.log ≡ with_records before.log notes
  pub added : AreAdded before.number before.log before.journal notes after.log after.journal (old name) (new name)

-- Between two moments each of these changes of the log was kept by a record of its own, where the keeper tells its images.
abbrev pub KeepsChanges : List ℕ → Client → Client → List Log → Option Images → Option Images → Type 0
KeepsChanges name before after changes images now =
    Told images now (λ old new. (notes : List ClientRecord) × (changes ≡ logs_behind before.log notes)
    × KeepsRecords name before after notes old new)

-- the records of the entries that were logged between two logs
abbrev pub records_logged : Log → Log → List ClientRecord
records_logged before after = map Logged (drop (last_logged before - after.acked) after.pending)

-- the entries that were logged between two moments were kept so
abbrev pub KeepsLogged : List ℕ → Client → Client → Option Images → Option Images → Type 0
KeepsLogged name before after images now = Told images now (KeepsRecords name before after (records_logged before.log after.log))

-- A sync of a client that ends so, each change of which was kept by a record of its own where it was not broken off.
abbrev pub SyncsNoting : ℕ → Route → Client → SyncEnd → Client → Option Images → Option Images → Log → Trace → Type 0
SyncsNoting client route before end after images now kept trace =
    SyncEnds client route before.log end after.log kept trace
    × (is_broken_sync end ≡ false → KeepsChanges route.image before after trace.changes images now)
