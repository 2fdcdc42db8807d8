-- What is kept of a client under a name, from one run to the next.
use Rattle.std.specs.Prelude.{◌≡◌, ◌≢◌, ◌⊎◌, ℕ, suc, ◌+◌, ◌-◌, ◌≤◌, List, []}
use Rattle.std.specs.Prelude.{◌++◌, length, take, Option, None, Some, IfSome, Result, Ok, Err}
use Rattle.outside.specs.Outside.{Told}
use Rattle.outside.specs.Keeper.{Images, IsPut, Saves, Appends}
use Rattle.mod_log.specs.Log.{Log}
use Rattle.store_image.specs.declared.image.TheConstants.{MAX_CLIENT_IMAGE, MAX_RECORDS}
use Rattle.store_image.specs.declared.record.ClientRecord.{ClientRecord}
use Rattle.store_image.specs.Image.{Keeps, IsKeptWholeFor}
use Rattle.store_image.specs.Records.{client_records, with_records}
use Rattle.store_image.specs.Spelling.{client as image}
use Rattle.client_core.specs.declared.keeping.Journal.{Journal}
use Rattle.client_core.specs.Client.{Client}
use Rattle.client_core.specs.Journal.{last_logged}
use Rattle.client_core.specs.Trace.{last_log, IsLastOrBefore}

-- what stands under the name is kept for this log, where the keeper tells its images
abbrev pub IsKept : Option Images → List ℕ → ℕ → Log → Type 0
IsKept None name client log = Unit {0}
IsKept (Some images) name client log = Keeps (images name) client log

-- the keeper tells its images, and what stands under the name is kept for this log
abbrev pub TellsKept : Option Images → List ℕ → ℕ → Log → Type 0
TellsKept None name client log = ⊥
TellsKept (Some images) name client log = Keeps (images name) client log

-- the keeper tells its images, and what stands under the name is kept for no log of this client
abbrev pub IsKeptOfNone : Option Images → List ℕ → ℕ → Type 0
IsKeptOfNone None name client = ⊥
IsKeptOfNone (Some images) name client = (log : Log) → Keeps (images name) client log → ⊥

-- what was kept for a client is still kept for it
abbrev pub StillKeeps : Option (List ℕ) → Option (List ℕ) → Type 0
StillKeeps old new = (client : ℕ) (log : Log) → Keeps old client log → Keeps new client log

-- other names have what they had
abbrev pub OthersStay : List ℕ → Images → Images → Type 0
OthersStay name old new = (other : List ℕ) → other ≢ name → new other ≡ old other

-- what stands under a name has no more bytes than the largest image and the records that may stand behind it
abbrev pub IsSmall : Option (List ℕ) → Type 0
IsSmall found = IfSome found (λ bytes. length bytes ≤ MAX_CLIENT_IMAGE + MAX_RECORDS)

-- what stands under the name stood there before, or is small
abbrev pub StaysSmall : List ℕ → Images → Images → Type 0
StaysSmall name old new = (new name ≡ old name) ⊎ IsSmall (new name)

-- ---- what a keeping finds

-- the log with its entries up to this number
abbrev pub log_until : ℕ → Log → Log
log_until number log = record { acked = log.acked; base = log.base; pending = take (number - log.acked) log.pending }

-- What stands under a name is an image with whole records behind it, and no torn tail. It is kept for the log without the entries that were
-- logged since the journal's keeping, and has no more bytes than the largest image and the records that the journal counts.
pub record IsReadyFor (number : ℕ) (log : Log) (journal : Journal) (found : Option (List ℕ)) : Type 0 where
  pub bytes : List ℕ
  pub stands : found ≡ Some bytes
  pub acked : log.acked ≤ journal.last
  pub last : journal.last ≤ last_logged log
  pub whole : IsKeptWholeFor number (log_until journal.last log) bytes
  pub small : length bytes ≤ MAX_CLIENT_IMAGE + journal.bytes

-- A client that adds to what is kept finds it so under the name, where the keeper tells its images. With what its next keeping appends
-- behind them, those bytes are kept for it.
abbrev pub IsReady : Option Images → List ℕ → Client → Type 0
IsReady None name client = Unit {0}
IsReady (Some images) name client = IfSome client.journal (λ journal. IsReadyFor client.number client.log journal (images name))

-- the client's log is kept under the name, and the client may go on there
abbrev pub IsKeptReady : Option Images → List ℕ → Client → Type 0
IsKeptReady images name client = IsKept images name client.number client.log × IsReady images name client

-- ---- what a keeping leaves

-- the client's image, or what stood there and the notes behind it
abbrev pub IsWritten : ℕ → Log → Option (List ClientRecord) → Option (List ℕ) → List ℕ → Type 0
IsWritten number log None old bytes = bytes ≡ image (record { client = number; log = log })
IsWritten number log (Some notes) old bytes = (before : List ℕ) × (old ≡ Some before) × (bytes ≡ before ++ client_records notes)

-- the most bytes of records that stand behind the image, once these notes were added, or the image was saved
abbrev pub most_records : Option (List ClientRecord) → ℕ
most_records None = 0
most_records (Some notes) = MAX_RECORDS

-- The bytes that were to be written stand under the name, and are kept for the log, without a torn tail. They are no more than the
-- largest image and the records that may stand behind it.
pub record IsKeptNext (name : List ℕ) (number : ℕ) (log : Log) (notes : Option (List ClientRecord)) (old new : Images) : Type 0 where
  pub bytes : List ℕ
  pub here : new name ≡ Some bytes
  pub written : IsWritten number log notes (old name) bytes
  pub whole : IsKeptWholeFor number log bytes
  pub small : length bytes ≤ MAX_CLIENT_IMAGE + most_records notes
  pub others : OthersStay name old new

-- some of the notes, from the first on, were added to what was kept
pub record AddsSome (number : ℕ) (log : Log) (notes : List ClientRecord) (old new : Option (List ℕ)) : Type 0 where
  pub base : Log
  pub kept : Keeps old number base
  pub leads : with_records base notes ≡ log
  pub count : ℕ
  pub keeps : Keeps new number (with_records base (take (suc count) notes))

-- What a refused keeping leaves: what was kept still is, or the image is, or some of the notes were added. Of one note that is the client.
abbrev pub LeavesKept : ℕ → Log → Option (List ClientRecord) → Option (List ℕ) → Option (List ℕ) → Type 0
LeavesKept number log None old new = StillKeeps old new ⊎ Keeps new number log
LeavesKept number log (Some notes) old new = StillKeeps old new ⊎ AddsSome number log notes old new

-- a keeping that adds these notes, or saves the image, and is perhaps refused
abbrev pub KeepsNext : {E : Type 0} → List ℕ → ℕ → Log → Option (List ClientRecord) → Result (Unit {0}) E → Images → Images → Type 0
KeepsNext name number log notes (Ok done) old new = IsKeptNext name number log notes old new
KeepsNext name number log notes (Err e) old new =
    LeavesKept number log notes (old name) (new name) × OthersStay name old new × StaysSmall name old new

-- A keeping saves the client's image under the name, or appends the records of these notes to what stands there. One that is refused leaves
-- the bytes as they were, or the whole image, or a front of the records behind what stood there.
abbrev pub WritesNext : {E : Type 0} → List ℕ → ℕ → Log → Option (List ClientRecord) → Result (Unit {0}) E → Images → Images → Type 0
WritesNext name number log None result old new = Saves name (image (record { client = number; log = log })) result old new
WritesNext name number log (Some notes) result old new = Appends name (client_records notes) result old new

-- all that is kept is as before, or just these bytes were put under the name
abbrev pub StaysOrPuts : List ℕ → List ℕ → Option Images → Option Images → Type 0
StaysOrPuts name bytes images now = (now ≡ images) ⊎ Told images now (IsPut name bytes)

-- What stands under the name is kept for this log, and is what stood there where no change was made. Else it stood there, too, or it has no
-- more bytes than the largest image and the records that may stand behind it. Other names have what they had.
pub record Kept (name : List ℕ) (client : ℕ) (log : Log) (changes : List Log) (old new : Images) : Type 0 where
  pub keeps : Keeps (new name) client log
  pub unchanged : changes ≡ [] → new name ≡ old name
  pub small : StaysSmall name old new
  pub others : OthersStay name old new

-- Between two moments, at the first of which it was kept, a client's log went through these changes. What is kept at the end is
-- the log after the last change, or the one before it.
pub record Keeping (name : List ℕ) (client : ℕ) (before after kept : Log) (changes : List Log) (images now : Option Images) : Type 0 where
  pub last : after ≡ last_log before changes
  pub behind : IsLastOrBefore before changes kept
  pub told : Told images now (Kept name client kept changes)
