-- What holds of images, in their own words.
use Rattle.std.specs.Prelude.{◌≡◌, ℕ, ◌+◌, ◌<◌, ◌≤◌, List, ◌++◌, length, take, Ok, Err}
use Rattle.byte_fields.specs.Cuts.{start_of}
use Rattle.mod_log.specs.Log.{Log}
use Rattle.store_image.specs.declared.image.ClientImage.{ClientImage}
use Rattle.store_image.specs.declared.image.ServerImage.{ServerImage}
use Rattle.store_image.specs.declared.image.ImageError.TheVariants.{BadImage}
use Rattle.store_image.specs.declared.image.TheConstants.{MAX_CLIENT_IMAGE, MAX_SERVER_IMAGE, MAX_RECORDS, MAX_LOADED}
use Rattle.store_image.specs.declared.record.ClientRecord.{ClientRecord}
use Rattle.store_image.specs.declared.record.ServerRecord.{ServerRecord}
use Rattle.store_image.specs.Limits.{max_client_image, max_server_image, max_records, max_loaded}
use Rattle.store_image.specs.Spelling.{client, ClientFits, server, ServerFits}
use Rattle.store_image.specs.Fields.{client_fields, server_fields}
use Rattle.store_image.specs.Records.{IsSpelled, client_record, client_records, with_record, with_records, IsNoteOf, AreNotes}
use Rattle.store_image.specs.Records.{server_record, server_records, with_taken, with_all_taken, IsTakenOf, AreTakenOf}
use Rattle.store_image.specs.Image.{kept_client_of, server_of, IsKeptWholeFor, IsKeptFor, IsKeptWholeForServer, IsKeptForServer}

-- bytes that are kept for a client are read as this client
abbrev pub WrittenClientsAreKept : Type 0
WrittenClientsAreKept = (number : ℕ) (log : Log) (bytes : List ℕ) → IsKeptFor number log bytes
    → kept_client_of bytes ≡ Ok (record { client = number; log = log })

-- bytes that are kept for a server are read as this server
abbrev pub WrittenServersAreKept : Type 0
WrittenServersAreKept = (image : ServerImage) (bytes : List ℕ) → IsKeptForServer image bytes → server_of bytes ≡ Ok image

-- no bytes are kept for two clients
abbrev pub BytesAreKeptForOneClient : Type 0
BytesAreKeptForOneClient = (number number' : ℕ) (log log' : Log) (bytes : List ℕ) → IsKeptFor number log bytes
    → IsKeptFor number' log' bytes → (number ≡ number') × (log ≡ log')

-- no bytes are kept for two servers
abbrev pub BytesAreKeptForOneServer : Type 0
BytesAreKeptForOneServer =
    (image image' : ServerImage) (bytes : List ℕ) → IsKeptForServer image bytes → IsKeptForServer image' bytes → image ≡ image'

-- a client's image that is cut short is refused at the field in which it ends
abbrev pub CutClientImagesAreRefused : Type 0
CutClientImagesAreRefused = (image : ClientImage) (end : ℕ) → ClientFits image → end < length (client image)
    → kept_client_of (take end (client image)) ≡ Err (BadImage (start_of end (client_fields image)))

-- so is a server's
abbrev pub CutServerImagesAreRefused : Type 0
CutServerImagesAreRefused = (image : ServerImage) (end : ℕ) → ServerFits image → end < length (server image)
    → server_of (take end (server image)) ≡ Err (BadImage (start_of end (server_fields image)))

-- an image has so many bytes at most; with at most 8 MiB of records and of a torn tail behind it, it is shorter than the 128 MiB
-- that a keeper loads
pub record ImagesAreSmall : Type 0 where
  pub clients : (image : ClientImage) → ClientFits image → length (client image) ≤ MAX_CLIENT_IMAGE
  pub servers : (image : ServerImage) → ServerFits image → length (server image) ≤ MAX_SERVER_IMAGE
  pub kept_clients : (number : ℕ) (log : Log) (bytes : List ℕ) (kept : IsKeptFor number log bytes)
      → length (client_records kept.whole.notes ++ kept.tail) ≤ MAX_RECORDS → length bytes ≤ MAX_CLIENT_IMAGE + MAX_RECORDS
  pub kept_servers : (image : ServerImage) (bytes : List ℕ) (kept : IsKeptForServer image bytes)
      → length (server_records kept.whole.notes ++ kept.tail) ≤ MAX_RECORDS → length bytes ≤ MAX_SERVER_IMAGE + MAX_RECORDS
  pub client_images_are : MAX_CLIENT_IMAGE ≡ max_client_image
  pub server_images_are : MAX_SERVER_IMAGE ≡ max_server_image
  pub records_are : MAX_RECORDS ≡ max_records
  pub loaded_are : MAX_LOADED ≡ max_loaded
  pub clients_loaded : MAX_CLIENT_IMAGE + MAX_RECORDS < MAX_LOADED
  pub servers_loaded : MAX_SERVER_IMAGE + MAX_RECORDS < MAX_LOADED

-- ---- what is appended to what is kept

pub record RecordsAreAppended : Type 0 where
  -- what is kept whole is kept
  pub clients_kept : (number : ℕ) (log : Log) (bytes : List ℕ) → IsKeptWholeFor number log bytes → IsKeptFor number log bytes
  pub servers_kept : (image : ServerImage) (bytes : List ℕ) → IsKeptWholeForServer image bytes → IsKeptForServer image bytes
  -- behind a record that may come, the bytes are kept whole for the state with it
  pub behind_client : (number : ℕ) (log : Log) (bytes : List ℕ) (note : ClientRecord) → IsKeptWholeFor number log bytes
      → IsNoteOf log note → IsKeptWholeFor number (with_record log note) (bytes ++ client_record note)
  pub behind_server : (image : ServerImage) (bytes : List ℕ) (note : ServerRecord) → IsKeptWholeForServer image bytes
      → IsTakenOf image note → IsKeptWholeForServer (with_taken image note) (bytes ++ server_record note)
  -- so are they behind several
  pub all_behind_client : (number : ℕ) (log : Log) (bytes : List ℕ) (notes : List ClientRecord) → IsKeptWholeFor number log bytes
      → AreNotes log notes → IsKeptWholeFor number (with_records log notes) (bytes ++ client_records notes)
  pub all_behind_server : (image : ServerImage) (bytes : List ℕ) (notes : List ServerRecord) → IsKeptWholeForServer image bytes
      → AreTakenOf image notes → IsKeptWholeForServer (with_all_taken image notes) (bytes ++ server_records notes)
  -- what may come has a spelling
  pub client_spelled : (log : Log) (note : ClientRecord) → IsNoteOf log note → IsSpelled note

pub record CutRecordsAreTorn : Type 0 where
  -- behind a record that is cut short, the bytes are kept for the state without it
  pub behind_client : (number : ℕ) (log : Log) (bytes : List ℕ) (note : ClientRecord) (count : ℕ) → IsKeptWholeFor number log bytes
      → IsNoteOf log note → count < length (client_record note) → IsKeptFor number log (bytes ++ take count (client_record note))
  pub behind_server : (image : ServerImage) (bytes : List ℕ) (note : ServerRecord) (count : ℕ) → IsKeptWholeForServer image bytes
      → IsTakenOf image note → count < length (server_record note) → IsKeptForServer image (bytes ++ take count (server_record note))
  -- behind several that are cut somewhere, they are kept for the state after the first ones
  pub all_behind_client : (number : ℕ) (log : Log) (bytes : List ℕ) (notes : List ClientRecord) (count : ℕ)
      → IsKeptWholeFor number log bytes → AreNotes log notes
      → (whole : ℕ) × IsKeptFor number (with_records log (take whole notes)) (bytes ++ take count (client_records notes))
  pub all_behind_server : (image : ServerImage) (bytes : List ℕ) (notes : List ServerRecord) (count : ℕ)
      → IsKeptWholeForServer image bytes → AreTakenOf image notes
      → (whole : ℕ) × IsKeptForServer (with_all_taken image (take whole notes)) (bytes ++ take count (server_records notes))
