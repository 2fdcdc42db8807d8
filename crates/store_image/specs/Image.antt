-- What bytes come to as an image, or why they are none; and what bytes are kept for.
use Rattle.std.specs.Prelude.{◌≡◌, ℕ, List, ◌++◌, take, Option, Some, None, Result, Ok, Err, if◌then◌else◌}
use Rattle.std.specs.Str.{bytes_eq}
use Rattle.byte_fields.specs.Numbers.{as_u32}
use Rattle.byte_fields.specs.Field.{Reader, ◌>>=◌, Answers}
use Rattle.mod_log.specs.Log.{Log, new_log}
use Rattle.store_image.specs.declared.image.ClientImage.{ClientImage}
use Rattle.store_image.specs.declared.image.ServerImage.{ServerImage}
use Rattle.store_image.specs.declared.image.ImageError.{ImageError}
use Rattle.store_image.specs.declared.image.ImageError.TheVariants.{WrongKind, BadImage, Memory}
use Rattle.store_image.specs.declared.record.ClientRecord.{ClientRecord}
use Rattle.store_image.specs.declared.record.ServerRecord.{ServerRecord}
use Rattle.store_image.specs.Reading.{client_mark, server_mark, format_of, client_at, server_at}
use Rattle.tree_values.specs.declared.format.Format.{Format}
use Rattle.tree_values.specs.declared.format.Format.TheVariants.{Second}
use Rattle.store_image.specs.Spelling.{client_in, ClientFitsIn, server_in, ServerFitsIn}
use Rattle.store_image.specs.Records.{IsTorn, behind_records, client_records_at, client_records}
use Rattle.store_image.specs.Records.{with_record, with_records, AreNotes, AreRecordsOf}
use Rattle.store_image.specs.Records.{server_records_at, server_records, with_taken, with_all_taken, AreTakenOf, AreTakenIn}

-- what was read, or the first faulty field
abbrev pub read_of : {A : Type 0} → Result (A × ℕ) ℕ → Result A ImageError
read_of (Ok x) = Ok x.0
read_of (Err place) = Err (BadImage (as_u32 place))

-- what the bytes are kept for, or the first refusal: the mark of the other kind, and the first faulty field
abbrev pub image_of : {A : Type 0} → List ℕ → Reader A → List ℕ → Result A ImageError
image_of other read bytes = if bytes_eq other (take 4 bytes) then Err WrongKind else read_of (read bytes 0)

-- a client's image and the records behind it: the client that they lead to, and the place where a torn tail begins
unfoldable pub kept_client_in : Format → Reader ClientImage
kept_client_in format bytes at = do
  image ← client_at format bytes at
  log ← behind_records (client_records_at format) with_record image.0.log bytes image.1
  Ok (record { client = image.0.client; log = log.0 }, log.1)

-- a server's image and the records behind it: the server that they lead to, and the place where a torn tail begins
unfoldable pub kept_server_in : Format → Reader ServerImage
kept_server_in format bytes at = do
  image ← server_at format bytes at
  behind_records (server_records_at format) with_taken image.0 bytes image.1

-- both in the format that the bytes tell
unfoldable pub kept_client_at : Reader ClientImage
kept_client_at bytes at = kept_client_in (format_of bytes) bytes at

unfoldable pub kept_server_at : Reader ServerImage
kept_server_at bytes at = kept_server_in (format_of bytes) bytes at

-- the client that the bytes are kept for
abbrev pub kept_client_of : List ℕ → Result ClientImage ImageError
kept_client_of = image_of server_mark kept_client_at

-- the server that the bytes are kept for
abbrev pub server_of : List ℕ → Result ServerImage ImageError
server_of = image_of client_mark kept_server_at

-- the refusal that an error names; want of memory is none
abbrev pub refusal_of : ImageError → Option ImageError
refusal_of Memory = None
refusal_of e = Some e

-- what a call returned is what the bytes come to, unless memory ran out
abbrev pub GivesImage : {A : Type 0} → Result A ImageError → Result A ImageError → Type 0
GivesImage = Answers (λ image. image) refusal_of

-- ---- what is kept

-- the bytes are kept in this format for the client with this number and this log, and nothing is torn: they spell an image of
-- it, and the records that lead from there to the log
pub record IsKeptWholeIn (format : Format) (number : ℕ) (log : Log) (bytes : List ℕ) : Type 0 where
  pub first : Log
  pub notes : List ClientRecord
  pub fits : ClientFitsIn format (record { client = number; log = first })
  pub are : AreNotes first notes
  pub known : AreRecordsOf format notes
  pub leads : log ≡ with_records first notes
  pub spelled : bytes ≡ client_in format (record { client = number; log = first }) ++ client_records notes

-- behind what is kept so in the second format records may be appended
abbrev pub IsKeptWholeFor : ℕ → Log → List ℕ → Type 0
IsKeptWholeFor = IsKeptWholeIn Second

-- the bytes are kept for the client with this number and this log, in whichever format: a torn tail may stand behind what is
-- kept whole
pub record IsKeptFor (number : ℕ) (log : Log) (bytes : List ℕ) : Type 0 where
  pub format : Format
  pub front : List ℕ
  pub tail : List ℕ
  pub whole : IsKeptWholeIn format number log front
  pub torn : IsTorn tail
  pub parts : bytes ≡ front ++ tail

-- the bytes are kept in this format for the server with these last numbers and this tree, and nothing is torn: they spell an
-- image of it, and the records that lead from there to these
pub record IsKeptWholeInForServer (format : Format) (image : ServerImage) (bytes : List ℕ) : Type 0 where
  pub first : ServerImage
  pub notes : List ServerRecord
  pub fits : ServerFitsIn format first
  pub are : AreTakenOf first notes
  pub known : AreTakenIn format notes
  pub leads : image ≡ with_all_taken first notes
  pub spelled : bytes ≡ server_in format first ++ server_records notes

-- behind what is kept so in the second format records may be appended
abbrev pub IsKeptWholeForServer : ServerImage → List ℕ → Type 0
IsKeptWholeForServer = IsKeptWholeInForServer Second

-- the bytes are kept for the server with these last numbers and this tree, in whichever format: a torn tail may stand behind
-- what is kept whole
pub record IsKeptForServer (image : ServerImage) (bytes : List ℕ) : Type 0 where
  pub format : Format
  pub front : List ℕ
  pub tail : List ℕ
  pub whole : IsKeptWholeInForServer format image front
  pub torn : IsTorn tail
  pub parts : bytes ≡ front ++ tail

-- what is kept under a name is kept for the client with this number and this log; nothing is kept for a new client
abbrev pub Keeps : Option (List ℕ) → ℕ → Log → Type 0
Keeps None number log = log ≡ new_log
Keeps (Some bytes) number log = IsKeptFor number log bytes
