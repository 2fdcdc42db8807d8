-- What bytes that were read, or refused, are kept for.
use Rattle.std.proofs.Common.{◌≡◌, ◌≢◌, ℕ, ◌+◌, false, List, ◌++◌, length, drop, take, Result, Ok, Err, refl, sym, ap, subst, ◌∙◌, arith}
use Rattle.std.specs.Prelude.{IfOk, IfErr}
use Rattle.std.specs.Str.{bytes_eq}
use Rattle.byte_fields.specs.Field.{◌>>=◌}
use Rattle.byte_fields.specs.Codec.{Stands, IsBytes}
use Rattle.byte_fields.proofs.Codec.{bind_ok, ok_is, stands_both, stands_first, stands_second, stands_at_front}
use Rattle.mod_log.specs.Log.{Log}
use Rattle.tree_values.specs.declared.format.Format.{Format}
use Rattle.tree_values.specs.declared.format.Format.TheVariants.{First, Second}
use Rattle.store_image.specs.declared.image.ClientImage.{ClientImage}
use Rattle.store_image.specs.declared.image.ServerImage.{ServerImage}
use Rattle.store_image.specs.declared.image.ImageError.{ImageError}
use Rattle.store_image.specs.declared.image.ImageError.TheVariants.{Memory}
use Rattle.store_image.specs.Reading.{client_mark, server_mark, format_of, client_at, server_at}
use Rattle.store_image.specs.Spelling.{client_in, server_in}
use Rattle.store_image.specs.Records.{behind_records, client_records, client_records_at, with_record, with_records, server_records, server_records_at, with_taken, with_all_taken}
use Rattle.store_image.specs.Image.{kept_client_in, kept_server_in, kept_client_at, kept_server_at, kept_client_of, server_of, GivesImage, IsKeptFor, IsKeptForServer}
use Rattle.store_image.proofs.Images.{client_made, client_codec, server_codec}
use Rattle.store_image.proofs.Framing.{torn_alone, torn_behind}
use Rattle.store_image.proofs.Notes.{notes_found, notes_again}
use Rattle.store_image.proofs.Records.{records_found, records_again}
use Rattle.store_image.proofs.Taken.{taken_found, taken_again}
use Rattle.store_image.proofs.Whole.{image_again, read_kept, read_none, kept_once}

-- ---- a client

abbrev pub IsKept : ClientImage → List ℕ → Type 0
IsKept image bytes = IsKeptFor image.client image.log bytes

client_found : (bytes : List ℕ) (x : ClientImage) (next : ℕ) → IsBytes bytes → kept_client_at bytes 0 ≡ Ok (x, next) → IsKept x bytes
unfolding kept_client_at kept_client_in
client_found bytes x torn fits e =
    let format = format_of bytes in
    let b = bind_ok (client_at format bytes 0) (λ image. behind_records (client_records_at format) with_record image.0.log bytes image.1 >>= λ log. Ok (client_made image.0.client log.0, log.1)) (x, torn) e in
    let first = b.0.0 in
    let c = bind_ok (behind_records (client_records_at format) with_record first.log bytes b.0.1) (λ log. Ok (client_made first.client log.0, log.1)) (x, torn) b.2 in
    let d = bind_ok (client_records_at format first.log bytes b.0.1) (λ notes. Ok (with_records first.log notes.0, notes.1)) c.0 c.1 in
    let image = (client_codec format).found bytes 0 first b.0.1 fits (omega arith) b.1 in
    let w = records_found format (length bytes) first.log bytes b.0.1 d.0.0 d.0.1 fits image.0.within (omega arith) d.1 in
    let read = notes_found format first.log d.0.0 image.1.fits.log w.each in
    let both = stands_both bytes 0 (client_in format first) b.0.1 (client_records d.0.0) d.0.1 image.0 w.stands in
    let made : (client_made first.client (with_records first.log d.0.0), d.0.1) ≡ (x, torn) =
    ap (λ (log : Log × ℕ). (client_made first.client log.0, log.1)) (ok_is (with_records first.log d.0.0, d.0.1) c.0 d.2) ∙ ok_is (client_made first.client c.0.0, c.0.1) (x, torn) c.2 in
    let kept : IsKeptFor first.client (with_records first.log d.0.0) bytes = record {
      format = format;
      front = client_in format first ++ client_records d.0.0;
      tail = drop d.0.1 bytes;
      whole = record { first = first.log; notes = d.0.0; fits = image.1; are = read.0; known = read.1; leads = refl; spelled = refl };
      torn = torn_alone bytes d.0.1 both.within ∙ w.is;
      parts = both.here;
    } in
    subst (λ (y : ClientImage × ℕ). IsKept y.0 bytes) made kept

-- the fifth byte of a spelling tells its format
client_told : (format : Format) (image : ClientImage) (records tail : List ℕ) → format_of ((client_in format image ++ records) ++ tail) ≡ format
client_told First image records tail = refl
client_told Second image records tail = refl

client_read : (bytes : List ℕ) (x : ClientImage) → IsKept x bytes → (next : ℕ) × (kept_client_at bytes 0 ≡ Ok (x, next))
unfolding kept_client_at kept_client_in
client_read bytes x kept =
    let w = kept.whole in
    let image = client_made x.client w.first in
    let format = kept.format in
    let text = client_in format image in
    let records = client_records w.notes in
    let all = subst (λ (f : List ℕ). Stands (f ++ kept.tail) 0 f (length f)) w.spelled (stands_at_front kept.front kept.tail) in
    let bytes_are : bytes ≡ (text ++ records) ++ kept.tail = kept.parts ∙ ap (λ (f : List ℕ). f ++ kept.tail) w.spelled in
    let first = stands_first ((text ++ records) ++ kept.tail) 0 text records (length (text ++ records)) all in
    let second = stands_second ((text ++ records) ++ kept.tail) 0 text records (length (text ++ records)) all in
    let read = (client_codec format).again ((text ++ records) ++ kept.tail) 0 image (0 + length text) first w.fits in
    let notes : client_records_at format w.first ((text ++ records) ++ kept.tail) (0 + length text) ≡ Ok (w.notes, length (text ++ records)) =
    records_again format w.notes w.first ((text ++ records) ++ kept.tail) (0 + length text) (length (text ++ records))
    (record { stands = second; each = notes_again format w.first w.notes w.fits.fits.log w.are w.known; is = torn_behind (text ++ records) kept.tail ∙ kept.torn }) in
    (length (text ++ records), rw (bytes_are, client_told format image records kept.tail, read, notes) (ap (λ (log : Log). Ok (client_made x.client log, length (text ++ records))) (sym w.leads)))

client_apart : (bytes : List ℕ) (x : ClientImage) → IsKept x bytes → bytes_eq server_mark (take 4 bytes) ≡ false
client_apart bytes x kept = rw (kept.parts, kept.whole.spelled) refl

pub client_kept : (bytes : List ℕ) (r : Result ClientImage ImageError) → IsBytes bytes → GivesImage r (kept_client_of bytes) → IfOk r (λ image. IsKeptFor image.client image.log bytes)
client_kept bytes r are gives = read_kept kept_client_at server_mark client_found client_read client_apart bytes r are gives

pub client_none : (bytes : List ℕ) (r : Result ClientImage ImageError) → GivesImage r (kept_client_of bytes) → IfErr r (λ e. e ≢ Memory → (number : ℕ) (log : Log) → IsKeptFor number log bytes → ⊥)
client_none bytes (Ok image) gives = tt
client_none bytes (Err e) gives = λ none number log kept. read_none kept_client_at server_mark client_found client_read client_apart bytes (Err e) gives none (client_made number log) kept

pub client_again : (number : ℕ) (log : Log) (bytes : List ℕ) → IsKeptFor number log bytes → kept_client_of bytes ≡ Ok (client_made number log)
client_again number log bytes kept = image_again kept_client_at server_mark client_found client_read client_apart bytes (client_made number log) kept

-- bytes are kept for one client
pub client_once : (number number' : ℕ) (log log' : Log) (bytes : List ℕ) → IsKeptFor number log bytes → IsKeptFor number' log' bytes → (number ≡ number') × (log ≡ log')
client_once number number' log log' bytes kept kept' =
    let same = kept_once kept_client_at server_mark client_found client_read client_apart bytes (client_made number log) (client_made number' log') kept kept' in
    (ap (λ (image : ClientImage). image.client) same, ap (λ (image : ClientImage). image.log) same)

-- ---- a server

server_found : (bytes : List ℕ) (x : ServerImage) (next : ℕ) → IsBytes bytes → kept_server_at bytes 0 ≡ Ok (x, next) → IsKeptForServer x bytes
unfolding kept_server_at kept_server_in
server_found bytes x torn fits e =
    let format = format_of bytes in
    let b = bind_ok (server_at format bytes 0) (λ image. behind_records (server_records_at format) with_taken image.0 bytes image.1) (x, torn) e in
    let first = b.0.0 in
    let d = bind_ok (server_records_at format first bytes b.0.1) (λ notes. Ok (with_all_taken first notes.0, notes.1)) (x, torn) b.2 in
    let image = (server_codec format).found bytes 0 first b.0.1 fits (omega arith) b.1 in
    let w = taken_found format first bytes b.0.1 d.0.0 d.0.1 fits image.0.within d.1 in
    let both = stands_both bytes 0 (server_in format first) b.0.1 (server_records d.0.0) d.0.1 image.0 w.stands in
    let kept : IsKeptForServer (with_all_taken first d.0.0) bytes = record {
      format = format;
      front = server_in format first ++ server_records d.0.0;
      tail = drop d.0.1 bytes;
      whole = record { first = first; notes = d.0.0; fits = image.1; are = w.are; known = w.known; leads = refl; spelled = refl };
      torn = torn_alone bytes d.0.1 both.within ∙ w.is;
      parts = both.here;
    } in
    subst (λ (y : ServerImage × ℕ). IsKeptForServer y.0 bytes) (ok_is (with_all_taken first d.0.0, d.0.1) (x, torn) d.2) kept

server_told : (format : Format) (image : ServerImage) (records tail : List ℕ) → format_of ((server_in format image ++ records) ++ tail) ≡ format
server_told First image records tail = refl
server_told Second image records tail = refl

server_read : (bytes : List ℕ) (x : ServerImage) → IsKeptForServer x bytes → (next : ℕ) × (kept_server_at bytes 0 ≡ Ok (x, next))
unfolding kept_server_at kept_server_in
server_read bytes x kept =
    let w = kept.whole in
    let format = kept.format in
    let text = server_in format w.first in
    let records = server_records w.notes in
    let all = subst (λ (f : List ℕ). Stands (f ++ kept.tail) 0 f (length f)) w.spelled (stands_at_front kept.front kept.tail) in
    let bytes_are : bytes ≡ (text ++ records) ++ kept.tail = kept.parts ∙ ap (λ (f : List ℕ). f ++ kept.tail) w.spelled in
    let first = stands_first ((text ++ records) ++ kept.tail) 0 text records (length (text ++ records)) all in
    let second = stands_second ((text ++ records) ++ kept.tail) 0 text records (length (text ++ records)) all in
    let read = (server_codec format).again ((text ++ records) ++ kept.tail) 0 w.first (0 + length text) first w.fits in
    let notes : server_records_at format w.first ((text ++ records) ++ kept.tail) (0 + length text) ≡ Ok (w.notes, length (text ++ records)) =
    taken_again format w.first w.notes ((text ++ records) ++ kept.tail) (0 + length text) (length (text ++ records)) (record { stands = second; are = w.are; known = w.known; is = torn_behind (text ++ records) kept.tail ∙ kept.torn }) in
    (length (text ++ records), rw (bytes_are, server_told format w.first records kept.tail, read, notes) (ap (λ (image : ServerImage). Ok (image, length (text ++ records))) (sym w.leads)))

server_apart : (bytes : List ℕ) (x : ServerImage) → IsKeptForServer x bytes → bytes_eq client_mark (take 4 bytes) ≡ false
server_apart bytes x kept = rw (kept.parts, kept.whole.spelled) refl

pub server_kept : (bytes : List ℕ) (r : Result ServerImage ImageError) → IsBytes bytes → GivesImage r (server_of bytes) → IfOk r (λ image. IsKeptForServer image bytes)
server_kept bytes r are gives = read_kept kept_server_at client_mark server_found server_read server_apart bytes r are gives

pub server_none : (bytes : List ℕ) (r : Result ServerImage ImageError) → GivesImage r (server_of bytes) → IfErr r (λ e. e ≢ Memory → (image : ServerImage) → IsKeptForServer image bytes → ⊥)
server_none bytes r gives = read_none kept_server_at client_mark server_found server_read server_apart bytes r gives

pub server_again : (image : ServerImage) (bytes : List ℕ) → IsKeptForServer image bytes → server_of bytes ≡ Ok image
server_again image bytes kept = image_again kept_server_at client_mark server_found server_read server_apart bytes image kept

pub server_once : (image image' : ServerImage) (bytes : List ℕ) → IsKeptForServer image bytes → IsKeptForServer image' bytes → image ≡ image'
server_once image image' bytes kept kept' = kept_once kept_server_at client_mark server_found server_read server_apart bytes image image' kept kept'
