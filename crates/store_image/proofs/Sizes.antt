-- How large images are.
use Rattle.std.proofs.Common.{◌≡◌, ℕ, ◌+◌, ◌*◌, ◌≤◌, List, [], ◌∷◌, ◌++◌, length, refl, ap, arith, length-append}
use Rattle.std.specs.Int.{w32, w64}
use Rattle.std.specs.List.{flat_map}
use Rattle.std.proofs.lemmas.List.Concat.{flat_map-cons}
use Rattle.byte_fields.specs.Field.{digits}
use Rattle.tree_values.specs.Spelling.{rows}
use Rattle.byte_fields.proofs.Facts.{four_bytes, eight_bytes}
use Rattle.tree_values.proofs.Sizes.{rows_size}
use Rattle.mod_log.specs.Log.{Log, entry, IsLog}
use Rattle.store_image.specs.declared.image.ClientImage.{ClientImage}
use Rattle.store_image.specs.declared.image.ServerImage.{ServerImage}
use Rattle.store_image.specs.declared.image.TheConstants.{MAX_CLIENT_IMAGE, MAX_SERVER_IMAGE, MAX_RECORDS}
use Rattle.store_image.specs.Spelling.{entries, log, client, client_in, ClientFits, numbers, server, server_in, ServerFits}
use Rattle.store_image.specs.Records.{client_records, server_records}
use Rattle.store_image.specs.Laws.{ImagesAreSmall}

log_size : (l : Log) → IsLog l → length (log l) + 6 ≤ MAX_CLIENT_IMAGE
log_size l is =
    omega (
      arith,
      length-append (digits w64 l.acked) (rows l.base ++ entries l.pending),
      length-append (rows l.base) (entries l.pending),
      length-append (digits w32 (length l.pending)) (flat_map entry l.pending),
      eight_bytes l.acked,
      four_bytes (length l.pending),
      rows_size l.base is.base_is,
      is.small,
    )

pub client_size : (image : ClientImage) → ClientFits image → length (client image) ≤ MAX_CLIENT_IMAGE
client_size image fits = omega (arith, log_size image.log fits.log)

pub numbers_size : (last : List ℕ) → length (numbers last) ≡ 8 * length last
numbers_size [] = refl
numbers_size (n ∷ last) = omega (arith, ap length (flat_map-cons (digits w64) n last), length-append (digits w64 n) (numbers last), eight_bytes n, numbers_size last)

pub server_size : (image : ServerImage) → ServerFits image → length (server image) ≤ MAX_SERVER_IMAGE
server_size image fits = omega (arith, length-append (numbers image.last) (rows image.tree), numbers_size image.last, fits.count, rows_size image.tree fits.tree)

-- what is kept, of which so much stands behind the image
kept_size : (image records front tail bytes : List ℕ) (most : ℕ) → front ≡ image ++ records → bytes ≡ front ++ tail → length image ≤ most → length (records ++ tail) ≤ MAX_RECORDS → length bytes ≤ most + MAX_RECORDS
kept_size image records front tail bytes most spelled parts small few =
    omega (arith, ap length parts, length-append front tail, ap length spelled, length-append image records, length-append records tail, small, few)

pub images_small : ImagesAreSmall
images_small = record {
  clients = client_size;
  servers = server_size;
  kept_clients = λ number log bytes kept few.
      let first : ClientImage = record { client = number; log = kept.whole.first } in
      kept_size (client_in kept.format first) (client_records kept.whole.notes) kept.front kept.tail bytes MAX_CLIENT_IMAGE kept.whole.spelled kept.parts (client_size first kept.whole.fits.fits) few;
  kept_servers = λ image bytes kept few.
      kept_size (server_in kept.format kept.whole.first) (server_records kept.whole.notes) kept.front kept.tail bytes MAX_SERVER_IMAGE kept.whole.spelled kept.parts (server_size kept.whole.first kept.whole.fits.fits) few;
  client_images_are = refl;
  server_images_are = refl;
  records_are = refl;
  loaded_are = refl;
  clients_loaded = omega arith;
  servers_loaded = omega arith;
}
