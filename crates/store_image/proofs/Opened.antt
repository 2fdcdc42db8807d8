-- A server's records are read with their format as without it.
use Rattle.std.proofs.Common.{◌≡◌, ℕ, zero, suc, Bool, true, false, List, [], ◌∷◌, Result, Ok, Err, refl, sym, ap, ◌∙◌, cond}
use Rattle.byte_fields.specs.declared.error.TakeError.{TakeError}
use Rattle.byte_fields.specs.declared.error.TakeError.TheVariants as errors
use Rattle.byte_fields.specs.Field.{◌>>=◌, Fails, passed, tagged_at}
use Rattle.byte_fields.specs.Records.{framed_at, is_torn, records_at, until_end}
use Rattle.tree_values.specs.declared.format.Format.{Format}
use Rattle.store_image.specs.declared.image.ServerImage.{ServerImage}
use Rattle.store_image.specs.declared.record.ServerRecord.{ServerRecord}
use Rattle.store_image.specs.declared.journal.Opened.{Opened}
use Rattle.store_image.specs.Records.{behind_records, server_kinds, server_records_at, with_taken, with_all_taken}
use Rattle.store_image.specs.Inside.{opened_record_at, with_opened}

abbrev pub opened : Format → ServerImage → Opened
opened format image = record { format = format; image = image }

opened_read : (format : Format) (most : ℕ) (image : ServerImage) (bytes : List ℕ) (at : ℕ)
    → records_at opened_record_at with_opened most (opened format image) bytes at ≡ records_at (λ i. tagged_at (server_kinds format i)) with_taken most image bytes at
unfolding records_at
opened_read format zero image bytes at = refl
opened_read format (suc most) image bytes at =
    by (is_torn bytes at) (framed_at (tagged_at (server_kinds format image)) bytes at) (λ next place. opened_read format most next bytes place)
  where
    by : (torn : Bool) (read : Result (ServerRecord × ℕ) ℕ)
        → ((next : ServerImage) (place : ℕ) → records_at opened_record_at with_opened most (opened format next) bytes place ≡ records_at (λ i. tagged_at (server_kinds format i)) with_taken most next bytes place)
        → ◌≡◌ {A = Result (List ServerRecord × ℕ) ℕ}
        (cond torn (Ok ([], at)) (read >>= λ first. records_at opened_record_at with_opened most (opened format (with_taken image first.0)) bytes first.1 >>= λ others. Ok (first.0 ∷ others.0, others.1)))
        (cond torn (Ok ([], at)) (read >>= λ first. records_at (λ i. tagged_at (server_kinds format i)) with_taken most (with_taken image first.0) bytes first.1 >>= λ others. Ok (first.0 ∷ others.0, others.1)))
    by true read later = refl
    by false (Ok x) later = rw (later (with_taken image x.0) x.1) refl
    by false (Err place) later = refl

opened_passed : (format : Format) (image : ServerImage) (notes : List ServerRecord) → passed with_opened (opened format image) notes ≡ opened format (with_all_taken image notes)
opened_passed format image [] = refl
opened_passed format image (note ∷ notes) = opened_passed format (with_taken image note) notes

pub opened_ok : (format : Format) (image : ServerImage) (bytes : List ℕ) (start : ℕ) (notes : List ServerRecord) (new : Opened) (torn : ℕ)
    → until_end opened_record_at with_opened (opened format image) bytes start ≡ Ok (notes, torn) → new ≡ passed with_opened (opened format image) notes
    → behind_records (server_records_at format) with_taken image bytes start ≡ Ok (new.image, torn)
opened_ok format image bytes start notes new torn read is =
    let same : server_records_at format image bytes start ≡ Ok (notes, torn) = sym (opened_read format _ image bytes start) ∙ read in
    let made : new.image ≡ with_all_taken image notes = ap (λ (o : Opened). o.image) (is ∙ opened_passed format image notes) in
    rw (same, made) refl

pub opened_err : (format : Format) (image : ServerImage) (bytes : List ℕ) (start : ℕ) (e : TakeError) → Fails e (until_end opened_record_at with_opened (opened format image) bytes start)
    → Fails e (behind_records (server_records_at format) with_taken image bytes start)
opened_err format image bytes start errors.Memory fails = tt
opened_err format image bytes start (errors.At place) fails =
    let same : server_records_at format image bytes start ≡ Err place = sym (opened_read format _ image bytes start) ∙ fails in
    rw same refl
