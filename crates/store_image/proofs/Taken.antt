-- The laws of a server's records up to a torn tail.
use Rattle.std.proofs.Common.{◌≡◌, ℕ, ◌+◌, ◌^◌, ◌<◌, ◌≤◌, true, leb, List, [], ◌∷◌, ◌++◌, length, Ok, refl, subst, arith, lit<, length-append}
use Rattle.std.specs.Prelude.{nat_lt}
use Rattle.std.specs.Int.{w64}
use Rattle.byte_fields.specs.Field.{ruled, number_at, tagged_at, digits, EachFits}
use Rattle.byte_fields.specs.Codec.{Stands, IsBytes, IsCodec}
use Rattle.byte_fields.specs.Records.{is_torn, EachIsFramed}
use Rattle.byte_fields.proofs.Facts.{and_of, le_of, le_holds, lt_of, lt_holds, eight_bytes}
use Rattle.byte_fields.proofs.Codec.{u64_codec, ruled_codec, found3, again3, fault3}
use Rattle.byte_fields.proofs.Breaking.{read_again}
use Rattle.byte_fields.proofs.Tails.{records_found, all_read}
use Rattle.std.specs.List.{AllByRecursion}
use Rattle.tree_values.specs.Spelling.{effects, IsEffectOf}
use Rattle.tree_values.proofs.Sizes.{effects_size}
use Rattle.tree_values.specs.declared.format.Format.{Format}
use Rattle.store_image.specs.declared.image.ServerImage.{ServerImage}
use Rattle.store_image.specs.declared.record.ServerRecord.{ServerRecord}
use Rattle.store_image.specs.Records.{server_note, server_records, server_kinds, server_records_at, last_of, with_taken, IsTakenOf, AreTakenOf, AreTakenIn, made_taken, taken_at}
use Rattle.store_image.proofs.Growing.{applied_effects_codec}
use Rattle.store_image.proofs.Images.{number_codec, version_codec}

-- ---- one record

pub later_codec : (image : ServerImage) (number : ℕ) → IsCodec (ruled (λ n. nat_lt (last_of image number) n) (number_at w64)) (digits w64) (λ n. (n < 2 ^ 64) × (nat_lt (last_of image number) n ≡ true))
later_codec image number = ruled_codec (λ n. nat_lt (last_of image number) n) u64_codec

abbrev pub body : ServerRecord → List ℕ
body note = note.client ∷ (digits w64 note.last ++ effects note.effects)

-- the record may come next, and the format has its effects
abbrev pub IsTakenIn : Format → ServerImage → ServerRecord → Type 0
IsTakenIn format image note = IsTakenOf image note × AllByRecursion (IsEffectOf format) note.effects

pub taken_codec : (format : Format) (image : ServerImage) → IsCodec (taken_at format image) body (IsTakenIn format image)
unfolding taken_at
taken_codec format image = record {
  fault = fault3 number_codec (λ number _. later_codec image number) (λ _ _ _ _. applied_effects_codec format image.tree) made_taken;
  found = λ bytes at x next fits le e.
      let r = found3 number_codec (λ number _. later_codec image number) (λ _ _ _ _. applied_effects_codec format image.tree) made_taken bytes at x next fits le e in
      let both = and_of (leb 1 r.first) (leb r.first 64) r.first_fits.1 in
      let is : IsTakenOf image (made_taken r.first r.second r.third) = record {
        some = le_of 1 r.first both.0;
        few = le_of r.first 64 both.1;
        later = lt_of (last_of image r.first) r.second r.second_fits.1;
        number = r.second_fits.0;
        fits = r.third_fits.fits;
        applies = r.third_fits.applies;
      } in
      subst (λ (y : ServerRecord). Stands bytes at (body y) next × IsTakenIn format image y) r.is (r.stands, (is, r.third_fits.known));
  again = λ bytes at x next stands is.
      again3 number_codec (λ number _. later_codec image number) (λ _ _ _ _. applied_effects_codec format image.tree) made_taken bytes at x.client x.last x.effects next stands
      (omega (arith, is.0.few), rw (le_holds 1 x.client is.0.some, le_holds x.client 64 is.0.few) refl) (is.0.number, lt_holds (last_of image x.client) x.last is.0.later) (record { fits = is.0.fits; known = is.1; applies = is.0.applies });
}

pub taken_note_codec : (format : Format) (image : ServerImage) → IsCodec (tagged_at (server_kinds format image)) server_note (IsTakenIn format image)
taken_note_codec format image = version_codec 3 (lit< tt) (taken_codec format image)

-- how long it is
pub taken_size : (note : ServerRecord) → length (server_note note) ≡ 10 + length (effects note.effects)
taken_size note = omega (arith, length-append (digits w64 note.last) (effects note.effects), eight_bytes note.last)

pub taken_small : (image : ServerImage) (note : ServerRecord) → IsTakenOf image note → length (server_note note) < 2 ^ 32
taken_small image note is = omega (arith, taken_size note, effects_size note.effects is.fits)

-- ---- records one after the other

abbrev pub TakenFits : Format → ServerImage → ServerRecord → Type 0
TakenFits format image x = IsTakenIn format image x × (length (server_note x) < 2 ^ 32)

are_taken : (format : Format) (image : ServerImage) (xs : List ServerRecord) → EachFits (TakenFits format) with_taken image xs → AreTakenOf image xs × AreTakenIn format xs
are_taken format image [] fits = (tt, tt)
are_taken format image (x ∷ xs) fits =
    let rest = are_taken format (with_taken image x) xs fits.1 in
    ((fits.0.0.0, rest.0), (fits.0.0.1, rest.1))

pub are_framed : (format : Format) (image : ServerImage) (xs : List ServerRecord) → AreTakenOf image xs → AreTakenIn format xs → EachIsFramed (λ i. tagged_at (server_kinds format i)) with_taken server_note image xs
are_framed format image [] are known = tt
are_framed format image (x ∷ xs) are known = ((read_again (taken_note_codec format image) x (are.0, known.0), taken_small image x are.0), are_framed format (with_taken image x) xs are.1 known.1)

-- records stand up to the place, each may come after those before it, and what is left is torn
pub record AllTaken (format : Format) (image : ServerImage) (bytes : List ℕ) (at : ℕ) (notes : List ServerRecord) (torn : ℕ) : Type 0 where
  pub stands : Stands bytes at (server_records notes) torn
  pub are : AreTakenOf image notes
  pub known : AreTakenIn format notes
  pub is : is_torn bytes torn ≡ true

pub taken_found : (format : Format) (image : ServerImage) (bytes : List ℕ) (at : ℕ) (notes : List ServerRecord) (torn : ℕ) → IsBytes bytes → at ≤ length bytes → server_records_at format image bytes at ≡ Ok (notes, torn) → AllTaken format image bytes at notes torn
taken_found format image bytes at notes torn fits le e =
    let w = records_found (λ i. tagged_at (server_kinds format i)) with_taken server_note (IsTakenIn format) (taken_note_codec format) (length bytes) image bytes at notes torn fits le (omega arith) e in
    record { stands = w.stands; are = (are_taken format image notes w.each).0; known = (are_taken format image notes w.each).1; is = w.is }

pub taken_again : (format : Format) (image : ServerImage) (notes : List ServerRecord) (bytes : List ℕ) (at torn : ℕ) → AllTaken format image bytes at notes torn → server_records_at format image bytes at ≡ Ok (notes, torn)
taken_again format image notes bytes at torn w = all_read (λ i. tagged_at (server_kinds format i)) with_taken server_note notes image bytes at torn (are_framed format image notes w.are w.known) w.stands w.is
