-- The laws of images.
use Rattle.std.proofs.Common.{◌≡◌, ℕ, suc, get_or, ◌+◌, ◌^◌, ◌<◌, true, ◌&&◌, leb, List, [], ◌∷◌, ◌++◌, length, refl, sym, subst, arith, lit<, inl, inr}
use Rattle.std.specs.Int.{w8, w64}
use Rattle.std.specs.Str.{bytes_eq}
use Rattle.std.specs.List.{AllByRecursion}
use Rattle.std.proofs.lemmas.Bool.{leb-true, le-leb, eq-eqb, and_parts}
use Rattle.std.proofs.lemmas.Slice.Eq.{bytes_eq-Decides}
use Rattle.byte_fields.specs.Field.{Reader, EachFits, digits, ruled, number_at, span_at, tagged_at}
use Rattle.byte_fields.specs.Codec.{Stands, IsCodec}
use Rattle.byte_fields.proofs.Codec.{IsBranch, bind_ok, bind_err, span_codec, u8_codec, u64_codec, ruled_codec, found2, again2, fault2, each_codec, tagged_found, tagged_fault, tagged_again, codec_for, later_fault, stands_both, stands_first, stands_second}
use Rattle.tree_values.specs.Tree.{Volume}
use Rattle.tree_values.specs.Spelling.{rows}
use Rattle.tree_laws.proofs.Parts.{rows_in_codec}
use Rattle.mod_log.specs.Log.{Log}
use Rattle.tree_values.specs.declared.format.Format.{Format}
use Rattle.tree_values.specs.declared.format.Format.TheVariants.{First, Second}
use Rattle.store_image.specs.declared.image.ClientImage.{ClientImage}
use Rattle.store_image.specs.declared.image.ServerImage.{ServerImage}
use Rattle.store_image.specs.Reading.{marked, version_of, client_mark, server_mark, client_body_at, client_at, numbers_at, server_body_at, server_at}
use Rattle.store_image.specs.Spelling.{log, client_in, ClientFitsIn, numbers, server_in, ServerFitsIn}
use Rattle.store_image.proofs.Entries.{log_codec}

-- ---- a mark, and a version

pub marked_codec : {A : Type 0} {read : Reader A} {s : A → List ℕ} {F : A → Type 0} → (mark : List ℕ) → length mark ≡ 4 → IsCodec read s F → IsCodec (marked mark read) (λ x. mark ++ s x) F
unfolding marked
marked_codec {A} {read} {s} {F} mark four codec =
    let of_mark = ruled_codec (bytes_eq mark) (span_codec 4) in
    record {
      found = λ bytes at x next fits le e.
          let b = bind_ok (ruled (bytes_eq mark) (span_at 4) bytes at) (λ found. read bytes found.1) (x, next) e in
          let one = of_mark.found bytes at b.0.0 b.0.1 fits le b.1 in
          let rest = codec.found bytes b.0.1 x next fits one.0.within b.2 in
          let is : b.0.0 ≡ mark = sym ((bytes_eq-Decides mark b.0.0).0 one.1.1) in
          (stands_both bytes at mark b.0.1 (s x) next (subst (λ (m : List ℕ). Stands bytes at m b.0.1) is one.0) rest.0, rest.1);
      again = λ bytes at x next stands fits.
          let one = of_mark.again bytes at mark (at + length mark) (stands_first bytes at mark (s x) next stands) (four, (bytes_eq-Decides mark mark).1 refl) in
          rw one (codec.again bytes (at + length mark) x next (stands_second bytes at mark (s x) next stands) fits);
      fault = λ bytes at place fits le e.
          elim (bind_err (ruled (bytes_eq mark) (span_at 4) bytes at) (λ found. read bytes found.1) place e) [
            | inl here ↦ of_mark.fault bytes at place fits le here
            | inr b ↦
                let one = of_mark.found bytes at b.0.0 b.0.1 fits le b.1 in
                later_fault bytes at b.0.0 b.0.1 place one.0 (codec.fault bytes b.0.1 place fits one.0.within b.2)
          ];
    }

-- the one version, and what follows it
pub version_codec : {A : Type 0} {read : Reader A} {s : A → List ℕ} {F : A → Type 0} → (version : ℕ) → version < 2 ^ 8 → IsCodec read s F → IsCodec (tagged_at ((version, read) ∷ [])) (λ x. version ∷ s x) F
version_codec {A} {read} {s} {F} version byte codec =
    let branch : IsBranch (λ x. version ∷ s x) F version read = record {
      byte = byte;
      found = λ bytes at x next fits le e. let r = codec.found bytes at x next fits le e in (s x, refl, r.0, r.1);
      fault = codec.fault;
    } in
    record {
      found = tagged_found (λ x. version ∷ s x) F ((version, read) ∷ []) (branch, tt);
      fault = tagged_fault (λ x. version ∷ s x) F ((version, read) ∷ []) (branch, tt);
      again = λ bytes at x next stands fits.
          tagged_again ((version, read) ∷ []) bytes at version (s x) x next byte stands (rw (eq-eqb version version refl) (codec.again bytes (at + 1) x next (stands_second bytes at (version ∷ []) (s x) next stands) fits));
    }

-- ---- a client's image

abbrev pub client_made : ℕ → Log → ClientImage
client_made number l = record { client = number; log = l }

pub number_codec : IsCodec (ruled (λ n. leb 1 n && leb n 64) (number_at w8)) (λ n. n ∷ []) (λ n. (n < 2 ^ 8) × ((leb 1 n && leb n 64) ≡ true))
number_codec = ruled_codec (λ n. leb 1 n && leb n 64) u8_codec

pub client_body_codec : (format : Format) → IsCodec (client_body_at format) (λ image. image.client ∷ log image.log) (ClientFitsIn format)
unfolding client_body_at
client_body_codec format = record {
  fault = fault2 number_codec (λ _ _. (log_codec format)) client_made;
  found = λ bytes at x next fits le e.
      let r = found2 number_codec (λ _ _. (log_codec format)) client_made bytes at x next fits le e in
      let b = and_parts (leb 1 r.first) (leb r.first 64) r.first_fits.1 in
      let is : ClientFitsIn format (client_made r.first r.second) =
      record { fits = record { some = leb-true 1 r.first b.0; few = leb-true r.first 64 b.1; log = r.second_fits.0 }; known = r.second_fits.1 } in
      subst (λ (image : ClientImage). Stands bytes at (image.client ∷ log image.log) next × ClientFitsIn format image) r.is (r.stands, is);
  again = λ bytes at x next stands fits.
      again2 number_codec (λ _ _. (log_codec format)) client_made bytes at x.client x.log next stands
      (omega (arith, fits.fits.few), rw (le-leb 1 x.client fits.fits.some, le-leb x.client 64 fits.fits.few) refl) (fits.fits.log, fits.known);
}

small_version : (format : Format) → version_of format < 2 ^ 8
small_version First = lit< tt
small_version Second = lit< tt

pub client_codec : (format : Format) → IsCodec (client_at format) (client_in format) (ClientFitsIn format)
unfolding client_at
client_codec format = marked_codec client_mark refl (version_codec (version_of format) (small_version format) (client_body_codec format))

-- ---- a server's image

abbrev pub NumberFits : Unit {0} → ℕ → Type 0
NumberFits _ n = n < 2 ^ 64

numbers_found : (xs : List ℕ) → EachFits NumberFits (λ _ _. tt {0}) (tt {0}) xs → AllByRecursion (λ n. n < 2 ^ 64) xs
numbers_found [] fits = tt
numbers_found (x ∷ xs) fits = (fits.0, numbers_found xs fits.1)

pub numbers_again : (xs : List ℕ) → AllByRecursion (λ n. n < 2 ^ 64) xs → EachFits NumberFits (λ _ _. tt {0}) (tt {0}) xs
numbers_again [] fits = tt
numbers_again (x ∷ xs) fits = (fits.0, numbers_again xs fits.1)

pub all_numbers : (xs : List ℕ) → ((i : ℕ) → get_or xs i 0 < 2 ^ 64) → AllByRecursion (λ n. n < 2 ^ 64) xs
all_numbers [] each = tt
all_numbers (x ∷ xs) each = (each 0, all_numbers xs (λ i. each (suc i)))

-- 64 numbers of 64 bits
abbrev pub AreNumbers : List ℕ → Type 0
AreNumbers xs = (length xs ≡ 64) × AllByRecursion (λ n. n < 2 ^ 64) xs

pub numbers_codec : IsCodec numbers_at numbers AreNumbers
unfolding numbers_at
numbers_codec =
    codec_for (each_codec (λ (_ : Unit {0}). number_at w64) (λ _ _. tt {0}) (digits w64) NumberFits (λ _. u64_codec) 64 (tt {0}))
    (λ xs fits. (fits.0, numbers_found xs fits.1))
    (λ xs fits. (fits.0, numbers_again xs fits.1))

abbrev pub server_made : List ℕ → Volume → ServerImage
server_made last tree = record { last = last; tree = tree }

pub server_body_codec : (format : Format) → IsCodec (server_body_at format) (λ image. numbers image.last ++ rows image.tree) (ServerFitsIn format)
unfolding server_body_at
server_body_codec format = record {
  fault = fault2 numbers_codec (λ _ _. rows_in_codec format) server_made;
  found = λ bytes at x next fits le e.
      let r = found2 numbers_codec (λ _ _. rows_in_codec format) server_made bytes at x next fits le e in
      let is : ServerFitsIn format (server_made r.first r.second) =
      record { fits = record { count = r.first_fits.0; numbers = r.first_fits.1; tree = r.second_fits.0 }; known = r.second_fits.1 } in
      subst (λ (image : ServerImage). Stands bytes at (numbers image.last ++ rows image.tree) next × ServerFitsIn format image) r.is (r.stands, is);
  again = λ bytes at x next stands fits. again2 numbers_codec (λ _ _. rows_in_codec format) server_made bytes at x.last x.tree next stands (fits.fits.count, fits.fits.numbers) (fits.fits.tree, fits.known);
}

pub server_codec : (format : Format) → IsCodec (server_at format) (server_in format) (ServerFitsIn format)
unfolding server_at
server_codec format = marked_codec server_mark refl (version_codec (version_of format) (small_version format) (server_body_codec format))
