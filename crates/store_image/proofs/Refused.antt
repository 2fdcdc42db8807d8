-- Images that are cut short are refused at the field in which they end.
use Rattle.std.proofs.Common.{◌≡◌, ℕ, zero, suc, ◌+◌, ◌-◌, ◌^◌, ◌<◌, ◌≤◌, Bool, true, false, List, [], ◌∷◌, ◌++◌, length, take, Err, refl, sym, ap, ◌∙◌, arith, inl, inr, length-take}
use Rattle.std.specs.Str.{bytes_eq}
use Rattle.std.proofs.lemmas.Bool.{cases_lt}
use Rattle.std.proofs.lemmas.Slice.Eq.{bytes_eq-Decides}
use Rattle.byte_fields.proofs.Facts.{lt_holds, lt_fails}
use Rattle.byte_fields.specs.Field.{Reader}
use Rattle.byte_fields.specs.Cuts.{start_of, IsCut}
use Rattle.byte_fields.specs.Numbers.{as_u32}
use Rattle.tree_values.specs.declared.format.Format.TheVariants.{Second}
use Rattle.store_image.specs.declared.image.ClientImage.{ClientImage}
use Rattle.store_image.specs.declared.image.ServerImage.{ServerImage}
use Rattle.store_image.specs.declared.image.ImageError.TheVariants.{BadImage}
use Rattle.store_image.specs.Reading.{client_mark, server_mark, format_of, client_at, server_at}
use Rattle.store_image.specs.Spelling.{log, client, ClientFits, numbers, server, ServerFits}
use Rattle.tree_values.specs.Spelling.{rows}
use Rattle.store_image.specs.Fields.{client_fields, server_fields}
use Rattle.store_image.specs.Image.{kept_client_in, kept_server_in, kept_client_at, kept_server_at, image_of, kept_client_of, server_of}
use Rattle.store_image.proofs.Cuts.{client_cut, server_cut}
use Rattle.store_image.proofs.Sizes.{client_size, server_size}
use Rattle.store_image.proofs.Whole.{whole_stands}

-- a field begins where a place in it lies, or before
begins_before : (place : ℕ) (sizes : List ℕ) → start_of place sizes ≤ place
begins_before place [] = omega arith
begins_before place (size ∷ sizes) =
    elim (cases_lt place size) [
      | inl low ↦ rw (lt_holds place size low) (omega arith)
      | inr high ↦ rw (lt_fails place size high) (omega (arith, begins_before (place - size) sizes))
    ]

take_less : (k n : ℕ) (xs : List ℕ) → k ≤ n → take k (take n xs) ≡ take k xs
take_less zero n xs le = refl
take_less (suc k) zero xs le = absurd (omega arith)
take_less (suc k) (suc n) [] le = refl
take_less (suc k) (suc n) (x ∷ xs) le = ap (λ (rest : List ℕ). x ∷ rest) (take_less k n xs (omega arith))

-- bytes without another mark have none where they are cut
no_mark : (other text : List ℕ) (end : ℕ) → length other ≡ 4 → bytes_eq other (take 4 text) ≡ false → bytes_eq other (take 4 (take end text)) ≡ false
no_mark other text end four apart = by (bytes_eq other (take 4 (take end text))) refl
  where
    by : (b : Bool) → bytes_eq other (take 4 (take end text)) ≡ b → b ≡ false
    by false e = refl
    by true e =
        let is = (bytes_eq-Decides other (take 4 (take end text))).0 e in
        let long : 4 ≤ end = omega (arith, four, ap length is, length-take 4 (take end text), length-take end text) in
        let same = (bytes_eq-Decides other (take 4 text)).1 (is ∙ take_less 4 end text long) in
        sym same ∙ apart

-- a reader that begins as one of images does, and refuses what that one refuses
module _ {A : Type 0} {begun : Reader A} {spelling fields : A → List ℕ} {Fits : A → Type 0} (read : Reader A) (other : List ℕ) (cut : IsCut begun spelling fields Fits) (fails : (bytes : List ℕ) (place : ℕ) → format_of bytes ≡ Second → begun bytes 0 ≡ Err place → read bytes 0 ≡ Err place) where
  image_refused : (x : A) (end : ℕ) → length other ≡ 4 → bytes_eq other (take 4 (spelling x)) ≡ false → format_of (take end (spelling x)) ≡ Second → Fits x → end < length (spelling x) → length (spelling x) < 2 ^ 32
      → image_of other read (take end (spelling x)) ≡ Err (BadImage (start_of end (fields x)))
  image_refused x end four apart told fits lt small =
      let ends = cut.cut (spelling x) 0 x (length (spelling x)) end (whole_stands (spelling x)) fits (omega arith) lt in
      let whole_end : end - 0 ≡ end = omega arith in
      let start : 0 + start_of (end - 0) (fields x) ≡ start_of end (fields x) = rw whole_end (omega arith) in
      let place : as_u32 (0 + start_of (end - 0) (fields x)) ≡ start_of end (fields x) = ap as_u32 start ∙ at_most (start_of end (fields x)) (omega (arith, begins_before end (fields x), lt, small)) in
      rw (no_mark other (spelling x) end four apart, fails (take end (spelling x)) (0 + start_of (end - 0) (fields x)) told ends) (ap (λ (n : ℕ). Err (BadImage n)) place)
    where
      at_most : (n : ℕ) → n ≤ 4294967295 → as_u32 n ≡ n
      at_most n le = omega arith

pub client_fails : (bytes : List ℕ) (at place : ℕ) → format_of bytes ≡ Second → client_at Second bytes at ≡ Err place → kept_client_at bytes at ≡ Err place
unfolding kept_client_at kept_client_in
client_fails bytes at place told e = rw (told, e) refl

pub server_fails : (bytes : List ℕ) (at place : ℕ) → format_of bytes ≡ Second → server_at Second bytes at ≡ Err place → kept_server_at bytes at ≡ Err place
unfolding kept_server_at kept_server_in
server_fails bytes at place told e = rw (told, e) refl

-- what begins as the second format does, or ends before its version, tells it
five_told : (a b c d : ℕ) (more : List ℕ) (end : ℕ) → format_of (take end (a ∷ b ∷ c ∷ d ∷ 2 ∷ more)) ≡ Second
five_told a b c d more zero = refl
five_told a b c d more (suc zero) = refl
five_told a b c d more (suc (suc zero)) = refl
five_told a b c d more (suc (suc (suc zero))) = refl
five_told a b c d more (suc (suc (suc (suc zero)))) = refl
five_told a b c d more (suc (suc (suc (suc (suc n))))) = refl

pub client_refused : (image : ClientImage) (end : ℕ) → ClientFits image → end < length (client image) → kept_client_of (take end (client image)) ≡ Err (BadImage (start_of end (client_fields image)))
client_refused image end fits lt = image_refused kept_client_at server_mark client_cut (λ bytes place. client_fails bytes 0 place) image end refl refl (five_told 79 83 67 73 (image.client ∷ log image.log) end) fits lt (omega (arith, client_size image fits))

pub server_refused : (image : ServerImage) (end : ℕ) → ServerFits image → end < length (server image) → server_of (take end (server image)) ≡ Err (BadImage (start_of end (server_fields image)))
server_refused image end fits lt = image_refused kept_server_at client_mark server_cut (λ bytes place. server_fails bytes 0 place) image end refl refl (five_told 79 83 83 73 (numbers image.last ++ rows image.tree) end) fits lt (omega (arith, server_size image fits))
