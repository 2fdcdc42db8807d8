-- What is read of bytes, and why nothing is.
use Rattle.std.proofs.Common.{◌≡◌, ◌≢◌, ℕ, Bool, true, false, cond, List, ◌++◌, length, take, Result, Ok, Err, refl, sym, ap, subst, ◌∙◌, arith, append-nil}
use Rattle.std.specs.Prelude.{IfOk, IfErr}
use Rattle.std.specs.Str.{bytes_eq}
use Rattle.std.proofs.lemmas.List.{drop_all}
use Rattle.byte_fields.specs.Field.{Reader}
use Rattle.byte_fields.specs.Codec.{Stands, IsBytes}
use Rattle.store_image.specs.declared.image.ImageError.{ImageError}
use Rattle.store_image.specs.declared.image.ImageError.TheVariants.{WrongKind, BadImage, Memory}
use Rattle.store_image.specs.Image.{read_of, image_of, GivesImage}

abbrev got : {A : Type 0} → A → Result A ImageError
got x = Ok x

else_ok : {A : Type 0} (b : Bool) (e : ImageError) (r : Result A ImageError) (x : A) → cond b (Err e) r ≡ got x → (b ≡ false) × (r ≡ got x)
else_ok true e r x same = absurd cc
else_ok false e r x same = (refl, same)

read_ok : {A : Type 0} (r : Result (A × ℕ) ℕ) (x : A) → read_of r ≡ got x → (next : ℕ) × (r ≡ Ok (x, next))
read_ok {A} (Ok y) x e = (y.1, ap (λ (z : A). Ok (z, y.1)) (value e))
  where
    value : got y.0 ≡ got x → y.0 ≡ x
    value h = cc
read_ok (Err place) x e = absurd cc

pub whole_stands : (text : List ℕ) → Stands text 0 text (length text)
whole_stands text = record { here = sym (append-nil text) ∙ ap (λ (rest : List ℕ). text ++ rest) (sym (drop_all (length text) text (omega arith))); next_is = omega arith; within = omega arith }

refused : {A : Type 0} (e : ImageError) (x : A) → GivesImage (Err e) (got x) → e ≢ Memory → ⊥
refused WrongKind x gives e = absurd cc
refused (BadImage place) x gives e = absurd cc
refused Memory x gives e = absurd (e refl)

-- a reader, and what the bytes are kept for where it reads them
module _ {A : Type 0} {Kept : A → List ℕ → Type 0} (read : Reader A) (other : List ℕ)
    (found : (bytes : List ℕ) (x : A) (next : ℕ) → IsBytes bytes → read bytes 0 ≡ Ok (x, next) → Kept x bytes)
    (again : (bytes : List ℕ) (x : A) → Kept x bytes → (next : ℕ) × (read bytes 0 ≡ Ok (x, next)))
    (apart : (bytes : List ℕ) (x : A) → Kept x bytes → bytes_eq other (take 4 bytes) ≡ false) where
  pub image_again : (bytes : List ℕ) (x : A) → Kept x bytes → image_of other read bytes ≡ Ok x
  image_again bytes x kept = rw (apart bytes x kept, (again bytes x kept).1) refl

  pub read_kept : (bytes : List ℕ) (r : Result A ImageError) → IsBytes bytes → GivesImage r (image_of other read bytes) → IfOk r (λ x. Kept x bytes)
  read_kept bytes (Ok x) fits gives =
      let w = else_ok (bytes_eq other (take 4 bytes)) WrongKind (read_of (read bytes 0)) x gives in
      let r = read_ok (read bytes 0) x w.1 in
      found bytes x r.0 fits r.1
  read_kept bytes (Err e) fits gives = tt

  -- bytes that were refused are kept for nothing
  pub read_none : (bytes : List ℕ) (r : Result A ImageError) → GivesImage r (image_of other read bytes) → IfErr r (λ e. e ≢ Memory → (x : A) → Kept x bytes → ⊥)
  read_none bytes (Ok x) gives = tt
  read_none bytes (Err e) gives = λ none x kept. refused e x (subst (GivesImage (Err e)) (image_again bytes x kept) gives) none

  -- and kept for one value alone
  pub kept_once : (bytes : List ℕ) (x y : A) → Kept x bytes → Kept y bytes → x ≡ y
  kept_once bytes x y kept kept' = same (sym (image_again bytes x kept) ∙ image_again bytes y kept')
    where
      same : got x ≡ got y → x ≡ y
      same h = cc
