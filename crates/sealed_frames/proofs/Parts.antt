-- The parts of a sealed frame.
use Rattle.std.proofs.Common.{◌≡◌, ◌≤◌, ℕ, ◌+◌, ◌-◌, List, ◌∷◌, ◌++◌, length, take, drop, slice_index, None, Some, Option, refl, sym, ap, ◌∙◌, arith, w32, subst, take_at, drop_at, drop-cons, drop-drop, take-append-drop, length-drop, length-append}
use Rattle.std.specs.Int.{to_be_bytes}
use Rattle.std.proofs.lemmas.List.{drop-take}
use Rattle.std.proofs.lemmas.Option.{none-some, same_Some}
use Rattle.sha2.proofs.Facts256.{length-sha256}
use Rattle.sealed_frames.specs.declared.sealing.Way.{Way}
use Rattle.sealed_frames.specs.Sealing.{mark, tag_of, sealed, key_of, IsSealable, IsSealedUnder, IsSealedBy, HasSeal, tag_in, frame_in}

pub length-tag : (key : List ℕ) (way : Way) (frame : List ℕ) → length (tag_of key way frame) ≡ 32
length-tag key way frame = length-sha256 _

-- the bytes are their parts, one behind the other
joined : (bytes : List ℕ) → 37 ≤ length bytes → take 4 bytes ++ (slice_index bytes 4 ∷ (tag_in bytes ++ frame_in bytes)) ≡ bytes
joined bytes long =
    let behind : tag_in bytes ++ frame_in bytes ≡ drop 5 bytes =
    ap (λ (l : List ℕ). l ++ frame_in bytes) (drop-take 5 32 bytes)
    ∙ ap (λ (l : List ℕ). take 32 (drop 5 bytes) ++ l) (sym (drop-drop 32 5 bytes)) ∙ take-append-drop 32 (drop 5 bytes) in
    let marked : slice_index bytes 4 ∷ (tag_in bytes ++ frame_in bytes) ≡ drop 4 bytes =
    ap (λ (l : List ℕ). slice_index bytes 4 ∷ l) behind
    ∙ sym (drop-cons bytes 4 0 (omega (arith, long))) in
    ap (λ (l : List ℕ). take 4 bytes ++ l) marked ∙ take-append-drop 4 bytes

length-frame : (bytes : List ℕ) → 37 ≤ length bytes → length bytes - 4 ≡ 33 + length (frame_in bytes)
length-frame bytes long = omega (arith, long, length-drop 37 bytes)

-- bytes that have the form, and the tag of their frame, are that frame, sealed
is_sealed : (bytes key : List ℕ) (way : Way) → HasSeal bytes → tag_of key way (frame_in bytes) ≡ tag_in bytes
    → bytes ≡ sealed key way (frame_in bytes)
is_sealed bytes key way form tag =
    let long : 37 ≤ length bytes = omega (arith, form.0) in
    let front : take 4 bytes ≡ to_be_bytes w32 (33 + length (frame_in bytes)) =
    form.2 ∙ ap (λ (n : ℕ). to_be_bytes w32 n) (length-frame bytes long) in
    sym (joined bytes long)
    ∙ ap (λ (l : List ℕ). l ++ (slice_index bytes 4 ∷ (tag_in bytes ++ frame_in bytes))) front
    ∙ ap (λ (m : ℕ). to_be_bytes w32 (33 + length (frame_in bytes)) ++ (m ∷ (tag_in bytes ++ frame_in bytes))) form.3
    ∙ ap (λ (l : List ℕ). to_be_bytes w32 (33 + length (frame_in bytes)) ++ (mark ∷ (l ++ frame_in bytes))) (sym tag)

pub frame_of_sealed : (key : List ℕ) (way : Way) (frame : List ℕ) → frame_in (sealed key way frame) ≡ frame
frame_of_sealed key way frame = drop_at (tag_of key way frame) frame 32 (length-tag key way frame)

tag_of_sealed : (key : List ℕ) (way : Way) (frame : List ℕ) → tag_in (sealed key way frame) ≡ tag_of key way frame
tag_of_sealed key way frame = drop-take 5 32 (sealed key way frame) ∙ take_at (tag_of key way frame) frame 32 (length-tag key way frame)

length-sealed : (key : List ℕ) (way : Way) (frame : List ℕ) → length (sealed key way frame) ≡ 37 + length frame
length-sealed key way frame = omega (arith, length-append (tag_of key way frame) frame, length-tag key way frame)

-- a sealed frame has the form
seal_of_sealed : (key : List ℕ) (way : Way) (frame : List ℕ) → IsSealable frame → HasSeal (sealed key way frame)
seal_of_sealed key way frame fits =
    let long = length-sealed key way frame in
    (omega (arith, long, fits.0), omega (arith, long, fits.1), ap (λ (n : ℕ). to_be_bytes w32 n) (omega (arith, long)), refl)

-- a frame that the bytes are sealed from is the one in them
pub no_other : (way : Way) (bytes key frame : List ℕ) → IsSealedUnder key way bytes frame
    → HasSeal bytes × (frame_in bytes ≡ frame) × (tag_in bytes ≡ tag_of key way frame)
no_other way bytes key frame by = (
  subst HasSeal (sym by.same) (seal_of_sealed key way frame by.fits),
  ap frame_in by.same ∙ frame_of_sealed key way frame,
  ap tag_in by.same ∙ tag_of_sealed key way frame,
)

sealable : (bytes : List ℕ) → HasSeal bytes → IsSealable (frame_in bytes)
sealable bytes form = (omega (arith, form.0, length-drop 37 bytes), omega (arith, form.0, form.1, length-drop 37 bytes))

-- bytes of the form, with the tag of their frame
pub found : (way : Way) (bytes key frame told : List ℕ) → HasSeal bytes → frame ≡ frame_in bytes → told ≡ tag_in bytes
    → tag_of key way frame ≡ told → IsSealedUnder key way bytes frame
found way bytes key frame told form is says tag = record {
  fits = subst IsSealable (sym is) (sealable bytes form);
  same = is_sealed bytes key way form (ap (tag_of key way) (sym is) ∙ tag ∙ says) ∙ ap (sealed key way) (sym is);
}

-- what is refused: bytes of another form
pub no_answer_form : (key : List ℕ) (way : Way) (bytes frame : List ℕ) → (HasSeal bytes → ⊥) → IsSealedUnder key way bytes frame → ⊥
no_answer_form key way bytes frame other by = other (no_other way bytes key frame by).0

pub refused_form : (keys : List (Option (List ℕ))) (way : Way) (bytes key frame : List ℕ) → (HasSeal bytes → ⊥)
    → IsSealedBy keys way bytes key frame → ⊥
refused_form keys way bytes key frame other by = no_answer_form key way bytes frame other by.sealed

-- bytes of a client without a key
pub refused_key : (keys : List (Option (List ℕ))) (way : Way) (bytes key frame told : List ℕ) → told ≡ frame_in bytes
    → key_of keys told ≡ None → IsSealedBy keys way bytes key frame → ⊥
refused_key keys way bytes key frame told is none by =
    let same : frame ≡ told = sym (no_other way bytes key frame by.sealed).1 ∙ sym is in
    none-some key (sym none ∙ ap (key_of keys) (sym same) ∙ by.known)

-- bytes with another tag
pub refused_tag : (way : Way) (bytes key frame told tag : List ℕ) → told ≡ frame_in bytes → tag ≡ tag_in bytes
    → (tag_of key way told ≡ tag → ⊥) → IsSealedUnder key way bytes frame → ⊥
refused_tag way bytes key frame told tag is says other by =
    let parts = no_other way bytes key frame by in
    let same : frame ≡ told = sym parts.1 ∙ sym is in
    other (ap (tag_of key way) (sym same) ∙ sym parts.2 ∙ sym says)

pub refused_tag_by : (keys : List (Option (List ℕ))) (way : Way) (bytes key frame told tag mine : List ℕ) → told ≡ frame_in bytes
    → tag ≡ tag_in bytes → key_of keys told ≡ Some mine → (tag_of mine way told ≡ tag → ⊥) → IsSealedBy keys way bytes key frame → ⊥
refused_tag_by keys way bytes key frame told tag mine is says known other by =
    let same : frame ≡ told = sym (no_other way bytes key frame by.sealed).1 ∙ sym is in
    let keyed : key ≡ mine = same_Some key mine (sym by.known ∙ ap (key_of keys) same ∙ known) in
    refused_tag way bytes mine frame told tag is says other (subst (λ (k : List ℕ). IsSealedUnder k way bytes frame) keyed by.sealed)
