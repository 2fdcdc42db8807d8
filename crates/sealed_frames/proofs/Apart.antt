-- What holds of sealed frames.
use Rattle.std.proofs.Common.{◌≡◌, ℕ, List, ◌++◌, take, drop, Option, refl, sym, ap, ◌∙◌, take_at, drop_at}
use Rattle.std.proofs.lemmas.Option.{same_Some}
use Rattle.sealed_frames.specs.declared.sealing.Way.{Way}
use Rattle.sealed_frames.specs.declared.sealing.Way.TheVariants.{ToServer, ToSurrogate, Back}
use Rattle.sealed_frames.specs.Sealing.{way_bytes, key_of, IsSealedUnder, IsSealedBy}
use Rattle.sealed_frames.specs.Laws.{HasWholeTag}
use Rattle.sealed_frames.proofs.Parts.{no_other}

-- bytes that are two sealed frames are one
pub same_frame : (way way' : Way) (bytes key frame key' frame' : List ℕ) → IsSealedUnder key way bytes frame
    → IsSealedUnder key' way' bytes frame' → frame ≡ frame'
same_frame way way' bytes key frame key' frame' one other =
    sym (no_other way bytes key frame one).1 ∙ (no_other way' bytes key' frame' other).1

pub same_seal : (keys : List (Option (List ℕ))) (way way' : Way) (bytes key frame key' frame' : List ℕ)
    → IsSealedBy keys way bytes key frame → IsSealedBy keys way' bytes key' frame' → (key ≡ key') × (frame ≡ frame')
same_seal keys way way' bytes key frame key' frame' one other =
    let frames : frame ≡ frame' = same_frame way way' bytes key frame key' frame' one.sealed other.sealed in
    (same_Some key key' (sym one.known ∙ ap (key_of keys) frames ∙ other.known), frames)

-- texts of tags are apart
pub same_text : (way way' : Way) (frame frame' : List ℕ) → HasWholeTag way → HasWholeTag way'
    → way_bytes way ++ frame ≡ way_bytes way' ++ frame' → (way ≡ way') × (frame ≡ frame')
same_text ToServer ToServer frame frame' on on' texts = (refl, cc texts)
same_text ToServer ToSurrogate frame frame' on on' texts = absurd (cc texts)
same_text ToServer (Back asked) frame frame' on on' texts = absurd (cc texts)
same_text ToSurrogate ToServer frame frame' on on' texts = absurd (cc texts)
same_text ToSurrogate ToSurrogate frame frame' on on' texts = (refl, cc texts)
same_text ToSurrogate (Back asked) frame frame' on on' texts = absurd (cc texts)
same_text (Back asked) ToServer frame frame' on on' texts = absurd (cc texts)
same_text (Back asked) ToSurrogate frame frame' on on' texts = absurd (cc texts)
same_text (Back asked) (Back asked') frame frame' on on' texts =
    let behind : asked ++ frame ≡ asked' ++ frame' = cc texts in (
      ap Back (sym (take_at asked frame 32 on) ∙ ap (take 32) behind ∙ take_at asked' frame' 32 on'),
      sym (drop_at asked frame 32 on) ∙ ap (drop 32) behind ∙ drop_at asked' frame' 32 on',
    )
