-- What a sealed frame is.
use Rattle.std.specs.Prelude.{◌≡◌, ◌≢◌, ℕ, ◌+◌, ◌-◌, ◌≤◌, ◌<◌, List, [], ◌∷◌, ◌++◌, length, take, drop, slice_index, slice_get, unwrap_or}
use Rattle.std.specs.Prelude.{Option, None, Some}
use Rattle.std.specs.Int.{w32, to_be_bytes}
use Rattle.sealed_frames.specs.declared.sealing.Way.{Way}
use Rattle.sealed_frames.specs.declared.sealing.Way.TheVariants.{ToServer, ToSurrogate, Back}
use Rattle.sealed_frames.specs.Hmac.{hmac}
use Rattle.sealed_frames.specs.Limits.{seal_bytes, max_sealed, max_frame}

-- what stands where a plain frame has its version
abbrev pub mark : ℕ
mark = 0xe5

-- the bytes that tell a way, where tags are made; an answer's way is that back to the ask with this tag
abbrev pub way_bytes : Way → List ℕ
way_bytes ToServer = 1 ∷ []
way_bytes ToSurrogate = 2 ∷ []
way_bytes (Back asked) = 3 ∷ asked

-- the tag of a frame on a way, under a key
abbrev pub tag_of : List ℕ → Way → List ℕ → List ℕ
tag_of key way frame = hmac key (way_bytes way ++ frame)

-- the frame with the seal of this tag before it: how many bytes follow, the mark and the tag
abbrev pub with_seal : List ℕ → List ℕ → List ℕ
with_seal tag frame = to_be_bytes w32 (33 + length frame) ++ mark ∷ tag ++ frame

-- the frame with its seal on a way, under a key
abbrev pub sealed : List ℕ → Way → List ℕ → List ℕ
sealed key way frame = with_seal (tag_of key way frame) frame

-- a frame can be sealed: it has a client's number, and leaves room for a seal
abbrev pub IsSealable : List ℕ → Type 0
IsSealable frame = (6 < length frame) × (length frame ≤ max_sealed)

-- the key of a client, where there is one; it stands at the place of the client's number
abbrev pub key_at : List (Option (List ℕ)) → Option ℕ → Option (List ℕ)
key_at keys None = None
key_at keys (Some client) = unwrap_or (slice_get keys client) None

-- the key of the client whose frame it is, where there is one; the client's number is byte 6 of the frame
abbrev pub key_of : List (Option (List ℕ)) → List ℕ → Option (List ℕ)
key_of keys frame = key_at keys (slice_get frame 6)

-- the bytes are this frame, sealed on this way by this key
pub record IsSealedUnder (key : List ℕ) (way : Way) (bytes frame : List ℕ) : Type 0 where
  pub fits : IsSealable frame
  pub same : bytes ≡ sealed key way frame

-- the bytes are this frame, sealed on this way by this key, which is that of its client
pub record IsSealedBy (keys : List (Option (List ℕ))) (way : Way) (bytes key frame : List ℕ) : Type 0 where
  pub known : key_of keys frame ≡ Some key
  pub sealed : IsSealedUnder key way bytes frame

-- the bytes have the form of a sealed frame, whatever its tag
abbrev pub HasSeal : List ℕ → Type 0
HasSeal bytes = (43 < length bytes) × (length bytes ≤ max_frame)
    × (take 4 bytes ≡ to_be_bytes w32 (length bytes - 4)) × (slice_index bytes 4 ≡ mark)

-- the tag and the frame of bytes that have that form
abbrev pub tag_in : List ℕ → List ℕ
tag_in bytes = drop 5 (take seal_bytes bytes)

abbrev pub frame_in : List ℕ → List ℕ
frame_in bytes = drop seal_bytes bytes

-- the bytes have that form, and their tag is not the one that their frame has on this way, under this key
pub record HasOtherTag (key : List ℕ) (way : Way) (bytes : List ℕ) : Type 0 where
  pub form : HasSeal bytes
  pub other : tag_of key way (frame_in bytes) ≢ tag_in bytes

-- so it is under the key of the client that they name
abbrev pub HasOtherTagBy : List (Option (List ℕ)) → Way → List ℕ → Type 0
HasOtherTagBy keys way bytes = (key : List ℕ) × (key_of keys (frame_in bytes) ≡ Some key) × HasOtherTag key way bytes
