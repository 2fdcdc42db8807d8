-- What holds of sealed frames.
use Rattle.std.specs.Prelude.{◌≡◌, ℕ, ◌+◌, List, ◌++◌, length, Option, Some, Contains}
use Rattle.sealed_frames.specs.declared.sealing.Way.{Way}
use Rattle.sealed_frames.specs.declared.sealing.Way.TheVariants.{ToServer, ToSurrogate, Back}
use Rattle.sealed_frames.specs.declared.sealing.TheConstants.{SEAL_BYTES, MAX_SEALED}
use Rattle.sealed_frames.specs.Limits.{seal_bytes, max_sealed, max_frame}
use Rattle.sealed_frames.specs.Sealing.{way_bytes, sealed, key_of, IsSealable, IsSealedUnder, IsSealedBy}
use Rattle.sealed_frames.specs.Unforged.{Made, IsUnforged}

-- the limits of the code are those of these definitions
pub record LimitsAgree : Type 0 where
  pub seals_are : SEAL_BYTES ≡ seal_bytes
  pub sealed_are : MAX_SEALED ≡ max_sealed
  pub together : seal_bytes + max_sealed ≡ max_frame

-- what is sealed by the key of its frame's client is that frame, sealed by that key
abbrev pub SealedAsksAreOpened : Type 0
SealedAsksAreOpened = (keys : List (Option (List ℕ))) (way : Way) (key frame : List ℕ) → key_of keys frame ≡ Some key → IsSealable frame
    → IsSealedBy keys way (sealed key way frame) key frame

-- so is an answer, by the key of the ask, whatever client it names
abbrev pub SealedAnswersAreOpened : Type 0
SealedAnswersAreOpened = (key asked frame : List ℕ) → IsSealable frame
    → IsSealedUnder key (Back asked) (sealed key (Back asked) frame) frame

-- bytes that are sealed frames are one frame, sealed by one key
abbrev pub BytesAreOneFrame : Type 0
BytesAreOneFrame = (keys : List (Option (List ℕ))) (way way' : Way) (bytes key frame key' frame' : List ℕ)
    → IsSealedBy keys way bytes key frame → IsSealedBy keys way' bytes key' frame' → (key ≡ key') × (frame ≡ frame')

-- whatever the keys and the ways
abbrev pub SealsAreOfOneFrame : Type 0
SealsAreOfOneFrame = (way way' : Way) (bytes key frame key' frame' : List ℕ) → IsSealedUnder key way bytes frame
    → IsSealedUnder key' way' bytes frame' → frame ≡ frame'

-- the tag of the ask that a way back names has 32 bytes
abbrev pub HasWholeTag : Way → Type 0
HasWholeTag (Back asked) = length asked ≡ 32
HasWholeTag ToServer = Unit {0}
HasWholeTag ToSurrogate = Unit {0}

-- no text of which a tag is made is that of another way or of another frame
abbrev pub TextsAreApart : Type 0
TextsAreApart = (way way' : Way) (frame frame' : List ℕ) → HasWholeTag way → HasWholeTag way'
    → way_bytes way ++ frame ≡ way_bytes way' ++ frame' → (way ≡ way') × (frame ≡ frame')

-- under the premise, a frame that is opened was made by who has the key of its client, for this very way
abbrev pub OpenedFramesWereMade : Type 0
OpenedFramesWereMade = (keys : List (Option (List ℕ))) (made : List Made) (way : Way) (bytes key frame : List ℕ)
    → IsUnforged keys made way bytes → IsSealedBy keys way bytes key frame
    → (key_of keys frame ≡ Some key) × Contains made (record { key = key; way = way; frame = frame })
