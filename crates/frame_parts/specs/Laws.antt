-- What holds of parts and of the fronts that they come for.
use Rattle.std.specs.Prelude.{◌≡◌, ◌≢◌, ℕ, ◌+◌, ◌≤◌, ◌<◌, List, length, filter, nat_le}
use Rattle.std.specs.List.{AllByRecursion}
use Rattle.frame_parts.specs.declared.part.Part.{Part}
use Rattle.frame_parts.specs.declared.have.Have.{Have}
use Rattle.frame_parts.specs.declared.front.Front.{Front}
use Rattle.frame_parts.specs.declared.front.Put.{Put}
use Rattle.frame_parts.specs.declared.part.TheConstants.{MAX_FRAME, PART_BYTES}
use Rattle.frame_parts.specs.declared.have.TheConstants.{HAVE_BYTES}
use Rattle.frame_parts.specs.declared.fronts.TheConstants.{MOST_UNKEYED, MOST_KEYED, MOST_BYTES}
use Rattle.frame_parts.specs.declared.sizes.TheConstants.{FIRST_SIZE, LEAST_SIZE, MOST_SIZE}
use Rattle.frame_parts.specs.Limits.{max_frame, part_bytes, have_bytes, most_unkeyed, most_keyed, most_bytes}
use Rattle.frame_parts.specs.Limits.{first_size, least_size, most_size}
use Rattle.frame_parts.specs.Spelling.{IsPart, IsHave}
use Rattle.frame_parts.specs.Fronts.{front_of, without, bytes_in, there, AreOne, HasRoom, Hands, Puts}
use Rattle.frame_parts.specs.Coming.{Came, IsOf, IsPiece, IsOfFrame, HasFront, PutsAll}

-- the limits of the code are those of the definitions
pub record LimitsAgree : Type 0 where
  pub frame : MAX_FRAME ≡ max_frame
  pub part : PART_BYTES ≡ part_bytes
  pub have : HAVE_BYTES ≡ have_bytes
  pub unkeyed : MOST_UNKEYED ≡ most_unkeyed
  pub keyed : MOST_KEYED ≡ most_keyed
  pub bytes : MOST_BYTES ≡ most_bytes
  pub first : FIRST_SIZE ≡ first_size
  pub least : LEAST_SIZE ≡ least_size
  pub most : MOST_SIZE ≡ most_size

-- bytes are the frame of one part with one piece
abbrev pub BytesAreOnePart : Type 0
BytesAreOnePart = (bytes : List ℕ) (part other : Part) (piece piece' : List ℕ) → IsPart bytes part piece → IsPart bytes other piece'
    → (part ≡ other) × (piece ≡ piece')

-- and of one answer
abbrev pub BytesAreOneAnswer : Type 0
BytesAreOneAnswer = (bytes : List ℕ) (have other : Have) → IsHave bytes have → IsHave bytes other → have ≡ other

-- whatever parts come of other clients, and however those of the frame's client come, what is there of the frame stays a front of it
abbrev pub FrontsAreKept : Type 0
FrontsAreKept = (most : ℕ) (frame : List ℕ) (came : List Came) (old new : List Front) → HasFront frame old
    → AllByRecursion (IsOfFrame frame) came → PutsAll most came old new → HasFront frame new

-- it stays one where those are let go for which no part came
abbrev pub LaterAreFronts : Type 0
LaterAreFronts = (frame : List ℕ) (since : ℕ) (fronts : List Front) → AreOne fronts → HasFront frame fronts
    → HasFront frame (filter (λ front. nat_le since front.seen) fronts)

-- and where a client's is gone for want of memory
abbrev pub OthersAreFronts : Type 0
OthersAreFronts = (frame : List ℕ) (client : ℕ) (fronts : List Front) → AreOne fronts → HasFront frame fronts
    → HasFront frame (without client fronts)

-- a client has one front at most, whatever part comes
abbrev pub OneIsKept : Type 0
OneIsKept = (most : ℕ) (part : Part) (piece : List ℕ) (now : ℕ) (old new : List Front) (put : Put) → AreOne old
    → Puts most part piece now old put new → AreOne new

-- and so it has where those are let go for which no part came
abbrev pub LaterAreOne : Type 0
LaterAreOne = (since : ℕ) (fronts : List Front) → AreOne fronts → AreOne (filter (λ front. nat_le since front.seen) fronts)

-- and where a client's is gone
abbrev pub OthersAreOne : Type 0
OthersAreOne = (client : ℕ) (fronts : List Front) → AreOne fronts → AreOne (without client fronts)

-- what a part of the frame hands on is the frame
abbrev pub FrameIsHandedOn : Type 0
FrameIsHandedOn = (most : ℕ) (frame : List ℕ) (part : Part) (piece : List ℕ) (now : ℕ) (old new : List Front) (put : Put) (whole : List ℕ)
    → HasFront frame old → IsOf frame part → IsPiece frame part piece → Puts most part piece now old put new
    → Hands put whole → whole ≡ frame

-- and the part hands it on that begins behind what is there and ends where the frame does
abbrev pub LastPartHandsOn : Type 0
LastPartHandsOn = (most : ℕ) (frame : List ℕ) (part : Part) (piece : List ℕ) (now : ℕ) (old new : List Front) (put : Put)
    → HasFront frame old → IsOf frame part → IsPiece frame part piece → Puts most part piece now old put new
    → part.at ≡ length (there part old) → part.at + length piece ≡ part.size → Hands put frame

-- where there is room the front of another client stays
abbrev pub OthersStay : Type 0
OthersStay = (most : ℕ) (part : Part) (piece : List ℕ) (now : ℕ) (old new : List Front) (put : Put) (other : ℕ)
    → other ≢ part.client → length old < most → part.size + bytes_in old ≤ most_bytes → Puts most part piece now old put new
    → front_of other new ≡ front_of other old

-- there is room for what is kept, whatever part comes
abbrev pub RoomIsKept : Type 0
RoomIsKept = (most : ℕ) (part : Part) (piece : List ℕ) (now : ℕ) (old new : List Front) (put : Put) → HasRoom most old
    → Puts most part piece now old put new → HasRoom most new

-- and so there is where those are let go for which no part came
abbrev pub LaterHaveRoom : Type 0
LaterHaveRoom = (most since : ℕ) (fronts : List Front) → HasRoom most fronts
    → HasRoom most (filter (λ front. nat_le since front.seen) fronts)

-- and where a client's is gone
abbrev pub OthersHaveRoom : Type 0
OthersHaveRoom = (most client : ℕ) (fronts : List Front) → HasRoom most fronts → HasRoom most (without client fronts)
