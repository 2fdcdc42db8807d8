-- Parts of frames and what answers them, as bytes.
use Rattle.std.specs.Prelude.{◌≡◌, ℕ, ◌+◌, ◌-◌, ◌≤◌, ◌<◌, ◌^◌, List, [], ◌∷◌, ◌++◌, length, take, drop, slice_index}
use Rattle.std.specs.Int.{w32, to_be_bytes, from_be_bytes}
use Rattle.frame_parts.specs.declared.part.Part.{Part}
use Rattle.frame_parts.specs.declared.have.Have.{Have}
use Rattle.frame_parts.specs.Limits.{max_frame, part_bytes}

-- what stands where a plain frame has its version
abbrev pub mark : ℕ
mark = 0xe6

-- the frame of a part: how many bytes follow, the mark, 1, the client, the print and the size of the whole frame, how many bytes of it
-- stand before the piece, and the piece
abbrev pub part_spelled : Part → List ℕ → List ℕ
part_spelled part piece =
    to_be_bytes w32 (43 + length piece) ++ ((mark ∷ 1 ∷ part.client ∷ [])
    ++ (part.print ++ (to_be_bytes w32 part.size ++ (to_be_bytes w32 part.at ++ piece))))

-- a part has a frame with this piece: its frame is not too long, and neither is the whole one, within which the piece is
pub record Fits (part : Part) (piece : List ℕ) : Type 0 where
  pub client : part.client < 256
  pub print : length part.print ≡ 32
  pub within : part.at + length piece ≤ part.size
  pub size : part.size ≤ max_frame
  pub short : part_bytes + length piece ≤ max_frame

-- the bytes are the frame of this part with this piece
pub record IsPart (bytes : List ℕ) (part : Part) (piece : List ℕ) : Type 0 where
  pub fits : Fits part piece
  pub same : bytes ≡ part_spelled part piece

-- the bytes begin as the frame of a part that has so many
abbrev pub HasPart : List ℕ → Type 0
HasPart bytes = (47 ≤ length bytes) × (length bytes ≤ max_frame)
    × (take 4 bytes ≡ to_be_bytes w32 (length bytes - 4)) × (slice_index bytes 4 ≡ mark) × (slice_index bytes 5 ≡ 1)

-- what bytes that begin so say, and their piece
abbrev pub part_in : List ℕ → Part
part_in bytes = record {
  client = slice_index bytes 6;
  print = take 32 (drop 7 bytes);
  size = from_be_bytes w32 (take 4 (drop 39 bytes));
  at = from_be_bytes w32 (take 4 (drop 43 bytes));
}

abbrev pub piece_in : List ℕ → List ℕ
piece_in bytes = drop part_bytes bytes

-- the frame of an answer to a part: how many bytes follow, the mark, 2, the client, and how many bytes of its frame are there
abbrev pub have_spelled : Have → List ℕ
have_spelled have = 0 ∷ 0 ∷ 0 ∷ 7 ∷ mark ∷ 2 ∷ have.client ∷ to_be_bytes w32 have.count

-- the bytes are the frame of this answer
pub record IsHave (bytes : List ℕ) (have : Have) : Type 0 where
  pub client : have.client < 256
  pub count : have.count < 2 ^ 32
  pub same : bytes ≡ have_spelled have

-- the bytes have the form of an answer to a part
abbrev pub HasHave : List ℕ → Type 0
HasHave bytes = (length bytes ≡ 11) × (slice_index bytes 0 ≡ 0) × (slice_index bytes 1 ≡ 0) × (slice_index bytes 2 ≡ 0)
    × (slice_index bytes 3 ≡ 7) × (slice_index bytes 4 ≡ mark) × (slice_index bytes 5 ≡ 2)

-- what bytes of that form say
abbrev pub have_in : List ℕ → Have
have_in bytes = record { client = slice_index bytes 6; count = from_be_bytes w32 (take 4 (drop 7 bytes)) }
