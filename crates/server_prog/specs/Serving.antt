-- What a server does with the frames that it takes, and what is kept of it.
use Rattle.std.specs.Prelude.{◌≡◌, ◌≤◌, ◌⊎◌, ℕ, ◌+◌, Bool, true, false, List, [], ◌∷◌, ◌++◌, length, Option, None, Some, if◌then◌else◌}
use Rattle.outside.specs.Outside.{Told}
use Rattle.outside.specs.Port.{PortTelling}
use Rattle.port_serving.specs.Serving.{Connection, exchanges, frames_taken}
use Rattle.store_image.specs.declared.image.TheConstants.{MAX_SERVER_IMAGE, MAX_RECORDS}
use Rattle.store_image.specs.declared.record.ServerRecord.{ServerRecord}
use Rattle.store_image.specs.Records.{server_records}
use Rattle.world_rules.specs.Served.{Served}
use Rattle.server_core.specs.Framing.{frame_answer, frame_after, frames_after, takes, change}
use Rattle.server_core.specs.Keeping.{IsKeptForServed, IsImageForServed, records_taken}

-- each frame is replied to as the definition says, of the state that the frames before it left
abbrev pub ServedBy : List (List ℕ × List ℕ) → Served → Served → Type 0
ServedBy [] before after = after ≡ before
ServedBy (pair ∷ pairs) before after = (pair.1 ≡ frame_answer pair.0 before) × ServedBy pairs (frame_after pair.0 before) after

-- what a run that kept a change leaves under the server's name: bytes for the state after it, an image and at most so many
-- bytes of records as a run appends
pub record IsKeptNow (after : Served) (now : Option (List ℕ)) : Type 0 where
  pub bytes : List ℕ
  pub here : now ≡ Some bytes
  pub kept : IsKeptForServed after bytes
  pub small : length bytes ≤ MAX_SERVER_IMAGE + MAX_RECORDS

-- what is kept under the server's name once frames were served: where any of them changed the state, bytes for the state after
-- them, and else what was kept before
abbrev pub KeptAs : Bool → Served → Option (List ℕ) → Option (List ℕ) → Type 0
KeptAs true after old new = IsKeptNow after new
KeptAs false after old new = new ≡ old

-- the same of these frames
abbrev pub IsKeptAfter : List (List ℕ) → Served → Option (List ℕ) → Option (List ℕ) → Type 0
IsKeptAfter frames before old new = KeptAs (change frames before) (frames_after frames before) old new

-- what is kept is that of the frames that were served, or of them and those at hand
abbrev pub PerhapsKept : List (List ℕ) → List (List ℕ) → Served → Option (List ℕ) → Option (List ℕ) → Type 0
PerhapsKept frames at_hand before old new = IsKeptAfter frames before old new ⊎ IsKeptAfter (frames ++ at_hand) before old new

-- under the server's name stand an image for the state and behind it these records, in order, and nothing else
pub record IsImageWithRecords (state : Served) (notes : List ServerRecord) (now : Option (List ℕ)) : Type 0 where
  pub image : List ℕ
  pub kept : IsImageForServed state image
  pub here : now ≡ Some (image ++ server_records notes)

-- the state after the first of these frames that changes it, and one record of each later one that does, in order; none where no
-- frame does
abbrev pub first_and_records : List (List ℕ) → Served → Option (Served × List ServerRecord)
first_and_records [] state = None
first_and_records (frame ∷ frames) state =
    let after = frame_after frame state in
    if takes frame state then Some (after, records_taken frames after) else first_and_records frames after

-- what is kept under the server's name: where no frame changed the state, what was kept before; else an image for the state after the
-- first that did and behind it the records of the later ones, where these together have at most as many bytes as a run appends
abbrev pub IsKeptWith : Option (Served × List ServerRecord) → Option (List ℕ) → Option (List ℕ) → Type 0
IsKeptWith None old new = new ≡ old
IsKeptWith (Some first) old new = length (server_records first.1) ≤ MAX_RECORDS → IsImageWithRecords first.0 first.1 new

-- the same of these frames
abbrev pub IsRecordedAfter : List (List ℕ) → Served → Option (List ℕ) → Option (List ℕ) → Type 0
IsRecordedAfter frames before old new = IsKeptWith (first_and_records frames before) old new

-- a server that held one state replied to the frames of these connections, and holds the other state now; what is kept under
-- its name, where the keeper tells it, became this
pub record ServesConnections (connections : List Connection) (before after : Served) (old new : Option (Option (List ℕ))) : Type 0 where
  pub replies : ServedBy (exchanges connections) before after
  pub kept : Told old new (KeptAs (change (frames_taken connections) before) after)

-- what a port tells, and what is kept under the server's name
pub record ServerTelling : Type 0 where
  pub port : PortTelling
  pub kept : Option (Option (List ℕ))

abbrev pub server_telling : PortTelling → Option (Option (List ℕ)) → ServerTelling
server_telling port kept = record { port = port; kept = kept }
