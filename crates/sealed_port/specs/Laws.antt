-- What holds of sealed ports.
use Rattle.std.specs.Prelude.{◌≡◌, ℕ, List, Option, Some, Result, Ok, Vec, Contains}
use Rattle.std.specs.declared.alloc.Global.{Global}
use Rattle.outside.specs.declared.errors.PortError.{PortError}
use Rattle.outside.specs.Port.{Talk}
use Rattle.sealed_frames.specs.declared.opening.SealError.{SealError}
use Rattle.sealed_frames.specs.declared.sealing.Way.{Way}
use Rattle.sealed_frames.specs.Sealing.{key_of, IsSealedBy}
use Rattle.sealed_frames.specs.Unforged.{Made, IsUnforged}
use Rattle.sealed_port.specs.Sealed.{Came, HandsOn}
use Rattle.sealed_port.specs.declared.Asker.{Asker}

-- the frame's client has a key here, and somebody who has it sealed this frame, for this way
pub record WasMade (keys : List (Option (List ℕ))) (made : List Made) (way : Way) (frame : List ℕ) : Type 0 where
  pub key : List ℕ
  pub known : key_of keys frame ≡ Some key
  pub sealed : Contains made (record { key = key; way = way; frame = frame })

-- what a take hands on came as bytes that are that frame, sealed by the key of its client; if no stranger made them, who has that key did
abbrev pub HandedOnFramesWereMade : Type 0
HandedOnFramesWereMade = (keys : List (Option (List ℕ))) (way : Way) (old new : Option (List Talk)) (asker : Option Asker)
    (refusal : Option SealError) (result : Result (Option (Vec ℕ Global)) PortError) (frame : Vec ℕ Global)
    → HandsOn keys way old new asker refusal result → result ≡ Ok (Some frame)
    → (bytes key : List ℕ) × Came old new bytes × IsSealedBy keys way bytes key frame.items
    × ((made : List Made) → IsUnforged keys made way bytes → WasMade keys made way frame.items)
