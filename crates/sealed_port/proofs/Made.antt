-- What is handed on was made by who has its client's key.
use Rattle.std.proofs.Common.{◌≡◌, ℕ, List, Option, None, Some, Ok, subst}
use Rattle.std.specs.Prelude.{Result, Vec}
use Rattle.std.specs.declared.alloc.Global.{Global}
use Rattle.outside.specs.declared.errors.PortError.{PortError}
use Rattle.outside.specs.Port.{Talk}
use Rattle.sealed_frames.specs.declared.opening.SealError.{SealError}
use Rattle.sealed_frames.specs.declared.sealing.Way.{Way}
use Rattle.sealed_frames.specs.Sealing.{IsSealedBy}
use Rattle.sealed_frames.specs.Unforged.{Made, IsUnforged}
use Rattle.sealed_port.specs.Sealed.{Came, CameSealed, HandsOn}
use Rattle.sealed_port.specs.Laws.{WasMade}
use Rattle.sealed_port.specs.declared.Asker.{Asker}

sealed_made : (keys : List (Option (List ℕ))) (way : Way) (old new : Option (List Talk)) (asker : Option Asker) (frame : List ℕ)
    → CameSealed keys way old new asker frame
    → (bytes key : List ℕ) × Came old new bytes × IsSealedBy keys way bytes key frame
    × ((made : List Made) → IsUnforged keys made way bytes → WasMade keys made way frame)
sealed_made keys way old new None frame came = absurd came.2
sealed_made keys way old new (Some asker) frame came = (
  came.0,
  asker.key,
  came.1,
  came.2.0,
  λ made unforged. record { key = asker.key; known = came.2.0.known; sealed = unforged asker.key frame came.2.0 },
)

pub handed_on_made : (keys : List (Option (List ℕ))) (way : Way) (old new : Option (List Talk)) (asker : Option Asker)
    (refusal : Option SealError) (result : Result (Option (Vec ℕ Global)) PortError) (frame : Vec ℕ Global)
    → HandsOn keys way old new asker refusal result → result ≡ Ok (Some frame)
    → (bytes key : List ℕ) × Came old new bytes × IsSealedBy keys way bytes key frame.items
    × ((made : List Made) → IsUnforged keys made way bytes → WasMade keys made way frame.items)
handed_on_made keys way old new asker refusal result frame hands is =
    sealed_made keys way old new asker frame.items
    (subst (λ (r : Result (Option (Vec ℕ Global)) PortError). HandsOn keys way old new asker refusal r) is hands).0
