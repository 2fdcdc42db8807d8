-- Parts of a frame that come one after the other.
use Rattle.std.specs.Prelude.{◌≡◌, ℕ, List, [], ◌∷◌, length, take, drop, slice_get, Some}
use Rattle.frame_parts.specs.declared.part.Part.{Part}
use Rattle.frame_parts.specs.declared.front.Front.{Front}
use Rattle.frame_parts.specs.declared.front.Put.{Put}
use Rattle.frame_parts.specs.Fronts.{there, IsNamed, Puts}

-- the part is of this frame
pub record IsOf (frame : List ℕ) (part : Part) : Type 0 where
  pub named : IsNamed part frame
  pub size : part.size ≡ length frame

-- the piece stands there in the frame
abbrev pub IsPiece : List ℕ → Part → List ℕ → Type 0
IsPiece frame part piece = piece ≡ take (length piece) (drop part.at frame)

-- what is there of the frame are so many bytes of it, from its first on, perhaps none
abbrev pub HasFront : List ℕ → List Front → Type 0
HasFront frame fronts = (part : Part) → IsOf frame part → there part fronts ≡ take (length (there part fronts)) frame

-- a part that came with this piece when the clock stood so
pub record Came : Type 0 where
  pub part : Part
  pub piece : List ℕ
  pub now : ℕ

-- where it names the frame's client it is of the frame, and has a piece of it
abbrev pub IsOfFrame : List ℕ → Came → Type 0
IsOfFrame frame came = slice_get frame 6 ≡ Some came.part.client → IsOf frame came.part × IsPiece frame came.part came.piece

-- what becomes of the fronts where parts came one after the other
abbrev pub PutsAll : ℕ → List Came → List Front → List Front → Type 0
PutsAll most [] old new = new ≡ old
PutsAll most (came ∷ rest) old new =
    (put : Put) × (between : List Front) × Puts most came.part came.piece came.now old put between × PutsAll most rest between new
