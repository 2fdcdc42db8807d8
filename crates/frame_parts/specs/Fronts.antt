-- The fronts of frames that come in parts.
use Rattle.std.specs.Prelude.{◌≡◌, ◌≢◌, ◌⊎◌, ℕ, ◌+◌, ◌≤◌, ◌<◌, ◌==◌, ◌&&◌, Bool, List, [], ◌∷◌, ◌++◌, length, take, sum_by, slice_get, Option, None, Some, if◌then◌else◌}
use Rattle.std.specs.Str.{bytes_eq}
use Rattle.sha2.specs.Sha256.{sha256}
use Rattle.frame_parts.specs.declared.part.Part.{Part}
use Rattle.frame_parts.specs.declared.front.Front.{Front}
use Rattle.frame_parts.specs.declared.front.Fronts.{Fronts}
use Rattle.frame_parts.specs.declared.front.Put.{Put}
use Rattle.frame_parts.specs.declared.front.Put.TheVariants.{Have, Whole}
use Rattle.frame_parts.specs.Limits.{most_bytes}

-- the fronts, that of the part that came last first, and how many there may be
abbrev pub fronts_in : Fronts → List Front
fronts_in fronts = fronts.fronts.items

abbrev pub most_in : Fronts → ℕ
most_in fronts = fronts.most

-- the front of a client, where it has one
abbrev pub front_of : ℕ → List Front → Option Front
front_of client [] = None
front_of client (front ∷ fronts) = if front.client == client then Some front else front_of client fronts

-- the fronts but that of a client
abbrev pub without : ℕ → List Front → List Front
without client [] = []
without client (front ∷ fronts) = if front.client == client then fronts else front ∷ without client fronts

-- each client has one front at most
abbrev pub AreOne : List Front → Type 0
AreOne [] = Unit {0}
AreOne (front ∷ fronts) = (front_of front.client fronts ≡ None) × AreOne fronts

-- a front is of the frame that the part is of
abbrev pub is_of : Part → Front → Bool
is_of part front = front.client == part.client && (bytes_eq front.print part.print && front.size == part.size)

-- what a front has of the frame that the part is of
abbrev pub bytes_of : Part → Option Front → List ℕ
bytes_of part None = []
bytes_of part (Some front) = if is_of part front then front.bytes.items else []

-- what is there of the frame that the part is of
abbrev pub there : Part → List Front → List ℕ
there part fronts = bytes_of part (front_of part.client fronts)

-- how many bytes fronts have together
abbrev pub bytes_in : List Front → ℕ
bytes_in fronts = sum_by (λ front. length front.bytes.items) fronts

-- there is room for the fronts, where there may be so many
pub record HasRoom (most : ℕ) (fronts : List Front) : Type 0 where
  pub few : length fronts ≤ most
  pub bytes : bytes_in fronts ≤ most_bytes

-- so many of the fronts, and no more, have room behind one of so many bytes
pub record FitBehind (most first : ℕ) (fronts : List Front) (kept : ℕ) : Type 0 where
  pub within : kept ≤ length fronts
  pub few : kept + 1 ≤ most
  pub bytes : first + bytes_in (take kept fronts) ≤ most_bytes
  pub needed : kept < length fronts → (most ≤ kept + 1) ⊎ (most_bytes < first + bytes_in (take (kept + 1) fronts))

-- a front is the first now, and behind it stand as many of the others, from the first on, as there is room for
pub record TakesIn (most : ℕ) (front : Front) (others new : List Front) : Type 0 where
  pub kept : ℕ
  pub first : new ≡ front ∷ take kept others
  pub fit : FitBehind most (length front.bytes.items) others kept

-- the bytes are the frame that the part names
pub record IsNamed (part : Part) (frame : List ℕ) : Type 0 where
  pub client : slice_get frame 6 ≡ Some part.client
  pub print : sha256 frame ≡ part.print

-- the front has these bytes of the frame that the part is of, since the clock stood so
pub record IsFront (part : Part) (has : List ℕ) (now : ℕ) (front : Front) : Type 0 where
  pub client : front.client ≡ part.client
  pub print : front.print ≡ part.print
  pub size : front.size ≡ part.size
  pub bytes : front.bytes.items ≡ has
  pub seen : front.seen ≡ now

-- these bytes of the part's frame are kept before the others
abbrev pub Keeps : ℕ → Part → List ℕ → ℕ → List Front → List Front → Type 0
Keeps most part bytes now others new = (front : Front) × IsFront part bytes now front × TakesIn most front others new

-- the frame is handed on
abbrev pub Hands : Put → List ℕ → Type 0
Hands (Whole bytes) frame = bytes.items ≡ frame
Hands (Have count) frame = ⊥

-- What becomes of bytes that a part joined, of which some were there before: they are kept where the frame is not whole; else it is handed
-- on where it is the one that is named, and what was there is kept; else nothing is.
abbrev pub IsAppended : ℕ → Part → List ℕ → ℕ → List Front → Put → List Front → Type 0
IsAppended most part joined now others put new =
    (length joined < part.size) × (put ≡ Have (length joined)) × Keeps most part joined now others new

abbrev pub IsHandedOn : ℕ → Part → List ℕ → List ℕ → ℕ → List Front → Put → List Front → Type 0
IsHandedOn most part before joined now others put new =
    (length joined ≡ part.size) × IsNamed part joined × Hands put joined × Keeps most part before now others new

abbrev pub IsDropped : Part → List ℕ → List Front → Put → List Front → Type 0
IsDropped part joined others put new =
    (length joined ≡ part.size) × (IsNamed part joined → ⊥) × (put ≡ Have 0) × (new ≡ others)

abbrev pub Settles : ℕ → Part → List ℕ → List ℕ → ℕ → List Front → Put → List Front → Type 0
Settles most part before joined now others put new = IsAppended most part joined now others put new
    ⊎ (IsHandedOn most part before joined now others put new ⊎ IsDropped part joined others put new)

-- A part with this piece comes when the clock stands so. Where it does not begin behind what is there of its frame nothing changes, and
-- what is there is told; where it does, its piece stands behind that.
abbrev pub Puts : ℕ → Part → List ℕ → ℕ → List Front → Put → List Front → Type 0
Puts most part piece now old put new =
    ((part.at ≢ length (there part old)) × (put ≡ Have (length (there part old))) × (new ≡ old))
    ⊎ ((part.at ≡ length (there part old))
    × Settles most part (there part old) (there part old ++ piece) now (without part.client old) put new)
