-- What the calls of a keeper do to the images that it tells.
use Rattle.std.specs.Prelude.{◌≡◌, ◌≢◌, ◌⊎◌, ℕ, List, [], ◌++◌, take, Option, Some, option_map, unwrap_or, Result, Ok, Err, Vec}
use Rattle.std.specs.declared.alloc.Global.{Global}

-- what is kept under each name
abbrev pub Images : Type 0
Images = List ℕ → Option (List ℕ)

-- this image is kept under the name, and under every other name what was kept before
pub record IsPut (name image : List ℕ) (old new : Images) : Type 0 where
  pub here : new name ≡ Some image
  pub others : (other : List ℕ) → other ≢ name → new other ≡ old other

-- a load gives what is kept under the name, and nothing exactly where nothing is; it changes nothing
abbrev pub Loads : {E : Type 0} → List ℕ → Result (Option (Vec ℕ Global)) E → Images → Images → Type 0
Loads name (Ok image) old new = (option_map (λ v. v.items) image ≡ old name) × (new ≡ old)
Loads name (Err e) old new = new ≡ old

-- a save puts the image under the name; one that is refused does so, or changes nothing
abbrev pub Saves : {T E : Type 0} → List ℕ → List ℕ → Result T E → Images → Images → Type 0
Saves name image (Ok done) old new = IsPut name image old new
Saves name image (Err e) old new = (new ≡ old) ⊎ IsPut name image old new

-- what is kept, and the piece behind it; where nothing is kept, the piece alone
abbrev pub followed_by : List ℕ → Option (List ℕ) → List ℕ
followed_by piece kept = unwrap_or kept [] ++ piece

-- an append puts the piece behind what is kept under the name; one that is refused puts a front of the piece there, or changes nothing
abbrev pub Appends : {T E : Type 0} → List ℕ → List ℕ → Result T E → Images → Images → Type 0
Appends name piece (Ok done) old new = IsPut name (followed_by piece (old name)) old new
Appends name piece (Err e) old new = (new ≡ old) ⊎ ((count : ℕ) × IsPut name (followed_by (take count piece) (old name)) old new)

-- what is kept under one name, where the keeper tells it
abbrev pub kept_under : List ℕ → Option Images → Option (Option (List ℕ))
kept_under name images = option_map (λ kept. kept name) images
