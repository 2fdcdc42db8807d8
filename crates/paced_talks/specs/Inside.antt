-- What the steps of reading a frame do.
use Rattle.std.specs.Prelude.{◌≡◌, ℕ, ◌≤◌, List, ◌++◌, length, take, drop, Option, None, Some}
use Rattle.std.specs.Io.KnownBytes.{Consumes, IsAtEnd}

-- one read put so many bytes behind the old ones, and none only at the stream's end
abbrev pub ReadsBlock : ℕ → Option (List ℕ) → Option (List ℕ) → List ℕ → List ℕ → ℕ → Type 0
ReadsBlock most before after old new count =
    (block : List ℕ) × (new ≡ old ++ block) × (length block ≡ count) × (count ≤ most) × Consumes before after block
    × (count ≡ 0 → IsAtEnd after)

-- these are the first so many of the stream's bytes, where it tells them, or all of them
abbrev pub IsStreamFront : ℕ → Option (List ℕ) → Option (List ℕ) → List ℕ → Type 0
IsStreamFront most None after bytes = Unit {0}
IsStreamFront most (Some before) after bytes = (bytes ≡ take most before) × (after ≡ Some (drop most before))

-- the reads put so many bytes behind the old ones, or all that came before the stream's end
abbrev pub ReadsUpTo : ℕ → Option (List ℕ) → Option (List ℕ) → List ℕ → List ℕ → Type 0
ReadsUpTo most before after old new =
    (bytes : List ℕ) × (new ≡ old ++ bytes) × (length bytes ≤ most) × IsStreamFront most before after bytes
