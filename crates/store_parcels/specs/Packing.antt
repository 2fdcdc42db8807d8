-- The spelling of a parcel, and over which volumes it opens.
use Rattle.std.specs.Prelude.{ℕ, ◌≡◌, List, ◌∷◌, ◌++◌, length, Some}
use Rattle.std.specs.Int.{w32}
use Rattle.std.specs.List.{AllByRecursion}
use Rattle.byte_fields.specs.Field.{digits}
use Rattle.file_paths.specs.Path.{FilePath}
use Rattle.tree_values.specs.Tree.{Volume}
use Rattle.wire_frames.specs.Frame.{frame_version}
use Rattle.delta_pieces.specs.declared.pieces.Step.{Step}
use Rattle.step_spelling.specs.Spelling.{steps_spelled}
use Rattle.store_parcels.specs.declared.front.Front.{Front}
use Rattle.store_parcels.specs.Front.{parcel_kind, front}
use Rattle.store_parcels.specs.Opening.{file_at, opened}

-- what follows the length: version, kind, front, the steps over so many known bytes, and the new bytes
abbrev pub payload : Front → ℕ → List Step → List ℕ → List ℕ
payload f known steps fresh = frame_version ∷ parcel_kind ∷ (front f ++ (steps_spelled known steps ++ fresh))

-- a parcel
abbrev pub parcel : Front → ℕ → List Step → List ℕ → List ℕ
parcel f known steps fresh = digits w32 (length (payload f known steps fresh)) ++ payload f known steps fresh

-- at these paths the other volume has the same files
abbrev pub HasFilesOf : Volume → List FilePath → Volume → Type 0
HasFilesOf volume paths other = AllByRecursion (λ path. file_at other path ≡ file_at volume path) paths

-- over each volume that has these files the bytes open to the frame
abbrev pub OpensTo : Volume → List FilePath → List ℕ → List ℕ → Type 0
OpensTo volume paths bytes frame = (other : Volume) → HasFilesOf volume paths other → opened other bytes ≡ Some frame
