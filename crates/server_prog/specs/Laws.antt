-- What the connections of a run amount to, and what is kept of them.
use Rattle.std.specs.Prelude.{◌≡◌, ◌⊎◌, ℕ, List, [], ◌∷◌, ◌++◌, Option, Some}
use Rattle.outside.specs.Port.{Talk}
use Rattle.port_serving.specs.Laws.{frames_of, HasFallen, HasTalks, IsTold}
use Rattle.world_rules.specs.Served.{Served}
use Rattle.server_core.specs.Keeping.{KeepsServed}
use Rattle.server_prog.specs.Serving.{IsKeptAfter, IsRecordedAfter, ServerTelling}
use Rattle.server_prog.specs.Run.{ServerRan}

-- serving came to its end
abbrev pub IsWhole : ℕ → Type 0
IsWhole status = (status ≡ 0) ⊎ (status ≡ 4)

abbrev pub FallsAreBounded : Type 0
FallsAreBounded = (count status : ℕ) (old new : ServerTelling) (written now : Option (List ℕ))
    → ServerRan count status old new written now → HasFallen count (IsWhole status) old.port new.port

-- at status 5 or 7 the connection at hand may be without an answer and without a fault; at status 0 the last line was written
abbrev pub FramesAreCounted : Type 0
FramesAreCounted = (count status : ℕ) (old new : ServerTelling) (written now : Option (List ℕ)) (talks : List Talk)
    → ServerRan count status old new written now → HasTalks talks old.port new.port
    → IsTold (IsWhole status) (status ≡ 0) talks old.port new.port written now

-- nothing was taken, and what is kept is as before
pub record IsNothingTaken (status : ℕ) (taken : List (List ℕ)) (old new : Option (List ℕ)) : Type 0 where
  pub stopped : (status ≡ 5) ⊎ ((status ≡ 6) ⊎ (status ≡ 7))
  pub nothing : taken ≡ []
  pub same : new ≡ old

-- the frames before the one at hand, which is taken last
pub record IsKeptBefore (status : ℕ) (taken : List (List ℕ)) (first : Served) (old new : Option (List ℕ)) : Type 0 where
  pub stopped : (status ≡ 5) ⊎ (status ≡ 7)
  pub before : List (List ℕ)
  pub at_hand : List ℕ
  pub all : taken ≡ before ++ at_hand ∷ []
  pub kept : IsKeptAfter before first old new

-- What is kept at the end of a run is the state after the taken frames, and as before where none of them changed it. At status
-- 5 or 7 the change of the frame at hand may be missing.
abbrev pub KeptImagesAreServed : Type 0
KeptImagesAreServed =
    (count status : ℕ) (old new : ServerTelling) (written now : Option (List ℕ)) (talks : List Talk) (o n : Option (List ℕ))
    → ServerRan count status old new written now → HasTalks talks old.port new.port → old.kept ≡ Some o → new.kept ≡ Some n
    → IsNothingTaken status (frames_of talks) o n
    ⊎ ((first : Served) × KeepsServed o first
    × (IsKeptAfter (frames_of talks) first o n ⊎ IsKeptBefore status (frames_of talks) first o n))

-- Where serving came to its end, what is kept is an image for the state after the first of the taken frames that changed it,
-- and behind it one record of each later one, in order, where these have at most as many bytes as a run appends. It is as
-- before where none of them changed the state.
abbrev pub LaterChangesAreRecords : Type 0
LaterChangesAreRecords = (count status : ℕ) (old new : ServerTelling) (written now : Option (List ℕ)) (talks : List Talk)
    → (o n : Option (List ℕ))
    → ServerRan count status old new written now → HasTalks talks old.port new.port → old.kept ≡ Some o → new.kept ≡ Some n
    → IsWhole status → (first : Served) × KeepsServed o first × IsRecordedAfter (frames_of talks) first o n
