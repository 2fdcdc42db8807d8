-- What a check is to the source and the sink that it is given, by its status.
use Rattle.std.specs.Prelude.{◌≡◌, ◌==◌, ◌⊎◌, ◌↔◌, ℕ, ◌+◌, ◌≤◌, ◌<◌, Bool, List, [], ◌∷◌, length, take, Option, IfSome, IsTrue}
use Rattle.std.specs.Prelude.{Result, Ok, Err}
use Rattle.std.specs.List.{list_any}
use Rattle.outside.specs.Outside.{Takes, Adds, RisesWhere, Rose}
use Rattle.outside.specs.declared.source.Source.{Ghosts as SourceWords}
use Rattle.outside.specs.declared.sink.Sink.{Ghosts as SinkWords}
use Rattle.file_paths.specs.Path.{FilePath}
use Rattle.tree_proof.specs.Tops.{Digest}
use Rattle.tree_proof.specs.Checking.{checked}
use Rattle.tree_proof.specs.declared.checking.Finding.{Finding}
use Rattle.tree_proof.specs.declared.checking.CheckError.{CheckError}
use Rattle.client_lines.specs.Limits.{max_input}
use Rattle.client_lines.specs.Input.{IsAtEnd}
use Rattle.client_proof.specs.Texts.{answer_line}

-- how often the source and the sink failed
pub record StreamFaults : Type 0 where
  pub source : ℕ
  pub sink : ℕ

-- by what each of them tells of itself
abbrev pub stream_faults_of : {I O : Type 0} → SourceWords I → SinkWords O → I → O → StreamFaults
stream_faults_of sources sinks source sink = record { source = sources.faults source; sink = sinks.faults sink }

-- the statuses that a check may end with
abbrev pub is_check_status : ℕ → Bool
is_check_status status = list_any (λ known. known == status) (0 ∷ 3 ∷ 4 ∷ 7 ∷ 8 ∷ 9 ∷ [])

-- the status where the line that answers was written whole: 9 where it is a refusal
abbrev pub answer_status : Result Finding CheckError → ℕ
answer_status (Ok finding) = 0
answer_status (Err refused) = 9

-- the whole line was written, and the status is its own
abbrev pub WritesAnswer : Result Finding CheckError → ℕ → Option (List ℕ) → Option (List ℕ) → Type 0
WritesAnswer answer status written now = (status ≡ answer_status answer) × Adds written now (answer_line answer)

-- a front of it was written
abbrev pub BreaksAnswer : Result Finding CheckError → Option (List ℕ) → Option (List ℕ) → Type 0
BreaksAnswer answer written now =
    (count : ℕ) × (count ≤ length (answer_line answer)) × Adds written now (take count (answer_line answer))

-- What a check of the certificate that an input holds leaves, against this root and of this path, that ends with this status.
pub record CheckEnds (root : Digest) (path : FilePath) (status : ℕ) (left rest written now : Option (List ℕ))
    (faults faults_now : StreamFaults) : Type 0 where
  pub known : IsTrue (is_check_status status)
  -- the source failed once where that ended the check, and else never; and so did the sink
  pub source : RisesWhere (status ≡ 3) faults.source faults_now.source
  pub sink : RisesWhere (status ≡ 4) faults.sink faults_now.sink
  -- the bytes that were read, of which at most one is past the limit: it is 8 exactly where one is
  pub input : List ℕ
  pub taken : Takes left rest input
  pub most : length input ≤ max_input + 1
  pub past : status ≡ 8 ↔ max_input < length input
  -- 0 and 9: these are all, and the answer to them is written; 9 exactly where it is a refusal
  pub answered : (status ≡ 0) ⊎ (status ≡ 9) → IsAtEnd rest × WritesAnswer (checked root path input) status written now
  -- 3 and 8: nothing is written
  pub unread : (status ≡ 3) ⊎ (status ≡ 8) → now ≡ written
  -- 4 and 7: a front of the answer is written, and none of it where memory ran out before the end
  pub unwritten : status ≡ 4 → IsAtEnd rest × BreaksAnswer (checked root path input) written now
  pub no_memory : status ≡ 7 → (now ≡ written) ⊎ (IsAtEnd rest × BreaksAnswer (checked root path input) written now)
  pub complete : IfSome left (λ bytes. length bytes ≤ max_input → (Rose faults.source faults_now.source → ⊥)
      → (Rose faults.sink faults_now.sink → ⊥) → (status ≡ 0) ⊎ ((status ≡ 9) ⊎ (status ≡ 7)))
