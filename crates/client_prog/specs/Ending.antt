-- What a run of the client is to the objects that it is given, by its status.
use Rattle.std.specs.Prelude.{◌≡◌, ◌↔◌, ◌==◌, ◌||◌, ℕ, Bool, List, [], ◌∷◌, None, IfSome, IsTrue}
use Rattle.std.specs.List.{list_any}
use Rattle.client_lines.specs.Headline.{Around}
use Rattle.client_lines.specs.Ending.{Faults, SessionEnds}
use Rattle.client_drill.specs.Ending.{DrillEnds}
use Rattle.client_shelf.specs.Ending.{Moment, ShelveEnds}
use Rattle.client_proof.specs.Ending.{CheckEnds}
use Rattle.client_prog.specs.Words.{ClientForm, Run, Drill, Shelve, Check, form_of, route_of}

-- the statuses that a run may give
abbrev pub is_status : ℕ → Bool
is_status status = list_any (λ known. known == status) (0 ∷ 2 ∷ 3 ∷ 4 ∷ 5 ∷ 6 ∷ 7 ∷ 8 ∷ 9 ∷ [])

-- those that the program may end with: one more where its environment says nothing that can be followed
abbrev pub is_exit : ℕ → Bool
is_exit status = status == 1 || is_status status

-- what a shelving looks at of what is around a run
abbrev pub moment : Around → Faults → Moment
moment around faults = record {
  written = around.written;
  stands = record { images = around.images; link = around.link };
  sink_faults = faults.sink;
  keeper_faults = faults.keeper;
}

-- What the words of a form leave. A drill touches the sink alone; a shelving neither source nor runner; a check source and sink alone.
abbrev pub EndsAs : ClientForm → ℕ → Around → Around → Faults → Faults → Type 0
EndsAs (Run run) status old new faults faults_now = SessionEnds run.client (route_of run) status old new faults faults_now
EndsAs (Drill drill) status old new faults faults_now =
    DrillEnds drill.seed drill.count status old.written new.written faults.sink faults_now.sink
    × (new ≡ record old { written = new.written }) × (faults_now ≡ record faults { sink = faults_now.sink })
EndsAs (Shelve asked) status old new faults faults_now =
    ShelveEnds asked status (moment old faults) (moment new faults_now)
    × (new.left ≡ old.left) × (new.runner ≡ old.runner) × (faults_now.source ≡ faults.source)
EndsAs (Check check) status old new faults faults_now =
    CheckEnds check.root check.path status old.left new.left old.written new.written
    (record { source = faults.source; sink = faults.sink }) (record { source = faults_now.source; sink = faults_now.sink })
    × (new ≡ record old { left = new.left; written = new.written }) × (faults_now.keeper ≡ faults.keeper)

-- What a run of the client on these words leaves that ends with this status.
pub record ClientEnds (words : List (List ℕ)) (status : ℕ) (old new : Around) (faults faults_now : Faults) : Type 0 where
  pub form : status ≡ 2 ↔ form_of words ≡ None
  pub known : IsTrue (is_status status)
  pub untouched : form_of words ≡ None → (new ≡ old) × (faults_now ≡ faults)
  pub ends : IfSome (form_of words) (λ form. EndsAs form status old new faults faults_now)
