-- How a run ends by the form of its words.
use Rattle.std.proofs.Common.{◌≡◌, ◌≢◌, ◌⊎◌, inl, inr, ℕ, ◌==◌, Bool, true, false, List, [], ◌∷◌, Option, None, Some, Ok, refl, sym, subst, IsTrue}
use Rattle.std.specs.Prelude.{IfSome}
use Rattle.std.specs.List.{list_any, AllByRecursion}
use Rattle.std.proofs.lemmas.Bool.{eqb-true}
use Rattle.client_lines.specs.Headline.{Around}
use Rattle.client_lines.specs.Run.{is_session_status}
use Rattle.client_lines.specs.Ending.{Faults, SessionEnds}
use Rattle.client_drill.specs.Ending.{DrillEnds}
use Rattle.client_shelf.specs.declared.asked.Shelving.{Shelving as ShelvingWords}
use Rattle.client_shelf.specs.Shelving.{Shelving, said}
use Rattle.client_shelf.specs.Ending.{ShelveEnds, is_shelf_status}
use Rattle.client_proof.specs.Ending.{CheckEnds, is_check_status}
use Rattle.client_prog.specs.Words.{ClientForm, Run, Drill, Shelve, Check, Invocation, DrillInvocation, CheckInvocation, form_of, route_of}
use Rattle.client_prog.specs.Ending.{is_status, moment, EndsAs, ClientEnds}
use Rattle.file_paths.specs.Path.{FilePath, path_of}
use Rattle.client_prog.specs.declared.words.RunWords.{RunWords}
use Rattle.client_prog.specs.declared.words.DrillWords.{DrillWords}
use Rattle.client_prog.specs.declared.words.CheckWords.{CheckWords}
use Rattle.client_prog.specs.declared.words.Form.{Form}
use Rattle.client_prog.specs.declared.words.Form.TheVariants as forms
use Rattle.client_prog.specs.Inside.{run_said, drill_said, IsForm}

-- ---- statuses

known_at : (b : Bool) (status k : ℕ) (known : List ℕ) → (k == status) ≡ b → is_status k ≡ true → list_any (λ (k : ℕ). k == status) (k ∷ known) ≡ true
    → (list_any (λ (k : ℕ). k == status) known ≡ true → is_status status ≡ true) → is_status status ≡ true
known_at true status k known e this any rest = subst (λ (n : ℕ). is_status n ≡ true) (eqb-true k status e) this
known_at false status k known e this any rest = rest (cc (e, any))

-- a status that is one of some that a run may give
known_of : (status : ℕ) (known : List ℕ) → AllByRecursion (λ (k : ℕ). is_status k ≡ true) known → list_any (λ (k : ℕ). k == status) known ≡ true → is_status status ≡ true
known_of status [] all any = absurd (cc any)
known_of status (k ∷ known) all any = known_at (k == status) status k known refl all.0 any (known_of status known all.1)

session_known : (status : ℕ) → IsTrue (is_session_status status) → IsTrue (is_status status)
session_known status = known_of status (0 ∷ 3 ∷ 4 ∷ 5 ∷ 6 ∷ 7 ∷ 8 ∷ []) (refl, (refl, (refl, (refl, (refl, (refl, (refl, tt)))))))

shelf_known : (status : ℕ) → IsTrue (is_shelf_status status) → IsTrue (is_status status)
shelf_known status = known_of status (0 ∷ 4 ∷ 5 ∷ 6 ∷ 7 ∷ []) (refl, (refl, (refl, (refl, (refl, tt)))))

check_known : (status : ℕ) → IsTrue (is_check_status status) → IsTrue (is_status status)
check_known status = known_of status (0 ∷ 3 ∷ 4 ∷ 7 ∷ 8 ∷ 9 ∷ []) (refl, (refl, (refl, (refl, (refl, (refl, tt))))))

drill_known : (status : ℕ) → (status ≡ 0) ⊎ (status ≡ 4) ⊎ (status ≡ 7) → IsTrue (is_status status)
drill_known status (inl is) = subst (λ (s : ℕ). IsTrue (is_status s)) (sym is) refl
drill_known status (inr (inl is)) = subst (λ (s : ℕ). IsTrue (is_status s)) (sym is) refl
drill_known status (inr (inr is)) = subst (λ (s : ℕ). IsTrue (is_status s)) (sym is) refl

-- 2 is none of them
not_two : (test : ℕ → Bool) (status : ℕ) → test 2 ≡ false → IsTrue (test status) → status ≢ 2
not_two test status none known two = cc (none, subst (λ (s : ℕ). IsTrue (test s)) two known)

drill_not_two : (status : ℕ) → (status ≡ 0) ⊎ (status ≡ 4) ⊎ (status ≡ 7) → status ≢ 2
drill_not_two status (inl is) two = cc (is, two)
drill_not_two status (inr (inl is)) two = cc (is, two)
drill_not_two status (inr (inr is)) two = cc (is, two)

-- ---- the forms

module _ (words : List (List ℕ)) (status : ℕ) (old new : Around) (faults faults_now : Faults) where
  -- words of a form end as that says
  formed_ends : (form : ClientForm) → form_of words ≡ Some form → status ≢ 2 → IsTrue (is_status status) → EndsAs form status old new faults faults_now
      → ClientEnds words status old new faults faults_now
  formed_ends form is other known ends = record {
    form = (λ two. absurd (other two), λ none. absurd (cc (is, none)));
    known = known;
    untouched = λ none. absurd (cc (is, none));
    ends = subst (λ (f : Option ClientForm). IfSome f (λ form. EndsAs form status old new faults faults_now)) (sym is) ends;
  }

  pub run_ends : (run : Invocation) → form_of words ≡ Some (Run run) → SessionEnds run.client (route_of run) status old new faults faults_now
      → ClientEnds words status old new faults faults_now
  run_ends run is ends = formed_ends (Run run) is (not_two is_session_status status refl ends.known) (session_known status ends.known) ends

  pub drill_ends : (drill : DrillInvocation) → form_of words ≡ Some (Drill drill)
      → DrillEnds drill.seed drill.count status old.written new.written faults.sink faults_now.sink
      → new ≡ record old { written = new.written } → faults_now ≡ record faults { sink = faults_now.sink }
      → ClientEnds words status old new faults faults_now
  drill_ends drill is ends beside counts =
      formed_ends (Drill drill) is (drill_not_two status ends.known) (drill_known status ends.known) (ends, beside, counts)

  pub shelve_ends : (asked : Shelving) → form_of words ≡ Some (Shelve asked) → ShelveEnds asked status (moment old faults) (moment new faults_now)
      → new.left ≡ old.left → new.runner ≡ old.runner → faults_now.source ≡ faults.source → ClientEnds words status old new faults faults_now
  shelve_ends asked is ends left runner source =
      formed_ends (Shelve asked) is (not_two is_shelf_status status refl ends.known) (shelf_known status ends.known) (ends, left, runner, source)

  pub check_ends : (check : CheckInvocation) → form_of words ≡ Some (Check check)
      → CheckEnds check.root check.path status old.left new.left old.written new.written
      (record { source = faults.source; sink = faults.sink }) (record { source = faults_now.source; sink = faults_now.sink })
      → new ≡ record old { left = new.left; written = new.written } → faults_now.keeper ≡ faults.keeper
      → ClientEnds words status old new faults faults_now
  check_ends check is ends beside keeper =
      formed_ends (Check check) is (not_two is_check_status status refl ends.known) (check_known status ends.known) (ends, beside, keeper)

-- words of no form touch nothing
pub no_form : (words : List (List ℕ)) (status : ℕ) (old : Around) (faults : Faults) → status ≡ 2 → form_of words ≡ None → ClientEnds words status old old faults faults
no_form words status old faults two none = record {
  form = (λ same. none, λ same. two);
  known = subst (λ (s : ℕ). IsTrue (is_status s)) (sym two) refl;
  untouched = λ same. (refl, refl);
  ends = subst (λ (f : Option ClientForm). IfSome f (λ form. EndsAs form status old old faults faults)) (sym none) tt;
}

-- what the reader says of a check
pub has_check : (words : List (List ℕ)) (form : Form) (check : CheckWords) → form ≡ forms.Check check → IsForm form words
    → (path : FilePath) × (path_of check.path.now ≡ Ok path) × (form_of words ≡ Some (Check (record { root = check.root; path = path })))
has_check words form check is has = subst (λ (f : Form). IsForm f words) is has

-- and what it says of a run, of a drill and of a shelf
pub has_run : (words : List (List ℕ)) (form : Form) (run : RunWords) → form ≡ forms.Run run → IsForm form words → form_of words ≡ Some (Run (run_said run))
has_run words form run is has = (subst (λ (f : Form). IsForm f words) is has).0

pub has_drill : (words : List (List ℕ)) (form : Form) (drill : DrillWords) → form ≡ forms.Drill drill → IsForm form words → form_of words ≡ Some (Drill (drill_said drill))
has_drill words form drill is has = (subst (λ (f : Form). IsForm f words) is has).0

pub has_shelf : (words : List (List ℕ)) (form : Form) (asked : ShelvingWords) → form ≡ forms.Shelve asked → IsForm form words → form_of words ≡ Some (Shelve (said asked))
has_shelf words form asked is has = (subst (λ (f : Form). IsForm f words) is has).0
