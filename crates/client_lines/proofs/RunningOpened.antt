-- A run that begins with what is kept of its client, and one that has no client to begin with.
use Rattle.std.proofs.Common.{◌≡◌, ◌⊎◌, inl, inr, ℕ, ◌≤◌, List, [], length, Option, Some, None, Result, Ok, Err, IfOk, refl, sym, subst, ap, arith}
use Rattle.std.specs.Prelude.{IfSome}
use Rattle.outside.specs.Outside.{Told, Rose}
use Rattle.outside.specs.Keeper.{Images}
use Rattle.mod_log.specs.Log.{Log}
use Rattle.world_rules.proofs.Asks.{told_start}
use Rattle.client_core.specs.Client.{Client}
use Rattle.client_core.specs.Keeping.{IsKept, TellsKept, IsKeptOfNone}
use Rattle.client_core.specs.Noting.{AreRecorded, TakesNoRows}
use Rattle.client_lines.specs.declared.input.InputEnd.{InputEnd}
use Rattle.client_lines.specs.declared.input.InputEnd.TheVariants.{Read, Failed, TooLong}
use Rattle.client_lines.specs.Limits.{max_input}
use Rattle.client_lines.specs.declared.run.Stop.{Stop}
use Rattle.client_lines.specs.declared.run.Stop.TheVariants as stops
use Rattle.client_lines.specs.declared.opening.Unopened.{Unopened}
use Rattle.client_lines.specs.declared.opening.Unopened.TheVariants.{Keeper, Image, Memory}
use Rattle.client_session.specs.Session.{Sitting, state_of, opened}
use Rattle.client_session.specs.Doing.{Telling, WentDoing}
use Rattle.client_session.proofs.Doing.{went_as}
use Rattle.client_lines.specs.Opening.{status_unopened}
use Rattle.client_lines.specs.Run.{status_of, IsInputRead}
use Rattle.client_lines.specs.InsideRun.{NotesChanges, WentNoting, RunAnswers}
use Rattle.client_lines.specs.Headline.{Around, Ran, RanFromSome}
use Rattle.client_lines.specs.Ending.{Faults, SessionEnds}
use Rattle.client_lines.proofs.Counting.{other_status}
use Rattle.client_core.specs.declared.route.Route.{Route}
use Rattle.std.proofs.Math.Nat.{le_refl}
use Rattle.client_lines.proofs.RunningEnds.{EndsWell}
use Rattle.client_lines.proofs.RunningLeaves.{RunRecords, ran, nothing_ran}
use Rattle.client_lines.proofs.RunningRecords.{notes_recorded}

-- ---- what is told to be kept is kept

pub tells_so : (i : Option Images) (name : List ℕ) (client : ℕ) (log : Log) → TellsKept i name client log → IsKept i name client log
tells_so None name client log told = tt
tells_so (Some i) name client log told = told

pub none_kept : (i : Option Images) (name : List ℕ) (client : ℕ) (log : Log) → IsKeptOfNone i name client → IsKept i name client log → ⊥
none_kept None name client log none keeps = none
none_kept (Some i) name client log none keeps = none log keeps

-- ---- statuses

pub not_six : (ended : Result InputEnd Stop) (status : ℕ) → status ≡ status_of ended → status ≡ 6 → ⊥
not_six (Ok Read) status is six = omega (arith, is, six)
not_six (Ok Failed) status is six = omega (arith, is, six)
not_six (Ok TooLong) status is six = omega (arith, is, six)
not_six (Err stops.Sink) status is six = omega (arith, is, six)
not_six (Err stops.Keeper) status is six = omega (arith, is, six)
not_six (Err stops.Memory) status is six = omega (arith, is, six)

pub image_is : (u : Unopened) (status : ℕ) → status ≡ status_unopened u → status ≡ 6 → u ≡ Image
image_is Keeper status is six = absurd (omega (arith, is, six))
image_is Image status is six = refl
image_is Memory status is six = absurd (omega (arith, is, six))

pub is_unopened : (u : Unopened) (status : ℕ) → status ≡ status_unopened u → (status ≡ 5) ⊎ (status ≡ 6) ⊎ (status ≡ 7)
is_unopened Keeper status is = inl is
is_unopened Image status is = inr (inl is)
is_unopened Memory status is = inr (inr is)

-- ---- without a client nothing is read

unread : (u : Unopened) (l : List ℕ) → IsInputRead (status_unopened u) l l
unread Keeper l = record { input = []; taken = refl; most = omega arith; past = λ sink keeper memory. absurd (keeper refl); ended = λ is. absurd (omega (arith, is)); failed = λ is. absurd (omega (arith, is)) }
unread Image l = record {
  input = [];
  taken = refl;
  most = omega arith;
  past = λ sink keeper memory. (λ is. absurd (omega (arith, is)), λ long. absurd (omega (arith, long.0)));
  ended = λ is. absurd (omega (arith, is));
  failed = λ is. absurd (omega (arith, is));
}
unread Memory l = record { input = []; taken = refl; most = omega arith; past = λ sink keeper memory. absurd (memory refl); ended = λ is. absurd (omega (arith, is)); failed = λ is. absurd (omega (arith, is)) }

pub none_read : (u : Unopened) (status : ℕ) (left : Option (List ℕ)) → status ≡ status_unopened u → Told left left (IsInputRead status)
none_read u status left is = subst (λ (n : ℕ). Told left left (IsInputRead n)) (sym is) (told_start left (IsInputRead (status_unopened u)) (unread u))

-- ---- the session of a run

-- a session that began: the client's number, and where its image, peers and commands are
pub record BegunRun : Type 0 where
  pub client : ℕ
  pub route : Route

-- what is told at a moment
abbrev pub around : Option (List ℕ) → Option (List ℕ) → Option Images → Telling → Around
around left written images told = record { left = left; written = written; images = images; runner = told.runner; link = told.link }

-- Over a keeper that tells its images, from the log that is kept.
abbrev pub RanFrom : Option Images → Option Images → Option (List ℕ) → Option (List ℕ) → Option (List ℕ) → Option (List ℕ) → ℕ → Telling → Telling → BegunRun → Type 0
RanFrom i j left rest o n status t u run =
    (start : Log) → TellsKept i run.route.image run.client start → Ran run.client run.route start (around left o i t) (around rest n j u) status

kept_so : {T E : Type 0} (r : Result T E) (P K : Type 0) → (P → K) → IfOk r (λ done. P) → IfOk r (λ done. K)
kept_so (Ok done) P K to is = to is
kept_so (Err e) P K to is = tt

opened_from : (run : BegunRun) (client : Client) (i j : Option Images) (left rest o n : Option (List ℕ)) (ended : Result InputEnd Stop) (after : Sitting) (status : ℕ) (t u : Telling)
    → client.number ≡ run.client → client.journal ≡ None → status ≡ status_of ended
    → WentNoting run.route ended (RunAnswers run.route (opened client.number client.log) left rest o n ended (state_of after)) (record { client = client; folder = [] }) after i j t u
    → Ran run.client run.route client.log (around left o i t) (around rest n j u) status
opened_from run client i j left rest o n ended after status t u number new is went =
    let route = run.route in
    let now = state_of after in
    let all : WentDoing route (RunRecords route (opened client.number client.log) left rest o n ended now i j) (opened client.number client.log) now i j t u =
    went_as route (λ k trace. RunAnswers route (opened client.number client.log) left rest o n ended now k trace × IfOk ended (λ done. NotesChanges route.image client after.client i j trace))
    (RunRecords route (opened client.number client.log) left rest o n ended now i j) (opened client.number client.log) now i j t u went
    (λ k trace both behind. (
      both.0,
      kept_so ended (NotesChanges route.image client after.client i j trace) (TakesNoRows trace → Told i j (λ images later. AreRecorded client.number trace.changes (images route.image) (later route.image)))
          (λ noted. notes_recorded route.image client after.client i j trace new noted) both.1,
    )) in
    let goes : WentDoing route (RunRecords route (opened run.client client.log) left rest o n ended now i j) (opened run.client client.log) now i j t u =
    subst (λ (m : ℕ). WentDoing route (RunRecords route (opened m client.log) left rest o n ended now i j) (opened m client.log) now i j t u) number all in
    ran run.client route client.log (around left o i t) (around rest n j u) ended now goes.0 status is goes.1.goes

pub opened_ran : (run : BegunRun) (client : Client) (i j : Option Images) (left rest o n : Option (List ℕ)) (ended : Result InputEnd Stop) (after : Sitting) (status : ℕ) (t u : Telling)
    → client.number ≡ run.client → client.journal ≡ None → ((start : Log) → TellsKept i run.route.image run.client start → client.log ≡ start) → status ≡ status_of ended
    → WentNoting run.route ended (RunAnswers run.route (opened client.number client.log) left rest o n ended (state_of after)) (record { client = client; folder = [] }) after i j t u
    → RanFrom i j left rest o n status t u run
opened_ran run client i j left rest o n ended after status t u number new only is went = λ start told.
    subst (λ (log : Log). Ran run.client run.route log (around left o i t) (around rest n j u) status) (only start told)
    (opened_from run client i j left rest o n ended after status t u number new is went)

-- The same over any keeper.
pub opened_some : (run : BegunRun) (client : Client) (i j : Option Images) (left rest o n : Option (List ℕ)) (ended : Result InputEnd Stop) (after : Sitting) (status : ℕ) (t u : Telling)
    → client.number ≡ run.client → client.journal ≡ None → IsKept i run.route.image run.client client.log → status ≡ status_of ended
    → WentNoting run.route ended (RunAnswers run.route (opened client.number client.log) left rest o n ended (state_of after)) (record { client = client; folder = [] }) after i j t u
    → RanFromSome run.client run.route (around left o i t) (around rest n j u) status
opened_some run client i j left rest o n ended after status t u number new kept is went =
    inr (client.log, kept, opened_from run client i j left rest o n ended after status t u number new is went)

pub unopened_some : (run : BegunRun) (u : Unopened) (i j : Option Images) (left o : Option (List ℕ)) (status : ℕ) (t : Telling) → status ≡ status_unopened u → j ≡ i
    → RanFromSome run.client run.route (around left o i t) (around left o j t) status
unopened_some run u i j left o status t is same = inl (ap (λ (k : Option Images). around left o k t) same, is_unopened u status is)

stopped_ran : (stop : Stop) (run : BegunRun) (i : Option Images) (left o : Option (List ℕ)) (status : ℕ) (t : Telling) → status ≡ status_of (Err stop) → RanFrom i i left left o o status t t run
stopped_ran stop run i left o status t is = λ start told.
    nothing_ran run.client run.route start (around left o i t) stop status (tells_so i run.route.image run.client start told) is

pub unopened_ran : (run : BegunRun) (u : Unopened) (i j : Option Images) (left o : Option (List ℕ)) (status : ℕ) (t : Telling) → status ≡ status_unopened u → j ≡ i
    → (u ≡ Image → (start : Log) → TellsKept i run.route.image run.client start → ⊥) → RanFrom i j left left o o status t t run
unopened_ran run u i j left o status t is same image =
    subst (λ (k : Option Images). RanFrom i k left left o o status t t run) (sym same) (by u is image)
  where
    by : (u : Unopened) → status ≡ status_unopened u → (u ≡ Image → (start : Log) → TellsKept i run.route.image run.client start → ⊥) → RanFrom i i left left o o status t t run
    by Keeper is image = stopped_ran stops.Keeper run i left o status t is
    by Image is image = λ start told. absurd (image refl start told)
    by Memory is image = stopped_ran stops.Memory run i left o status t is

-- ---- without faults

abbrev pub EndsWellFrom : Option Images → Option (List ℕ) → ℕ → ℕ → ℕ → ℕ → ℕ → ℕ → ℕ → BegunRun → Type 0
EndsWellFrom i left a b c d e f status run = IfSome left (λ bytes. (start : Log) → TellsKept i run.route.image run.client start → length bytes ≤ max_input → (Rose a b → ⊥) → (Rose c d → ⊥) → (Rose e f → ⊥) → (status ≡ 0) ⊎ (status ≡ 7))

pub opened_well : (run : BegunRun) (i : Option Images) (left : Option (List ℕ)) (a b c d e f status : ℕ) → EndsWell left a b c d e f status → EndsWellFrom i left a b c d e f status run
opened_well run i None a b c d e f status well = tt
opened_well run i (Some l) a b c d e f status well = λ start told. well

pub unopened_well : (run : BegunRun) (u : Unopened) (i : Option Images) (left : Option (List ℕ)) (a b c d e f status : ℕ) → status ≡ status_unopened u → (u ≡ Keeper → Rose e f)
    → (u ≡ Image → (start : Log) → TellsKept i run.route.image run.client start → ⊥) → EndsWellFrom i left a b c d e f status run
unopened_well run u i None a b c d e f status is rose image = tt
unopened_well run Keeper i (Some l) a b c d e f status is rose image = λ start told short calm quiet sound. absurd (sound (rose refl))
unopened_well run Image i (Some l) a b c d e f status is rose image = λ start told short calm quiet sound. absurd (image refl start told)
unopened_well run Memory i (Some l) a b c d e f status is rose image = λ start told short calm quiet sound. inr is

-- ---- memory was wanted for the route

wanted_well : (client : ℕ) (route : Route) (i : Option Images) (left : Option (List ℕ)) (a b c d e f : ℕ) → EndsWellFrom i left a b c d e f 7 (record { client = client; route = route })
wanted_well client route i None a b c d e f = tt
wanted_well client route i (Some l) a b c d e f = λ start told short calm quiet sound. inr refl

pub wanted_ends : (client : ℕ) (route : Route) (around : Around) (faults : Faults) → SessionEnds client route 7 around around faults faults
wanted_ends client route around faults = record {
  known = refl;
  unopened = λ six. (refl, refl);
  image = λ six. absurd (omega (arith, six));
  no_image = λ none. inr (inr refl);
  later = le_refl around.link.troubles;
  runner_later = le_refl around.runner.faults;
  source = other_status 3 faults.source faults.source 7 (λ is. omega (arith, is)) refl;
  sink = other_status 4 faults.sink faults.sink 7 (λ is. omega (arith, is)) refl;
  keeper = other_status 5 faults.keeper faults.keeper 7 (λ is. omega (arith, is)) refl;
  input = none_read Memory 7 around.left refl;
  complete = wanted_well client route around.images around.left faults.source faults.source faults.sink faults.sink faults.keeper faults.keeper;
  begun = inl (refl, inr (inr refl));
  session = λ start told. nothing_ran client route start around stops.Memory 7 (tells_so around.images route.image client start told) refl;
}

-- ---- opening

pub opened_of_none : (run : BegunRun) (i : Option Images) (log : Log) (status : ℕ) → IsKept i run.route.image run.client log → IsKeptOfNone i run.route.image run.client → (status ≡ 5) ⊎ (status ≡ 6) ⊎ (status ≡ 7)
opened_of_none run i log status keeps none = absurd (none_kept i run.route.image run.client log none keeps)
