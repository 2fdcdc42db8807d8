-- What a session is to the objects that it is given, by its status.
use Rattle.std.specs.Prelude.{◌≡◌, ◌⊎◌, ℕ, ◌≤◌, length, IfSome, IsTrue}
use Rattle.outside.specs.Outside.{Told, RisesWhere, Rose}
use Rattle.mod_log.specs.Log.{Log}
use Rattle.client_core.specs.declared.route.Route.{Route}
use Rattle.client_core.specs.Keeping.{TellsKept, IsKeptOfNone}
use Rattle.client_lines.specs.Limits.{max_input}
use Rattle.client_lines.specs.Run.{is_session_status, IsInputRead}
use Rattle.client_lines.specs.Headline.{Around, Ran, RanFromSome}

-- how often the source, the sink and the keeper failed
pub record Faults : Type 0 where
  pub source : ℕ
  pub sink : ℕ
  pub keeper : ℕ

-- What the session of the client of this number leaves that ends with this status.
pub record SessionEnds (number : ℕ) (route : Route) (status : ℕ) (old new : Around) (faults faults_now : Faults) : Type 0 where
  pub known : IsTrue (is_session_status status)
  -- what is kept of no such client is left as it is, and nothing else is touched
  pub unopened : status ≡ 6 → (new ≡ old) × (faults_now ≡ faults)
  pub image : status ≡ 6 → (start : Log) → TellsKept old.images route.image number start → ⊥
  pub no_image : IsKeptOfNone old.images route.image number → (status ≡ 5) ⊎ (status ≡ 6) ⊎ (status ≡ 7)
  -- no count of faults or troubles falls
  pub later : old.link.troubles ≤ new.link.troubles
  pub runner_later : old.runner.faults ≤ new.runner.faults
  -- the source failed once where that ended the session, and else never; and so did the sink and the keeper
  pub source : RisesWhere (status ≡ 3) faults.source faults_now.source
  pub sink : RisesWhere (status ≡ 4) faults.sink faults_now.sink
  pub keeper : RisesWhere (status ≡ 5) faults.keeper faults_now.keeper
  pub input : Told old.left new.left (IsInputRead status)
  pub complete : IfSome old.left (λ bytes. (start : Log) → TellsKept old.images route.image number start → length bytes ≤ max_input
      → (Rose faults.source faults_now.source → ⊥) → (Rose faults.sink faults_now.sink → ⊥)
      → (Rose faults.keeper faults_now.keeper → ⊥) → (status ≡ 0) ⊎ (status ≡ 7))
  -- over any keeper: from some log that it opened, if it opened one
  pub begun : RanFromSome number route old new status
  pub session : (start : Log) → TellsKept old.images route.image number start → Ran number route start old new status
