-- What any number of runs of a client leave that was new, each begun on what the last one kept: the headline without a premise on logs.
use Rattle.std.specs.Prelude.{◌≡◌, ℕ, List, [], ◌∷◌, ◌++◌, None, Some}
use Rattle.mod_log.specs.declared.log.Entry.{Entry}
use Rattle.mod_log.specs.Log.{Log, new_log}
use Rattle.world_rules.specs.World.{World, GoesOnAlone}
use Rattle.world_rules.specs.InStep.{HasNoCollision}
use Rattle.client_core.specs.declared.route.Route.{Route}
use Rattle.client_core.specs.Goes.{IsNew}
use Rattle.client_lines.specs.Headline.{Leaves, MayGoOn, Around, Ran}
use Rattle.client_lines.specs.Composing.{StaysOf}

-- A run of the client on a log that was kept, between two worlds that its link told. It ended with this status.
pub record ToldRun (client : ℕ) : Type 0 where
  pub route : Route
  pub start : Log
  pub around : Around
  pub around_now : Around
  pub status : ℕ
  pub ran : Ran client route start around around_now status
  pub old : World
  pub new : World
  pub told : around.link.world ≡ Some old
  pub told_now : around_now.link.world ≡ Some new

-- The first run begins on the log `start`, each later one on what the last one kept, in the world that it left, or in one that went on
-- without the client since. At the end `kept` is kept.
abbrev pub AreInRow : (client : ℕ) → Log → World → List (ToldRun client) → Log → World → Type 0
AreInRow client start old [] kept new = (kept ≡ start) × GoesOnAlone old new
AreInRow client start old (run ∷ runs) kept new =
    (run.start ≡ start) × GoesOnAlone old run.old × AreInRow client run.ran.kept run.new runs kept new

-- the entries that the runs logged, in order
abbrev pub logged_in : (client : ℕ) → List (ToldRun client) → List Entry
logged_in client [] = []
logged_in client (run ∷ runs) = run.ran.goes.trace.entries ++ logged_in client runs

-- these stay of them
abbrev pub StayOfAll : (client : ℕ) → List (ToldRun client) → List Entry → Type 0
StayOfAll client [] stayed = stayed ≡ []
StayOfAll client (run ∷ runs) stayed =
    (first later : List Entry) × (stayed ≡ first ++ later) × StaysOf run.status run.ran.goes.trace.entries first
    × StayOfAll client runs later

-- none of the runs has a surrogate
abbrev pub ShipStores : (client : ℕ) → List (ToldRun client) → Type 0
ShipStores client [] = Unit {0}
ShipStores client (run ∷ runs) = (run.route.surrogate ≡ None) × ShipStores client runs

-- Runs of a client, the first of them on a new log in a world that has seen nothing of it: whatever came earlier, the later ones, and so
-- all of them, leave together what one run leaves, where no content that was sent is taken for another.
abbrev pub FirstRunsLeave : Type 0
FirstRunsLeave = (client : ℕ) (earlier later : List (ToldRun client)) (middle kept : Log) (old between new : World)
    → IsNew client old → AreInRow client new_log old earlier middle between → AreInRow client middle between later kept new
    → HasNoCollision client (logged_in client earlier ++ logged_in client later) new.packets
    → (stayed : List Entry) × StayOfAll client later stayed × Leaves client middle kept kept stayed between new

-- So a next run may begin where they end.
abbrev pub FirstRunsGoOn : Type 0
FirstRunsGoOn = (client : ℕ) (earlier later : List (ToldRun client)) (middle kept : Log) (old between new : World)
    → IsNew client old → AreInRow client new_log old earlier middle between → AreInRow client middle between later kept new
    → HasNoCollision client (logged_in client earlier ++ logged_in client later) new.packets → MayGoOn client kept kept new

-- Without a surrogate none is.
abbrev pub FirstStoresNeverCollide : Type 0
FirstStoresNeverCollide = (client : ℕ) (runs : List (ToldRun client)) (kept : Log) (old new : World) (entries : List Entry)
    → IsNew client old → AreInRow client new_log old runs kept new → ShipStores client runs → HasNoCollision client entries new.packets
