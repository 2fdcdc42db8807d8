-- What holds of folders that are changed here and in a log.
use Rattle.std.specs.Prelude.{◌≡◌, ◌⊎◌, ℕ, true, false, List, [], take, None, Ok}
use Rattle.file_paths.specs.Path.{FilePath}
use Rattle.tree_values.specs.Tree.{Volume, version_at, node_at}
use Rattle.tree_values.specs.Effects.{apply_all}
use Rattle.tree_values.specs.declared.node.Effect.{Effect}
use Rattle.cmd_capture.specs.declared.job.JobRow.{JobRow}
use Rattle.cmd_capture.specs.Rows.{AreJobRows, node_in}
use Rattle.folder_sides.specs.declared.sides.Sides.{Sides}
use Rattle.folder_sides.specs.declared.ends.End.TheVariants.{Own}
use Rattle.folder_sides.specs.Sides.{AreSides, end_of, conflicts, HasNoConflict}
use Rattle.folder_sides.specs.Merging.{is_left, merged}
use Rattle.folder_sides.specs.Steps.{steps, laying, node_behind}
use Rattle.folder_sides.specs.Taking.{is_left_out, taken}

-- ---- what is laid

-- Where no path is told as a conflict, there is none.
abbrev pub ConflictsAreTold : Type 0
ConflictsAreTold = (sides : Sides) → AreSides sides → conflicts sides ≡ [] → HasNoConflict sides

-- Where no two changes meet, what is laid leaves the rows of a tree.
abbrev pub SidesAreATree : Type 0
SidesAreATree = (sides : Sides) → AreSides sides → HasNoConflict sides → AreJobRows (merged sides)

-- Behind the laying a path has what the log has, or what is the user's own.
abbrev pub LaidIsTheTree : Type 0
LaidIsTheTree = (sides : Sides) → AreSides sides → HasNoConflict sides → (path : FilePath)
    → (node_in (merged sides) path ≡ node_in sides.logged path)
    ⊎ ((end_of sides path ≡ Own) × (node_in (merged sides) path ≡ node_in sides.here path))

-- What was changed here is there behind the laying.
abbrev pub NothingIsLost : Type 0
NothingIsLost = (sides : Sides) → AreSides sides → HasNoConflict sides → (path : FilePath)
    → (node_in (merged sides) path ≡ node_in sides.here path)
    ⊎ (node_in sides.here path ≡ None)
    ⊎ (node_in sides.here path ≡ node_in sides.laid path)

-- What others changed is there behind the laying.
abbrev pub NothingIsTakenBack : Type 0
NothingIsTakenBack = (sides : Sides) → AreSides sides → HasNoConflict sides → (path : FilePath)
    → (node_in (merged sides) path ≡ node_in sides.logged path)
    ⊎ (node_in sides.logged path ≡ None)
    ⊎ (node_in sides.logged path ≡ node_in sides.laid path)

-- ---- the steps

-- The steps lead from the rows before to those after.
abbrev pub StepsLead : Type 0
StepsLead = (before after : List JobRow) → AreJobRows before → AreJobRows after → (path : FilePath)
    → node_behind path (node_in before path) (steps before after) ≡ node_in after path

-- the sides, once these rows stand here
abbrev pub with_here : Sides → List JobRow → Sides
with_here sides rows = record { laid = sides.laid; here = rows; logged = sides.logged; beside = sides.beside }

-- rows that stand here behind the first steps of a laying
pub record IsStopped (sides : Sides) (count : ℕ) (rows : List JobRow) : Type 0 where
  pub are : AreSides (with_here sides rows)
  pub nodes : (path : FilePath) → node_in rows path ≡ node_behind path (node_in sides.here path) (take count (laying sides))

-- A laying that was stopped goes on: behind any front of its steps it comes to the same.
abbrev pub LaysGoOn : Type 0
LaysGoOn = (sides : Sides) (count : ℕ) (rows : List JobRow) → AreSides sides → HasNoConflict sides → IsStopped sides count rows
    → HasNoConflict (with_here sides rows) × (merged (with_here sides rows) ≡ merged sides)

-- ---- what is logged

-- Only what was laid is taken from.
abbrev pub TakesAreOfWhatWasLaid : Type 0
TakesAreOfWhatWasLaid = (sides : Sides) (effects : List Effect) → taken sides ≡ Ok effects → sides.laid ≡ sides.logged

-- a volume with the nodes of the log's tree, once these effects are applied
pub record IsLogged (sides : Sides) (effects : List Effect) (old new : Volume) : Type 0 where
  pub taken : taken sides ≡ Ok effects
  pub nodes : (path : FilePath) → node_at old path ≡ node_in sides.logged path
  pub applied : apply_all 0 effects old ≡ Ok new

-- Behind a taking the log has what stands here, at each path at which nothing is left out.
abbrev pub TakenIsTheFolder : Type 0
TakenIsTheFolder = (sides : Sides) (effects : List Effect) (old new : Volume) → AreSides sides → IsLogged sides effects old new → (path : FilePath)
    → is_left_out sides path ≡ false → node_at new path ≡ node_in sides.here path

-- What is left out, and what is as it was laid, keeps its version and its node in the log.
abbrev pub TakesSpareOthers : Type 0
TakesSpareOthers = (sides : Sides) (effects : List Effect) (old new : Volume) → AreSides sides → IsLogged sides effects old new → (path : FilePath)
    → (is_left_out sides path ≡ true) ⊎ (node_in sides.here path ≡ node_in sides.laid path)
    → (version_at new path ≡ version_at old path) × (node_at new path ≡ node_at old path)

-- ---- one behind the other

-- the sides behind a laying: the log's tree was laid last
abbrev pub behind_lay : Sides → Sides
behind_lay sides = record { laid = sides.logged; here = merged sides; logged = sides.logged; beside = sides.beside }

-- A take behind a lay logs what is the user's own.
abbrev pub OwnIsTaken : Type 0
OwnIsTaken = (sides : Sides) (effects : List Effect) (old new : Volume) → AreSides sides → AreSides (behind_lay sides)
    → IsLogged (behind_lay sides) effects old new → (path : FilePath) → is_left_out sides path ≡ false
    → end_of sides path ≡ Own → node_at new path ≡ node_in sides.here path

-- A lay behind a take has nothing to do.
abbrev pub LayBehindTakeIsIdle : Type 0
LayBehindTakeIsIdle = (sides : Sides) → AreSides sides → sides.here ≡ sides.logged → laying sides ≡ []

-- A take behind a lay logs nothing where nothing is the user's own.
abbrev pub TakeBehindLayIsIdle : Type 0
TakeBehindLayIsIdle = (sides : Sides) → AreSides sides → ((path : FilePath) → is_left sides path ≡ false)
    → taken (behind_lay sides) ≡ Ok []
