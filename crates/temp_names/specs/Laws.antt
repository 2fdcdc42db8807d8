-- What holds of every renaming.
use Rattle.std.specs.Prelude.{◌≡◌, ℕ, Bool, true, false, List, [], ◌∷◌, map, Some, None, is_some}
use Rattle.std.specs.List.{AllByRecursion}
use Rattle.std.specs.declared.cmp.Ordering.TheVariants.{Less}
use Rattle.rs_parity.specs.declared.sketch.Sketch.{Sketch}
use Rattle.file_paths.specs.Path.{FilePath, IsPath, path_cmp, folder_of, last_name}
use Rattle.tree_values.specs.Lists.{IsIn, NoneTwice}
use Rattle.tree_values.specs.declared.node.Node.TheVariants.{File}
use Rattle.cmd_capture.specs.declared.job.JobRow.{JobRow}
use Rattle.cmd_capture.specs.Rows.{node_in, is_folder_in, JobRowsAreInOrder, AreJobRows}
use Rattle.mod_log.specs.Sketched.{sketches_touch}
use Rattle.mod_log.specs.declared.sketched.SketchEffect.{SketchEffect}
use Rattle.mod_log.specs.declared.sketched.SketchEffect.TheVariants.{Put}
use Rattle.temp_names.specs.declared.pairs.Renamed.{Renamed}
use Rattle.temp_names.specs.Fits.{first_fitting}
use Rattle.temp_names.specs.Renaming.{renaming}
use Rattle.temp_names.specs.Rename.{rename}

-- ---- one to one

-- each path is above those before it
abbrev pub RisesBy : {X : Type 0} → (X → FilePath) → List X → Type 0
RisesBy path [] = Unit {0}
RisesBy path (x ∷ xs) = AllByRecursion (λ y. path_cmp (path x) (path y) ≡ Less) xs × RisesBy path xs

pub record IsOneToOne (pairs : List Renamed) : Type 0 where
  -- no path of the replay is renamed twice
  pub froms : NoneTwice (map (λ pair. pair.from) pairs)
  -- no two become one path
  pub tos : NoneTwice (map (λ pair. pair.to) pairs)
  -- in the order of the client's paths
  pub in_order : RisesBy (λ pair. pair.to) pairs

abbrev pub RenamingsAreOneToOne : Type 0
RenamingsAreOneToOne = (templates : List (List ℕ)) (effects : List SketchEffect) (job_rows rows : List JobRow) → JobRowsAreInOrder rows
    → IsOneToOne (renaming templates effects job_rows rows)

-- ---- only within a group

-- both names have one first template, and stand in one folder
pub record IsWithinGroup (templates : List (List ℕ)) (pair : Renamed) : Type 0 where
  pub one_folder : folder_of pair.from ≡ folder_of pair.to
  pub one_template : first_fitting templates (last_name pair.from) ≡ first_fitting templates (last_name pair.to)
  pub fits_one : is_some (first_fitting templates (last_name pair.to)) ≡ true

abbrev pub GroupsKeepTheirNames : Type 0
GroupsKeepTheirNames = (templates : List (List ℕ)) (effects : List SketchEffect) (job_rows rows : List JobRow)
    → AllByRecursion (IsWithinGroup templates) (renaming templates effects job_rows rows)

-- ---- only new files

-- a file that the replay left, and that is not in the job
pub record IsNewFile (job_rows rows : List JobRow) (path : FilePath) : Type 0 where
  pub is_new : node_in job_rows path ≡ None
  pub is_file : (content : List ℕ) × (exec : Bool) × (node_in rows path ≡ Some (File content exec))

-- a content that the client put, where the job has nothing and the replay left no folder
pub record IsNewPut (effects : List SketchEffect) (job_rows rows : List JobRow) (path : FilePath) : Type 0 where
  pub is_new : node_in job_rows path ≡ None
  pub is_put : (sketch : Sketch) × IsIn (Put path sketch) effects
  pub no_folder : is_folder_in rows path ≡ false

-- nothing but a new file of the replay is renamed, and it gets no path but that of a new file of the client
pub record IsOfNewFiles (effects : List SketchEffect) (job_rows rows : List JobRow) (pair : Renamed) : Type 0 where
  pub from_is : IsNewFile job_rows rows pair.from
  pub to_is : IsNewPut effects job_rows rows pair.to

abbrev pub OnlyNewFilesAreRenamed : Type 0
OnlyNewFilesAreRenamed = (templates : List (List ℕ)) (effects : List SketchEffect) (job_rows rows : List JobRow) → JobRowsAreInOrder rows
    → AllByRecursion (IsOfNewFiles effects job_rows rows) (renaming templates effects job_rows rows)

-- ---- equal paths stay

-- a path that is both a new file of the replay and one of the client is neither given away nor taken
pub record IsOfUnequal (effects : List SketchEffect) (job_rows rows : List JobRow) (pair : Renamed) : Type 0 where
  pub from_is_not_put : IsNewPut effects job_rows rows pair.from → ⊥
  pub to_is_no_file : IsNewFile job_rows rows pair.to → ⊥

abbrev pub EqualPathsStay : Type 0
EqualPathsStay = (templates : List (List ℕ)) (effects : List SketchEffect) (job_rows rows : List JobRow) → JobRowsAreInOrder rows
    → AllByRecursion (IsOfUnequal effects job_rows rows) (renaming templates effects job_rows rows)

-- ---- the renamed rows

-- each content stands under its new path and no longer under its old one, and all else is as before
pub record MovesContents (pairs : List Renamed) (before after : List JobRow) : Type 0 where
  pub to_new : AllByRecursion (λ pair. node_in after pair.to ≡ node_in before pair.from) pairs
  pub from_old : AllByRecursion (λ pair. node_in after pair.from ≡ None) pairs
  pub rest : (path : FilePath) → (IsIn path (map (λ pair. pair.from) pairs) → ⊥) → (IsIn path (map (λ pair. pair.to) pairs) → ⊥)
      → node_in after path ≡ node_in before path

abbrev pub RenamingsMoveContents : Type 0
RenamingsMoveContents = (templates : List (List ℕ)) (effects : List SketchEffect) (job_rows rows : List JobRow) → JobRowsAreInOrder rows
    → MovesContents (renaming templates effects job_rows rows) rows (rename (renaming templates effects job_rows rows) rows)

-- rows of a job stay rows of one, where what the client put stands at paths
abbrev pub RenamedRowsAreLegal : Type 0
RenamedRowsAreLegal = (templates : List (List ℕ)) (effects : List SketchEffect) (job_rows rows : List JobRow)
    → AllByRecursion IsPath (sketches_touch effects) → AreJobRows rows
    → AreJobRows (rename (renaming templates effects job_rows rows) rows)
