-- What is found under a name, and what is planned of it.
use Rattle.std.proofs.Common.{◌≡◌, ◌≢◌, ℕ, length, List, [], ◌∷◌, Option, None, Some, Result, Ok, Err, refl, ◌∙◌, ap, subst}
use Rattle.std.specs.Prelude.{IfOk}
use Rattle.std.specs.Result.{result_map_both}
use Rattle.std.specs.declared.alloc.AllocError.{AllocError}
use Rattle.outside.specs.Keeper.{Images}
use Rattle.file_paths.specs.Path.{FilePath, IsPath, path_of}
use Rattle.file_paths.specs.declared.path.PathError.{PathError}
use Rattle.mod_log.specs.declared.log.Entry.{Entry}
use Rattle.mod_log.specs.Log.{Log, IsLog}
use Rattle.conflict_shelf.specs.declared.shelf.Shelf.{Shelf}
use Rattle.conflict_shelf.specs.Shelf.{shelved, IsShelfOf}
use Rattle.conflict_shelf.proofs.Shelves.{in_order}
use Rattle.client_shelf.specs.declared.ends.Ending.{Ending}
use Rattle.client_shelf.specs.Shelving.{IsStored, IsUnused, IsUsed, unshelved, planned_in, planned_by}
use Rattle.client_shelf.specs.Inside.{PlansInSo, PlansSo}
use Rattle.client_shelf.proofs.Due.{keeps_once}

-- a client that has logged something
pub is_used : (i : Option Images) (name : List ℕ) (client : ℕ) (log : Log) → IsStored i name client log → (IsUnused log → ⊥) → IsUsed i name client
is_used None name client log stored not = tt
is_used (Some i) name client log stored not = λ other keeps unused. not (subst IsUnused (keeps_once (i name) client other log keeps stored.1) unused)

-- ---- plans

planned_some : (folder : FilePath) (pending : List Entry) → length pending ≢ 0 → planned_in folder pending ≡ result_map_both (λ lists. lists) unshelved (shelved folder pending)
planned_some folder [] some = absurd (some refl)
planned_some folder (entry ∷ entries) some = refl

pub planned_shelf : (folder : FilePath) (log : Log) (shelf : Shelf) → IsPath folder → IsLog log → length log.pending ≢ 0 → IsShelfOf folder log.pending shelf → PlansInSo folder log.pending (Ok shelf)
planned_shelf folder log shelf path log_is some is = (
  planned_some folder log.pending some ∙ ap (result_map_both (λ lists. lists) unshelved) is.entries,
  is.names,
  (in_order folder path log shelf.entries log_is is.entries).1,
)

-- in the folder with this text
pub planned_text : (text : List ℕ) (folder : FilePath) (pending : List Entry) (r : Result Shelf Ending) → path_of text ≡ Ok folder → PlansInSo folder pending r → PlansSo text pending r
planned_text text folder pending (Ok shelf) is plans = (ap (λ (f : Result FilePath PathError). planned_by f pending) is ∙ plans.0, plans.1, plans.2)
planned_text text folder pending (Err ending) is plans = ap (λ (f : Result FilePath PathError). planned_by f pending) is ∙ plans

pub planned_read : (text : List ℕ) (folder : FilePath) (pending : List Entry) (r : Result (Result Shelf Ending) AllocError) → path_of text ≡ Ok folder → IfOk r (PlansInSo folder pending) → IfOk r (PlansSo text pending)
planned_read text folder pending (Ok plan) is plans = planned_text text folder pending plan is plans
planned_read text folder pending (Err e) is plans = tt
