-- What holds of shelvings: their ends exclude one another, and what they leave pending is the shelf.
use Rattle.std.specs.Prelude.{◌≡◌, List, map, Some, None, Ok}
use Rattle.std.specs.List.{AllByRecursion}
use Rattle.outside.specs.Keeper.{Images}
use Rattle.tree_values.specs.Tree.{Volume}
use Rattle.tree_values.specs.declared.node.Effect.{Effect}
use Rattle.mod_log.specs.Log.{Log, new_log_of}
use Rattle.client_shelf.specs.declared.ends.Ending.{Ending}
use Rattle.client_shelf.specs.Shelving.{Shelving, IsStoredOther, Plans, appended_all}
use Rattle.client_shelf.specs.Ending.{IsDue}

-- Over a keeper that tells its images, what is kept at first decides: at most one end is due before the pull, and none is where the bytes
-- are for no log of the client, nor where a shelving goes on.
pub record OneEndIsDue : Type 0 where
  pub one : (asked : Shelving) (images : Images) (first second : Ending) → IsDue asked (Some images) first
      → IsDue asked (Some images) second → first ≡ second
  pub not_other : (asked : Shelving) (images : Images) (ending : Ending) → IsStoredOther (Some images) asked.image asked.client
      → IsDue asked (Some images) ending → ⊥
  pub not_planned : (asked : Shelving) (images : Images) (ending : Ending) (stuck start : Log) (lists : List (List Effect))
      → Plans asked (Some images) stuck start lists → IsDue asked (Some images) ending → ⊥
  pub planned_once : (asked : Shelving) (images : Images) (stuck start : Log) (lists : List (List Effect))
      → Plans asked (Some images) stuck start lists → IsStoredOther (Some images) asked.image asked.client → ⊥

-- The entries that are logged behind rows are pending, each with its effects and of no command, and nothing else is.
abbrev pub ShelvesArePending : Type 0
ShelvesArePending = (seen : Volume) (lists : List (List Effect)) (log : Log) → appended_all lists (new_log_of 0 seen) ≡ Ok log
    → (log.acked ≡ 0) × (log.base ≡ seen) × (map (λ entry. entry.effects) log.pending ≡ lists)
    × AllByRecursion (λ entry. entry.origin ≡ None) log.pending
