-- What a shelving is asked for, what it finds under its two names, and what it is to log.
use Rattle.std.specs.Prelude.{◌≡◌, ◌≢◌, ℕ, ◌≤◌, Bool, true, not, ◌&&◌, ◌||◌, codes, List, [], ◌∷◌, ◌++◌, Option, None, Some}
use Rattle.std.specs.Prelude.{Result, Ok, Err}
use Rattle.std.specs.Str.{bytes_eq}
use Rattle.std.specs.Result.{result_map_both}
use Rattle.outside.specs.Keeper.{Images}
use Rattle.file_paths.specs.Path.{FilePath, path_of}
use Rattle.file_paths.specs.declared.path.PathError.{PathError}
use Rattle.file_paths.specs.declared.path.PathError.TheVariants as paths
use Rattle.tree_values.specs.declared.node.Effect.{Effect}
use Rattle.mod_log.specs.declared.log.Entry.{Entry}
use Rattle.mod_log.specs.declared.log.LogError.{LogError}
use Rattle.mod_log.specs.Log.{Log}
use Rattle.mod_log.specs.Append.{appended}
use Rattle.store_image.specs.Image.{Keeps}
use Rattle.wire_frames.specs.Limits.{max_client}
use Rattle.client_core.specs.declared.route.Route.{Route}
use Rattle.client_core.specs.Keeping.{IsKept}
use Rattle.conflict_shelf.specs.declared.shelf.ShelfError.{ShelfError}
use Rattle.conflict_shelf.specs.declared.shelf.ShelfError.TheVariants as shelves
use Rattle.conflict_shelf.specs.Shelf.{shelved}
use Rattle.client_shelf.specs.declared.asked.Shelving.{Shelving as Asked}
use Rattle.client_shelf.specs.declared.ends.Ending.{Ending}
use Rattle.client_shelf.specs.declared.ends.Ending.TheVariants as ends

-- ---- what is asked for

-- The client whose log is stuck, and its image; the client that is to go on with what it put, and its image; the server's address; and the
-- text of the folder.
pub record Shelving : Type 0 where
  pub client : ℕ
  pub image : List ℕ
  pub new_client : ℕ
  pub new_image : List ℕ
  pub server : List ℕ
  pub folder : List ℕ

-- what is asked for, as the code has it
abbrev pub said : Asked → Shelving
said asked = record {
  client = asked.client;
  image = asked.image.now;
  new_client = asked.new_client;
  new_image = asked.new_image.now;
  server = asked.server.now;
  folder = asked.folder.now;
}

-- the name is that of a file which belongs to this image: what a save writes first, or the lock
abbrev pub is_beside : List ℕ → List ℕ → Bool
is_beside name image = bytes_eq name (image ++ codes ".new") || bytes_eq name (image ++ codes ".lock")

-- two names of images, of which neither belongs to the other
abbrev pub are_apart : List ℕ → List ℕ → Bool
are_apart image other = not (bytes_eq image other) && not (is_beside image other) && not (is_beside other image)

-- two clients, two images that are apart, and no empty word
pub record IsShelving (asked : Shelving) : Type 0 where
  pub client : (1 ≤ asked.client) × (asked.client ≤ max_client)
  pub new_client : (1 ≤ asked.new_client) × (asked.new_client ≤ max_client)
  pub differ : asked.new_client ≢ asked.client
  pub image : asked.image ≢ []
  pub new_image : asked.new_image ≢ []
  pub server : asked.server ≢ []
  pub folder : asked.folder ≢ []
  pub apart : are_apart asked.image asked.new_image ≡ true

-- where the new client is kept, and whom it asks: the server alone; it runs no commands
abbrev pub new_route : Shelving → Route
new_route asked = record { image = asked.new_image; server = asked.server; surrogate = None; work = [] }

-- ---- what is kept

-- nothing is kept under the name
abbrev pub IsAbsent : Option Images → List ℕ → Type 0
IsAbsent None name = Unit {0}
IsAbsent (Some images) name = images name ≡ None

-- bytes are kept under the name, and they are for this log of the client
abbrev pub IsStored : Option Images → List ℕ → ℕ → Log → Type 0
IsStored None name client log = Unit {0}
IsStored (Some images) name client log = (images name ≢ None) × Keeps (images name) client log

-- bytes are kept under the name, and for no log of the client
abbrev pub IsStoredOther : Option Images → List ℕ → ℕ → Type 0
IsStoredOther None name client = Unit {0}
IsStoredOther (Some images) name client = (images name ≢ None) × ((log : Log) → Keeps (images name) client log → ⊥)

-- a client that has logged nothing
abbrev pub IsUnused : Log → Type 0
IsUnused log = (log.acked ≡ 0) × (log.pending ≡ [])

-- what is kept under the name is for no such log of the client
abbrev pub IsUsed : Option Images → List ℕ → ℕ → Type 0
IsUsed None name client = Unit {0}
IsUsed (Some images) name client = (log : Log) → Keeps (images name) client log → IsUnused log → ⊥

-- ---- what is to be logged

-- why there is no shelf; want of memory is no such reason
abbrev pub unshelved : ShelfError → Ending
unshelved (shelves.Path fault) = ends.BadPlace fault
unshelved shelves.Memory = ends.BadPlace paths.Memory

-- the entries that set these aside in the folder, or why there are none: nothing is pending, or a place is no path
abbrev pub planned_in : FilePath → List Entry → Result (List (List Effect)) Ending
planned_in folder [] = Err ends.NothingPending
planned_in folder (entry ∷ entries) = result_map_both (λ lists. lists) unshelved (shelved folder (entry ∷ entries))

-- where the folder's text is no path, that comes first
abbrev pub planned_by : Result FilePath PathError → List Entry → Result (List (List Effect)) Ending
planned_by (Ok folder) pending = planned_in folder pending
planned_by (Err fault) pending = Err (ends.BadFolder fault)

-- the same for the folder with this text
abbrev pub planned : List ℕ → List Entry → Result (List (List Effect)) Ending
planned folder pending = planned_by (path_of folder) pending

-- one entry of these effects more, where none before was refused
abbrev pub appended_on : List Effect → Result Log LogError → Result Log LogError
appended_on effects (Ok log) = appended None effects log
appended_on effects (Err refusal) = Err refusal

abbrev pub appended_each : Result Log LogError → List (List Effect) → Result Log LogError
appended_each so_far [] = so_far
appended_each so_far (effects ∷ lists) = appended_each (appended_on effects so_far) lists

-- the log once each of these was logged as an entry, one after the other, or the first refusal
abbrev pub appended_all : List (List Effect) → Log → Result Log LogError
appended_all lists log = appended_each (Ok log) lists

-- What a shelving goes on with that is not at its end yet: the stuck log, the log of the new client, which has logged nothing, and the
-- entries that it is to log.
pub record Plans (asked : Shelving) (images : Option Images) (stuck start : Log) (lists : List (List Effect)) : Type 0 where
  pub stuck_is : IsStored images asked.image asked.client stuck
  pub start_is : IsKept images asked.new_image asked.new_client start
  pub unused : IsUnused start
  pub planned_so : planned asked.folder stuck.pending ≡ Ok lists
