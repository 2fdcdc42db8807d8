-- What the private functions of this crate give one another: lists that are sorted by the paths of their items.
use Rattle.std.specs.Prelude.{◌≡◌, Bool, List, [], ◌∷◌, filter, Option}
use Rattle.std.specs.Option.{option_or}
use Rattle.std.specs.Ordering.{is_lt}
use Rattle.std.specs.List.Sorted.{IsSortedBy}
use Rattle.file_paths.specs.Path.{FilePath, path_cmp, is_same_path, folder_of}
use Rattle.cmd_capture.specs.declared.job.JobRow.{JobRow}
use Rattle.temp_names.specs.declared.candidate.Candidate.{Candidate}
use Rattle.temp_names.specs.declared.candidate.Likeness.{Likeness}
use Rattle.temp_names.specs.declared.candidate.Likeness.TheVariants.{Group, GroupAndPrint}
use Rattle.temp_names.specs.declared.pairs.Renamed.{Renamed}
use Rattle.temp_names.specs.declared.pairs.Sides.{Sides}
use Rattle.temp_names.specs.Renaming.{is_alike, counterpart, by_place}
use Rattle.temp_names.specs.Laws.{RisesBy}

abbrev pub is_before : {X : Type 0} → (X → FilePath) → X → X → Bool
is_before key x y = is_lt (path_cmp (key x) (key y))

-- the second has the key of the first
abbrev pub is_tied : {X : Type 0} → (X → FilePath) → X → X → Bool
is_tied key x y = is_same_path (key y) (key x)

-- no item is before the one in front of it
abbrev pub Rises : {X : Type 0} → (X → FilePath) → List X → Type 0
Rises key xs = IsSortedBy (is_before key) xs

-- the same items, sorted, and those with one key in their order
pub record AreSorted {X : Type 0} (key : X → FilePath) (these sorted : List X) : Type 0 where
  pub rises : Rises key sorted
  pub same : (x : X) → filter (is_tied key x) sorted ≡ filter (is_tied key x) these

abbrev pub path_of_candidate : Candidate → FilePath
path_of_candidate c = c.path

abbrev pub path_of_row : JobRow → FilePath
path_of_row row = row.path

-- the path that is renamed
abbrev pub path_of_pair : Renamed → FilePath
path_of_pair pair = pair.from

-- what candidates that are alike have in common, as a path: the template, the print where it counts, and the folder
abbrev pub class_of : Likeness → Candidate → FilePath
class_of Group c = (c.template ∷ []) ∷ folder_of c.path
class_of GroupAndPrint c = (c.template ∷ []) ∷ c.print ∷ folder_of c.path

-- ---- both sides

-- sorted by what is alike, and the client's of one class by path
pub record AreReady (l : Likeness) (sides : Sides) : Type 0 where
  pub clients : Rises (class_of l) sides.clients.items
  pub replays : Rises (class_of l) sides.replays.items
  pub paths : (c : Candidate) → RisesBy path_of_candidate (filter (is_alike l c) sides.clients.items)

-- the same candidates, but for the order of those that are not alike
pub record AreSidesOf (l : Likeness) (clients replays : List Candidate) (sides : Sides) : Type 0 where
  pub ready : AreReady l sides
  pub clients_same : (c : Candidate) → filter (is_alike l c) sides.clients.items ≡ filter (is_alike l c) clients
  pub replays_same : (c : Candidate) → filter (is_alike l c) sides.replays.items ≡ filter (is_alike l c) replays

-- the partner of a candidate, by these sides
abbrev pub partner_of : Sides → Sides → Candidate → Option Candidate
partner_of by_print by_group c =
    option_or (counterpart GroupAndPrint by_print.clients.items by_print.replays.items c)
    (by_place by_group.clients.items by_group.replays.items c)
