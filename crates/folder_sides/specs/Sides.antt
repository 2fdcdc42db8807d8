-- What becomes of the paths of a folder that was changed here and in the log.
use Rattle.std.specs.Prelude.{◌≡◌, Bool, true, false, not, ◌&&◌, ◌||◌, nat_lt, List, ◌++◌, length, Option, None, Some}
use Rattle.std.specs.Prelude.{is_some, if◌then◌else◌}
use Rattle.std.specs.List.{list_any, filter_map, AllByRecursion}
use Rattle.std.specs.Str.{bytes_eq}
use Rattle.file_paths.specs.Path.{FilePath, is_same_path, folder_of}
use Rattle.tree_values.specs.Tree.{is_folder_node}
use Rattle.tree_values.specs.declared.node.Node.{Node}
use Rattle.tree_values.specs.declared.node.Node.TheVariants.{Folder, File}
use Rattle.cmd_capture.specs.Rows.{AreJobRows, node_in, is_folder_in}
use Rattle.work_area.specs.Jobs.{is_within}
use Rattle.folder_sides.specs.declared.sides.Sides.{Sides}
use Rattle.folder_sides.specs.declared.ends.End.{End}
use Rattle.folder_sides.specs.declared.ends.End.TheVariants.{Same, Lay, Own, Both}

-- each side has the rows of a tree, and what has no row stands in a folder here, where no row does
pub record AreSides (sides : Sides) : Type 0 where
  pub laid : AreJobRows sides.laid
  pub here : AreJobRows sides.here
  pub logged : AreJobRows sides.logged
  pub beside : AllByRecursion (λ path. (is_folder_in sides.here (folder_of path) ≡ true) × (node_in sides.here path ≡ None)) sides.beside

-- ---- a path alone

-- both are folders, or files with one content that may both be run, or not
abbrev pub is_same_node : Node → Node → Bool
is_same_node Folder Folder = true
is_same_node Folder (File content exec) = false
is_same_node (File content exec) Folder = false
is_same_node (File content true) (File other true) = bytes_eq content other
is_same_node (File content true) (File other false) = false
is_same_node (File content false) (File other true) = false
is_same_node (File content false) (File other false) = bytes_eq content other

-- nothing in both places, or one node
abbrev pub is_same : Option Node → Option Node → Bool
is_same None None = true
is_same None (Some other) = false
is_same (Some node) None = false
is_same (Some node) (Some other) = is_same_node node other

-- Who changed what was laid: others, the user, or both. A removal gives way to a change.
abbrev pub end_by : Option Node → Option Node → Option Node → End
end_by laid here logged =
    if is_same here logged then Same
    else if is_same here laid then Lay
    else if is_same logged laid then Own
    else if not (is_some here) then Lay
    else if not (is_some logged) then Own
    else Both

abbrev pub end_alone : Sides → FilePath → End
end_alone sides path = end_by (node_in sides.laid path) (node_in sides.here path) (node_in sides.logged path)

-- ---- a path with what lies below it

abbrev pub is_lay : End → Bool
is_lay Same = false
is_lay Lay = true
is_lay Own = false
is_lay Both = false

abbrev pub is_own : End → Bool
is_own Same = false
is_own Lay = false
is_own Own = true
is_own Both = false

-- the path lies deeper in the folder
abbrev pub is_below : FilePath → FilePath → Bool
is_below path folder = is_within path folder && nat_lt (length folder) (length path)

-- below the folder the user has something of his own
abbrev pub is_own_below : Sides → FilePath → FilePath → Bool
is_own_below sides folder path = is_below path folder && is_own (end_alone sides path)

-- below the folder others have something that is to be laid
abbrev pub is_laid_below : Sides → FilePath → FilePath → Bool
is_laid_below sides folder path = is_below path folder && is_lay (end_alone sides path)

-- a folder here, with something in it that is the user's own or has no row
abbrev pub stays_in : Sides → FilePath → Bool
stays_in sides path =
    is_folder_node (node_in sides.here path)
    && (list_any (λ row. is_own_below sides path row.path) sides.here || list_any (λ other. is_below other path) sides.beside)

-- a folder of the log, with something in it that is to be laid
abbrev pub comes_in : Sides → FilePath → Bool
comes_in sides path =
    is_folder_node (node_in sides.logged path) && list_any (λ row. is_laid_below sides path row.path) sides.logged

-- something that has no row stands there
abbrev pub is_taken : Sides → FilePath → Bool
is_taken sides path = list_any (λ other. is_same_path other path) sides.beside

-- A folder that others removed stays where something stays in it; where they have a file there, both are changes.
abbrev pub laid_end : Bool → Option Node → End
laid_end stays logged = if stays then (if is_some logged then Both else Own) else Lay

-- A folder that was removed here comes back where something is laid in it; where a file stands here, both are changes.
abbrev pub own_end : Bool → Option Node → End
own_end comes here = if comes then (if is_some here then Both else Lay) else Own

-- what becomes of a path, by what would become of it alone, whether something stays or comes in it, and what stands there
abbrev pub end_within : End → Bool → Bool → Option Node → Option Node → End
end_within Same stays comes here logged = Same
end_within Lay stays comes here logged = laid_end stays logged
end_within Own stays comes here logged = own_end comes here
end_within Both stays comes here logged = Both

-- what becomes of a path
abbrev pub end_of : Sides → FilePath → End
end_of sides path =
    if is_taken sides path && is_some (node_in sides.logged path) then Both
    else end_within (end_alone sides path) (stays_in sides path) (comes_in sides path) (node_in sides.here path) (node_in sides.logged path)

-- ---- conflicts

abbrev pub is_both : End → Bool
is_both Same = false
is_both Lay = false
is_both Own = false
is_both Both = true

abbrev pub is_conflict : Sides → FilePath → Bool
is_conflict sides path = is_both (end_of sides path)

-- the path, where both are changes there
abbrev pub conflict_at : Sides → FilePath → Option FilePath
conflict_at sides path = if is_conflict sides path then Some path else None

-- the paths at which both are changes: what stands there has to go beside first
abbrev pub conflicts : Sides → List FilePath
conflicts sides = filter_map (λ row. conflict_at sides row.path) sides.here ++ filter_map (conflict_at sides) sides.beside

-- at no path both are changes
abbrev pub HasNoConflict : Sides → Type 0
HasNoConflict sides = (path : FilePath) → is_conflict sides path ≡ false
