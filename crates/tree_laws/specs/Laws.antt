-- What holds of trees and effects, in their own words.
use Rattle.std.specs.Prelude.{◌≡◌, ◌⊎◌, ℕ, ◌+◌, ◌≤◌, Bool, false, List, [], ◌∷◌, ◌++◌, length, Some, None, Ok, Err}
use Rattle.file_paths.specs.Path.{FilePath}
use Rattle.tree_values.specs.declared.node.Node.TheVariants.{Folder}
use Rattle.tree_values.specs.declared.node.Effect.{Effect}
use Rattle.tree_values.specs.declared.node.Effect.TheVariants.{Make, Put, Remove, Move, Mode}
use Rattle.tree_values.specs.declared.node.TreeError.{TreeError}
use Rattle.tree_values.specs.Tree.{Volume, IsTree, IsLegalEffect, version_at, node_at, is_folder}
use Rattle.tree_values.specs.Tree.{children, is_exec, with_content, with_mode, apply}
use Rattle.tree_values.specs.Tree.{touched_paths, kept_rows, undone}
use Rattle.tree_values.specs.Effects.{apply_all, changed_all, touched_all, distinct}
use Rattle.tree_values.specs.Lists.{NoneTwice, IsIn}
use Rattle.vol_tree.specs.Behind.{IsBehind, IsAhead, AgreeAt}

-- ---- what an applied effect does to each path

-- the version of a touched path is one more
abbrev pub EffectsCountTouches : Type 0
EffectsCountTouches =
    (effect : Effect) (rows new : Volume) (path : FilePath) → apply effect rows ≡ Ok new → IsIn path (touched_paths effect)
    → version_at new path ≡ version_at rows path + 1

-- a path that is not touched keeps its version and its node
abbrev pub EffectsLeaveTheRest : Type 0
EffectsLeaveTheRest =
    (effect : Effect) (rows new : Volume) (path : FilePath) → apply effect rows ≡ Ok new → (IsIn path (touched_paths effect) → ⊥)
    → (version_at new path ≡ version_at rows path) × (node_at new path ≡ node_at rows path)

-- where a folder is made, a folder stands
abbrev pub MakingGivesAFolder : Type 0
MakingGivesAFolder = (path : FilePath) (rows new : Volume) → apply (Make path) rows ≡ Ok new → node_at new path ≡ Some Folder

-- where a content is put, a file with it stands
abbrev pub PuttingGivesAFile : Type 0
PuttingGivesAFile = (path : FilePath) (content : List ℕ) (rows new : Volume) → apply (Put path content) rows ≡ Ok new
    → node_at new path ≡ Some (with_content (node_at rows path) content)

-- where something is removed, nothing stands
abbrev pub RemovingLeavesNothing : Type 0
RemovingLeavesNothing = (path : FilePath) (rows new : Volume) → apply (Remove path) rows ≡ Ok new → node_at new path ≡ None

-- what is moved stands at its new path, and nothing at the old one
abbrev pub MovingCarriesTheNode : Type 0
MovingCarriesTheNode = (from to : FilePath) (rows new : Volume) → apply (Move from to) rows ≡ Ok new
    → (node_at new to ≡ node_at rows from) × (node_at new from ≡ None)

-- a file that may be run or not from now on stands there with its content, and what stands there is no other
abbrev pub ModesSetTheBit : Type 0
ModesSetTheBit = (path : FilePath) (exec : Bool) (rows new : Volume) → apply (Mode path exec) rows ≡ Ok new
    → node_at new path ≡ with_mode exec (node_at rows path)

-- what is written to a file leaves whether it may be run
abbrev pub PuttingKeepsTheBit : Type 0
PuttingKeepsTheBit = (path : FilePath) (content : List ℕ) (rows new : Volume) → apply (Put path content) rows ≡ Ok new
    → is_exec (node_at new path) ≡ is_exec (node_at rows path)

-- ---- trees

-- two trees with the same version and node at each path are one
abbrev pub TreesAreWhatTheyHold : Type 0
TreesAreWhatTheyHold = (x y : Volume) → IsTree x → IsTree y
    → ((path : FilePath) → (version_at x path ≡ version_at y path) × (node_at x path ≡ node_at y path)) → x ≡ y

-- an applied effect leaves a tree
abbrev pub ApplyingKeepsTrees : Type 0
ApplyingKeepsTrees = (effect : Effect) (rows new : Volume) → IsTree rows → IsLegalEffect effect → apply effect rows ≡ Ok new → IsTree new

-- what is kept of an applied effect puts the rows back
abbrev pub UndoingRestores : Type 0
UndoingRestores =
    (effect : Effect) (rows new : Volume) → IsTree rows → apply effect rows ≡ Ok new → undone (kept_rows effect rows) new ≡ rows

-- what is no folder has no children
abbrev pub FoldersAloneHaveChildren : Type 0
FoldersAloneHaveChildren = (rows : Volume) (path : FilePath) → IsTree rows → is_folder rows path ≡ false → children rows path ≡ []

-- no node stands at the root, which is a folder without one
abbrev pub TheRootHasNoNode : Type 0
TheRootHasNoNode = (rows : Volume) → IsTree rows → node_at rows [] ≡ None

-- ---- lists of effects

-- where none is refused, each changes what those before it have left
abbrev pub ListsThatApplyChange : Type 0
ListsThatApplyChange = (effects : List Effect) (rows new : Volume) → apply_all 0 effects rows ≡ Ok new → new ≡ changed_all effects rows

-- all before the effect with this index apply, and what they leave refuses it for this cause
pub record IsFirstRefused (effects : List Effect) (rows : Volume) (i : ℕ) (cause : TreeError) : Type 0 where
  pub before : List Effect
  pub effect : Effect
  pub after : List Effect
  pub are : effects ≡ before ++ effect ∷ after
  pub index : length before ≡ i
  pub left : Volume
  pub applied : apply_all 0 before rows ≡ Ok left
  pub refused : apply effect left ≡ Err cause

-- a list is refused at the first effect that is, for its cause
abbrev pub TheFirstRefusalStops : Type 0
TheFirstRefusalStops = (effects : List Effect) (rows : Volume) (i : ℕ) (cause : TreeError) → IsFirstRefused effects rows i cause
    → apply_all 0 effects rows ≡ Err (i, cause)

-- and for nothing else
abbrev pub OnlyTheFirstRefusalStops : Type 0
OnlyTheFirstRefusalStops = (effects : List Effect) (rows : Volume) (i : ℕ) (cause : TreeError)
    → apply_all 0 effects rows ≡ Err (i, cause) → IsFirstRefused effects rows i cause

-- ---- distinct paths

-- no path is twice among distinct ones
abbrev pub DistinctPathsDiffer : Type 0
DistinctPathsDiffer = (paths : List FilePath) → NoneTwice (distinct paths)

-- the distinct paths are those of the list
abbrev pub DistinctPathsAreTheSame : Type 0
DistinctPathsAreTheSame = (paths : List FilePath) (path : FilePath)
    → (IsIn path (distinct paths) → IsIn path paths) × (IsIn path paths → IsIn path (distinct paths))

-- what comes later in the list comes later among the distinct paths
abbrev pub DistinctPathsKeepTheirOrder : Type 0
DistinctPathsKeepTheirOrder = (front back : List FilePath) → (more : List FilePath) × (distinct (front ++ back) ≡ distinct front ++ more)

-- ---- trees behind others

-- a tree is behind itself, and behind what those are behind that it is behind
abbrev pub BehindIsAnOrder : Type 0
BehindIsAnOrder = ((v : Volume) → IsBehind v v) × ((u v w : Volume) → IsBehind u v → IsBehind v w → IsBehind u w)

-- versions only grow
abbrev pub EffectsLeadForward : Type 0
EffectsLeadForward = (effects : List Effect) (v : Volume) → IsBehind v (changed_all effects v)

-- the same effects keep one tree behind another, where the versions agree at what they touch
abbrev pub EffectsKeepBehind : Type 0
EffectsKeepBehind = (effects : List Effect) (x v : Volume) → IsBehind x v → AgreeAt x v (touched_all effects)
    → IsBehind (changed_all effects x) (changed_all effects v)

-- some path is ahead, or none is
abbrev pub SomePathIsAheadOrNone : Type 0
SomePathIsAheadOrNone = (x v : Volume) → IsAhead v x ⊎ ((path : FilePath) → version_at v path ≤ version_at x path)

-- a tree that is behind another, of which no path is ahead, is that tree
abbrev pub NoneAheadIsTheSame : Type 0
NoneAheadIsTheSame =
    (x v : Volume) → IsBehind x v → IsTree x → IsTree v → ((path : FilePath) → version_at v path ≤ version_at x path) → x ≡ v

-- what applies to a tree and not to one that it is behind meets a path that is ahead
abbrev pub RefusedWhereAhead : Type 0
RefusedWhereAhead = (x v : Volume) (effects : List Effect) (after : Volume) (cause : ℕ × TreeError) → IsBehind x v → IsTree x → IsTree v
    → apply_all 0 effects x ≡ Ok after → apply_all 0 effects v ≡ Err cause → IsAhead v x
