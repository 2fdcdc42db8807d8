-- Slots: which of them stands for a path, and the rows that all of them stand for.
use Rattle.std.specs.Prelude.{◌≡◌, ◌≢◌, ℕ, zero, suc, ◌+◌, ◌-◌, ◌<◌, ◌≤◌, ◌==◌, cond, List, [], ◌∷◌, ◌++◌, length, find, map, filter}
use Rattle.std.specs.Prelude.{sum_by, is_some, IsTrue, slice_index, slice_index_or, slice_set, Option, Some, None, option_and_then}
use Rattle.std.specs.List.{flat_map, AllByRecursion, insert, remove}
use Rattle.std.specs.Option.{option_to_list}
use Rattle.std.specs.declared.cmp.Ordering.{Ordering}
use Rattle.std.specs.declared.cmp.Ordering.TheVariants.{Less, Greater}
use Rattle.std.specs.Ordering.{nat_cmp, is_eq}
use Rattle.std.specs.Cmp.Lexicographic.{slice_cmp}
use Rattle.file_paths.specs.Path.{FilePath, IsPath}
use Rattle.tree_values.specs.declared.node.Node.{Node}
use Rattle.tree_values.specs.declared.node.Row.{Row}
use Rattle.tree_values.specs.Tree.{Volume, AreInOrder, row_at, total_size}

-- a slot: its name, how often its path was touched, what stands there, and the slots in it
pub record Place : Type 0 where
  pub name : List ℕ
  pub version : ℕ
  pub node : Option Node
  pub children : List ℕ

-- all slots, each named by its index; the first is the root's
abbrev pub Places : Type 0
Places = List Place

-- what stands where there is no slot
abbrev pub no_place : Place
no_place = record { name = []; version = 0; node = None; children = [] }

-- the slot of this index
abbrev pub place : Places → ℕ → Place
place slots i = slice_index_or slots i no_place

-- names are ordered bytewise, a proper prefix first
abbrev pub name_cmp : List ℕ → List ℕ → Ordering
name_cmp = slice_cmp nat_cmp

-- the one of these slots that has this name
abbrev pub child_named : Places → List ℕ → List ℕ → Option ℕ
child_named slots children name = find (λ c. is_eq (name_cmp (place slots c).name name)) children

-- the slot of a path, from a slot down
abbrev pub slot_of : Places → ℕ → FilePath → Option ℕ
slot_of slots i [] = Some i
slot_of slots i (name ∷ names) = option_and_then (λ c. slot_of slots c names) (child_named slots (place slots i).children name)

-- ---- the rows

-- the row that a slot stands for at this path; version 0 stands for no row
abbrev pub own_row : FilePath → Place → Option Row
own_row path slot = cond (slot.version == 0) None (Some (record { path = path; version = slot.version; node = slot.node }))

-- the rows of a slot and of those below it, so many levels down, in the order of their paths
abbrev pub rows_from : ℕ → Places → FilePath → ℕ → Volume
rows_from zero slots path i = []
rows_from (suc levels) slots path i = option_to_list (own_row path (place slots i))
    ++ flat_map (λ c. rows_from levels slots (path ++ (place slots c).name ∷ []) c) (place slots i).children

-- the rows of all slots; a path has at most 32 names, so no row is below so many levels
unfoldable pub rows_of : Places → Volume
rows_of slots = rows_from 34 slots [] 0

-- the names of those of these slots at which something stands
abbrev pub standing : Places → List ℕ → List (List ℕ)
standing slots children = map (λ c. (place slots c).name) (filter (λ c. is_some (place slots c).node) children)

-- ---- the rules

-- each of these slots has a name below those of later ones
abbrev pub AreAscending : Places → List ℕ → Type 0
AreAscending slots [] = Unit {0}
AreAscending slots (c ∷ cs) = AllByRecursion (λ d. name_cmp (place slots c).name (place slots d).name ≡ Less) cs × AreAscending slots cs

-- the slots in each slot are there, few, and in the order of their names
pub record AreLinked (slots : Places) : Type 0 where
  pub within : (i k : ℕ) → k < length (place slots i).children → slice_index (place slots i).children k < length slots
  pub ascending : (i : ℕ) → AreAscending slots (place slots i).children
  pub few : (i : ℕ) → length (place slots i).children < 65536

-- each slot stands for at most one path, which is one; the root has no row
pub record IsArena (slots : Places) : Type 0 where
  pub linked : AreLinked slots
  pub apart : (p q : FilePath) (i : ℕ) → slot_of slots 0 p ≡ Some i → slot_of slots 0 q ≡ Some i → p ≡ q
  pub paths : (p : FilePath) (i : ℕ) → slot_of slots 0 p ≡ Some i → IsPath p
  pub root : (place slots 0).version ≡ 0
  -- where no row is, nothing stands
  pub bare : (i : ℕ) → (place slots i).version ≡ 0 → (place slots i).node ≡ None

-- ---- free slots

-- no slot stands twice among these
abbrev pub AreDistinct : List ℕ → Type 0
AreDistinct [] = Unit {0}
AreDistinct (c ∷ cs) = AllByRecursion (λ d. d ≡ c → ⊥) cs × AreDistinct cs

-- a slot that is in no other and has none in it
pub record IsFreeSlot (slots : Places) (owner : Option ℕ) (c : ℕ) : Type 0 where
  pub within : c < length slots
  pub below_root : c ≡ 0 → ⊥
  pub unowned : owner ≡ None
  pub leaf : (place slots c).children ≡ []

-- how many slots are in others
abbrev pub linked : Places → ℕ
linked slots = sum_by (λ (slot : Place). length slot.children) slots

-- each slot but the root's is in one other, or once among the free ones, for which there is room
pub record IsPool (slots : Places) (free : List ℕ) (capacity : ℕ) : Type 0 where
  -- the slot that each slot is in
  pub owner : ℕ → Option ℕ
  pub owned : (i : ℕ) → AllByRecursion (λ c. owner c ≡ Some i) (place slots i).children
  pub root : owner 0 ≡ None
  pub unlinked : AllByRecursion (λ c. IsFreeSlot slots (owner c) c) free
  pub once : AreDistinct free
  pub all : length slots - 1 ≡ linked slots + length free
  pub room : length slots - 1 ≤ capacity

-- a slot that stands for no row and has no slots in it
abbrev pub IsIdle : Place → Type 0
IsIdle slot = (slot.version ≡ 0) × (slot.children ≡ [])

-- no slot that is in another is idle, but perhaps this one
abbrev pub AreUsed : Places → Option ℕ → Type 0
AreUsed slots but = (i : ℕ) → AllByRecursion (λ c. (but ≡ Some c → ⊥) → IsIdle (place slots c) → ⊥) (place slots i).children

-- what an arena keeps
pub record KeepsArena (slots : Places) (free : List ℕ) (capacity : ℕ) : Type 0 where
  pub arena : IsArena slots
  pub pool : IsPool slots free capacity
  pub used : AreUsed slots None

-- a row is at this path, or at one that goes on from it
abbrev pub LeadsToRow : Volume → FilePath → Type 0
LeadsToRow rows path = (rest : FilePath) × IsTrue (is_some (row_at rows (path ++ rest)))

-- a slot, but the root's, is there only while a row lies at its path or below
abbrev pub SlotsLeadToRows : Type 0
SlotsLeadToRows = (slots : Places) (free : List ℕ) (capacity : ℕ) → KeepsArena slots free capacity → (path : FilePath) (i : ℕ)
    → path ≢ [] → slot_of slots 0 path ≡ Some i → LeadsToRow (rows_of slots) path

-- ---- searching

-- the child of this name is that with index k
pub record IsFound (slots : Places) (children : List ℕ) (name : List ℕ) (k : ℕ) : Type 0 where
  pub within : k < length children
  pub named : (place slots (slice_index children k)).name ≡ name
  pub found : child_named slots children name ≡ Some (slice_index children k)

-- no child has this name, and its place is before index k
pub record IsMissing (slots : Places) (children : List ℕ) (name : List ℕ) (k : ℕ) : Type 0 where
  pub within : k ≤ length children
  pub none : child_named slots children name ≡ None
  pub below : (j : ℕ) → j < k → name_cmp (place slots (slice_index children j)).name name ≡ Less
  pub above : (j : ℕ) → k ≤ j → j < length children → name_cmp (place slots (slice_index children j)).name name ≡ Greater

-- ---- changes

-- the same slots, and perhaps more that nothing names
pub record Pads (old new : Places) : Type 0 where
  pub same : (i : ℕ) → place new i ≡ place old i
  pub longer : length old ≤ length new

-- one more slot, which stands for no row: j, with this name, before index k of the children of a slot
pub record Grows (old new : Places) (parent k : ℕ) (name : List ℕ) (j : ℕ) : Type 0 where
  pub fresh : place new j ≡ record { name = name; version = 0; node = None; children = [] }
  pub linked : place new parent ≡ record {
    name = (place old parent).name;
    version = (place old parent).version;
    node = (place old parent).node;
    children = insert (place old parent).children k j;
  }
  pub others : (i : ℕ) → (i ≡ j → ⊥) → (i ≡ parent → ⊥) → place new i ≡ place old i
  pub unlinked : (i m : ℕ) → m < length (place old i).children → slice_index (place old i).children m ≡ j → ⊥
  pub below_root : j ≡ 0 → ⊥
  pub within : j < length new
  pub longer : length old ≤ length new

-- the slots, of which one has another version and node
abbrev pub written : Places → ℕ → ℕ → Option Node → Places
written slots i version node =
    slice_set slots i (record { name = (place slots i).name; version = version; node = node; children = (place slots i).children })

-- the slot of a path, once it is there; the rows are the same
pub record IsEntered (old new : Places) (path : FilePath) (i : ℕ) : Type 0 where
  pub arena : IsArena new
  pub rows : rows_of new ≡ rows_of old
  pub slot : slot_of new 0 path ≡ Some i
  pub within : i < length new

-- ---- counts

-- the rows are in order and each was touched; there are so many, with so many bytes in their files
pub record IsCounted (rows : Volume) (count size : ℕ) : Type 0 where
  pub in_order : AreInOrder rows
  pub touched : AllByRecursion (λ row. 1 ≤ row.version) rows
  pub rows_counted : count ≡ length rows
  pub bytes_counted : size ≡ total_size rows

-- one where the kept row is none
abbrev pub new_rows : Row → ℕ
new_rows kept = cond (kept.version == 0) 1 0

-- one slot less: that of index k of the children of a slot, which stands for no row and has no slots in it
pub record Shrinks (old new : Places) (parent k : ℕ) : Type 0 where
  pub linked : (place new parent).children ≡ remove (place old parent).children k
  pub others : (i : ℕ) → (i ≡ parent → ⊥) → (place new i).children ≡ (place old i).children
  pub names : (i : ℕ) → (place new i).name ≡ (place old i).name
  pub versions : (i : ℕ) → (place new i).version ≡ (place old i).version
  pub nodes : (i : ℕ) → (place new i).node ≡ (place old i).node
  pub idle : (place old (slice_index (place old parent).children k)).version ≡ 0
  pub leaf : (place old (slice_index (place old parent).children k)).children ≡ []
  pub same_length : length new ≡ length old
