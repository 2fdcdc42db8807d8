-- Words that only the contracts of private functions and the proofs cite.
use Rattle.std.specs.Prelude.{◌≡◌, ℕ, ◌+◌, List, [], ◌∷◌, length, ⊤, map, Option}
use Rattle.std.specs.List.{flat_map}
use Rattle.byte_fields.specs.Numbers.{as_u64}
use Rattle.tree_values.specs.declared.node.Effect.{Effect}
use Rattle.tree_values.specs.declared.node.Base.{Base}
use Rattle.vol_tree.specs.declared.effects.ApplyAllError.{ApplyAllError}
use Rattle.vol_tree.specs.declared.effects.ApplyAllError.TheVariants.{At, Memory as NoMemory}
use Rattle.file_paths.specs.Refusals.{when}
use Rattle.tree_values.specs.Tree.{Volume}
use Rattle.tree_values.specs.Effects.{changed_all}
use Rattle.vol_tree.specs.Undos.{undone_all, CanUndoAll}
use Rattle.mod_log.specs.declared.origin.Origin.{Origin}
use Rattle.mod_log.specs.declared.log.Entry.{Entry}
use Rattle.mod_log.specs.declared.log.Pending.{Pending}
use Rattle.mod_log.specs.declared.log.LogError.{LogError}
use Rattle.mod_log.specs.declared.log.LogError.TheVariants.{LogFull, LastNumber, Tree, Memory}
use Rattle.mod_log.specs.Log.{Log, entry, IsLog}
use Rattle.mod_log.specs.Append.{log_size_with, log_has_no_room, is_at_last}

-- the tree once the effects of all these entries are undone, the last first
abbrev pub rolled_back : List Pending → Volume → Volume
rolled_back [] tree = tree
rolled_back (first ∷ later) tree = undone_all first.undos.items (rolled_back later tree)

-- the entries without their undos
abbrev pub entries_of : List Pending → List Entry
entries_of pending = map (λ kept. kept.entry) pending

-- the entry leads from one tree to the other, and its undos lead back
pub record KeepsEntry (kept : Pending) (before after : Volume) : Type 0 where
  pub leads : changed_all kept.entry.effects before ≡ after
  pub can_undo : CanUndoAll kept.undos.items after
  pub size : kept.size ≡ length (entry kept.entry)

-- each entry leads to the tree before the next, and the last to this tree
abbrev pub AreKept : List Pending → Volume → Type 0
AreKept [] tree = ⊤
AreKept (first ∷ later) tree =
    KeepsEntry first (rolled_back (first ∷ later) tree) (rolled_back later tree) × AreKept later tree

-- the log that a tree and the entries that led to it are
abbrev pub log_of : ℕ → Volume → List Pending → Log
log_of acked tree pending = record { acked = acked; base = rolled_back pending tree; pending = entries_of pending }

-- the fields of a log
pub record AreFields (acked : ℕ) (tree : Volume) (pending : List Pending) (size : ℕ) : Type 0 where
  pub kept : AreKept pending tree
  pub log : IsLog (log_of acked tree pending)
  pub sum : size ≡ length (flat_map entry (entries_of pending))

-- an entry behind those of the log
abbrev pub entry_with : Option Origin → List Effect → List Base → Log → Entry
entry_with origin effects base log = record { seq = log.acked + length log.pending + 1; origin = origin; effects = effects; base = base }

-- the refusals for want of room or of a number
abbrev pub room_refusals : Entry → Log → List (Option LogError)
room_refusals next log =
    when (log_has_no_room next log) (LogFull (length log.pending) (as_u64 (log_size_with next log)))
    ∷ when (is_at_last log) LastNumber
    ∷ []

-- a refusal of the tree, as the log's
abbrev pub log_error : ApplyAllError → LogError
log_error (At i refusal) = Tree i refusal
log_error NoMemory = Memory
