-- When an entry is logged.
use Rattle.std.specs.Prelude.{ℕ, ◌+◌, Bool, ◌||◌, nat_lt, nat_le, ◌==◌, List, [], ◌∷◌, ◌++◌, length, Option, Some, None, Result, Ok, Err}
use Rattle.std.specs.List.{flat_map}
use Rattle.byte_fields.specs.Numbers.{as_u64}
use Rattle.file_paths.specs.Refusals.{when, unless_refused}
use Rattle.tree_values.specs.Limits.{max_files, max_effects}
use Rattle.tree_values.specs.Tree.{Volume}
use Rattle.tree_values.specs.Effects.{apply_all, base_of, contents_size}
use Rattle.tree_values.specs.declared.node.Effect.{Effect}
use Rattle.tree_values.specs.declared.node.TreeError.{TreeError}
use Rattle.mod_log.specs.declared.origin.Origin.{Origin}
use Rattle.mod_log.specs.declared.log.Entry.{Entry}
use Rattle.mod_log.specs.declared.log.LogError.{LogError}
use Rattle.mod_log.specs.declared.log.LogError.TheVariants.{EntryTooLarge, LogFull, LastNumber, Tree}
use Rattle.mod_log.specs.Limits.{max_entries, max_log}
use Rattle.mod_log.specs.Log.{Log, entry, tree_of, logged}

-- the next entry: its number follows the last, and its base list has the versions of the log's tree
abbrev pub next_entry : Option Origin → List Effect → Log → Entry
next_entry origin effects log =
    record { seq = log.acked + length log.pending + 1; origin = origin; effects = effects; base = base_of effects (tree_of log) }

-- more than 4,096 effects or 33,554,432 bytes of content
abbrev pub is_too_large : List Effect → Bool
is_too_large effects = nat_lt max_effects (length effects) || nat_lt max_files (contents_size effects)

-- the bytes of the spelled entries, this one behind them
abbrev pub log_size_with : Entry → Log → ℕ
log_size_with next log = length (flat_map entry (log.pending ++ next ∷ []))

-- 1,024 entries pending, or more than 67,108,864 spelled bytes with this entry
abbrev pub log_has_no_room : Entry → Log → Bool
log_has_no_room next log = nat_le max_entries (length log.pending) || nat_lt max_log (log_size_with next log)

-- whether the last entry has the greatest number
abbrev pub is_at_last : Log → Bool
is_at_last log = log.acked + length log.pending == 18446744073709551615

-- the first effect that the tree refuses
abbrev pub refused_effect : Result Volume (ℕ × TreeError) → Option LogError
refused_effect (Ok tree) = None
refused_effect (Err refusal) = Some (Tree refusal.0 refusal.1)

-- why effects are not logged, in the order in which it is tried
abbrev pub append_refusals : Option Origin → List Effect → Log → List (Option LogError)
append_refusals origin effects log =
    when (is_too_large effects) (EntryTooLarge (length effects) (as_u64 (contents_size effects)))
    ∷ when (log_has_no_room (next_entry origin effects log) log)
    (LogFull (length log.pending) (as_u64 (log_size_with (next_entry origin effects log) log)))
    ∷ when (is_at_last log) LastNumber
    ∷ refused_effect (apply_all 0 effects (tree_of log))
    ∷ []

-- the log with one more entry, or the first refusal
abbrev pub appended : Option Origin → List Effect → Log → Result Log LogError
appended origin effects log = unless_refused (append_refusals origin effects log) (logged (next_entry origin effects log) log)
