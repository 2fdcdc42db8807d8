-- What logging, acknowledging and pulling leave, in their own words.
use Rattle.std.specs.Prelude.{◌≡◌, ℕ, ◌+◌, ◌<◌, ◌≤◌, List, [], length, slice_index_or, Option, Ok}
use Rattle.std.specs.List.{AllByRecursion}
use Rattle.tree_values.specs.declared.node.Effect.{Effect}
use Rattle.tree_values.specs.Tree.{Volume, IsTree, IsLegalEffect}
use Rattle.tree_values.specs.Effects.{changed_all}
use Rattle.mod_log.specs.Log.{Log, tree_of, tree_after, IsLog, new_log_of, logged, acknowledged, pulled}
use Rattle.mod_log.specs.Append.{next_entry, appended}
use Rattle.mod_log.specs.Reading.{EntryFits}
use Rattle.mod_log.specs.Origin.{MadeByFits}
use Rattle.mod_log.specs.declared.origin.Origin.{Origin}
use Rattle.mod_log.specs.declared.log.Entry.{Entry}

-- an appended entry is the last of a log that has all else as before, and its effects lead to the new tree
abbrev pub AppendingAddsAnEntry : Type 0
AppendingAddsAnEntry = (origin : Option Origin) (effects : List Effect) (log new : Log) → IsLog log → MadeByFits origin
    → AllByRecursion IsLegalEffect effects → 1 ≤ length effects → appended origin effects log ≡ Ok new
    → (new ≡ logged (next_entry origin effects log) log) × IsLog new × (tree_of new ≡ changed_all effects (tree_of log))

-- where a log with an entry behind it is one, appending the entry's origin and effects gives it
abbrev pub EntriesThatFitAreAppended : Type 0
EntriesThatFitAreAppended =
    (log : Log) (entry : Entry) → IsLog (logged entry log) → appended entry.origin entry.effects log ≡ Ok (logged entry log)

-- acknowledged entries go into the base, and the tree stays
abbrev pub AcknowledgingKeepsTheTree : Type 0
AcknowledgingKeepsTheTree = (log : Log) (number : ℕ) → IsLog log → log.acked ≤ number → number ≤ log.acked + length log.pending
    → IsLog (acknowledged number log) × (tree_of (acknowledged number log) ≡ tree_of log)

-- where nothing is pending, the tree is what was pulled
abbrev pub PullingReplacesTheTree : Type 0
PullingReplacesTheTree = (log : Log) (seen : Volume) → IsLog log → log.pending ≡ [] → IsTree seen
    → IsLog (pulled seen log) × (tree_of (pulled seen log) ≡ seen)

-- a tree is a log with nothing pending
abbrev pub TreesAreLogs : Type 0
TreesAreLogs = (acked : ℕ) (base : Volume) → acked ≤ 18446744073709551615 → IsTree base → IsLog (new_log_of acked base)

-- the base and the tree after each entry are trees
abbrev pub LogsHoldTrees : Type 0
LogsHoldTrees = (log : Log) (count : ℕ) → IsLog log → IsTree (tree_after count log)

-- each pending entry is one of its number, with the versions of just the paths that it touches
abbrev pub PendingEntriesFit : Type 0
PendingEntriesFit =
    (log : Log) (i : ℕ) (d : Entry) → IsLog log → i < length log.pending → EntryFits (log.acked + 1 + i) (slice_index_or log.pending i d)
