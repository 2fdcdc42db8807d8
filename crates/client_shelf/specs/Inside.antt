-- Words that only the contracts of private functions and the proofs cite.
use Rattle.std.specs.Prelude.{◌≡◌, ◌⊎◌, ℕ, List, Option, None, Some, Result, Ok, Err, take}
use Rattle.std.specs.List.{AllByRecursion}
use Rattle.outside.specs.Keeper.{Images}
use Rattle.outside.specs.declared.errors.SinkError.{SinkError}
use Rattle.outside.specs.declared.errors.SinkError.TheVariants as sinks
use Rattle.outside.specs.declared.errors.KeepError.{KeepError}
use Rattle.outside.specs.declared.errors.KeepError.TheVariants as keepers
use Rattle.file_paths.specs.Path.{FilePath}
use Rattle.tree_values.specs.Tree.{Volume}
use Rattle.tree_values.specs.Spelling.{EffectsFit}
use Rattle.tree_values.specs.declared.node.Effect.{Effect}
use Rattle.mod_log.specs.declared.log.Entry.{Entry}
use Rattle.mod_log.specs.Log.{Log, new_log_of}
use Rattle.mod_log.specs.declared.log.LogError.{LogError}
use Rattle.world_rules.specs.declared.asking.Ask.{Ask}
use Rattle.client_core.specs.declared.pulling.PullEnd.{PullEnd}
use Rattle.client_core.specs.declared.pulling.PullEnd.TheVariants as pulls
use Rattle.client_core.specs.Client.{Client}
use Rattle.client_core.specs.Keeping.{IsKept}
use Rattle.client_lines.specs.declared.opening.Unopened.{Unopened}
use Rattle.client_lines.specs.declared.opening.Unopened.TheVariants as unopened
use Rattle.conflict_shelf.specs.declared.shelf.Shelf.{Shelf}
use Rattle.conflict_shelf.specs.Shelf.{names_in}
use Rattle.client_shelf.specs.declared.ends.Ending.{Ending}
use Rattle.client_shelf.specs.declared.ends.Ending.TheVariants as ends
use Rattle.client_shelf.specs.declared.ends.ShelvingStop.{ShelvingStop}
use Rattle.client_shelf.specs.declared.ends.ShelvingStop.TheVariants.{Sink, Keeper, Image, Memory}
use Rattle.client_shelf.specs.Shelving.{Shelving, IsAbsent, IsStored, IsStoredOther, IsUnused, IsUsed, planned_in, planned, appended_all}
use Rattle.client_shelf.specs.Ending.{Standing, LeavesShelved, PullsRows, StaysOrSaves, RefusesEntries}
use Rattle.client_shelf.specs.Ending.{EndsKept, EndsBehind, ShelvingBreaks, Stops, ComesToEnd}

-- ---- what stops a shelving

abbrev pub stop_unopened : Unopened → ShelvingStop
stop_unopened unopened.Keeper = Keeper
stop_unopened unopened.Image = Image
stop_unopened unopened.Memory = Memory

abbrev pub shelving_stop_of : SinkError → ShelvingStop
shelving_stop_of sinks.Failed = Sink
shelving_stop_of sinks.Memory = Memory

abbrev pub shelving_stop_by : KeepError → ShelvingStop
shelving_stop_by keepers.Failed = Keeper
shelving_stop_by keepers.Memory = Memory

abbrev pub status_of_stop : ShelvingStop → ℕ
status_of_stop Sink = 4
status_of_stop Keeper = 5
status_of_stop Image = 6
status_of_stop Memory = 7

-- a load or a keeping was refused, or memory ran out
abbrev pub IsBreak : ShelvingStop → Type 0
IsBreak stop = (stop ≡ Keeper) ⊎ (stop ≡ Memory)

-- ---- what is found

-- nothing is kept under the name, or this client
abbrev pub Finds : Option Images → List ℕ → ℕ → Option Client → Type 0
Finds images name number None = IsAbsent images name
Finds images name number (Some client) =
    (client.number ≡ number) × (client.journal ≡ None) × IsStored images name number client.log

-- bytes are kept under the name, and for no log of the client; or the load was refused, or memory ran out
abbrev pub FindsNone : Option Images → List ℕ → ℕ → ShelvingStop → Type 0
FindsNone images name number stop = ((stop ≡ Image) × IsStoredOther images name number) ⊎ IsBreak stop

-- what is kept under the name is for no client that has logged nothing; or it is for this one
abbrev pub FindsUnused : Option Images → List ℕ → ℕ → Option Client → Type 0
FindsUnused images name number None = IsUsed images name number
FindsUnused images name number (Some client) =
    (client.number ≡ number) × (client.journal ≡ None) × IsKept images name number client.log × IsUnused client.log

-- ---- what is planned

-- this shelf is to be logged, each entry of which fits, or this end is due
abbrev pub PlansInSo : FilePath → List Entry → Result Shelf Ending → Type 0
PlansInSo folder pending (Ok shelf) =
    (planned_in folder pending ≡ Ok shelf.entries) × (shelf.names ≡ names_in pending) × AllByRecursion EffectsFit shelf.entries
PlansInSo folder pending (Err ending) = planned_in folder pending ≡ Err ending

-- the same for the text of a folder
abbrev pub PlansSo : List ℕ → List Entry → Result Shelf Ending → Type 0
PlansSo folder pending (Ok shelf) =
    (planned folder pending ≡ Ok shelf.entries) × (shelf.names ≡ names_in pending) × AllByRecursion EffectsFit shelf.entries
PlansSo folder pending (Err ending) = planned folder pending ≡ Err ending

-- ---- what is done

-- the end that a pull comes to which takes no rows, or what stops it; before it nothing is pending
abbrev pub pulled_to : PullEnd → Result (Option Ending) ShelvingStop
pulled_to (pulls.Pulled count) = Ok None
pulled_to (pulls.OtherLast last acked) = Ok (Some (ends.OtherLast last))
pulled_to (pulls.Older path theirs ours) = Ok (Some (ends.Older path theirs ours))
pulled_to pulls.Unanswered = Ok (Some ends.Unanswered)
pulled_to pulls.KeepFault = Err Keeper
pulled_to pulls.Memory = Err Memory
pulled_to (pulls.Pending count) = Err Memory

-- The rows were pulled, and the log is that. Its image was put under the new name, or all that is kept is as before.
pub record TakesPulledRows (asked : Shelving) (start log : Log) (old new : Standing) : Type 0 where
  pub asks : List Ask
  pub seen : Volume
  pub pulls : PullsRows asked start seen asks
  pub log_is : log ≡ new_log_of 0 seen
  pub leaves : LeavesShelved asked start log asks old new
  pub saves : StaysOrSaves asked.new_image asked.new_client log old.images new.images

-- the rows were pulled; or it came to this end, or was stopped so
abbrev pub PullsTo : Shelving → Log → Log → Result (Option Ending) ShelvingStop → Standing → Standing → Type 0
PullsTo asked start log (Ok None) old new = TakesPulledRows asked start log old new
PullsTo asked start log (Ok (Some ending)) old new =
    (stuck : Log) (lists : List (List Effect)) → EndsBehind asked stuck start lists ending old new
PullsTo asked start log (Err stop) old new = IsBreak stop × ((lists : List (List Effect)) → ShelvingBreaks asked start lists old new)

-- All of these entries were logged on a log and kept; or one was refused, and nothing was kept; or a front of them is kept.
abbrev pub KeepsAll : ℕ → List ℕ → List (List Effect) → Log → Result (Option Ending) ShelvingStop → Option Images → Option Images → Type 0
KeepsAll number name lists log (Ok None) images now =
    (kept : Log) × (appended_all lists log ≡ Ok kept) × IsKept now name number kept
KeepsAll number name lists log (Ok (Some ending)) images now =
    (refusal : LogError) × (ending ≡ ends.Unlogged refusal) × (appended_all lists log ≡ Err refusal) × (now ≡ images)
KeepsAll number name lists log (Err stop) images now =
    IsBreak stop × ((count : ℕ) × (kept : Log) × (appended_all (take count lists) log ≡ Ok kept) × IsKept now name number kept)
    × RefusesEntries name number lists log images now

-- the entries are kept behind the rows that were pulled; or it came to this end, or was stopped so
abbrev pub LogsTo : Shelving → Log → List (List Effect) → Result (Option Ending) ShelvingStop → Standing → Standing → Type 0
LogsTo asked start lists (Ok None) old new = EndsKept asked start lists old new
LogsTo asked start lists (Ok (Some ending)) old new = (stuck : Log) → EndsBehind asked stuck start lists ending old new
LogsTo asked start lists (Err stop) old new = IsBreak stop × ShelvingBreaks asked start lists old new

-- the end that came behind the pull, or what a stop left
abbrev pub GoesTo : Shelving → Log → Log → List (List Effect) → Result Ending ShelvingStop → Standing → Standing → Type 0
GoesTo asked stuck start lists (Ok ending) old new = EndsBehind asked stuck start lists ending old new
GoesTo asked stuck start lists (Err stop) old new = IsBreak stop × ShelvingBreaks asked start lists old new

-- a shelving came to this end, or was stopped so
abbrev pub EndsSo : Shelving → Result Ending ShelvingStop → Standing → Standing → Type 0
EndsSo asked (Ok ending) old new = ComesToEnd asked ending old new
EndsSo asked (Err stop) old new =
    ((stop ≡ Image) × IsStoredOther old.images asked.image asked.client × (new ≡ old)) ⊎ (IsBreak stop × Stops asked old new)
