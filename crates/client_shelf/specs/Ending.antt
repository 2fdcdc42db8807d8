-- How a shelving ends, and what it leaves, by its status.
use Rattle.std.specs.Prelude.{◌≡◌, ◌==◌, ◌⊎◌, ℕ, ◌≤◌, Bool, List, [], ◌∷◌, ◌++◌, length, take, map, Option, Ok, Err, IsTrue}
use Rattle.std.specs.List.{list_any}
use Rattle.outside.specs.Outside.{Told, Adds, RisesWhere}
use Rattle.outside.specs.Keeper.{Images, IsPut, followed_by}
use Rattle.outside.specs.declared.sink.Sink.{Ghosts as SinkWords}
use Rattle.outside.specs.declared.keeper.Keeper.{Ghosts as KeeperWords}
use Rattle.tree_values.specs.Tree.{Volume}
use Rattle.tree_values.specs.declared.node.Effect.{Effect}
use Rattle.mod_log.specs.declared.log.LogError.{LogError}
use Rattle.mod_log.specs.Log.{Log, new_log_of}
use Rattle.store_image.specs.declared.record.ClientRecord.TheVariants.{Logged}
use Rattle.store_image.specs.Records.{client_records}
use Rattle.store_image.specs.Spelling.{client as client_image}
use Rattle.world_rules.specs.declared.asking.Ask.{Ask}
use Rattle.world_rules.specs.declared.link.Link.{Ghosts as LinkWords}
use Rattle.world_rules.specs.Telling.{LinkTelling, ToldWorlds, HadTroubles}
use Rattle.world_rules.specs.Settling.{failed_asks}
use Rattle.world_rules.specs.InStep.{InStep}
use Rattle.client_core.specs.declared.pulling.PullEnd.{PullEnd}
use Rattle.client_core.specs.declared.pulling.PullEnd.TheVariants as pulls
use Rattle.client_core.specs.Trace.{Trace}
use Rattle.client_core.specs.Pulling.{PullTurn, BreaksPull}
use Rattle.client_core.specs.Keeping.{IsKept, OthersStay, StaysSmall, StaysOrPuts}
use Rattle.client_core.specs.Honest.{IsTruePull}
use Rattle.conflict_shelf.specs.Shelf.{names_in}
use Rattle.client_shelf.specs.declared.ends.Ending.{Ending}
use Rattle.client_shelf.specs.declared.ends.Ending.TheVariants as ends
use Rattle.client_shelf.specs.Shelving.{Shelving, new_route, IsAbsent, IsStored, IsStoredOther, IsUnused, IsUsed}
use Rattle.client_shelf.specs.Shelving.{planned, appended_all, Plans}
use Rattle.client_shelf.specs.Texts.{ending_text}

-- what is kept under each name, and what the link tells of itself, at one moment
pub record Standing : Type 0 where
  pub images : Option Images
  pub link : LinkTelling

-- by what a keeper and a link tell of themselves
abbrev pub standing_of : {K L : Type 0} → KeeperWords K → LinkWords L → K → L → Standing
standing_of keepers links keeper link = record { images = keepers.images keeper; link = links.tells link }

-- other names have what they had, and this one what it had, or no more bytes than may be kept of a client
abbrev pub ChangesOnly : List ℕ → Images → Images → Type 0
ChangesOnly name old new = OthersStay name old new × StaysSmall name old new

-- ---- what becomes of the new client

-- A pull of the new client, whose log was `start`, ended so: its log is `after` then, and these asks were made.
abbrev pub Pulls : Shelving → Log → PullEnd → Log → List Ask → Type 0
Pulls asked start end after asks =
    (trace : Trace) × PullTurn asked.new_client (new_route asked) start end after trace × (asks ≡ trace.asks)

-- it took as the base the rows with which the last ask was answered
abbrev pub PullsRows : Shelving → Log → Volume → List Ask → Type 0
PullsRows asked start seen asks = (count : ℕ) × Pulls asked start (pulls.Pulled count) (new_log_of 0 seen) asks

-- all that is kept is as before, or the whole image of the client with this log was put under the name
abbrev pub StaysOrSaves : List ℕ → ℕ → Log → Option Images → Option Images → Type 0
StaysOrSaves name number log images now = StaysOrPuts name (client_image (record { client = number; log = log })) images now

-- it was broken off: all that is kept is as before, or, where it had taken rows, the new client's whole image on them was put there
abbrev pub PullBreaks : Shelving → Log → List Ask → Standing → Standing → Type 0
PullBreaks asked start asks old new =
    (after : Log) × (trace : Trace) × BreaksPull asked.new_client (new_route asked) start after trace × (asks ≡ trace.asks)
    × (trace.changes ≡ [] → new.images ≡ old.images) × StaysOrSaves asked.new_image asked.new_client after old.images new.images

-- All that is kept is as before. Or all of these entries were logged behind the log, and keeping them was refused: the whole image with them
-- was put under the name, or a front of their records behind what stood there.
abbrev pub RefusesEntries : List ℕ → ℕ → List (List Effect) → Log → Option Images → Option Images → Type 0
RefusesEntries name number lists log images now =
    (now ≡ images) ⊎ ((all : Log) × (appended_all lists log ≡ Ok all)
    × (StaysOrSaves name number all images now
    ⊎ ((count : ℕ) × Told images now
    (λ old new. IsPut name (followed_by (take count (client_records (map Logged all.pending))) (old name)) old new))))

-- Which bytes a shelving leaves that was broken off once it had pulled these rows: first those before, or the new client's whole image on
-- the rows; then these, or what a refused keeping of the entries makes of them.
abbrev pub LeavesBytes : Shelving → List (List Effect) → Volume → Standing → Standing → Type 0
LeavesBytes asked lists seen old new =
    (middle : Option Images) × StaysOrSaves asked.new_image asked.new_client (new_log_of 0 seen) old.images middle
    × RefusesEntries asked.new_image asked.new_client lists (new_log_of 0 seen) middle new.images

-- Where the new client's log was `start`, and these asks were made, `kept` is kept of it. The troubles of the link rose by at least the
-- asks that failed. Where it tells its world, that noted just these asks, and what is kept is in step with it, if the log was at first.
pub record LeavesShelved (asked : Shelving) (start kept : Log) (asks : List Ask) (old new : Standing) : Type 0 where
  pub kept_is : IsKept new.images asked.new_image asked.new_client kept
  pub rose : HadTroubles (failed_asks asks) old.link new.link
  pub told : ToldWorlds old.link new.link
      (λ before after. (after.asks ≡ before.asks ++ asks) × (InStep asked.new_client start before → InStep asked.new_client kept after))

-- The pull took no rows, and ended so. What is kept is as before. Where the log was in step with a world that is told, the server had no
-- other last number of the client, and where the link had no trouble no older rows.
pub record EndsPull (asked : Shelving) (start : Log) (end : PullEnd) (old new : Standing) : Type 0 where
  pub asks : List Ask
  pub pulls : Pulls asked start end start asks
  pub same : new.images ≡ old.images
  pub leaves : LeavesShelved asked start start asks old new
  pub true_pull : ToldWorlds old.link new.link
      (λ before after. InStep asked.new_client start before → IsTruePull old.link.troubles new.link.troubles end)

-- The rows were pulled, and the log refused one of these entries. What the pull kept is kept.
pub record EndsLogging (asked : Shelving) (start : Log) (lists : List (List Effect)) (refusal : LogError) (old new : Standing) :
    Type 0 where
  pub asks : List Ask
  pub seen : Volume
  pub pulls : PullsRows asked start seen asks
  pub refused : appended_all lists (new_log_of 0 seen) ≡ Err refusal
  pub leaves : LeavesShelved asked start (new_log_of 0 seen) asks old new

-- The rows were pulled, these entries are pending behind them, and this is kept.
pub record EndsKept (asked : Shelving) (start : Log) (lists : List (List Effect)) (old new : Standing) : Type 0 where
  pub asks : List Ask
  pub seen : Volume
  pub pulls : PullsRows asked start seen asks
  pub kept : Log
  pub logged : appended_all lists (new_log_of 0 seen) ≡ Ok kept
  pub leaves : LeavesShelved asked start kept asks old new

-- What is kept is the log from before, and the pull was broken off; or it is a front of these entries behind the rows that were pulled.
abbrev pub KeepsFront : Shelving → Log → List (List Effect) → Log → List Ask → Standing → Standing → Type 0
KeepsFront asked start lists kept asks old new =
    ((kept ≡ start) × PullBreaks asked start asks old new)
    ⊎ ((seen : Volume) × (count : ℕ) × PullsRows asked start seen asks × (appended_all (take count lists) (new_log_of 0 seen) ≡ Ok kept)
    × LeavesBytes asked lists seen old new)

-- The pull was begun, and it, the logging or the keeping broken off.
pub record ShelvingBreaks (asked : Shelving) (start : Log) (lists : List (List Effect)) (old new : Standing) : Type 0 where
  pub asks : List Ask
  pub kept : Log
  pub front : KeepsFront asked start lists kept asks old new
  pub leaves : LeavesShelved asked start kept asks old new

-- ---- the ends

-- which of the ends before the pull is due: the first that holds
abbrev pub IsDue : Shelving → Option Images → Ending → Type 0
IsDue asked images ends.NoImage = IsAbsent images asked.image
IsDue asked images ends.NewImage =
    (stuck : Log) × IsStored images asked.image asked.client stuck × IsUsed images asked.new_image asked.new_client
IsDue asked images ending =
    (stuck start : Log) × IsStored images asked.image asked.client stuck × IsKept images asked.new_image asked.new_client start
    × IsUnused start × (planned asked.folder stuck.pending ≡ Err ending)

-- How the ends behind the pull come. At the last one the number of pending entries of the stuck log is told, and which contents they put.
abbrev pub EndsBehind : Shelving → Log → Log → List (List Effect) → Ending → Standing → Standing → Type 0
EndsBehind asked stuck start lists ends.Unanswered old new = EndsPull asked start pulls.Unanswered old new
EndsBehind asked stuck start lists (ends.OtherLast last) old new = EndsPull asked start (pulls.OtherLast last 0) old new
EndsBehind asked stuck start lists (ends.Older path theirs ours) old new = EndsPull asked start (pulls.Older path theirs ours) old new
EndsBehind asked stuck start lists (ends.Unlogged refusal) old new = EndsLogging asked start lists refusal old new
EndsBehind asked stuck start lists (ends.Shelved entries names) old new =
    EndsKept asked start lists old new × (entries ≡ length stuck.pending) × (names ≡ names_in stuck.pending)
EndsBehind asked stuck start lists ending old new = ⊥

-- no end before the pull was due, and this came of the stuck log, of that of the new client, and of the entries that it was to log
pub record GoesOnShelving (asked : Shelving) (images : Option Images) (what : Log → Log → List (List Effect) → Type 0) : Type 0 where
  pub stuck : Log
  pub start : Log
  pub lists : List (List Effect)
  pub plans : Plans asked images stuck start lists
  pub came : what stuck start lists

-- A shelving came to this end: it was due before the pull, and nothing was kept or asked; or it came behind that.
abbrev pub ComesToEnd : Shelving → Ending → Standing → Standing → Type 0
ComesToEnd asked ending old new =
    (IsDue asked old.images ending × (new ≡ old))
    ⊎ GoesOnShelving asked old.images (λ stuck start lists. EndsBehind asked stuck start lists ending old new)

-- It was stopped before it came to an end: a load or a keeping was refused, or memory ran out.
abbrev pub Stops : Shelving → Standing → Standing → Type 0
Stops asked old new = (new ≡ old) ⊎ GoesOnShelving asked old.images (λ stuck start lists. ShelvingBreaks asked start lists old new)

-- ---- by the status

-- What the objects that a shelving is given tell at one moment: the text of the output, what is kept and what the link tells, and how often
-- the sink and the keeper failed.
pub record Moment : Type 0 where
  pub written : Option (List ℕ)
  pub stands : Standing
  pub sink_faults : ℕ
  pub keeper_faults : ℕ

-- by what each of them tells of itself
abbrev pub moment_of : {O K L : Type 0} → SinkWords O → KeeperWords K → LinkWords L → O → K → L → Moment
moment_of sinks keepers links sink keeper link = record {
  written = sinks.written sink;
  stands = standing_of keepers links keeper link;
  sink_faults = sinks.faults sink;
  keeper_faults = keepers.faults keeper;
}

-- the statuses that a shelving may give
abbrev pub is_shelf_status : ℕ → Bool
is_shelf_status status = list_any (λ known. known == status) (0 ∷ 4 ∷ 5 ∷ 6 ∷ 7 ∷ [])

-- the whole text was written, or a front of it, since the sink failed or memory ran out
abbrev pub WritesEnding : ℕ → List ℕ → Option (List ℕ) → Option (List ℕ) → Type 0
WritesEnding status text old new =
    ((status ≡ 0) × Adds old new text)
    ⊎ (((status ≡ 4) ⊎ (status ≡ 7)) × ((count : ℕ) × (count ≤ length text) × Adds old new (take count text)))

-- By its status: it came to an end, whose text was written. Or bytes are kept under the image's name, and for no log of the client, or it
-- was stopped; then nothing was written.
abbrev pub ComesTo : Shelving → ℕ → Moment → Moment → Type 0
ComesTo asked status old new =
    ((ending : Ending) × ComesToEnd asked ending old.stands new.stands × WritesEnding status (ending_text ending) old.written new.written)
    ⊎ ((status ≡ 6) × IsStoredOther old.stands.images asked.image asked.client × (new.stands ≡ old.stands) × (new.written ≡ old.written))
    ⊎ (((status ≡ 5) ⊎ (status ≡ 7)) × Stops asked old.stands new.stands × (new.written ≡ old.written))

-- What a shelving leaves that ends with this status.
pub record ShelveEnds (asked : Shelving) (status : ℕ) (old new : Moment) : Type 0 where
  pub known : IsTrue (is_shelf_status status)
  -- the sink failed once where that ended it, and else never; and so did the keeper
  pub sink : RisesWhere (status ≡ 4) old.sink_faults new.sink_faults
  pub keeper : RisesWhere (status ≡ 5) old.keeper_faults new.keeper_faults
  pub later : old.stands.link.troubles ≤ new.stands.link.troubles
  -- under the first name stands what stood there, and under all others but the second, too
  pub image : Told old.stands.images new.stands.images (λ before after. after asked.image ≡ before asked.image)
  pub others : Told old.stands.images new.stands.images (ChangesOnly asked.new_image)
  pub came : ComesTo asked status old new
