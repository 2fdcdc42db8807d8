-- Words that only the contracts of private functions cite.
use Rattle.std.specs.Prelude.{◌≡◌, ◌≢◌, ◌⊎◌, ℕ, ◌+◌, ◌<◌, ◌≤◌, nat_lt, Bool, true, false}
use Rattle.std.specs.Prelude.{List, [], length, Option, None, Some, is_some, IfSome, find, IsOk}
use Rattle.std.specs.Prelude.{Result, Ok, Err}
use Rattle.std.specs.declared.alloc.AllocError.{AllocError}
use Rattle.tree_values.specs.Tree.{Volume, version_at}
use Rattle.tree_values.specs.declared.node.Row.{Row}
use Rattle.tree_values.specs.declared.node.Effect.{Effect}
use Rattle.tree_values.specs.Effects.{contents_size}
use Rattle.outside.specs.Outside.{Told}
use Rattle.outside.specs.Keeper.{Images}
use Rattle.outside.specs.declared.errors.KeepError.{KeepError}
use Rattle.cmd_capture.specs.declared.command.Command.{Command}
use Rattle.cmd_capture.specs.declared.job.Job.{Job}
use Rattle.cmd_capture.specs.declared.job.Outcome.{Outcome}
use Rattle.cmd_capture.specs.declared.runner.Run.{Run}
use Rattle.cmd_capture.specs.declared.runner.RunError.{RunError}
use Rattle.cmd_capture.specs.declared.runner.RunError.TheVariants as run_errors
use Rattle.cmd_capture.specs.Rows.{AreLegal}
use Rattle.work_area.specs.declared.jobs.JobError.{JobError}
use Rattle.work_area.specs.declared.jobs.JobError.TheVariants as job_errors
use Rattle.work_area.specs.declared.rows.RowsFault.{RowsFault}
use Rattle.work_area.specs.declared.rows.RowsFault.TheVariants as rows_faults
use Rattle.wire_frames.specs.declared.message.Message.{Message}
use Rattle.wire_frames.specs.declared.message.Message.TheVariants.{Snapshot, Done}
use Rattle.mod_log.specs.declared.log.Entry.{Entry}
use Rattle.mod_log.specs.declared.sketching.SketchEntry.{SketchEntry}
use Rattle.mod_log.specs.Log.{Log, acknowledged}
use Rattle.store_image.specs.declared.image.TheConstants.{MAX_CLIENT_IMAGE}
use Rattle.store_image.specs.declared.record.ClientRecord.{ClientRecord}
use Rattle.store_image.specs.Image.{IsKeptWholeFor}
use Rattle.store_image.specs.Records.{client_records, with_records, AreNotes}
use Rattle.world_rules.specs.declared.asking.Peer.TheVariants.{Server, Surrogate}
use Rattle.world_rules.specs.declared.asking.Ask.{Ask}
use Rattle.world_rules.specs.Telling.{LinkTelling, ToldWorlds, HadTroubles}
use Rattle.world_rules.specs.Settling.{failed_asks, Settled, IsSettling, BreaksSettling}
use Rattle.world_rules.specs.Run.{Runs, kept_at}
use Rattle.client_core.specs.declared.keeping.Journal.{Journal}
use Rattle.client_core.specs.declared.keeping.Piece.{Piece}
use Rattle.client_core.specs.declared.route.Route.{Route}
use Rattle.client_core.specs.declared.window.WindowRoom.{WindowRoom}
use Rattle.client_core.specs.declared.pulling.PullEnd.{PullEnd}
use Rattle.client_core.specs.declared.pulling.PullEnd.TheVariants.{Pulled, KeepFault, Memory}
use Rattle.client_core.specs.declared.pulling.Pulling.{Pulling}
use Rattle.client_core.specs.declared.pulling.Pulling.TheVariants.{Replaced, Ended}
use Rattle.client_core.specs.declared.running.RunEnd.{RunEnd}
use Rattle.client_core.specs.declared.running.RunEnd.TheVariants as runs
use Rattle.client_core.specs.Syncing.{store_of, IsLight, SettlesOperation, StoreIsDue, IsWindow, Ships, BreaksShipping}
use Rattle.client_core.specs.Pulling.{Meets, IsKeptBase}
use Rattle.client_core.specs.Running.{changes_of, first_clash, IsLoggable, RanEnd}
use Rattle.client_core.specs.Journal.{next_notes, bytes_after, journal_after}
use Rattle.client_core.specs.Keeping.{KeepsNext}
use Rattle.client_core.specs.Causes.{TakesRows}

-- ---- shipping

-- Between two moments of a link just such asks were made for the first entries of a log. Where the link tells its world, that went on by
-- possible moves, in which these asks are noted, beside this log.
pub record AskedFor (client : ℕ) (route : Route) (log : Log) (Made : List Ask → Type 0) (old new : LinkTelling) : Type 0 where
  pub asks : List Ask
  pub made : Made asks
  pub rose : HadTroubles (failed_asks asks) old new
  pub told : ToldWorlds old new (λ v w. Runs client (is_some route.surrogate) [] asks (kept_at log v) (kept_at log w))

-- whether a reply says that an operation is done
abbrev pub says_done : Option Message → Bool
says_done (Some (Done client number)) = true
says_done reply = false

-- whether the operation is done, or want of memory
abbrev pub done_of : Result (Option Message) AllocError → Result Bool AllocError
done_of (Ok reply) = Ok (says_done reply)
done_of (Err error) = Err error

-- an operation was settled with the surrogate, and the result tells whether it is done
abbrev pub TellsDone : List ℕ → Message → LinkTelling → LinkTelling → Result Bool AllocError → Type 0
TellsDone address operation old new result =
    (came : Result (Option Message) AllocError) × Settled Surrogate address operation old new came × (result ≡ done_of came)

-- the entry is light
abbrev pub IsLightEntry : ℕ → Route → Entry → Type 0
IsLightEntry client route entry = (address : List ℕ) × (sketched : SketchEntry) × IsLight client route entry address sketched

-- whatever the client's number is
abbrev pub ForEachClient : (ℕ → Type 0) → Type 0
ForEachClient Holds = (client : ℕ) → 1 ≤ client → client ≤ 64 → Holds client

-- so many of the first pending entries are the window
abbrev pub IsWindowOf : Route → List Entry → ℕ → Type 0
IsWindowOf route pending count =
    ForEachClient (λ client. (chosen : List Entry) × IsWindow client route pending chosen × (count ≡ length chosen))

-- the room that one more entry leaves, or there is none for it
abbrev pub LeavesRoom : WindowRoom → Entry → Option WindowRoom → Type 0
LeavesRoom room entry None = (room.effects < length entry.effects) ⊎ (room.content < contents_size entry.effects)
LeavesRoom room entry (Some left) =
    (length entry.effects + left.effects ≡ room.effects) × (contents_size entry.effects + left.content ≡ room.content)

-- what was asked for an operation: it is done, or its store is due, or it was broken off
abbrev pub OperatesTo : ℕ → Route → List Entry → Entry → Result Bool AllocError → List Ask → Type 0
OperatesTo client route pending entry (Ok true) asks = SettlesOperation client route entry (Some (Done client entry.seq)) asks
OperatesTo client route pending entry (Ok false) asks = StoreIsDue client route entry asks
OperatesTo client route pending entry (Err error) asks = (asks ≡ []) ⊎ BreaksShipping client route pending entry asks

-- the store of the window of what is pending was settled with the server, or that was broken off
abbrev pub SettlesWindow : ℕ → Route → List Entry → Entry → Result (Option Message) AllocError → List Ask → Type 0
SettlesWindow client route pending entry (Err error) asks =
    (asks ≡ []) ⊎ ((chosen : List Entry) × IsWindow client route pending chosen
    × BreaksSettling Server route.server (store_of client entry.seq chosen) asks)
SettlesWindow client route pending entry (Ok came) asks =
    (chosen : List Entry) × IsWindow client route pending chosen
    × IsSettling Server route.server (store_of client entry.seq chosen) came asks

-- what was asked where shipping came to this, or was broken off
abbrev pub ShipsTo : ℕ → Route → List Entry → Entry → Result (Option Message) AllocError → List Ask → Type 0
ShipsTo client route pending entry (Ok came) asks = Ships client route pending entry came asks
ShipsTo client route pending entry (Err error) asks = (asks ≡ []) ⊎ BreaksShipping client route pending entry asks

-- ---- pulling

-- whether the seen rows have a lower version at the row's path
abbrev pub is_lower : Volume → Row → Bool
is_lower seen row = nat_lt (version_at seen row.path) row.version

-- the first row of the base at whose path the seen rows have a lower version
abbrev pub first_lower : Volume → Volume → Option Row
first_lower base seen = find (is_lower seen) base

-- how a pull ends, if what is to be kept can be
abbrev pub end_of : Pulling → PullEnd
end_of (Replaced count) = Pulled count
end_of (Ended end) = end

-- the base was replaced just where rows were taken that are not kept already
abbrev pub ReplacesUnkept : Log → Volume → Pulling → Type 0
ReplacesUnkept before seen (Replaced count) = IsKeptBase before seen → ⊥
ReplacesUnkept before seen (Ended (Pulled count)) = IsKeptBase before seen
ReplacesUnkept before seen (Ended end) = Unit {0}

-- what a log makes of a snapshot, where memory may have been wanted before it changed
abbrev pub MeetsEnds : Log → ℕ → Volume → Pulling → Log → Type 0
MeetsEnds before last seen came after =
    (Meets before last seen (end_of came) after × ReplacesUnkept before seen came) ⊎ ((came ≡ Ended Memory) × (after ≡ before))

-- what a pull leaves before it keeps anything: other rows of the server as base, or the log as before
abbrev pub PullLeaves : Pulling → Log → Log → Type 0
PullLeaves (Replaced count) before after = (before.pending ≡ []) × TakesRows before after × (IsKeptBase before after.base → ⊥)
PullLeaves (Ended (Pulled count)) before after = (after ≡ before) × IsKeptBase before after.base
PullLeaves (Ended KeepFault) before after = ⊥
PullLeaves (Ended end) before after = after ≡ before

-- what a snapshot tells: the client's last number at the server, and the rows
abbrev pub snapshot_of : Option Message → Option (ℕ × Volume)
snapshot_of (Some (Snapshot client number last rows)) = Some (last, rows)
snapshot_of reply = None

-- ---- commands

-- the run of a job that gave the outcome
abbrev pub ran : List ℕ → Job → Outcome → Run
ran work job outcome = record { work = work; job = job; outcome = outcome }

-- what is made of a run, where memory may be wanted before the log changed
abbrev pub RanEnds : Command → Log → Run → RunEnd → Log → Type 0
RanEnds command before run end after = RanEnd command before run end after ⊎ ((end ≡ runs.Memory) × (after ≡ before))

-- the changes that are to be logged; else what is made of the run, whatever the command
abbrev pub IsToLog : Log → Run → Result (List Effect) RunEnd → Type 0
IsToLog log run (Ok effects) = IsLoggable log run × (effects ≡ changes_of run)
IsToLog log run (Err end) = (command : Command) → RanEnds command log run end log

-- how a run ends whose changes are not logged
abbrev pub IsUnlogged : Log → Run → Option RunEnd → Type 0
IsUnlogged log run None = (changes_of run ≢ []) × (first_clash log run ≡ None)
IsUnlogged log run (Some end) = AreLegal run.outcome.rows → (command : Command) → RanEnds command log run end log

-- how it ends where the runner gives no outcome
abbrev pub unrun_end : RunError → RunEnd
unrun_end run_errors.Failed = runs.NotRun
unrun_end run_errors.Memory = runs.Memory

-- how it ends where there is no job
abbrev pub jobless_end : JobError → RunEnd
jobless_end job_errors.Memory = runs.Memory
jobless_end fault = runs.NoJob fault

-- how it ends where there are no legal rows
abbrev pub odd_end : RowsFault → RunEnd
odd_end rows_faults.Memory = runs.Memory
odd_end (rows_faults.OddTree i) = runs.OddTree i

-- ---- keeping

-- what stands under a name is kept, without a torn tail, for a log that the notes lead to this one
pub record LeadsTo (number : ℕ) (log : Log) (notes : List ClientRecord) (found : Option (List ℕ)) : Type 0 where
  pub bytes : List ℕ
  pub stands : found ≡ Some bytes
  pub base : Log
  pub whole : IsKeptWholeFor number base bytes
  pub noted : AreNotes base notes
  pub leads : with_records base notes ≡ log

-- what a keeping that adds notes finds under the name, where the keeper tells its images
abbrev pub MayKeep : Option (List ClientRecord) → Option Images → List ℕ → ℕ → Log → Type 0
MayKeep None images name number log = Unit {0}
MayKeep (Some notes) None name number log = Unit {0}
MayKeep (Some notes) (Some images) name number log = LeadsTo number log notes (images name)

-- what stands under the name has no more bytes than the largest image and so many of records, where the keeper tells its images
abbrev pub IsWithin : Option Images → List ℕ → ℕ → Type 0
IsWithin None name records = Unit {0}
IsWithin (Some images) name records = IfSome (images name) (λ bytes. length bytes ≤ MAX_CLIENT_IMAGE + records)

-- no more than the largest image and the records that the journal counts
abbrev pub IsCountedBy : Option Images → List ℕ → Option Journal → Type 0
IsCountedBy images name None = Unit {0}
IsCountedBy images name (Some journal) = IsWithin images name journal.bytes

-- the piece is the records of the notes, and with them all records have so many bytes; there is none where the image is to be saved
abbrev pub IsPiece : Option Journal → Option (List ClientRecord) → Option Piece → Type 0
IsPiece journal None None = Unit {0}
IsPiece journal (Some notes) (Some piece) = (piece.records.items ≡ client_records notes) × (piece.bytes ≡ bytes_after (Some notes) journal)
IsPiece journal notes piece = ⊥

-- Entries up to this number are acknowledged, and the log then is kept. Where they were acknowledged before, nothing is done.
abbrev pub KeepsUpto : List ℕ → ℕ → Log → ℕ → Option Journal → Option Journal
    → Result (Unit {0}) KeepError → Option Images → Option Images → Type 0
KeepsUpto name client log upto journal journal_now result images now =
    ((upto ≡ log.acked) × IsOk result × (journal_now ≡ journal) × (now ≡ images))
    ⊎ ((log.acked < upto) × Told images now
    (KeepsNext name client (acknowledged upto log) (next_notes journal true (acknowledged upto log)) result)
    × (journal_now ≡ journal_after journal (next_notes journal true (acknowledged upto log)) (acknowledged upto log) result))
