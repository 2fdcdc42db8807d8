-- What a whole run of a client leaves at the server and under its name, whatever the network lost, repeated or reordered.
use Rattle.std.specs.Prelude.{◌≡◌, ◌≢◌, ◌⊎◌, ℕ, true, ◌+◌, ◌*◌, ◌-◌, ◌≤◌, List, [], ◌++◌, length, drop, Option, None, Some, is_some, Result}
use Rattle.std.specs.List.{count_by}
use Rattle.outside.specs.Outside.{Told, RoseBy, Rose}
use Rattle.outside.specs.Keeper.{Images}
use Rattle.file_paths.specs.Path.{FilePath}
use Rattle.tree_values.specs.Tree.{version_at}
use Rattle.tree_values.specs.Lists.{IsIn}
use Rattle.mod_log.specs.declared.log.Entry.{Entry}
use Rattle.mod_log.specs.Log.{Log, IsLog, tree_at}
use Rattle.mod_log.specs.declared.sketching.SketchEntry.{SketchEntry}
use Rattle.wire_frames.specs.declared.message.Message.TheVariants.{Operate}
use Rattle.world_rules.specs.declared.asking.Ask.{Ask}
use Rattle.world_rules.specs.World.{World}
use Rattle.world_rules.specs.Settling.{max_asks}
use Rattle.world_rules.specs.Telling.{LinkTelling, ToldWorlds, HadTroubles}
use Rattle.world_rules.specs.InStep.{ahead, InStep, HasNoCollision, HasNoOperation}
use Rattle.world_rules.specs.Served.{TakenEntry}
use Rattle.world_rules.specs.Run.{own, entries_between, AreAllOf, OthersSpare, IsSameAt}
use Rattle.cmd_capture.specs.Runs.{RunnerTelling}
use Rattle.client_lines.specs.declared.input.InputEnd.{InputEnd}
use Rattle.client_lines.specs.declared.run.Stop.{Stop}
use Rattle.client_core.specs.declared.route.Route.{Route}
use Rattle.client_core.specs.Trace.{Trace, last_log}
use Rattle.client_core.specs.Keeping.{IsKept}
use Rattle.client_core.specs.Noting.{AreRecorded, TakesNoRows}
use Rattle.client_core.specs.Goes.{Goes}
use Rattle.client_core.specs.Honest.{IsOvertaken}
use Rattle.client_core.specs.Licence.{AreLicensed}
use Rattle.shell_lang.specs.declared.answer.LineAnswer.{LineAnswer}
use Rattle.shell_lang.specs.declared.answer.LineAnswer.TheVariants.{Behind, OtherLast, Older}
use Rattle.client_session.specs.Session.{SessionState, opened, LeavesPending, is_unrun, is_unanswered}
use Rattle.client_session.specs.Laws.{IsOfRoute}
use Rattle.client_lines.specs.Run.{WholeRun, status_of}

-- the number of the client's last entry that the server took
abbrev pub last_taken : ℕ → World → ℕ
last_taken client world = world.served.last client

-- What a run leaves that began with this log in step: `log` is the client's in memory at the end, `kept` is the one that is kept, and
-- `entries` are those that were logged in the run, in order.
pub record Leaves (client : ℕ) (start log kept : Log) (entries : List Entry) (old new : World) : Type 0 where
  -- the entries that the server took in the run, in order
  pub taken : List TakenEntry
  pub since : new.taken ≡ old.taken ++ taken
  -- the server's last entry is not before the acknowledged one, at most eight behind it, and none that is not kept
  pub not_lower : kept.acked ≤ last_taken client new
  pub not_higher : last_taken client new ≤ kept.acked + ahead
  pub within : last_taken client new ≤ kept.acked + length kept.pending
  -- what is pending in memory are the entries after the acknowledged one, of those that were pending and those that were logged
  pub pending : log.pending ≡ drop (log.acked - start.acked) (start.pending ++ entries)
  -- of the client's entries the server took those after the last that it had, up to that one, in order and each once
  pub once : own client taken ≡ entries_between client start.acked (last_taken client old) (last_taken client new)
      (start.pending ++ entries)
  -- at each path whose version was, when the run began, that of the client's tree after its last taken entry, and that no other client
  -- wrote in it, the server holds what the kept tree was after that entry: the node, and the version, which counts the writes
  pub spared : (path : FilePath) → version_at old.served.volume path ≡ version_at (tree_at (last_taken client old) start) path
      → OthersSpare client path taken → IsSameAt client kept new path
  -- where the server held the client's tree after its last taken entry, and nobody else wrote, it holds the kept tree after that entry
  pub alone : old.served.volume ≡ tree_at (last_taken client old) start → AreAllOf client taken
      → new.served.volume ≡ tree_at (last_taken client new) kept

-- What a run leaves for the next one: what is kept and the world fit together, so that a run may begin there, and so does the log in
-- memory.
pub record MayGoOn (client : ℕ) (log kept : Log) (new : World) : Type 0 where
  pub in_step : InStep client kept new
  pub in_memory : InStep client log new

-- what the objects that a run is given tell at one moment: the bytes that are left of the input, the text of the output, what is
-- kept under each name, the runner's runs and faults, and what the link tells of itself
pub record Around : Type 0 where
  pub left : Option (List ℕ)
  pub written : Option (List ℕ)
  pub images : Option Images
  pub runner : RunnerTelling
  pub link : LinkTelling

-- What a run is in the worlds of its two moments, where the client's log was `start` and at the end is `last`, and `kept` is kept: what the
-- world notes of it, and what it leaves and answers where `start` was in step.
pub record WorldRan (client : ℕ) (route : Route) (start last kept : Log) (trace : Trace) (answers : List (Option LineAnswer))
    (troubles now : ℕ) (old new : World) : Type 0 where
  -- the world notes just the asks of the session
  pub asked : new.asks ≡ old.asks ++ trace.asks
  -- where it has no surrogate it sends no operation: each of its operations among the packets was there before
  pub unoperated : route.surrogate ≡ None → InStep client start old → (sketched : SketchEntry)
      → IsIn (Operate client sketched) new.packets → IsIn (Operate client sketched) old.packets
  -- so where none was there before, no content that was sent is taken for another
  pub apart : route.surrogate ≡ None → InStep client start old → HasNoOperation client old.packets
      → HasNoCollision client (start.pending ++ trace.entries) new.packets
  -- what it leaves where no content that was sent is taken for another
  pub leaves : InStep client start old → HasNoCollision client (start.pending ++ trace.entries) new.packets
      → Leaves client start last kept trace.entries old new
  -- then the next run may begin there, too
  pub goes_on : InStep client start old → HasNoCollision client (start.pending ++ trace.entries) new.packets → MayGoOn client last kept new
  -- to a client whose log was in step the server is never behind
  pub honest : InStep client start old → HasNoCollision client (start.pending ++ trace.entries) new.packets → (seq last : ℕ)
      → IsIn (Some (Behind seq last)) answers → ⊥
  -- no pull of it meets another last number there
  pub same_last : InStep client start old → HasNoCollision client (start.pending ++ trace.entries) new.packets → (last : ℕ)
      → IsIn (Some (OtherLast last)) answers → ⊥
  -- and none meets older rows, where the link had no trouble
  pub fresh : InStep client start old → HasNoCollision client (start.pending ++ trace.entries) new.packets → (Rose troubles now → ⊥)
      → (path : FilePath) (theirs ours : ℕ) → IsIn (Some (Older path theirs ours)) answers → ⊥
  -- where the client's tree after its last taken entry was served, nobody else wrote, and the link had no trouble, every sync came
  -- through
  pub calm : (begun : InStep client start old) (distinct : HasNoCollision client (start.pending ++ trace.entries) new.packets)
      → old.served.volume ≡ tree_at (last_taken client old) start → AreAllOf client (leaves begun distinct).taken
      → (Rose troubles now → ⊥) → (answer : Option LineAnswer) → IsIn answer answers → LeavesPending answer → ⊥
  -- where no pull of it took rows, and no path is ahead of the client's tree at its end, every sync came through, or is answered
  -- `unanswered`
  pub complete : InStep client start old → HasNoCollision client (start.pending ++ trace.entries) new.packets → TakesNoRows trace
      → (IsOvertaken client last new → ⊥) → (answer : Option LineAnswer) → IsIn answer answers → LeavesPending answer
      → is_unanswered answer ≡ true

-- A run where this log was kept at the start, over any link: one session over the lines that were handled, in which the client, what is
-- kept of it and what the runner tells went on together. The runs that the runner tells grew by just those of the session, and the
-- troubles of the link rose by at least its asks that failed. Where the link tells its world, that went on with them.
pub record Ran (client : ℕ) (route : Route) (start : Log) (around around_now : Around) (status : ℕ) : Type 0 where
  pub ended : Result InputEnd Stop
  pub status_is : status ≡ status_of ended
  -- what was answered to the lines, in order
  pub answers : List (Option LineAnswer)
  pub after : SessionState
  -- what is kept at the end: the keeper's bytes are kept for it, and are as before where nothing was changed
  pub kept : Log
  pub goes : Goes client (is_some route.surrogate) route.image
      (WholeRun route (opened client start) around.left around_now.left answers around.written around_now.written ended after kept)
      start after.client.log kept around.images around_now.images around.runner around_now.runner around.link around_now.link
  -- it is the client's log after the last change, but where a keeping was refused or memory ran out, perhaps the one before that change
  pub kept_last : status ≢ 5 → status ≢ 7 → kept ≡ last_log start goes.trace.changes
  -- at status 0, 3 or 8, where no pull of it took rows, its changes are kept one by one: the first by an image, and each later
  -- one by a record behind it, as long as these records have no more bytes than they may
  pub records : status ≢ 4 → status ≢ 5 → status ≢ 7 → TakesNoRows goes.trace
      → Told around.images around_now.images (λ images now. AreRecorded client goes.trace.changes (images route.image) (now route.image))
  -- at most as many lines were answered `not run` as the runner failed in the run
  pub unrun : RoseBy (count_by is_unrun answers) around.runner.faults around_now.runner.faults
  -- each sync and each pull that is answered `unanswered` cost the link eight troubles
  pub unanswered : HadTroubles (max_asks * count_by is_unanswered answers) around.link around_now.link
  -- each ask of the session is of the server at its address, or of the surrogate at its address, where there is one
  pub peers : (ask : Ask) → IsIn ask goes.trace.asks → IsOfRoute route ask
  -- of the entries that were pending at the start, or were logged, each store that carries a light one was asked only once the entry's
  -- operation was declined in the run, or eight asks of it failed, and the entry is the store's first one
  pub licensed : IsLog start → AreLicensed client route (start.pending ++ goes.trace.entries) [] goes.trace.asks
  -- what it is in the world, where the link tells that
  pub told : ToldWorlds around.link around_now.link
      (WorldRan client route start after.client.log kept goes.trace answers around.link.troubles around_now.link.troubles)

-- What a run comes to over any keeper. Either no client was opened, and the status tells why: then nothing was read, written, kept,
-- run or asked. Or it ran from some log, which is kept under the name as far as the keeper tells.
abbrev pub RanFromSome : ℕ → Route → Around → Around → ℕ → Type 0
RanFromSome client route around around_now status =
    ((around_now ≡ around) × ((status ≡ 5) ⊎ (status ≡ 6) ⊎ (status ≡ 7)))
    ⊎ ((start : Log) × IsKept around.images route.image client start × Ran client route start around around_now status)
