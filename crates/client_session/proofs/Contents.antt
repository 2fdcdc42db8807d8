-- What the entries of a session write.
use Rattle.std.proofs.Common.{◌≡◌, inl, inr, ⊎_elim, ℕ, Bool, true, false, true≢false, List, [], ◌∷◌, ◌++◌, Option, Some, None, IsSome, Result, Ok, Err, refl, sym, ◌∙◌, ap, subst}
use Rattle.std.proofs.lemmas.List.Concat.{flat_map-cons}
use Rattle.std.specs.Prelude.{option_map, reverse, if◌then◌else◌}
use Rattle.std.specs.List.{filter_map, flat_map, cons_option}
use Rattle.std.specs.Option.{option_to_list}
use Rattle.rs_parity.specs.Sketches.{Distinct}
use Rattle.file_paths.specs.Path.{FilePath, path_of}
use Rattle.file_paths.specs.declared.path.PathError.{PathError}
use Rattle.tree_values.specs.Lists.{IsIn}
use Rattle.tree_values.specs.declared.node.Node.{Node}
use Rattle.tree_values.specs.declared.node.Node.TheVariants.{Folder, File}
use Rattle.tree_values.specs.declared.node.Effect.{Effect}
use Rattle.tree_values.specs.declared.node.Effect.TheVariants.{Put, Remove}
use Rattle.vol_tree.proofs.Behind.{IsIn-left, IsIn-right}
use Rattle.cmd_capture.specs.declared.command.Command.{Command}
use Rattle.cmd_capture.specs.declared.capturing.CaptureError.{CaptureError}
use Rattle.cmd_capture.specs.Capture.{capture, ok}
use Rattle.cmd_capture.specs.Rows.{read_row, read_rows}
use Rattle.cmd_capture.specs.declared.job.JobRow.{JobRow}
use Rattle.cmd_capture.specs.declared.job.RawRow.{RawRow}
use Rattle.cmd_capture.specs.declared.runner.Run.{Run}
use Rattle.work_area.specs.Changes.{is_gone, is_new, is_moded, removal_of, made, making, making_of, moding, mode_of, makings_of, changes}
use Rattle.mod_log.specs.declared.log.Entry.{Entry}
use Rattle.mod_log.specs.declared.log.LogError.{LogError}
use Rattle.mod_log.specs.Log.{Log}
use Rattle.mod_log.specs.Sketched.{WritesContent}
use Rattle.wire_frames.specs.declared.message.Message.{Message}
use Rattle.wire_frames.specs.declared.message.Message.TheVariants.{Store}
use Rattle.world_rules.specs.InStep.{CarriesContent, HasNoCollision}
use Rattle.world_rules.proofs.Asks.{in_either}
use Rattle.client_core.specs.declared.route.Route.{Route}
use Rattle.client_core.specs.declared.pulling.PullEnd.{PullEnd}
use Rattle.client_core.specs.declared.pulling.PullEnd.TheVariants as pulls
use Rattle.client_core.specs.declared.running.RunEnd.{RunEnd}
use Rattle.client_core.specs.declared.running.RunEnd.TheVariants as runs
use Rattle.client_core.specs.Running.{changes_of, run_entry, RunTurn}
use Rattle.client_core.specs.Trace.{Trace, nothing, followed, logging, running}
use Rattle.client_core.specs.Logging.{local_entry, LocalTurn}
use Rattle.client_core.specs.Pulling.{PullsSnapshot, PullTurn}
use Rattle.shell_lang.specs.declared.line.Line.{Line}
use Rattle.shell_lang.specs.declared.line.Line.TheVariants as lines
use Rattle.shell_lang.specs.declared.line.LineError.{LineError}
use Rattle.shell_lang.specs.declared.answer.LineAnswer.{LineAnswer}
use Rattle.client_session.specs.Session.{SessionState, put_effect, make_effect, remove_effect, move_effect, LogTurn, CommandTurn, LineTurn, Chain, BreaksCommand, BreaksOff, Broken, BreaksChain}
use Rattle.client_session.specs.Contents.{IsFileOf, IsOfRuns, IsOfTheRun, HasContent, IsOfPackets, DistinctContentsDoNotCollide, BrokenSessionsDoNotCollide}
use Rattle.client_session.proofs.Acknowledged.{sync_holds, broken_holds}

-- ---- lists that are made of others

in_filter_map : {X Y : Type 0} (h : X → Option Y) (xs : List X) (y : Y) → IsIn y (filter_map h xs) → (x : X) × IsIn x xs × (h x ≡ Some y)
in_filter_map h [] y among = absurd among
in_filter_map {X} {Y} h (x ∷ xs) y among = by (λ later. in_filter_map h xs y later) (h x) refl among
  where
    behind : (z : X) × IsIn z xs × (h z ≡ Some y) → (z : X) × IsIn z (x ∷ xs) × (h z ≡ Some y)
    behind found = (found.0, inr found.1, found.2)

    by : (IsIn y (filter_map h xs) → (z : X) × IsIn z xs × (h z ≡ Some y)) → (o : Option Y) → h x ≡ o → IsIn y (cons_option o (filter_map h xs)) → (z : X) × IsIn z (x ∷ xs) × (h z ≡ Some y)
    by found None is later = behind (found later)
    by found (Some z) is (inl here) = (x, inl refl, is ∙ ap Some (sym here))
    by found (Some z) is (inr later) = behind (found later)

in_flat_map : {X Y : Type 0} (f : X → List Y) (xs : List X) (y : Y) → IsIn y (flat_map f xs) → (x : X) × IsIn x xs × IsIn y (f x)
in_flat_map f [] y among = absurd among
in_flat_map {X} f (x ∷ xs) y among =
    ⊎_elim (λ here. (x, inl refl, here)) (λ later. let found = in_flat_map f xs y later in (found.0, inr found.1, found.2))
    (in_either y (f x) (flat_map f xs) (subst (IsIn y) (flat_map-cons f x xs) among))

-- ---- what a change list puts

-- no removal puts anything
removal_puts_none : (after : List JobRow) (row : JobRow) (path : FilePath) (content : List ℕ) → removal_of after row ≡ Some (Put path content) → ⊥
removal_puts_none after row path content is = by (is_gone after row) is
  where
    by : (b : Bool) → (if b then Some (Remove row.path) else None) ≡ Some (Put path content) → ⊥
    by true is = absurd (cc)
    by false is = absurd (cc)

made_is_left : (at path : FilePath) (node : Node) (content : List ℕ) → Put path content ≡ made at node → IsFileOf content (Some node)
made_is_left at path Folder content is = absurd (cc)
made_is_left at path (File other exec) content is = let same : other ≡ content = cc in (exec, ap (λ c. Some (File c exec)) same)

-- nor does a change of mode
mode_puts_none : (before : List JobRow) (row : JobRow) (path : FilePath) (content : List ℕ) → IsIn (Put path content) (option_to_list (mode_of before row)) → ⊥
mode_puts_none before row path content among = by (is_moded before row) among
  where
    by : (b : Bool) → IsIn (Put path content) (option_to_list (if b then Some (moding row) else None)) → ⊥
    by true (inl is) = absurd (cc)
    by true (inr never) = never
    by false never = never

making_is_left : (before : List JobRow) (row : JobRow) (path : FilePath) (content : List ℕ) → IsIn (Put path content) (makings_of before row) → IsFileOf content (Some row.node)
making_is_left before row path content among =
    ⊎_elim (by (is_new before row)) (λ moded. absurd (mode_puts_none before row path content moded))
    (in_either (Put path content) (option_to_list (making_of before row)) (option_to_list (mode_of before row)) among)
  where
    by : (b : Bool) → IsIn (Put path content) (option_to_list (if b then Some (making row) else None)) → IsFileOf content (Some row.node)
    by true (inl is) = made_is_left row.path path row.node content is
    by true (inr never) = absurd never
    by false never = absurd never

-- the content that a change list puts is that of a file that is left
put_is_left : (before after : List JobRow) (path : FilePath) (content : List ℕ) → IsIn (Put path content) (changes before after) → (row : JobRow) × IsIn row after × IsFileOf content (Some row.node)
put_is_left before after path content among =
    ⊎_elim
    (λ removed. let found = in_filter_map (removal_of after) (reverse before) (Put path content) removed in absurd (removal_puts_none after found.0 path content found.2))
    (λ making. let found = in_flat_map (makings_of before) after (Put path content) making in (found.0, found.1, making_is_left before found.0 path content found.2))
    (in_either (Put path content) (filter_map (removal_of after) (reverse before)) (flat_map (makings_of before) after) among)

-- a row that is read keeps its node
read_node : (raw : RawRow) (row : JobRow) → read_row raw ≡ Some row → raw.node ≡ row.node
read_node raw row is = by (ok (path_of raw.path)) is
  where
    by : (o : Option FilePath) → option_map (λ path. record { path = path; node = raw.node }) o ≡ Some row → raw.node ≡ row.node
    by (Some path) is = cc
    by None is = absurd (cc)

-- what the changes of a run write, the run left
run_writes : (run : Run) (content : List ℕ) → WritesContent (changes_of run) content → IsOfRuns (run ∷ []) content
run_writes run content writes =
    let put = put_is_left run.job.rows (read_rows run.outcome.rows) writes.0 content writes.1 in
    let read = in_filter_map read_row run.outcome.rows put.0 put.1 in
    (run, read.0, inl refl, read.1, (put.2.0, ap Some (read_node read.0 put.0 read.2) ∙ put.2.1))

-- ---- what the entries of a trace write

-- what an entry writes that a command made, a run left
abbrev pub WriteWhatIsLeft : Trace → Type 0
WriteWhatIsLeft trace = (entry : Entry) (content : List ℕ) → IsIn entry trace.entries → IsSome entry.origin → WritesContent entry.effects content → IsOfRuns trace.runs content

none_written : (trace : Trace) → trace.entries ≡ [] → WriteWhatIsLeft trace
none_written trace none entry content among made writes = absurd (subst (IsIn entry) none among)

written_as : (known trace : Trace) → trace ≡ known → WriteWhatIsLeft known → WriteWhatIsLeft trace
written_as known trace is written = subst WriteWhatIsLeft (sym is) written

left_earlier : (earlier later : List Run) (content : List ℕ) → IsOfRuns earlier content → IsOfRuns (earlier ++ later) content
left_earlier earlier later content left = (left.0, left.1, IsIn-left left.0 earlier later left.2, left.3, left.4)

left_later : (earlier later : List Run) (content : List ℕ) → IsOfRuns later content → IsOfRuns (earlier ++ later) content
left_later earlier later content left = (left.0, left.1, IsIn-right left.0 earlier later left.2, left.3, left.4)

written_then : (earlier later : Trace) → WriteWhatIsLeft earlier → WriteWhatIsLeft later → WriteWhatIsLeft (followed earlier later)
written_then earlier later first second entry content among made writes =
    ⊎_elim (λ before. left_earlier earlier.runs later.runs content (first entry content before made writes))
    (λ behind. left_later earlier.runs later.runs content (second entry content behind made writes))
    (in_either entry earlier.entries later.entries among)

-- ---- a sync and a pull log nothing

-- no entry
abbrev LogsNone : Trace → Type 0
LogsNone trace = trace.entries ≡ []

followed_none : (m n : Trace) → LogsNone m → LogsNone n → LogsNone (followed m n)
followed_none m n first second = ap (λ (es : List Entry). es ++ n.entries) first ∙ second

snapshot_none : (client : ℕ) (route : Route) (before : Log) (end : PullEnd) (after : Log) (trace : Trace) → PullsSnapshot client route before end after trace → trace.entries ≡ []
snapshot_none client route before end after trace turn = ap (λ (t : Trace). t.entries) turn.trace_is

pull_none : (client : ℕ) (route : Route) (before : Log) (end : PullEnd) (after : Log) (trace : Trace) → PullTurn client route before end after trace → trace.entries ≡ []
pull_none client route before (pulls.Pending count) after trace turn = ap (λ (t : Trace). t.entries) turn.3
pull_none client route before pulls.Unanswered after trace turn = ap (λ (t : Trace). t.entries) turn.1.3
pull_none client route before (pulls.Pulled count) after trace turn = snapshot_none client route before (pulls.Pulled count) after trace turn
pull_none client route before (pulls.OtherLast last acked) after trace turn = snapshot_none client route before (pulls.OtherLast last acked) after trace turn
pull_none client route before (pulls.Older path theirs ours) after trace turn = snapshot_none client route before (pulls.Older path theirs ours) after trace turn
pull_none client route before pulls.KeepFault after trace turn = snapshot_none client route before pulls.KeepFault after trace turn
pull_none client route before pulls.Memory after trace turn = snapshot_none client route before pulls.Memory after trace turn

-- ---- a run

entry_writes : (command : Command) (before : Log) (run : Run) (after : Log) → WriteWhatIsLeft (followed (running (run ∷ []) 0) (logging (run_entry command run before) after))
entry_writes command before run after entry content (inl is) made writes =
    run_writes run content (subst (λ (e : Entry). WritesContent e.effects content) is writes)
entry_writes command before run after entry content (inr never) made writes = absurd never

run_written : (work : List ℕ) (command : Command) (before : Log) (end : RunEnd) (after : Log) (trace : Trace) → RunTurn work command before end after trace → WriteWhatIsLeft trace
run_written work command before (runs.Logged seq status) after trace turn =
    written_as (followed (running (turn.0 ∷ []) 0) (logging (run_entry command turn.0 before) after)) trace turn.3 (entry_writes command before turn.0 after)
run_written work command before (runs.Nothing status) after trace turn = none_written trace (ap (λ (t : Trace). t.entries) turn.3)
run_written work command before (runs.OddTree n) after trace turn = none_written trace (ap (λ (t : Trace). t.entries) turn.3)
run_written work command before (runs.Clash path) after trace turn = none_written trace (ap (λ (t : Trace). t.entries) turn.3)
run_written work command before (runs.Refused refusal) after trace turn = none_written trace (ap (λ (t : Trace). t.entries) turn.3)
run_written work command before (runs.NoJob fault) after trace turn = none_written trace (ap (λ (t : Trace). t.entries) turn.2)
run_written work command before runs.NotRun after trace turn = none_written trace (ap (λ (t : Trace). t.entries) turn.2)
run_written work command before runs.Memory after trace turn = absurd turn.2

-- ---- a line

-- an effect of a line is no command's
local_written : (effect : Effect) (before : Log) (result : Result ℕ LogError) (after : Log) (trace : Trace) → LocalTurn (effect ∷ []) before result after trace → WriteWhatIsLeft trace
local_written effect before (Ok number) after trace turn = written_as (logging (local_entry (effect ∷ []) before) after) trace turn.2 by
  where
    by : WriteWhatIsLeft (logging (local_entry (effect ∷ []) before) after)
    by entry content (inl is) made writes = absurd (true≢false (sym (subst (λ (e : Entry). IsSome e.origin) is made)))
    by entry content (inr never) made writes = absurd never
local_written effect before (Err refusal) after trace turn = none_written trace (ap (λ (t : Trace). t.entries) turn.2)

untold : (trace : Trace) → trace ≡ nothing → WriteWhatIsLeft trace
untold trace none = none_written trace (ap (λ (t : Trace). t.entries) none)

module _ (before after : SessionState) (trace : Trace) where
  log_written : (named : Result Effect PathError) (answer : Option LineAnswer) → LogTurn named before answer after trace → WriteWhatIsLeft trace
  log_written (Ok effect) answer turn = local_written effect before.client.log turn.0 after.client.log trace turn.1
  log_written (Err refusal) answer turn = untold trace turn.2

  command_written : (route : Route) (captured : Result Command CaptureError) (answer : Option LineAnswer) → CommandTurn route captured before answer after trace → WriteWhatIsLeft trace
  command_written route (Ok command) answer turn = run_written route.work command before.client.log turn.0 after.client.log trace turn.1
  command_written route (Err refusal) answer turn = untold trace turn.2

  line_written : (route : Route) (line : Result Line LineError) (answer : Option LineAnswer) → LineTurn route before line answer after trace → WriteWhatIsLeft trace
  line_written route (Err refusal) answer turn = untold trace turn.2
  line_written route (Ok lines.Empty) answer turn = untold trace turn.2
  line_written route (Ok (lines.Put word text)) answer turn = log_written (put_effect before.folder word text) answer turn
  line_written route (Ok (lines.Make word)) answer turn = log_written (make_effect before.folder word) answer turn
  line_written route (Ok (lines.Remove word)) answer turn = log_written (remove_effect before.folder word) answer turn
  line_written route (Ok (lines.Move from to)) answer turn = log_written (move_effect before.folder from to) answer turn
  line_written route (Ok (lines.Cat word)) answer turn = untold trace turn.2
  line_written route (Ok (lines.List word)) answer turn = untold trace turn.2
  line_written route (Ok (lines.Enter word)) answer turn = untold trace turn.2
  line_written route (Ok (lines.Run words)) answer turn = command_written route (capture words before.folder) answer turn
  line_written route (Ok lines.Status) answer turn = untold trace turn.2
  line_written route (Ok lines.Sync) answer turn =
      none_written trace (sync_holds LogsNone refl followed_none (λ log. refl) before.client.number route (λ pending entry came asks ships. refl) before.client.log turn.0 after.client.log trace turn.1)
  line_written route (Ok lines.Pull) answer turn = none_written trace (pull_none before.client.number route before.client.log turn.0 after.client.log trace turn.1)
  line_written route (Ok lines.Quit) answer turn = untold trace turn.2

  -- ---- a line that is broken off

  broken_command : (route : Route) (captured : Result Command CaptureError) → BreaksCommand route captured before.client.log after.client.log trace → WriteWhatIsLeft trace
  broken_command route (Ok command) turn = ⊎_elim (untold trace) (λ run. none_written trace (ap (λ (t : Trace). t.entries) run.2)) turn.0
  broken_command route (Err refusal) turn = absurd turn

  broken_off : (route : Route) (line : Result Line LineError) → BreaksOff route before line after.client.log trace → WriteWhatIsLeft trace
  broken_off route (Ok (lines.Run words)) turn = broken_command route (capture words before.folder) turn
  broken_off route (Ok lines.Sync) turn =
      none_written trace
      (broken_holds LogsNone refl followed_none (λ log. refl) before.client.number route (λ pending entry came asks ships. refl) (λ pending entry asks breaks. refl) before.client.log after.client.log trace turn)
  broken_off route (Ok lines.Pull) turn =
      none_written trace (⊎_elim (λ asks. ap (λ (t : Trace). t.entries) asks.4)
      (λ snapshot. snapshot_none before.client.number route before.client.log (pulls.Pulled snapshot.0) after.client.log trace snapshot.1) turn)
  broken_off route _ turn = absurd turn

  pub broken_written : (route : Route) (line : Result Line LineError) → Broken route before line after trace → WriteWhatIsLeft trace
  broken_written route line turn =
      ⊎_elim (λ none. untold trace none.1) (λ more. ⊎_elim (λ whole. line_written route line whole.0 whole.1) (λ off. broken_off route line off.0) more) turn

-- ---- a session

pub chain_written : (route : Route) (before : SessionState) (asked : List (Result Line LineError)) (answers : List (Option LineAnswer)) (after : SessionState) (trace : Trace)
    → Chain route before asked answers after trace → WriteWhatIsLeft trace
chain_written route before [] answers after trace chain = untold trace chain.2
chain_written route before (line ∷ more) answers after trace chain =
    written_as (followed chain.1 chain.2) trace chain.8
    (written_then chain.1 chain.2 (line_written before chain.0 chain.1 route line chain.3 chain.5) (chain_written route chain.0 more chain.4 after chain.2 chain.6))

pub broken_chain_written : (route : Route) (before : SessionState) (asked : List (Result Line LineError)) (answers : List (Option LineAnswer)) (after : SessionState) (kept : Log) (trace : Trace)
    → BreaksChain route before asked answers after kept trace → WriteWhatIsLeft trace
broken_chain_written route before asked answers after kept trace chain =
    written_as (followed chain.3 chain.4) trace chain.9
    (written_then chain.3 chain.4 (chain_written route before chain.0 answers chain.2 chain.3 chain.6) (broken_written chain.2 after chain.4 route chain.1 chain.7))

-- ---- what is shipped

has_content : (client : ℕ) (message : Message) (content : List ℕ) → CarriesContent client message content → HasContent message content
has_content client (Store of number parts) content is = (is.1, is.2, is.3)
has_content client _ content is = absurd is

-- what is not shipped need not be distinct
pub distinct_left : (client : ℕ) (pending : List Entry) (asked : List (Result Line LineError)) (trace : Trace) (packets : List Message) → WriteWhatIsLeft trace
    → Distinct (IsOfTheRun pending asked trace.runs) (IsOfPackets packets) → HasNoCollision client (pending ++ trace.entries) packets
distinct_left client pending asked trace packets written distinct sketched sent x y ships carried same =
    distinct x y
    (⊎_elim (λ before. inl (ships.0, before, ships.3)) (λ later. inr (inr (written ships.0 x later ships.2 ships.3))) (in_either ships.0 pending trace.entries ships.1))
    (carried.0, carried.1, has_content client carried.0 y carried.2) same

pub do_not_collide : DistinctContentsDoNotCollide
do_not_collide client route before asked answers after trace packets chain distinct =
    distinct_left client before.client.log.pending asked trace packets (chain_written route before asked answers after trace chain) distinct

pub broken_do_not_collide : BrokenSessionsDoNotCollide
broken_do_not_collide client route before asked answers after kept trace packets chain distinct =
    distinct_left client before.client.log.pending asked trace packets (broken_chain_written route before asked answers after kept trace chain) distinct
